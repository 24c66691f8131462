use Rattle.std.proofs.Common.{◌≡◌, ◌∙◌, ◌^◌, ◌<◌, List, length, arith, sym, ap, subst}
use Rattle.std.specs.Prelude.{Some, if◌then◌else◌}
use Rattle.std.specs.HashMap.{get}
use Rattle.plane_types.specs.Spare.{WithSpare}
use Rattle.plane_types.specs.Runs.{IsRunOf, run_with}
use Rattle.plane_types.proofs.RunEdits.{set_run}
use Rattle.plane_types.proofs.open_runs.OpenRunsRowList.set.Goals as goal

pub invariant_of-self : goal.invariant_of-self
invariant_of-self g c = λ k.
    let test = g.R.Keyed.is_at k in
    let rows = c.self.inside.rows.items in
    let was = get g.R.Key.PartialEq.eq c.self.inside.runs k in
    let now = get g.R.Key.PartialEq.eq c.take_in.new.runs k in
    let within : c.args.place < length rows =
    subst (λ (v : WithSpare g.row.R.Denot). c.args.place < length v.items)
    (sym c.self.view_is) c.requires.within in
    let fits : length rows < 2 ^ 64 =
    subst (λ n. n < 2 ^ 64) c.len-len.ensures c.len-len.type_inv in
    let found : now ≡ (if test c.args.row then Some (run_with c.args.place was) else was) =
    c.take_in.ensures.found k
    ∙ ap (λ b. if b then Some (run_with c.args.place was)
    else was) (sym (c.key-key.ensures k)) in
    subst (λ (xs : List g.row.R.Denot). IsRunOf test xs c.self.inside.wide c.self.inside.lost now)
    (sym c.set.ensures.items)
    (set_run test rows c.args.place c.self.inside.wide c.self.inside.lost c.args.row was now
    (omega (arith, within, fits)) (c.self.invariant k) found)

use Rattle.std.proofs.Common.{◌≡◌, ◌∙◌, ◌^◌, ◌<◌, List, length, arith, sym, ap, subst}
use Rattle.std.specs.Prelude.{Some, if◌then◌else◌}
use Rattle.std.specs.HashMap.{get}
use Rattle.plane_types.specs.Runs.{IsRunOf, run_with}
use Rattle.plane_types.proofs.RunEdits.{insert_last, push_run}
use Rattle.plane_types.proofs.open_runs.OpenRuns.add.Goals as goal

pub invariant_of-self : goal.invariant_of-self
invariant_of-self g c = λ k.
    let test = g.R.Keyed.is_at k in
    let rows = c.self.inside.rows.items in
    let place = c.len-place.result in
    let was = get g.R.Key.PartialEq.eq c.self.inside.runs k in
    let now = get g.R.Key.PartialEq.eq c.take_in.new.runs k in
    let at : length rows ≡ place = sym c.len-place.ensures in
    let fits : place < 2 ^ 64 = c.len-place.type_inv in
    let found : now ≡ (if test c.args.row then Some (run_with place was) else was) =
    c.take_in.ensures.found k
    ∙ ap (λ b. if b then Some (run_with place was) else was) (sym (c.key-key.ensures k)) in
    subst (λ (xs : List g.row.R.Denot). IsRunOf test xs c.self.inside.wide c.self.inside.lost now)
    (sym (c.put.ensures.items ∙ insert_last rows place c.args.row (omega (arith, at))))
    (push_run test rows place c.self.inside.wide c.self.inside.lost c.args.row was now at
    fits (c.self.invariant k) found)

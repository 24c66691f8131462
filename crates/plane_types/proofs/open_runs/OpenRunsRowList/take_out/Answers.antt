use Rattle.std.proofs.Common.{List, sym, subst}
use Rattle.std.specs.HashMap.{get}
use Rattle.plane_types.specs.Runs.{IsRunOf}
use Rattle.plane_types.proofs.RunEdits.{run_out}
use Rattle.plane_types.proofs.open_runs.OpenRunsRowList.take_out.Goals as goal

pub invariant_of-self : goal.invariant_of-self
invariant_of-self g c = λ k.
    let test = g.R.Keyed.is_at k in
    let was = get g.R.Key.PartialEq.eq c.self.inside.runs k in
    subst (λ (xs : List g.row.R.Denot). IsRunOf test xs c.self.inside.wide
    c.one_more-self-inside.result was) (sym c.take_out.ensures.items)
    (run_out test c.self.inside.rows.items c.args.place c.self.inside.wide c.self.inside.lost
    c.one_more-self-inside.result was c.one_more-self-inside.ensures (c.self.invariant k))

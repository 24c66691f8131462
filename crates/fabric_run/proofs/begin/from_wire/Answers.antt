use Rattle.std.proofs.Common.{◌∙◌, sym}
use Rattle.host_plane.specs.Views.{view_of_step}
use Rattle.plane_types.specs.Fabric.{steps_for, walk}
use Rattle.plane_types.specs.Meaning.{life_of}
use Rattle.plane_types.specs.declared.verdict.DropCause.TheVariants.{Unknown, Unsupported}
use Rattle.fabric_run.proofs.FleetLemmas.{there}
use Rattle.fabric_run.proofs.PositionLemmas.{began_outside, dropped_at, not_taken, unsupported}
use Rattle.fabric_run.proofs.begin.from_wire.Goals as goal

pub returns-then-is_unsupported-clause-begun : goal.returns-then-is_unsupported-clause-begun
returns-then-is_unsupported-clause-begun g c =
    unsupported (g.F.Fleet.hosts c.args.fleet.now) c.args.physical.now c.args.tag c.args.frame.now _ (sym c.is_unsupported.ensures ∙ c.if-is_unsupported.true)
    (dropped_at (g.F.Fleet.hosts c.args.fleet.now) (walk (g.F.Fleet.hosts c.args.fleet.now) (steps_for (life_of c.args.frame.now))) c.drop_at_start.result.at (view_of_step c.drop_at_start.result.step) Unsupported c.drop_at_start.ensures)

pub returns-in-Some-clause-begun : goal.returns-in-Some-clause-begun
returns-in-Some-clause-begun g c =
    let t = there (g.F.Fleet.hosts c.args.fleet.now) c.in-Some.at c.in-Some.ensures.0 in
    began_outside (g.F.Fleet.hosts c.args.fleet.now) c.args.physical.now c.args.tag c.args.frame.now c.in-Some.at t.0 (sym c.is_unsupported.ensures ∙ c.if-is_unsupported.false) t.1 c.in-Some.ensures.1

pub returns-in-None-clause-begun : goal.returns-in-None-clause-begun
returns-in-None-clause-begun g c =
    not_taken (g.F.Fleet.hosts c.args.fleet.now) c.args.physical.now c.args.tag c.args.frame.now _ (sym c.is_unsupported.ensures ∙ c.if-is_unsupported.false)
    (dropped_at (g.F.Fleet.hosts c.args.fleet.now) (walk (g.F.Fleet.hosts c.args.fleet.now) (steps_for (life_of c.args.frame.now))) c.drop_at_start-in-None.result.at (view_of_step c.drop_at_start-in-None.result.step) Unknown c.drop_at_start-in-None.ensures)
    c.in-None.ensures

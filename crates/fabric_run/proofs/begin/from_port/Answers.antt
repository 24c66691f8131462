use Rattle.std.proofs.Common.{suc}
use Rattle.host_plane.specs.Views.{view_of_step}
use Rattle.plane_types.specs.Fabric.{steps_for, walk}
use Rattle.plane_types.specs.Meaning.{life_of}
use Rattle.plane_types.specs.declared.verdict.DropCause.TheVariants.{Dead}
use Rattle.fabric_run.proofs.FleetLemmas.{there}
use Rattle.fabric_run.proofs.PositionLemmas.{began_at_tap, dropped_at, no_tap}
use Rattle.fabric_run.proofs.begin.from_port.Goals as goal

pub returns-in-Some-clause-begun : goal.returns-in-Some-clause-begun
returns-in-Some-clause-begun g c =
    let t = there (g.F.Fleet.hosts c.args.fleet.now) c.in-Some.at c.in-Some.ensures.0 in
    began_at_tap (g.F.Fleet.hosts c.args.fleet.now) c.args.port c.args.frame.now c.in-Some.at t.0 t.1 c.in-Some.ensures.1

pub returns-in-None-clause-begun : goal.returns-in-None-clause-begun
returns-in-None-clause-begun g c =
    no_tap (g.F.Fleet.hosts c.args.fleet.now) c.args.port c.args.frame.now _
    (dropped_at (g.F.Fleet.hosts c.args.fleet.now) (walk (g.F.Fleet.hosts c.args.fleet.now) (suc (steps_for (life_of c.args.frame.now)))) c.drop_at_start.result.at (view_of_step c.drop_at_start.result.step) Dead c.drop_at_start.ensures)
    c.in-None.ensures

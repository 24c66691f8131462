use Rattle.std.proofs.Common.{◌≤◌}
use Rattle.keeper_core.specs.Desk.{IsNoneOut}
use Rattle.keeper_core.specs.Kept.{IsStored}
use Rattle.neutron_serve.specs.Connections.{carried}
use Rattle.neutron_serve.proofs.ServingLemmas.{SoFar}
use Rattle.neutron_serve.proofs.serving.serve_all.Given as goal

abbrev pub invariant-connections : goal.invariant-connections
invariant-connections g l = record {
  so_far : SoFar g.D.In.Source.told g.D.Out.Sink.told l._connection
      (carried l.fn.world (g.D.Store.Keeper.told l.fn.store) (g.D.Desk.told l.fn.desk))
      (carried l.world (g.D.Store.Keeper.told l.store) (g.D.Desk.told l.desk));
  kept : IsStored l.world.history.rows (g.D.Store.Keeper.told l.fn.store) (g.D.Store.Keeper.told l.store);
  none_out : IsNoneOut (g.D.Desk.told l.desk);
  later : (g.D.Desk.told l.fn.desk).faults ≤ (g.D.Desk.told l.desk).faults;
}

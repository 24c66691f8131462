use Rattle.std.proofs.Common.{◌≡◌, ◌+◌, ◌-◌, ◌≤◌, [], false, length}
use Rattle.keeper_core.specs.Ends.{has_failed}
use Rattle.keeper_core.specs.Kept.{IsStored}
use Rattle.http_session.specs.Serves.{Goes, scene}
use Rattle.http_session.proofs.sessions.session.Given as goal

abbrev pub invariant-turns : goal.invariant-turns
invariant-turns g l = record {
  goes : Goes g.H.Handler.steps g.H.Handler.fixed
      (record { scene = scene l.fn.world (g.K.Keeper.told l.fn.keeper) (g.I.Source.told l.fn.input) (g.O.Sink.told l.fn.output); buffer = []; taken = 0 })
      (record { scene = scene l.world (g.K.Keeper.told l.keeper) (g.I.Source.told l.input) (g.O.Sink.told l.output); buffer = l.taking.buffer; taken = l.taking.taken });
  kept : IsStored (g.H.Handler.rows l.world) (g.K.Keeper.told l.fn.keeper) (g.K.Keeper.told l.keeper);
  limit : l.taking.limit ≡ l.limit;
  within : l.taking.taken ≤ l.limit;
  read_later : (g.I.Source.told l.fn.input).faults ≤ (g.I.Source.told l.input).faults;
  write_later : (g.O.Sink.told l.fn.output).faults ≤ (g.O.Sink.told l.output).faults;
  unfailed : has_failed (g.I.Source.told l.fn.input) ≡ false → has_failed (g.I.Source.told l.input) ≡ false;
}

abbrev pub decreases-turns : goal.decreases-turns
decreases-turns g l = (l.limit - l.taking.taken) + length l.taking.buffer

use Rattle.std.proofs.Common.{◌≡◌, ◌-◌, ◌≤◌, false, take}
use Rattle.http_heads.specs.Heads.{IsUndecided}
use Rattle.http_heads.specs.Lines.{AreEmptyLines}
use Rattle.keeper_core.specs.Ends.{has_failed}
use Rattle.http_session.specs.Reading.{Reads}
use Rattle.http_session.proofs.reading.await_head.Given as goal

abbrev pub invariant-heads : goal.invariant-heads
invariant-heads g l = record {
  reads : Reads l.fn.buffer l.buffer (g.I.Source.told l.fn.input).left (g.I.Source.told l.input).left l.fn.taken l.taken;
  within : l.taken ≤ l.limit;
  later : (g.I.Source.told l.fn.input).faults ≤ (g.I.Source.told l.input).faults;
  unfailed : has_failed (g.I.Source.told l.fn.input) ≡ false → has_failed (g.I.Source.told l.input) ≡ false;
  undecided : IsUndecided (take l.seen l.buffer);
  lines : AreEmptyLines l.buffer l.empty;
}

abbrev pub decreases-heads : goal.decreases-heads
decreases-heads g l = l.limit - l.taken

use Rattle.std.proofs.Common.{false, length, take, true, ◌-◌, ◌^◌, ◌≡◌, ◌≤◌}
use Rattle.dvr_run.specs.Lines.{is_unbroken}
use Rattle.http_session.specs.Reading.{Reads}
use Rattle.keeper_core.specs.Ends.{has_failed}
use Rattle.dvr_run.proofs.lines.await_line.Given as goal

abbrev pub invariant-reads : goal.invariant-reads
invariant-reads g l = record {
  reads : Reads l.fn.pending l.pending (g.I.Source.told l.fn.input).left (g.I.Source.told l.input).left l.fn.taken l.taken;
  within : l.taken ≤ 2 ^ 40;
  later : (g.I.Source.told l.fn.input).faults ≤ (g.I.Source.told l.input).faults;
  unfailed : has_failed (g.I.Source.told l.fn.input) ≡ false → has_failed (g.I.Source.told l.input) ≡ false;
  seen : l.seen ≤ length l.pending;
  unbroken : is_unbroken (take l.seen l.pending) ≡ true;
}

abbrev pub decreases-reads : goal.decreases-reads
decreases-reads g l = 2 ^ 40 - l.taken

use Rattle.std.proofs.Common.{◌≡◌, ◌-◌, ◌≤◌, false}
use Rattle.httparse.specs.Grammar.{RequestHead}
use Rattle.keeper_core.specs.Ends.{has_failed}
use Rattle.http_session.specs.Reading.{Reads, HasHead}
use Rattle.http_session.proofs.reading.await_body.Given as goal

abbrev pub invariant-bodies : goal.invariant-bodies
invariant-bodies g l = record {
  reads : Reads l.fn.buffer l.buffer (g.I.Source.told l.fn.input).left (g.I.Source.told l.input).left l.fn.taken l.taken;
  within : l.taken ≤ l.limit;
  later : (g.I.Source.told l.fn.input).faults ≤ (g.I.Source.told l.input).faults;
  unfailed : has_failed (g.I.Source.told l.fn.input) ≡ false → has_failed (g.I.Source.told l.input) ≡ false;
  head : (head : RequestHead) × HasHead l.buffer l.request head;
}

abbrev pub decreases-bodies : goal.decreases-bodies
decreases-bodies g l = l.limit - l.taken

use Rattle.std.proofs.Common.{◌≡◌, ◌-◌, ◌≤◌, length, take}
use Rattle.std.specs.Io.KnownBytes.{Appends}
use Rattle.http_session.proofs.sending.send.Given as goal

abbrev pub invariant-pieces : goal.invariant-pieces
invariant-pieces g l = record {
  at : l.sent ≤ length l.reply;
  wrote : Appends (g.O.Sink.told l.fn.output).written (g.O.Sink.told l.output).written (take l.sent l.reply);
  flushed_stays : (g.O.Sink.told l.output).flushed ≡ (g.O.Sink.told l.fn.output).flushed;
  later : (g.O.Sink.told l.fn.output).faults ≤ (g.O.Sink.told l.output).faults;
}

abbrev pub decreases-pieces : goal.decreases-pieces
decreases-pieces g l = length l.reply - l.sent

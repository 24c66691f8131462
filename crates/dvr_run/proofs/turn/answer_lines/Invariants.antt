use Rattle.std.proofs.Common.{false, length, ◌+◌, ◌-◌, ◌^◌, ◌≡◌, ◌≤◌}
use Rattle.dvr_run.specs.Turns.{Goes}
use Rattle.keeper_core.specs.Ends.{has_failed}
use Rattle.dvr_run.proofs.turn.answer_lines.Given as goal

abbrev pub invariant-lines : goal.invariant-lines
invariant-lines g l = record {
  goes : Goes l.rows l.fn.hosts l.hosts l.pending l.taken (g.I.Source.told l.fn.input) (g.O.Sink.told l.fn.output) (g.I.Source.told l.input) (g.O.Sink.told l.output);
  within : l.taken ≤ 2 ^ 40;
  read_later : (g.I.Source.told l.fn.input).faults ≤ (g.I.Source.told l.input).faults;
  write_later : (g.O.Sink.told l.fn.output).faults ≤ (g.O.Sink.told l.output).faults;
  unfailed : has_failed (g.I.Source.told l.fn.input) ≡ false → has_failed (g.I.Source.told l.input) ≡ false;
}

abbrev pub decreases-lines : goal.decreases-lines
decreases-lines g l = (2 ^ 40 - l.taken) + length l.pending

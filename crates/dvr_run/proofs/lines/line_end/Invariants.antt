use Rattle.std.proofs.Common.{take, true, ◌≡◌}
use Rattle.dvr_run.specs.Lines.{is_unbroken}
use Rattle.dvr_run.proofs.lines.line_end.Given as goal

abbrev pub invariant-loop-at : goal.invariant-loop-at
invariant-loop-at l = is_unbroken (take l.at l.bytes) ≡ true

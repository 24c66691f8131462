use Rattle.std.proofs.Common.{◌≡◌, ◌+◌, drop}
use Rattle.std.specs.List.{position_or_len}
use Rattle.http_heads.specs.Parts.{is_question_mark}
use Rattle.http_heads.proofs.whole.question_mark.Given as goal

abbrev pub invariant-loop-at : goal.invariant-loop-at
invariant-loop-at l = l.at + position_or_len is_question_mark (drop l.at l.target) ≡ position_or_len is_question_mark l.target

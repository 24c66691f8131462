use Rattle.std.proofs.Common.{◌≡◌, ◌+◌, drop}
use Rattle.std.specs.List.{prefix_len}
use Rattle.http_heads.specs.Words.{blank_of}
use Rattle.http_heads.proofs.values.front_blanks.Given as goal

abbrev pub invariant-loop-at : goal.invariant-loop-at
invariant-loop-at l = l.at + prefix_len (blank_of l.blank) (drop l.at l.bytes) ≡ prefix_len (blank_of l.blank) l.bytes

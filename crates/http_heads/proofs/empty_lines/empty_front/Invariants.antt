use Rattle.std.proofs.Common.{[], ◌≡◌, ◌-◌, ◌≤◌, length, take}
use Rattle.http_heads.specs.Lines.{behind_blank}
use Rattle.http_heads.proofs.empty_lines.empty_front.Given as goal

abbrev pub invariant-lines : goal.invariant-lines
invariant-lines l = record { at : l.at ≤ length l.bytes; blank : behind_blank (take l.at l.bytes) ≡ [] }

abbrev pub decreases-lines : goal.decreases-lines
decreases-lines l = length l.bytes - l.at

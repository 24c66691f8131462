use Rattle.std.proofs.Common.{◌≡◌, drop}
use Rattle.api_consistency.specs.Numbers.{mixed}
use Rattle.api_consistency.proofs.numbers.text_number.Given as goal

-- those that are left are mixed in as all are
abbrev pub invariant-loop-byte : goal.invariant-loop-byte
invariant-loop-byte l = mixed l.all (drop l.byte-index l.byte-items) ≡ mixed 0 l.text

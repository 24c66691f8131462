use Rattle.std.proofs.Common.{ℕ}
use Rattle.net_addr.specs.Reading.{NoneSoFar, SpellsBehind, SpellsShortened}
use Rattle.net_addr.proofs.read6.read_shortened.Given as goal

abbrev pub invariant-loop-left : goal.invariant-loop-left
invariant-loop-left l = NoneSoFar (λ left. SpellsBehind l.has_tail left) (λ t. (n : ℕ) × SpellsShortened l.has_tail t n) l.left l.text l.at

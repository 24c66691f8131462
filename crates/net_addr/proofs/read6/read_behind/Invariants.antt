use Rattle.std.proofs.Common.{ℕ}
use Rattle.net_addr.specs.Reading.{NoneSoFar, SpellsBehind}
use Rattle.net_addr.specs.Spelling.{Spells, shortened_parts}
use Rattle.net_addr.proofs.read6.read_behind.Given as goal

abbrev pub invariant-loop-right : goal.invariant-loop-right
invariant-loop-right l = NoneSoFar (λ right. Spells (shortened_parts l.has_tail l.left right) 0) (λ t. (n : ℕ) × SpellsBehind l.has_tail l.left t n) l.right l.text l.at

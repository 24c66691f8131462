-- Numbers among which are those of all rows that pass a test, before a change and after it.
use Rattle.std.specs.Prelude.{◌≡◌, ℕ, nat_lt, ⊤, Bool, false, List, Option, Some, None}
use Rattle.api_types.specs.Ident.{Ident}
use Rattle.api_types.specs.Table.{ident_eq}
use Rattle.api_types.specs.declared.group.RuleRow.{RuleRow}
use Rattle.table_edits.specs.EditsAt.{KeysDescend, among}
use Rattle.table_edits.specs.NumbersSeen.{Renumbered, at_after, at_before}

-- from the greatest to the least
pub record Covers {R : Type 0} (test : R → Bool) (n : Renumbered R) (ks : List ℕ) : Type 0 where
  pub down : KeysDescend nat_lt ks
  pub before : (k : ℕ) (r : R) → among nat_lt k ks ≡ false → at_before n k ≡ Some r
      → test r ≡ false
  pub after : (k : ℕ) (r : R) → among nat_lt k ks ≡ false → at_after n k ≡ Some r
      → test r ≡ false

-- what was looked up for a group covers its rules
abbrev pub Looked : Renumbered RuleRow → Ident → Option (List ℕ) → Type 0
Looked n g None = ⊤
Looked n g (Some ks) = Covers (λ (r : RuleRow). ident_eq r.group g) n ks

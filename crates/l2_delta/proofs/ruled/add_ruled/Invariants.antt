use Rattle.std.proofs.Common.{◌≡◌, ℕ, drop, false}
use Rattle.std.specs.Prelude.{◌==◌}
use Rattle.std.specs.HashSet.{contains}
use Rattle.std.specs.List.{list_any}
use Rattle.api_types.specs.Ident.{Ident}
use Rattle.api_types.specs.Table.{ident_eq}
use Rattle.table_edits.specs.NumbersSeen.{at_after, at_before}
use Rattle.l2_delta.specs.Filtered.{rule_of_group}
use Rattle.l2_delta.proofs.ruled.add_ruled.Given as goal

-- a group that isn't added wasn't there before, and has the same rules but those that are left
abbrev pub invariant-loop-number : goal.invariant-loop-number
invariant-loop-number l = record {
  keeps : (i : Ident) → contains ident_eq l.ids i ≡ false → contains ident_eq l.fn.ids i ≡ false;
  tells : (i : Ident) → contains ident_eq l.ids i ≡ false → (k : ℕ) → list_any (λ m. m == k) (drop l.number-index l.number-items) ≡ false
      → rule_of_group i (at_before l.rules k) ≡ rule_of_group i (at_after l.rules k);
}

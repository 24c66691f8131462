use Rattle.std.proofs.Common.{◌≡◌, ℕ, drop, false}
use Rattle.std.specs.Prelude.{◌==◌}
use Rattle.std.specs.HashSet.{contains}
use Rattle.std.specs.List.{list_any}
use Rattle.api_types.specs.Ident.{Ident}
use Rattle.api_types.specs.Table.{ident_eq}
use Rattle.table_edits.specs.NumbersSeen.{at_after, at_before}
use Rattle.l2_delta.specs.Filtered.{is_group}
use Rattle.l2_delta.proofs.ruled.add_groups.Given as goal

-- a group that isn't added has the same numbers but those that are left
abbrev pub invariant-loop-number : goal.invariant-loop-number
invariant-loop-number l =
    (i : Ident) → contains ident_eq l.ids i ≡ false → (k : ℕ) → list_any (λ m. m == k) (drop l.number-index l.number-items) ≡ false
    → is_group i (at_before l.groups k) ≡ is_group i (at_after l.groups k)

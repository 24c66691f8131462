use Rattle.std.proofs.Common.{◌≡◌, drop, slice_get}
use Rattle.std.specs.Prelude.{◌||◌}
use Rattle.std.specs.HashSet.{contains}
use Rattle.std.specs.List.{list_any}
use Rattle.api_types.specs.Ident.{Ident}
use Rattle.api_types.specs.Table.{ident_eq}
use Rattle.table_edits.specs.NumbersSeen.{at_after}
use Rattle.dhcp_delta.specs.Serving.{is_dhcp_on}
use Rattle.dhcp_delta.proofs.leased.networks_of.Given as goal

-- those so far, and those of the numbers that are left, are all
abbrev pub invariant-loop-number : goal.invariant-loop-number
invariant-loop-number l =
    (n : Ident) → (contains ident_eq l.networks n || list_any (λ k. is_dhcp_on n (slice_get l.ports.rows k) || is_dhcp_on n (at_after l.ports k)) (drop l.number-index l.touched))
    ≡ list_any (λ k. is_dhcp_on n (slice_get l.ports.rows k) || is_dhcp_on n (at_after l.ports k)) l.touched

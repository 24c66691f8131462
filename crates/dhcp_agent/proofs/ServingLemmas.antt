-- The place of a network's first live DHCP port.
use Rattle.std.proofs.Common.{◌≡◌, ◌∙◌, ℕ, suc, ◌+◌, ◌<◌, List, ◌∷◌, length, drop, find, get_or, slice_get, drop-cons, Bool, true, false, cond, Option, Some, refl, ap, sym, arith}
use Rattle.std.specs.Prelude.{◌&&◌}
use Rattle.std.specs.Option.{option_and_then}
use Rattle.std.proofs.lemmas.Option.{slice_get_read}
use Rattle.api_types.proofs.TableLemmas.{ident_eq-sym}
use Rattle.api_types.specs.Holders.{is_live_dhcp_of}
use Rattle.api_types.specs.Ident.{Ident}
use Rattle.api_types.specs.Live.{is_live}
use Rattle.api_types.specs.Owners.{is_dhcp}
use Rattle.api_types.specs.RowLists.{RowLists}
use Rattle.api_types.specs.Table.{ident_eq}
use Rattle.api_types.specs.declared.port.PortRow.{PortRow}

-- a live DHCP port at a place is the first of its network from there on, and leaves those of others
pub from_here : (rows : RowLists) (ports : List PortRow) (k : ℕ) (p : PortRow) (n : Ident) (found : Option ℕ) → k < length ports → p ≡ get_or ports k p → (is_dhcp p.owner && is_live rows p) ≡ true
    → option_and_then (slice_get ports) found ≡ find (is_live_dhcp_of rows n) (drop (k + 1) ports)
    → option_and_then (slice_get ports) (cond (ident_eq p.network n) (Some k) found) ≡ find (is_live_dhcp_of rows n) (drop k ports)
from_here rows ports k p n found within is serves rest =
    let next : k + 1 ≡ suc k = omega arith in
    (λ j. option_and_then (slice_get ports) (cond (ident_eq-sym p.network n j) (Some k) found))
    ∙ go (ident_eq n p.network) (is_dhcp p.owner) (is_live rows p) serves
    ∙ (λ j. find (is_live_dhcp_of rows n) (is j ∷ drop (next j) ports))
    ∙ sym (ap (find (is_live_dhcp_of rows n)) (drop-cons ports k p within))
  where
    left : Option PortRow
    left = find (is_live_dhcp_of rows n) (drop (k + 1) ports)

    go : (a b c : Bool) → (b && c) ≡ true → option_and_then (slice_get ports) (cond a (Some k) found) ≡ cond ((a && b) && c) (Some p) left
    go true true true e = slice_get_read ports (length ports) k p refl within is
    go true true false e = cc
    go true false c e = cc
    go false b c e = rest

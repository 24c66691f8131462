-- The tags that a host gives to networks, as Neutron's Open vSwitch agent does (its local VLANs).
-- A network keeps the tag that it had; the others take the least free ones, in order of creation,
-- after the tags that are no longer needed are free.
use Rattle.std.specs.Prelude.{ℕ, zero, suc, ◌+◌, ◌<◌, ◌≤◌, ◌==◌, Bool, not, List, [], ◌∷◌, map, Option, Some, None, count_by}
use Rattle.std.specs.List.{list_any, filter, filter_map}
use Rattle.net_addr.specs.Words.{Text}
use Rattle.api_types.specs.Ident.{Ident}
use Rattle.api_types.specs.Lists.{Each}
use Rattle.api_types.specs.RowLists.{RowLists}
use Rattle.api_types.specs.declared.network.NetworkRow.{NetworkRow}
use Rattle.api_types.specs.Live.{segment}
use Rattle.api_types.specs.Wires.{wire_of}
use Rattle.plane_types.specs.TableRows.{is_tagged, tag_of}
use Rattle.plane_types.specs.declared.table.TagRow.{TagRow}

-- tags that a host may have given: from 1 to 4094 (IEEE 802.1Q), and each to one network
pub record AreTags (tags : List TagRow) : Type 0 where
  pub first : Each (λ (t : TagRow). 0 < t.tag) tags
  pub last : Each (λ (t : TagRow). t.tag ≤ 4094) tags
  pub differ : (tag : ℕ) → count_by (λ (t : TagRow). t.tag == tag) tags ≤ 1

-- the networks that have a tag on the host
unfoldable pub tagged_networks : RowLists → Text → List Ident
tagged_networks rows host =
    map (λ (n : NetworkRow). n.id) (filter (is_tagged rows host) rows.networks)

-- the tags that these networks had
unfoldable pub kept_tags : List TagRow → List Ident → List ℕ
kept_tags old networks = filter_map (tag_of old) networks

-- this many numbers, from the first on
unfoldable pub numbers : ℕ → ℕ → List ℕ
numbers first zero = []
numbers first (suc many) = first ∷ numbers (first + 1) many

abbrev pub is_free : List ℕ → ℕ → Bool
is_free kept tag = not (list_any (λ k. k == tag) kept)

-- the tags from 1 to 4094 that are none of these, ascending
unfoldable pub free_tags : List ℕ → List ℕ
free_tags kept = filter (is_free kept) (numbers 1 4094)

-- the tag of a network that had this one, if any, and the free ones that are then left
abbrev pub next_tag : Option ℕ → List ℕ → Option (ℕ × List ℕ)
next_tag (Some tag) free = Some (tag, free)
next_tag None [] = None
next_tag None (tag ∷ free) = Some (tag, free)

abbrev pub tag_row : RowLists → Ident → ℕ → TagRow
tag_row rows n tag = record { network = n; tag = tag; wire = wire_of (segment rows n) }

-- a row with the tag, if any, before the rest
abbrev pub with_tag : RowLists → Ident → List ℕ → (List ℕ → List TagRow) → Option (ℕ × List ℕ)
    → List TagRow
with_tag rows n free rest None = rest free
with_tag rows n free rest (Some (tag, left)) = tag_row rows n tag ∷ rest left

-- a row for each network: the tag that it had, otherwise the first one that is free then
unfoldable pub in_turn : RowLists → List TagRow → List ℕ → List Ident → List TagRow
in_turn rows old free [] = []
in_turn rows old free (n ∷ ns) =
    with_tag rows n free (λ left. in_turn rows old left ns) (next_tag (tag_of old n) free)

unfoldable pub new_tags : RowLists → Text → List TagRow → List TagRow
new_tags rows host old =
    in_turn rows old (free_tags (kept_tags old (tagged_networks rows host)))
    (tagged_networks rows host)

-- What a change may do to the rows of a host whose tags stay.
use Rattle.std.specs.Prelude.{◌≡◌, ⊤, true, List, Option, Some, None, is_some}
use Rattle.net_addr.specs.Words.{Text}
use Rattle.api_types.specs.Ident.{Ident}
use Rattle.api_types.specs.Live.{is_here}
use Rattle.api_types.specs.RowLists.{RowLists}
use Rattle.api_types.specs.RowsWith.{network_with}
use Rattle.api_types.specs.declared.network.NetworkRow.{NetworkRow}
use Rattle.api_types.specs.declared.port.PortRow.{PortRow}
use Rattle.plane_types.specs.TableRows.{tag_of}
use Rattle.plane_types.specs.declared.table.TagRow.{TagRow}

-- a network has a tag
abbrev pub HasTag : List TagRow → Ident → Type 0
HasTag tags n = is_some (tag_of tags n) ≡ true

-- a port that is live here after a change, on this network
abbrev pub StaysOn : RowLists → Text → Ident → Option PortRow → Type 0
StaysOn after host n None = ⊥
StaysOn after host n (Some q) = (is_here after host q ≡ true) × (n ≡ q.network)

-- one that is live here after it is on a network with a tag
abbrev pub IsTagged : RowLists → Text → List TagRow → Option PortRow → Type 0
IsTagged after host tags None = ⊤
IsTagged after host tags (Some q) = is_here after host q ≡ true → HasTag tags q.network

-- one that is live here before it stays so, on its network
abbrev pub WasHere : RowLists → RowLists → Text → Option PortRow → Option PortRow → Type 0
WasHere before after host None q = ⊤
WasHere before after host (Some p) q = is_here before host p ≡ true → StaysOn after host p.network q

-- so a port of the host stays on its network, and another one comes to a network with a tag
pub record PortStays (before after : RowLists) (host : Text) (tags : List TagRow)
    (p q : Option PortRow) : Type 0 where
  pub was : WasHere before after host p q
  pub is : IsTagged after host tags q

-- a network keeps its id, its state and its segment
abbrev pub CarriesOn : NetworkRow → Option NetworkRow → Type 0
CarriesOn w None = ⊥
CarriesOn w (Some v) = (w.id ≡ v.id) × (w.up ≡ v.up) × (w.segment ≡ v.segment)

-- it is as up as before, if it is there before and after
abbrev pub IsAsUp : Option NetworkRow → Option NetworkRow → Type 0
IsAsUp None v = ⊤
IsAsUp (Some w) None = ⊤
IsAsUp (Some w) (Some v) = w.up ≡ v.up

-- a network with a tag carries on, and each is as up as before
pub record TaggedStays (before after : RowLists) (tags : List TagRow) (w : NetworkRow)
    (v : Option NetworkRow) : Type 0 where
  pub tagged : HasTag tags w.id → CarriesOn w v
  pub up : IsAsUp (network_with before w.id) (network_with after w.id)

-- of a network that is there before
abbrev pub NetworkStays : RowLists → RowLists → List TagRow → Option NetworkRow
    → Option NetworkRow → Type 0
NetworkStays before after tags None v = ⊤
NetworkStays before after tags (Some w) v = TaggedStays before after tags w v

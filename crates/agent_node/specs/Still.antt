-- A change to networks alone, each of which stays as up as it was and on its segment: it leaves the
-- tables of all hosts as they are.
use Rattle.std.specs.Prelude.{◌≡◌, ⊤, List, [], ◌∷◌, Option, Some, None, option_and_then}
use Rattle.api_types.specs.Parts.{network_of}
use Rattle.api_types.specs.declared.change.Item.{Item}
use Rattle.api_types.specs.declared.kind.Kind.TheVariants.{Network}
use Rattle.api_types.specs.declared.network.NetworkRow.{NetworkRow}
use Rattle.plane_types.specs.declared.delta.Delta.{Delta}

-- a network is there before and after, as up and on its segment
abbrev pub CarriesOn : Option NetworkRow → Option NetworkRow → Type 0
CarriesOn None new = ⊥
CarriesOn (Some old) None = ⊥
CarriesOn (Some old) (Some new) = (old.up ≡ new.up) × (old.segment ≡ new.segment)

pub record IsStill (item : Item) : Type 0 where
  pub kind : item.kind ≡ Network
  pub carries : CarriesOn (option_and_then network_of item.before)
      (option_and_then network_of item.after)

abbrev pub AreStill : List Item → Type 0
AreStill [] = ⊤
AreStill (item ∷ items) = IsStill item × AreStill items

-- no edit of any table
abbrev pub no_edits : Delta
no_edits = record {
  l2 = record {
    tags = [];
    tag_edits = [];
    taps = [];
    filters = [];
    sets = [];
    bridge = [];
    inward = [];
    neighbours = [];
  };
  l3 = record { routers = []; routes = []; floats = [] };
  dhcp = record { leases = [] };
}

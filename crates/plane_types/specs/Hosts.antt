-- Hosts with their tables and tracked entries, and the order of the keys of the two maps.
use Rattle.std.specs.Prelude.{ℕ, ◌+◌, ◌&&◌, ◌||◌, ◌==◌, nat_lt, Bool, true, false, List, flat_map}
use Rattle.std.specs.Str.{bytes_eq}
use Rattle.net_addr.specs.Words.{Text}
use Rattle.net_addr.specs.Ordered.{addr_before}
use Rattle.plane_types.specs.declared.entry.Entry.{Entry}
use Rattle.plane_types.specs.declared.table.BridgeKey.{BridgeKey}
use Rattle.plane_types.specs.declared.table.BridgeKey.TheVariants.{Dhcp as AtDhcp, Mac as AtMac}
use Rattle.plane_types.specs.declared.table.BridgeRow.{BridgeRow}
use Rattle.plane_types.specs.declared.table.NeighbourRow.{NeighbourRow}
use Rattle.plane_types.specs.declared.lists.TableLists.{TableLists}

pub record Host : Type 0 where
  pub name : Text
  pub tables : TableLists
  pub entries : List Entry

abbrev pub is_named : Text → Host → Bool
is_named name h = bytes_eq name h.name

-- the entries of all hosts, joined in the order of the hosts
abbrev pub all_entries : List Host → List Entry
all_entries hosts = flat_map (λ (h : Host). h.entries) hosts

abbrev pub key_number : BridgeKey → ℕ
key_number AtDhcp = 0
key_number (AtMac mac) = mac + 1

abbrev pub bridge_key_eq : BridgeKey → BridgeKey → Bool
bridge_key_eq AtDhcp AtDhcp = true
bridge_key_eq (AtMac a) (AtMac b) = a == b
bridge_key_eq AtDhcp (AtMac b) = false
bridge_key_eq (AtMac a) AtDhcp = false

abbrev pub pair_before : ℕ → ℕ → ℕ → ℕ → Bool
pair_before a b x y = nat_lt a x || ((a == x) && nat_lt b y)

abbrev pub bridge_before : BridgeRow → BridgeRow → Bool
bridge_before r s = pair_before r.tag (key_number r.key) s.tag (key_number s.key)

abbrev pub neighbour_before : NeighbourRow → NeighbourRow → Bool
neighbour_before r s = nat_lt r.tag s.tag || ((r.tag == s.tag) && addr_before r.address s.address)

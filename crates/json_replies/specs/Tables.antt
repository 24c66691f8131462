-- The tables of a host as they are printed. What a row hasn't is null.
use Rattle.std.specs.Prelude.{[], ◌∷◌, map, codes, Option, Some, None, option_and_then}
use Rattle.net_addr.specs.Words.{Text}
use Rattle.net_addr.specs.Spelling.{mac_text}
use Rattle.api_types.specs.Printed.{Tree, truth, number, word}
use Rattle.api_types.specs.declared.port.Pair.{Pair}
use Rattle.plane_types.specs.declared.table.TagRow.{TagRow}
use Rattle.plane_types.specs.declared.table.TapRow.{TapRow}
use Rattle.plane_types.specs.declared.table.FilterRow.{FilterRow}
use Rattle.plane_types.specs.declared.table.SetRow.{SetRow}
use Rattle.plane_types.specs.declared.table.BridgeKey.{BridgeKey}
use Rattle.plane_types.specs.declared.table.BridgeKey.TheVariants.{Dhcp, Mac}
use Rattle.plane_types.specs.declared.table.BridgeTo.{BridgeTo}
use Rattle.plane_types.specs.declared.table.BridgeTo.TheVariants.{Tap, Router, Tunnel}
use Rattle.plane_types.specs.declared.table.BridgeRow.{BridgeRow}
use Rattle.plane_types.specs.declared.table.Carrier.{Carrier}
use Rattle.plane_types.specs.declared.table.Carrier.TheVariants as carrier
use Rattle.plane_types.specs.declared.table.InwardRow.{InwardRow}
use Rattle.plane_types.specs.declared.table.NeighbourRow.{NeighbourRow}
use Rattle.plane_types.specs.declared.table.RouterPort.{RouterPort}
use Rattle.plane_types.specs.declared.table.RouterTable.{RouterTable}
use Rattle.api_types.specs.declared.route.RouteRank.{RouteRank}
use Rattle.api_types.specs.declared.route.RouteRank.TheVariants.{Connected, Extra, Default}
use Rattle.plane_types.specs.declared.table.RouteRow.{RouteRow}
use Rattle.plane_types.specs.declared.table.FloatRow.{FloatRow}
use Rattle.plane_types.specs.declared.table.LeaseRow.{LeaseRow}
use Rattle.api_types.specs.declared.wire.Wire.{Wire}
use Rattle.plane_types.specs.declared.lists.TableLists.{TableLists}
use Rattle.json_trees.specs.Printed.{fields, list, or_null}
use Rattle.json_replies.specs.Frames.{direction_tree, ethertype_tree}
use Rattle.json_trees.specs.Words.{id_tree, address_tree, four_tree, mac_tree, prefix_tree}
use Rattle.json_replies.specs.Verdicts.{hop_tree}

abbrev pub physical_tree : Option Wire → Tree
physical_tree wire = or_null (λ w. word w.physical) wire

-- the number of a wire is its tag
abbrev pub number_tree : Option Wire → Tree
number_tree wire = or_null number (option_and_then (λ w. w.tag) wire)

abbrev pub tag_row_tree : TagRow → Tree
tag_row_tree row = fields (
    (codes "network", id_tree row.network) ∷ (codes "number", number_tree row.wire)
    ∷ (codes "physical", physical_tree row.wire) ∷ (codes "tag", number row.tag) ∷ [])

abbrev pub pair_tree : Pair → Tree
pair_tree pair =
    fields ((codes "mac", mac_tree pair.mac) ∷ (codes "prefix", prefix_tree pair.prefix) ∷ [])

abbrev pub tap_tree : TapRow → Tree
tap_tree row = fields (
    (codes "allowed", list (map pair_tree row.allowed)) ∷ (codes "mac", mac_tree row.mac)
    ∷ (codes "port", id_tree row.port)
    ∷ (codes "secured", truth row.secured) ∷ (codes "tag", number row.tag) ∷ [])

abbrev pub filter_tree : FilterRow → Tree
filter_tree row = fields (
    (codes "direction", direction_tree row.direction)
    ∷ (codes "ethertype", ethertype_tree row.ethertype)
    ∷ (codes "high", or_null number row.high) ∷ (codes "low", or_null number row.low)
    ∷ (codes "port", id_tree row.port) ∷ (codes "protocol", or_null number row.protocol)
    ∷ (codes "remote_group", or_null id_tree row.remote_group)
    ∷ (codes "remote_prefix", or_null prefix_tree row.remote_prefix) ∷ [])

abbrev pub set_tree : SetRow → Tree
set_tree row =
    fields ((codes "group", id_tree row.group) ∷ (codes "prefix", prefix_tree row.prefix) ∷ [])

abbrev pub bridge_key_text : BridgeKey → Text
bridge_key_text Dhcp = codes "dhcp"
bridge_key_text (Mac mac) = mac_text mac

abbrev pub bridge_to_tree : BridgeTo → Tree
bridge_to_tree (Tap port) =
    fields ((codes "kind", word (codes "tap")) ∷ (codes "port", id_tree port) ∷ [])
bridge_to_tree (Router router port) =
    fields ((codes "kind", word (codes "router")) ∷ (codes "port", id_tree port) ∷ [])
bridge_to_tree (Tunnel host n) =
    fields ((codes "host", word host) ∷ (codes "kind", word (codes "tunnel"))
    ∷ (codes "number", number n) ∷ [])

abbrev pub bridge_tree : BridgeRow → Tree
bridge_tree row = fields (
    (codes "mac", word (bridge_key_text row.key)) ∷ (codes "tag", number row.tag)
    ∷ (codes "to", bridge_to_tree row.to) ∷ [])

abbrev pub wire_of : Carrier → Option Wire
wire_of (carrier.Tunnel n) = None
wire_of (carrier.Wire wire) = Some wire

-- the number of the tunnel, or that on the wire
abbrev pub inward_number_tree : Carrier → Tree
inward_number_tree (carrier.Tunnel n) = number n
inward_number_tree (carrier.Wire wire) = number_tree (Some wire)

abbrev pub inward_tree : InwardRow → Tree
inward_tree row = fields (
    (codes "number", inward_number_tree row.carrier)
    ∷ (codes "physical", physical_tree (wire_of row.carrier)) ∷ (codes "tag", number row.tag) ∷ [])

abbrev pub neighbour_tree : NeighbourRow → Tree
neighbour_tree row = fields (
    (codes "address", address_tree row.address) ∷ (codes "mac", mac_tree row.mac)
    ∷ (codes "tag", number row.tag) ∷ [])

abbrev pub router_port_tree : RouterPort → Tree
router_port_tree row = fields (
    (codes "addresses", list (map address_tree row.addresses)) ∷ (codes "inside", truth row.inside)
    ∷ (codes "mac", mac_tree row.mac) ∷ (codes "port", id_tree row.port)
    ∷ (codes "prefixes", list (map prefix_tree row.prefixes)) ∷ (codes "tag", number row.tag) ∷ [])

abbrev pub router_tree : RouterTable → Tree
router_tree row = fields (
    (codes "gateway_address", or_null four_tree row.gateway)
    ∷ (codes "ports", list (map router_port_tree row.ports))
    ∷ (codes "router", id_tree row.router) ∷ (codes "snat", truth row.snat)
    ∷ (codes "up", truth row.up) ∷ [])

abbrev pub rank_word : RouteRank → Text
rank_word Connected = codes "connected"
rank_word Extra = codes "extra"
rank_word Default = codes "default"

abbrev pub route_tree : RouteRow → Tree
route_tree row = fields (
    (codes "next_hop", or_null address_tree row.next) ∷ (codes "port", id_tree row.port)
    ∷ (codes "prefix", prefix_tree row.prefix)
    ∷ (codes "rank", word (rank_word row.rank)) ∷ (codes "router", id_tree row.router) ∷ [])

abbrev pub float_tree : FloatRow → Tree
float_tree row = fields (
    (codes "fixed", four_tree row.fixed) ∷ (codes "floating", four_tree row.floating)
    ∷ (codes "router", id_tree row.router) ∷ [])

abbrev pub lease_row_tree : LeaseRow → Tree
lease_row_tree row = fields (
    (codes "address", address_tree row.lease.address)
    ∷ (codes "gateway", or_null address_tree row.lease.gateway)
    ∷ (codes "host_routes", list (map hop_tree row.lease.host_routes))
    ∷ (codes "length", number row.lease.length)
    ∷ (codes "mac", mac_tree row.mac)
    ∷ (codes "name_servers", list (map address_tree row.lease.name_servers))
    ∷ (codes "tag", number row.tag) ∷ [])

abbrev pub tables_tree : TableLists → Tree
tables_tree tables = fields (
    (codes "bridge", list (map bridge_tree tables.bridge))
    ∷ (codes "filters", list (map filter_tree tables.filters))
    ∷ (codes "floats", list (map float_tree tables.floats))
    ∷ (codes "inward", list (map inward_tree tables.inward))
    ∷ (codes "leases", list (map lease_row_tree tables.leases))
    ∷ (codes "neighbours", list (map neighbour_tree tables.neighbours))
    ∷ (codes "routers", list (map router_tree tables.routers))
    ∷ (codes "routes", list (map route_tree tables.routes))
    ∷ (codes "sets", list (map set_tree tables.sets))
    ∷ (codes "tags", list (map tag_row_tree tables.tags))
    ∷ (codes "taps", list (map tap_tree tables.taps)) ∷ [])

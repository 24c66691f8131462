-- As what a port may send (Networking API v2.0, port security and allowed address pairs).
use Rattle.std.specs.Prelude.{not, ◌&&◌, ◌||◌, ◌==◌, Bool, true, List, if◌then◌else◌}
use Rattle.std.specs.List.{list_any}
use Rattle.net_addr.specs.Words.{MacAddress}
use Rattle.net_addr.specs.declared.address.Addr.{Addr}
use Rattle.net_addr.specs.declared.address.Addr.TheVariants.{V4}
use Rattle.net_addr.specs.Prefixes.{contains}
use Rattle.api_types.specs.declared.port.Pair.{Pair}
use Rattle.api_types.specs.declared.port.PortRow.{PortRow}
use Rattle.plane_types.specs.Ends.{source}
use Rattle.api_types.specs.Holders.{holds}
use Rattle.plane_types.specs.declared.frame.Frame.{Frame}
use Rattle.plane_types.specs.declared.frame.Frame.TheVariants.{Dhcp, Ip, NeighbourAsk, Other}

abbrev pub has_pair_mac : List Pair → MacAddress → Bool
has_pair_mac pairs mac = list_any (λ (x : Pair). x.mac == mac) pairs

-- with its own MAC and one of its addresses, or with a pair's MAC and an address in the pair's
-- prefix
abbrev pub may_send : PortRow → MacAddress → Addr → Bool
may_send p mac from =
    ((p.mac == mac) && holds p from)
    || list_any (λ (x : Pair). (x.mac == mac) && contains x.prefix from) p.pairs

-- without an address, as a client that has no lease yet: with its own MAC or a pair's
abbrev pub may_ask_lease : PortRow → MacAddress → Bool
may_ask_lease p mac = (p.mac == mac) || has_pair_mac p.pairs mac

abbrev pub guards : PortRow → Frame → Bool
guards p (Ip src dst ends ttl part) = may_send p src (source ends)
guards p (NeighbourAsk src ends) = may_send p src (source ends)
guards p (Dhcp src from) = if from == 0 then may_ask_lease p src else may_send p src (V4 from)
guards p (Other src dst ethertype) = true

-- a port without port security may send anything
abbrev pub passes_guard : PortRow → Frame → Bool
passes_guard p frame = not p.secured || guards p frame

-- Which ports are live, and which of them hear each other (Neutron's ML2 guide: a port is wired
-- where it is bound and both it and its network are administratively up; frames of a local network
-- stay on their host).
use Rattle.std.specs.Prelude.{not, ◌&&◌, ◌||◌, Bool, true, false, Option, Some, None, if◌then◌else◌}
use Rattle.std.specs.Str.{bytes_eq}
use Rattle.net_addr.specs.Words.{Text}
use Rattle.api_types.specs.Consistent.Carried.{is_bound}
use Rattle.api_types.specs.Ident.{Ident}
use Rattle.api_types.specs.RowLists.{RowLists}
use Rattle.api_types.specs.RowsWith.{network_with}
use Rattle.api_types.specs.declared.network.NetworkRow.{NetworkRow}
use Rattle.api_types.specs.declared.network.Segment.{Segment}
use Rattle.api_types.specs.declared.network.Segment.TheVariants.{Flat, Local, Vlan, Vxlan}
use Rattle.api_types.specs.declared.port.PortRow.{PortRow}

abbrev pub network_up : Option NetworkRow → Bool
network_up None = false
network_up (Some n) = n.up

-- port and network are up, and Open vSwitch carries the port
unfoldable pub is_live : RowLists → PortRow → Bool
is_live rows p = p.up && is_bound p.vif && network_up (network_with rows p.network)

abbrev pub segment_of : Option NetworkRow → Segment
segment_of None = Local
segment_of (Some n) = n.segment

unfoldable pub segment : RowLists → Ident → Segment
segment rows n = segment_of (network_with rows n)

abbrev pub is_local : Segment → Bool
is_local Local = true
is_local (Flat p) = false
is_local (Vlan p t) = false
is_local (Vxlan n) = false

-- two ports of a network are joined, unless it is local and their hosts differ
abbrev pub joins : Segment → Text → Text → Bool
joins segment a b = not (is_local segment) || bytes_eq a b

-- a port is joined with a host by the same rule
abbrev pub is_joined : RowLists → PortRow → Text → Bool
is_joined rows q host = joins (segment rows q.network) q.host host

-- of what was found, what is joined with the host
abbrev pub joined_with : RowLists → Text → Option PortRow → Option PortRow
joined_with rows host None = None
joined_with rows host (Some q) = if is_joined rows q host then Some q else None

-- a port is bound to the host, and live there
abbrev pub is_at : Text → PortRow → Bool
is_at host p = bytes_eq p.host host

abbrev pub is_here : RowLists → Text → PortRow → Bool
is_here rows host p = is_live rows p && is_at host p

-- Short ways to write down rows and frames for worked examples.
use Rattle.std.specs.Prelude.{option_map, ℕ, ◌+◌, ◌*◌, ◌^◌, Bool, true, false, List, [], Option, Some, None, codes}
use Rattle.net_addr.specs.declared.address.Addr.TheVariants.{V4}
use Rattle.net_addr.specs.Prefixes.{Prefix}
use Rattle.api_types.specs.Ident.{Ident}
use Rattle.api_types.specs.RowLists.{RowLists}
use Rattle.api_types.specs.declared.group.Direction.{Direction}
use Rattle.api_types.specs.declared.group.Ethertype.TheVariants.{Ipv4}
use Rattle.api_types.specs.declared.group.GroupRow.{GroupRow}
use Rattle.api_types.specs.declared.group.RuleRow.{RuleRow}
use Rattle.api_types.specs.declared.network.NetworkRow.{NetworkRow}
use Rattle.api_types.specs.declared.network.Segment.{Segment}
use Rattle.api_types.specs.declared.port.Fixed.{Fixed}
use Rattle.api_types.specs.declared.port.PortRow.{PortRow}
use Rattle.api_types.specs.declared.port.Vif.TheVariants.{Ovs}
use Rattle.api_types.specs.declared.router.Gateway.{Gateway}
use Rattle.api_types.specs.declared.router.RouterRow.{RouterRow}
use Rattle.api_types.specs.declared.subnet.Hop.{Hop}
use Rattle.api_types.specs.declared.subnet.SubnetRow.{SubnetRow}
use Rattle.plane_types.specs.Hosts.{Host}
use Rattle.plane_types.specs.TableRows.{bridge_rows, filter_rows, float_rows, inward_rows, lease_rows, neighbour_rows, route_rows, router_rows, set_rows, tap_rows}
use Rattle.plane_types.specs.declared.entry.Entry.{Entry}
use Rattle.plane_types.specs.declared.entry.Entry.TheVariants.{Flow}
use Rattle.plane_types.specs.declared.frame.Frame.{Frame}
use Rattle.plane_types.specs.Ends.{Ends, Ends4}
use Rattle.plane_types.specs.declared.frame.Frame.TheVariants.{Ip}
use Rattle.plane_types.specs.declared.frame.Key.{Key}
use Rattle.plane_types.specs.declared.frame.KeyKind.TheVariants.{Tcp as TcpKey}
use Rattle.plane_types.specs.declared.frame.KeyPart.TheVariants.{Tcp}
use Rattle.plane_types.specs.declared.table.TagRow.{TagRow}
use Rattle.api_types.specs.declared.wire.Wire.{Wire}
use Rattle.plane_types.specs.declared.lists.TableLists.{TableLists}

abbrev pub ip : ℕ → ℕ → ℕ → ℕ → ℕ
ip a b c d = a * 2 ^ 24 + b * 2 ^ 16 + c * 2 ^ 8 + d

-- fa:16:3e:00:00:00 and up, and 02:00:00:00:00:00 and up
abbrev pub drawn_mac : ℕ → ℕ
drawn_mac n = 250 * 2 ^ 40 + 22 * 2 ^ 32 + 62 * 2 ^ 24 + n

abbrev pub local_mac : ℕ → ℕ
local_mac n = 2 * 2 ^ 40 + n

abbrev pub prefix : ℕ → ℕ → Prefix
prefix base len = record { base = V4 base; len = len }

abbrev pub id : ℕ → Ident
id n = record { ordinal = 1; count = n }

abbrev pub c1 : List ℕ
c1 = codes "c1"

abbrev pub c2 : List ℕ
c2 = codes "c2"

abbrev pub physnet1 : List ℕ
physnet1 = codes "physnet1"

abbrev pub network : Ident → Segment → NetworkRow
network i s = record { id = i; project = codes "a"; name = []; description = []; up = true; segment = s }

abbrev pub subnet : Ident → Ident → Prefix → Option ℕ → Bool → SubnetRow
subnet i n p gateway dhcp = record { id = i; project = codes "a"; network = n; name = []; description = []; prefix = p; gateway = option_map V4 gateway; pools = []; dhcp = dhcp; address_mode = None; ra_mode = None; dns = []; host_routes = [] }

abbrev pub held : Ident → ℕ → Fixed
held s x = record { subnet = s; address = V4 x }

-- a port of an instance without port security
abbrev pub open_port : Ident → Ident → List ℕ → ℕ → List Fixed → PortRow
open_port i n host mac fixed = record {
  id = i;
  project = codes "a";
  network = n;
  name = [];
  description = [];
  up = true;
  mac = mac;
  fixed = fixed;
  pairs = [];
  secured = false;
  groups = [];
  device = [];
  owner = [];
  host = host;
  vif = Ovs;
  by_admin = false;
}

-- with port security and groups
abbrev pub guarded : PortRow → List Ident → PortRow
guarded p groups = record p { secured = true; groups = groups }

abbrev pub owned : PortRow → List ℕ → List ℕ → PortRow
owned p owner device = record p { owner = owner; device = device }

abbrev pub interface : Ident → Ident → List ℕ → ℕ → List Fixed → List ℕ → PortRow
interface i n host mac fixed router = owned (open_port i n host mac fixed) (codes "network:router_interface") router

abbrev pub gateway_on : Ident → Ident → List ℕ → ℕ → List Fixed → List ℕ → PortRow
gateway_on i n host mac fixed router = owned (open_port i n host mac fixed) (codes "network:router_gateway") router

abbrev pub leasing : Ident → Ident → List ℕ → ℕ → List Fixed → PortRow
leasing i n host mac fixed = owned (open_port i n host mac fixed) (codes "network:dhcp") []

abbrev pub group : Ident → GroupRow
group i = record { id = i; project = codes "a"; name = []; description = []; is_default = false }

-- a rule for IPv4: direction, protocol, port range, remote group
abbrev pub rule : Ident → Ident → Direction → Option ℕ → Option ℕ → Option Ident → RuleRow
rule i g direction protocol port remote = record {
  id = i;
  project = codes "a";
  group = g;
  description = [];
  direction = direction;
  ethertype = Ipv4;
  protocol = protocol;
  low = port;
  high = port;
  remote_prefix = None;
  remote_group = remote;
}

abbrev pub router : Ident → Option Gateway → List Hop → RouterRow
router i gateway routes = record { id = i; project = codes "a"; name = []; description = []; up = true; host = Some c1; gateway = gateway; routes = routes }

abbrev pub hop : Prefix → ℕ → Hop
hop destination next = record { destination = destination; next = V4 next }

abbrev pub no_rows : RowLists
no_rows = record { projects = []; networks = []; subnets = []; ports = []; groups = []; rules = []; routers = []; floatings = []; policies = [] }

-- from one address of version 4 to another
abbrev pub ends : ℕ → ℕ → Ends
ends from to = Ends4 from to

-- a packet of TCP
abbrev pub tcp : ℕ → ℕ → ℕ → ℕ → ℕ → ℕ → ℕ → Frame
tcp src dst from sport to dport ttl = Ip src dst (ends from to) ttl (Tcp sport dport)

abbrev pub flow : Ident → Direction → Key → Entry
flow port direction key = Flow port direction key

abbrev pub tcp_key : ℕ → ℕ → ℕ → ℕ → Key
tcp_key from sport to dport = record { kind = TcpKey; ends = ends from to; sport = sport; dport = dport }

-- tables that the rows give to a host for some tags
abbrev pub tables_of : RowLists → List ℕ → List TagRow → TableLists
tables_of rows host tags = record {
  tags = tags;
  taps = tap_rows rows host tags;
  filters = filter_rows rows host;
  sets = set_rows rows (filter_rows rows host);
  bridge = bridge_rows rows host tags;
  inward = inward_rows rows tags;
  neighbours = neighbour_rows rows host tags;
  routers = router_rows rows host tags;
  routes = route_rows rows host;
  floats = float_rows rows host;
  leases = lease_rows rows host tags;
}

abbrev pub tag : Ident → ℕ → Option Wire → TagRow
tag n t w = record { network = n; tag = t; wire = w }

abbrev pub host : RowLists → List ℕ → List TagRow → Host
host rows name tags = record { name = name; tables = tables_of rows name tags; entries = [] }

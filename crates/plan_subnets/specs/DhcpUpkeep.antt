-- A network's DHCP port holds an address of each subnet that is leased by DHCP, and is there
-- exactly where there is such a subnet.
use Rattle.api_ipam.specs.Addresses.{least_free_address}
use Rattle.call_parts.specs.Edits.{Add, Drop, Edit, Put}
use Rattle.api_types.specs.HeldAddresses.{is_address_held}
use Rattle.call_parts.specs.Leaving.{disassociations}
use Rattle.api_ipam.specs.MacChoice.{expected_mac, free_mac}
use Rattle.api_ml2.specs.Placement.{dhcp_host, host_or_none}
use Rattle.api_ml2.specs.ServicePorts.{dhcp_owner, service_port}
use Rattle.api_types.specs.Consistent.InForm.{is_eui}
use Rattle.api_types.specs.Ident.{Ident}
use Rattle.api_types.specs.Owners.{is_dhcp_of}
use Rattle.api_types.specs.RowLists.{RowLists}
use Rattle.api_types.specs.declared.floating.FloatingRow.{FloatingRow}
use Rattle.api_types.specs.declared.kind.Kind.TheVariants.{Port as PortKind}
use Rattle.api_types.specs.declared.kind.Row.TheVariants.{Port}
use Rattle.api_types.specs.declared.network.NetworkRow.{NetworkRow}
use Rattle.api_types.specs.declared.port.Fixed.{Fixed}
use Rattle.api_types.specs.declared.port.PortRow.{PortRow}
use Rattle.api_types.specs.declared.subnet.SubnetRow.{SubnetRow}
use Rattle.net_addr.specs.Prefixes.{eui, first_address}
use Rattle.net_addr.specs.declared.address.Addr.{Addr}
use Rattle.net_settings.specs.Settings.{SettingsParts}
use Rattle.std.specs.Prelude.{Bool, List, None, Option, Some, [], false, find, is_none, not, true, ◌&&◌, ◌++◌, ◌∷◌}
use Rattle.net_addr.specs.Words.{MacAddress}
use Rattle.row_laws.specs.Leased.{outside}

abbrev pub dhcp_port_on : List PortRow → Ident → Option PortRow
dhcp_port_on ports network = find (is_dhcp_of network) ports

-- a subnet begins to be leased, and its network has no DHCP port yet
abbrev pub makes_dhcp_port : List PortRow → Ident → Bool → Bool
makes_dhcp_port ports network begins = begins && is_none (dhcp_port_on ports network)

-- the MAC address that it has, or will have
abbrev pub dhcp_mac : List PortRow → Ident → Option PortRow → MacAddress
dhcp_mac ports network None = expected_mac (free_mac ports network)
dhcp_mac ports network (Some p) = p.mac

-- the address that it is to hold: the one that its MAC address gives, or the least free one of the
-- pools
abbrev pub served_address : List PortRow → Ident → SubnetRow → Bool → Option Addr
served_address ports network s false =
    least_free_address (λ x. not (is_address_held ports network x)) s.pools
served_address ports network s true =
    Some (eui s.prefix (dhcp_mac ports network (dhcp_port_on ports network)))

-- where none is to be held, none is needed
abbrev pub dhcp_address : List PortRow → Ident → Bool → SubnetRow → Option Addr
dhcp_address ports network false s = Some (first_address s.prefix)
dhcp_address ports network true s = served_address ports network s (is_eui s)

abbrev pub new_dhcp_port : SettingsParts → NetworkRow → Ident → MacAddress → Fixed → PortRow
new_dhcp_port settings n i mac f =
    service_port settings n i n.project mac (f ∷ []) dhcp_owner []
    (host_or_none (dhcp_host settings n.segment))

-- a new address is held last
abbrev pub serving : SettingsParts → NetworkRow → Option PortRow → Ident → MacAddress → Fixed
    → List Edit
serving settings n None i mac f = Add (Port (new_dhcp_port settings n i mac f)) ∷ []
serving settings n (Some p) i mac f = Put (Port (record p { fixed = p.fixed ++ f ∷ [] })) ∷ []

abbrev pub begin_serving : SettingsParts → RowLists → NetworkRow → Bool → Ident → MacAddress
    → Fixed → List Edit
begin_serving settings rows n false i mac f = []
begin_serving settings rows n true i mac f =
    serving settings n (dhcp_port_on rows.ports n.id) i mac f

-- a DHCP port that would hold no address goes
abbrev pub port_left : PortRow → List Fixed → Edit
port_left p [] = Drop PortKind p.id
port_left p (f ∷ left) = Put (Port (record p { fixed = f ∷ left }))

abbrev pub giving_back : List FloatingRow → PortRow → List Fixed → List Edit
giving_back floatings p left = disassociations floatings p.id left ++ port_left p left ∷ []

abbrev pub unserving : RowLists → Option PortRow → Ident → List Edit
unserving rows None subnet = []
unserving rows (Some p) subnet = giving_back rows.floatings p (outside subnet p.fixed)

-- the subnet is leased no more
abbrev pub end_serving : RowLists → Ident → Bool → Ident → List Edit
end_serving rows network false subnet = []
end_serving rows network true subnet = unserving rows (dhcp_port_on rows.ports network) subnet

-- Which port of a host serves a network by DHCP.
use Rattle.std.specs.Prelude.{◌&&◌, ◌||◌, Bool, false, List, Option, Some, None, is_some, if◌then◌else◌, option_and_then, option_map}
use Rattle.net_addr.specs.Words.{Text}
use Rattle.api_types.specs.Holders.{dhcp_port, is_live_dhcp_of}
use Rattle.api_types.specs.Ident.{Ident}
use Rattle.api_types.specs.Leases.{lease_for}
use Rattle.api_types.specs.Live.{is_at}
use Rattle.api_types.specs.Owners.{is_dhcp_of}
use Rattle.api_types.specs.RowLists.{RowLists}
use Rattle.api_types.specs.declared.port.PortRow.{PortRow}
use Rattle.plane_types.specs.TableRows.{tag_of}
use Rattle.plane_types.specs.declared.table.BridgeTo.{BridgeTo}
use Rattle.plane_types.specs.declared.table.BridgeTo.TheVariants.{Router, Tap, Tunnel}
use Rattle.plane_types.specs.declared.table.LeaseRow.{LeaseRow}
use Rattle.plane_types.specs.declared.table.TagRow.{TagRow}
use Rattle.touched_rows.specs.TouchedNumbers.{holds_in_any}

-- a port, if it is on the host
abbrev pub if_at : Text → PortRow → Option PortRow
if_at host d = if is_at host d then Some d else None

-- the live DHCP port of a network, if it is on the host
abbrev pub dhcp_here : RowLists → Text → Ident → Option PortRow
dhcp_here rows host n = option_and_then (if_at host) (dhcp_port rows n)

-- the port of the tap to which an entry of the bridge leads
abbrev pub tap_port : BridgeTo → Option Ident
tap_port (Tap p) = Some p
tap_port (Router r p) = None
tap_port (Tunnel h n) = None

-- whether a port is a live DHCP port of a network, on the host
abbrev pub serves_here : RowLists → Text → Ident → PortRow → Bool
serves_here rows host n d = is_live_dhcp_of rows n d && is_at host d

abbrev pub serves_any : RowLists → Text → Ident → Option PortRow → Bool
serves_any rows host n None = false
serves_any rows host n (Some d) = serves_here rows host n d

-- the row by which a DHCP port of the host serves a port
abbrev pub served_row : RowLists → List TagRow → PortRow → PortRow → Option LeaseRow
served_row rows tags q d =
    option_and_then
    (λ lease. option_map
    (λ tag. record { port = q.id; tag = tag; mac = q.mac; lease = lease })
    (tag_of tags q.network))
    (lease_for rows d q)

-- whether a port, if there is one, is a DHCP port of a network
abbrev pub is_dhcp_on : Ident → Option PortRow → Bool
is_dhcp_on n None = false
is_dhcp_on n (Some p) = is_dhcp_of n p

-- whether a port of the host serves a network before a change or after it
abbrev pub is_served : RowLists → RowLists → Text → Ident → Bool
is_served before after host n =
    is_some (dhcp_here before host n) || is_some (dhcp_here after host n)

-- whether a port is served, on one of some networks or with an address in one of some subnets
abbrev pub is_led : (Ident → Bool) → (Ident → Bool) → (Ident → Bool) → PortRow → Bool
is_led served networks subnets p =
    (networks p.network || holds_in_any subnets p) && served p.network

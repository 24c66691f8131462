-- What the law of frames uses of rows that are consistent and of hosts that hold them, in the forms in which searches use it.
use Rattle.std.specs.Prelude.{◌≡◌, ℕ, ◌<◌, ◌≤◌, ◌&&◌, ◌==◌, not, Bool, true, false, List, [], ◌∷◌, map, Option, Some, None, find, is_some, ⊤}
use Rattle.std.specs.List.{list_any, filter}
use Rattle.std.specs.Str.{bytes_eq}
use Rattle.net_addr.specs.Addresses.{addr_eq}
use Rattle.net_addr.specs.declared.address.Addr.{Addr}
use Rattle.net_addr.specs.declared.address.Addr.TheVariants.{V4}
use Rattle.api_types.specs.Consistent.Carried.{is_bound}
use Rattle.api_types.specs.RowsWith.{port_with, network_with}
use Rattle.api_types.specs.Ident.{Ident}
use Rattle.api_types.specs.Owners.{device_is, is_dhcp_of, is_router_port}
use Rattle.api_types.specs.RowLists.{RowLists}
use Rattle.api_types.specs.Table.{ident_eq}
use Rattle.api_types.specs.declared.floating.FloatingRow.{FloatingRow}
use Rattle.api_types.specs.declared.group.GroupRow.{GroupRow}
use Rattle.api_types.specs.declared.group.RuleRow.{RuleRow}
use Rattle.api_types.specs.declared.network.NetworkRow.{NetworkRow}
use Rattle.api_types.specs.declared.port.PortRow.{PortRow}
use Rattle.api_types.specs.declared.router.RouterRow.{RouterRow}
use Rattle.api_types.specs.Holders.{holds, router_of}
use Rattle.plane_types.specs.Hosts.{Host}
use Rattle.api_types.specs.Live.{is_live, segment}
use Rattle.api_types.specs.Wires.{wire_of}
use Rattle.plane_types.specs.TableRows.{bridge_rows, carrier_of, filter_rows, float_rows, is_on_host, inward_rows, is_hosted, is_tagged, is_tap, lease_rows, neighbour_rows, route_rows, router_rows, set_rows, tap_rows}
use Rattle.plane_types.specs.TableStep.{carrier_eq}
use Rattle.plane_types.specs.declared.entry.Entry.{Entry}
use Rattle.plane_types.specs.declared.entry.Entry.TheVariants.{Flow, Snat}
use Rattle.plane_types.specs.declared.table.Carrier.{Carrier}
use Rattle.plane_types.specs.declared.table.TagRow.{TagRow}
use Rattle.plane_types.specs.declared.lists.TableLists.{TableLists}

-- at most one element passes the test
abbrev pub AtMostOne : {X : Type 0} → (X → Bool) → List X → Type 0
AtMostOne test [] = ⊤
AtMostOne test (x ∷ xs) = (test x ≡ true → find test xs ≡ None) × AtMostOne test xs

-- something holds of each element
abbrev pub AllOf : {X : Type 0} → (X → Type 0) → List X → Type 0
AllOf P [] = ⊤
AllOf P (x ∷ xs) = P x × AllOf P xs

-- tables
abbrev pub TagFact : RowLists → TagRow → Type 0
TagFact rows t = (t.wire ≡ wire_of (segment rows t.network)) × (0 < t.tag) × (t.tag ≤ 4094)

pub record TagFacts (rows : RowLists) (host : List ℕ) (tags : List TagRow) : Type 0 where
  pub networks : map (λ (t : TagRow). t.network) tags ≡ map (λ (n : NetworkRow). n.id) (filter (is_tagged rows host) rows.networks)
  pub stand : AllOf (TagFact rows) tags
  pub differ : (tag : ℕ) → AtMostOne (λ (t : TagRow). t.tag == tag) tags

pub record HostFacts (rows : RowLists) (host : List ℕ) (t : TableLists) : Type 0 where
  pub tags : TagFacts rows host t.tags
  pub taps : t.taps ≡ tap_rows rows host t.tags
  pub filters : t.filters ≡ filter_rows rows host
  pub sets : t.sets ≡ set_rows rows t.filters
  pub bridge : t.bridge ≡ bridge_rows rows host t.tags
  pub inward : t.inward ≡ inward_rows rows t.tags
  pub neighbours : t.neighbours ≡ neighbour_rows rows host t.tags
  pub routers : t.routers ≡ router_rows rows host t.tags
  pub routes : t.routes ≡ route_rows rows host
  pub floats : t.floats ≡ float_rows rows host
  pub leases : t.leases ≡ lease_rows rows host t.tags

-- rows
abbrev pub has_id : Ident → PortRow → Bool
has_id i p = ident_eq i p.id

abbrev pub is_carrier : Carrier → Option Carrier → Bool
is_carrier c None = false
is_carrier c (Some d) = carrier_eq c d

abbrev pub carried_by : RowLists → Carrier → Ident → Bool
carried_by rows c n = is_carrier c (carrier_of (segment rows n))

abbrev pub RemoteStands : RowLists → Option Ident → Type 0
RemoteStands rows None = ⊤
RemoteStands rows (Some g) = list_any (λ (z : GroupRow). ident_eq g z.id) rows.groups ≡ true

-- a floating address's own port is on its network, holds its address and isn't bound
abbrev pub own_port_stands : FloatingRow → Option PortRow → Bool
own_port_stands f None = false
own_port_stands f (Some p) = ident_eq f.network p.network && holds p (V4 f.address) && not (is_bound p.vif)

abbrev pub OwnPortStands : RowLists → FloatingRow → Type 0
OwnPortStands rows f = own_port_stands f (port_with rows f.own_port) ≡ true

abbrev pub RouterPortStands : RowLists → PortRow → Type 0
RouterPortStands rows p = is_router_port p.owner ≡ true → is_live rows p ≡ true → is_hosted p.host (router_of rows p) ≡ true

pub record FrameFacts (rows : RowLists) : Type 0 where
  pub port_ids : (i : Ident) → AtMostOne (has_id i) rows.ports
  pub network_ids : (i : Ident) → AtMostOne (λ (n : NetworkRow). ident_eq i n.id) rows.networks
  pub router_ids : (i : Ident) → AtMostOne (λ (r : RouterRow). ident_eq i r.id) rows.routers
  pub router_names : (text : List ℕ) → AtMostOne (λ (r : RouterRow). device_is text r.id) rows.routers
  pub networks_stand : AllOf (λ (p : PortRow). is_some (network_with rows p.network) ≡ true) rows.ports
  pub groups_stand : AllOf (λ (r : RuleRow). list_any (λ (g : GroupRow). ident_eq r.group g.id) rows.groups ≡ true) rows.rules
  pub remotes_stand : AllOf (λ (r : RuleRow). RemoteStands rows r.remote_group) rows.rules
  pub macs : (n : Ident) (mac : ℕ) → AtMostOne (λ (p : PortRow). ident_eq n p.network && (p.mac == mac)) rows.ports
  pub addresses : (n : Ident) (x : Addr) → AtMostOne (λ (p : PortRow). ident_eq n p.network && holds p x) rows.ports
  pub segments : (c : Carrier) → AtMostOne (λ (n : NetworkRow). carried_by rows c n.id) rows.networks
  pub dhcp_ports : (n : Ident) → AtMostOne (is_dhcp_of n) rows.ports
  pub router_ports : AllOf (RouterPortStands rows) rows.ports
  pub floating_addresses : (n : Ident) (x : Addr) → AtMostOne (λ (f : FloatingRow). ident_eq n f.network && addr_eq (V4 f.address) x) rows.floatings
  pub own_ports : AllOf (OwnPortStands rows) rows.floatings

-- each entry at a host is of a tap or router there, by the rows
abbrev pub is_tap_id : RowLists → List ℕ → Ident → PortRow → Bool
is_tap_id rows host i p = ident_eq i p.id && is_tap rows host p

abbrev pub stands_at : RowLists → List ℕ → Entry → Bool
stands_at rows host (Flow port d k) = list_any (is_tap_id rows host port) rows.ports
stands_at rows host (Snat r k o p) = list_any (λ (x : RouterRow). ident_eq r x.id && is_on_host host x) rows.routers

abbrev pub EntriesStand : RowLists → Host → Type 0
EntriesStand rows h = AllOf (λ e. stands_at rows h.name e ≡ true) h.entries

pub record SyncedFacts (rows : RowLists) (hosts : List Host) : Type 0 where
  pub realise : AllOf (λ (h : Host). HostFacts rows h.name h.tables) hosts
  pub stand : AllOf (EntriesStand rows) hosts
  pub names : (name : List ℕ) → AtMostOne (λ (h : Host). bytes_eq name h.name) hosts
  pub complete : AllOf (λ (p : PortRow). is_live rows p ≡ true → is_some (find (λ (h : Host). bytes_eq p.host h.name) hosts) ≡ true) rows.ports

-- Ports that come along with other rows: of routers and of floating addresses.
use Rattle.std.specs.Prelude.{◌≡◌, ◌+◌, ◌≤◌, ◌||◌, not, [], List, true, false, filter, sum_by, count_by}
use Rattle.std.specs.List.{list_all}
use Rattle.std.specs.Str.{bytes_eq}
use Rattle.net_addr.specs.declared.address.Addr.{Addr}
use Rattle.api_types.specs.Ident.{Ident, ident_text}
use Rattle.api_types.specs.Table.{ident_eq}
use Rattle.api_types.specs.RowLists.{RowLists}
use Rattle.api_types.specs.Lists.{Each, is_some_so}
use Rattle.api_types.specs.Owners.{is_port_of}
use Rattle.api_types.specs.Consistent.Numbered.{is_drawn, times_in}
use Rattle.api_types.specs.Consistent.Named.{is_network, names_subnet}
use Rattle.api_types.specs.Consistent.InForm.{is_port_form}
use Rattle.api_types.specs.Consistent.HeldOnce.{has_mac, holds_times}
use Rattle.api_types.specs.Consistent.Hosts.{is_host_in}
use Rattle.api_types.specs.Consistent.Carried.{is_bound}
use Rattle.api_types.specs.Consistent.Disjoint.{reach_alike}
use Rattle.api_types.specs.declared.port.PortRow.{PortRow}
use Rattle.api_types.specs.declared.router.RouterRow.{RouterRow}

-- a new port without port security, whose addresses and MAC address nobody else holds
pub record IsServicePort (rows : RowLists) (p : PortRow) : Type 0 where
  pub fresh : times_in rows p.id ≡ 0
  pub drawn : is_drawn rows.projects p.id ≡ true
  pub network : is_network rows.networks p.network ≡ true
  pub form : is_port_form p ≡ true
  pub mac : count_by (has_mac p.network p.mac) rows.ports ≡ 0
  pub addresses : (x : Addr)
      → sum_by (holds_times p.network x) rows.ports + holds_times p.network x p ≤ 1
  pub subnets : list_all (names_subnet rows.subnets p) p.fixed ≡ true
  pub hosts : list_all (is_host_in rows.subnets p) p.fixed ≡ true
  pub unsecured : p.secured ≡ false
  pub ungrouped : p.groups ≡ []
  pub unpaired : p.pairs ≡ []

-- a port stands at a router: it names it, is bound on its host, and reaches no subnet that
-- overlaps one of another port there
pub record IsPortAt (rows : RowLists) (r : RouterRow) (p : PortRow) : Type 0 where
  pub device : p.device ≡ ident_text r.id
  pub host : not (is_bound p.vif) || is_some_so (bytes_eq p.host) r.host ≡ true
  pub apart : Each (λ q.
      is_port_of r q ≡ true
      → (reach_alike rows.subnets q p ≡ false) × (reach_alike rows.subnets p q ≡ false)) rows.ports

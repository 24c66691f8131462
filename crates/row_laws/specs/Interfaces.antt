-- Interfaces of routers: a new port, a port that is taken over, and a port that goes.
use Rattle.std.specs.Prelude.{◌≡◌, ◌&&◌, Bool, [], List, true, false}
use Rattle.std.specs.List.{list_all, list_any}
use Rattle.net_addr.specs.Prefixes.{contains}
use Rattle.net_addr.specs.declared.address.Addr.TheVariants.{V4}
use Rattle.api_types.specs.Ident.{Ident}
use Rattle.api_types.specs.Table.{ident_eq}
use Rattle.api_types.specs.RowLists.{RowLists}
use Rattle.api_types.specs.Lists.{is_one, is_some_so}
use Rattle.api_types.specs.Owners.{is_dhcp, is_floating, is_gateway, is_interface, is_port_of, holds_in}
use Rattle.api_types.specs.Consistent.Named.{is_registered}
use Rattle.api_types.specs.Consistent.Access.{may_be_there}
use Rattle.api_types.specs.Consistent.NextHops.{is_reached}
use Rattle.api_types.specs.declared.subnet.SubnetRow.{SubnetRow}
use Rattle.api_types.specs.declared.port.PortRow.{PortRow}
use Rattle.api_types.specs.declared.router.RouterRow.{RouterRow}
use Rattle.api_types.specs.declared.floating.FloatingRow.{FloatingRow}
use Rattle.api_types.specs.declared.floating.Target.{Target}
use Rattle.row_laws.specs.ServicePorts.{IsPortAt, IsServicePort}
use Rattle.api_types.specs.RouterWays.{other_ports}

-- a new port with one address, of a project that may use its network
pub record IsNewInterface (rows : RowLists) (r : RouterRow) (p : PortRow) : Type 0 where
  pub service : IsServicePort rows p
  pub at_router : IsPortAt rows r p
  pub owner : is_interface p.owner ≡ true
  pub project : is_registered rows.projects p.project ≡ true
  pub one : is_one p.fixed ≡ true
  pub allowed : may_be_there rows.networks rows.policies p ≡ true

-- a port of no service becomes a router's, and keeps what it is and holds
pub record IsTakenOver (rows : RowLists) (r : RouterRow) (old new : PortRow) : Type 0 where
  pub id : new.id ≡ old.id
  pub network : new.network ≡ old.network
  pub project : new.project ≡ old.project
  pub mac : new.mac ≡ old.mac
  pub fixed : new.fixed ≡ old.fixed
  pub by_admin : new.by_admin ≡ old.by_admin
  pub no_interface : is_interface old.owner ≡ false
  pub no_gateway : is_gateway old.owner ≡ false
  pub no_dhcp : is_dhcp old.owner ≡ false
  pub no_floating : is_floating old.owner ≡ false
  pub owner : is_interface new.owner ≡ true
  pub one : is_one new.fixed ≡ true
  pub unsecured : new.secured ≡ false
  pub ungrouped : new.groups ≡ []
  pub unpaired : new.pairs ≡ []
  pub at_router : IsPortAt rows r new

-- a floating address leads by a router, to an address in a subnet of a port
abbrev pub is_led_through : List SubnetRow → Ident → PortRow → FloatingRow → Bool
is_led_through subnets router p f =
    is_some_so (λ (t : Target).
    ident_eq router t.router
    && list_any (λ s. holds_in s.id p && contains s.prefix (V4 t.fixed)) subnets) f.target

-- a router's interface that no route needs, and that no floating address leads to or through
pub record IsFreeInterface (rows : RowLists) (r : RouterRow) (p : PortRow) : Type 0 where
  pub owner : is_interface p.owner ≡ true
  pub mine : is_port_of r p ≡ true
  pub no_target : list_any (λ f. is_some_so (λ (t : Target). ident_eq p.id t.port) f.target)
      rows.floatings ≡ false
  pub unled : list_any (is_led_through rows.subnets r.id p) rows.floatings ≡ false
  pub reached : list_all (is_reached rows.subnets (other_ports p.id rows.ports) r) r.routes ≡ true

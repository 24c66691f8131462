-- Gateways of routers, which come and go with their ports.
use Rattle.std.specs.Prelude.{◌≡◌, ◌&&◌, ◌++◌, ◌∷◌, [], ℕ, Bool, List, not, true, false, Option, Some, None, filter, slice_set}
use Rattle.std.specs.List.{list_all, list_any}
use Rattle.api_types.specs.Table.{ident_eq}
use Rattle.api_types.specs.RowLists.{RowLists}
use Rattle.api_types.specs.Lists.{Each, is_empty, is_some_so}
use Rattle.api_types.specs.Owners.{is_gateway, is_interface, is_port_of}
use Rattle.api_types.specs.Sharing.{is_external_to}
use Rattle.api_types.specs.Consistent.NextHops.{is_reached}
use Rattle.api_types.specs.declared.port.PortRow.{PortRow}
use Rattle.api_types.specs.declared.router.RouterRow.{RouterRow}
use Rattle.api_types.specs.declared.router.Gateway.{Gateway}
use Rattle.api_types.specs.declared.floating.Target.{Target}
use Rattle.row_laws.specs.ServicePorts.{IsPortAt, IsServicePort}
use Rattle.api_types.specs.RouterWays.{other_ports}

-- the router with its gateway by a port, and without one
abbrev pub led_by : RouterRow → PortRow → Bool → RouterRow
led_by r p snat =
    record r { gateway = Some (record { network = p.network; port = p.id; snat = snat }) }

abbrev pub unled : RouterRow → RouterRow
unled r = record r { gateway = None }

-- the rows with a gateway's port and the router at a place put with that gateway, and without both
abbrev pub with_gateway_on : RowLists → ℕ → RouterRow → PortRow → Bool → RowLists
with_gateway_on rows place r p snat = record rows {
  ports = rows.ports ++ p ∷ [];
  routers = slice_set rows.routers place (led_by r p snat);
}

abbrev pub with_gateway_off : RowLists → ℕ → RouterRow → Gateway → RowLists
with_gateway_off rows place r g = record rows {
  ports = other_ports g.port rows.ports;
  routers = slice_set rows.routers place (unled r);
}

-- a new port, of no project, by which a router without gateway gets one, on a network that is
-- external to the router's project
pub record IsNewGateway (rows : RowLists) (r : RouterRow) (p : PortRow) : Type 0 where
  pub bare : r.gateway ≡ None
  pub service : IsServicePort rows p
  pub at_router : IsPortAt rows r p
  pub owner : is_gateway p.owner ≡ true
  pub nobody : is_empty p.project ≡ true
  pub some_address : not (is_empty p.fixed) ≡ true
  pub external : is_external_to rows.policies p.network r.project ≡ true

-- no floating address leads by the router, and its routes lead by its other ports
pub record IsFreeGateway (rows : RowLists) (r : RouterRow) (g : Gateway) : Type 0 where
  pub gateway : r.gateway ≡ Some g
  pub unled : list_any (λ f. is_some_so (λ (t : Target). ident_eq r.id t.router) f.target)
      rows.floatings ≡ false
  pub reached : list_all (is_reached rows.subnets (other_ports g.port rows.ports) r) r.routes
      ≡ true

-- the rows without a router and its gateway's port, where it has one
abbrev pub ports_without : Option Gateway → List PortRow → List PortRow
ports_without None ports = ports
ports_without (Some g) ports = other_ports g.port ports

abbrev pub without_router : RowLists → RouterRow → RowLists
without_router rows r = record rows {
  ports = ports_without r.gateway rows.ports;
  routers = filter (λ q. not (ident_eq r.id q.id)) rows.routers;
}

-- no port is the router's interface
abbrev pub HasNoInterface : List PortRow → RouterRow → Type 0
HasNoInterface ports r = Each (λ p. is_interface p.owner && is_port_of r p ≡ false) ports

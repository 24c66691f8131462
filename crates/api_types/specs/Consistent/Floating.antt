-- An associated floating address leads to a port of its project, by a router of its project.
use Rattle.std.specs.Prelude.{ℕ, ◌≤◌, ◌==◌, ◌&&◌, Bool, List, count_by}
use Rattle.std.specs.List.{list_any}
use Rattle.std.specs.Str.{bytes_eq}
use Rattle.net_addr.specs.Addresses.{is_four}
use Rattle.api_types.specs.Ident.{Ident}
use Rattle.api_types.specs.Table.{ident_eq}
use Rattle.api_types.specs.Lists.{Pass, stands_so, if_some, is_some_so}
use Rattle.api_types.specs.Owners.{is_interface, device_is, holds_in}
use Rattle.api_types.specs.declared.port.PortRow.{PortRow}
use Rattle.api_types.specs.declared.port.Fixed.{Fixed}
use Rattle.api_types.specs.declared.router.RouterRow.{RouterRow}
use Rattle.api_types.specs.declared.router.Gateway.{Gateway}
use Rattle.api_types.specs.declared.floating.FloatingRow.{FloatingRow}
use Rattle.api_types.specs.declared.floating.Target.{Target}

-- whether a router has an interface on a subnet
abbrev pub has_interface : List PortRow → Ident → Ident → Bool
has_interface ports router subnet =
    list_any (λ q. is_interface q.owner && (device_is q.device router && holds_in subnet q)) ports

-- the port is of the project and holds the fixed address, on a subnet where the router has an
-- interface
abbrev pub is_target_port : List PortRow → FloatingRow → Target → PortRow → Bool
is_target_port ports f t p =
    bytes_eq p.project f.project
    && list_any (λ (x : Fixed). is_four x.address t.fixed && has_interface ports t.router x.subnet)
    p.fixed

-- the router is of the project and has its gateway on the floating address's network
abbrev pub is_target_router : FloatingRow → RouterRow → Bool
is_target_router f r =
    bytes_eq r.project f.project
    && is_some_so (λ (g : Gateway). ident_eq g.network f.network) r.gateway

abbrev pub leads_to : List PortRow → List RouterRow → FloatingRow → Target → Bool
leads_to ports routers f t =
    stands_so (λ p. p.id) t.port (is_target_port ports f t) ports
    && stands_so (λ r. r.id) t.router (is_target_router f) routers

-- whether a floating address of a network stands for a port's address
abbrev pub stands_for : Ident → Ident → ℕ → FloatingRow → Bool
stands_for network port x f =
    ident_eq network f.network
    && is_some_so (λ (t : Target). ident_eq port t.port && (t.fixed == x)) f.target

pub record FloatingsLead (ports : List PortRow) (routers : List RouterRow)
    (floatings : List FloatingRow) : Type 0 where
  pub once : (network port : Ident) (x : ℕ) → count_by (stands_for network port x) floatings ≤ 1
  pub targets : Pass (λ f. if_some (leads_to ports routers f) f.target) floatings

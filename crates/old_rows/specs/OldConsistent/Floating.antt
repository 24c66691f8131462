-- An associated floating address leads to a port of its project, by a router of its project.
use Rattle.std.specs.Prelude.{ℕ, ◌≤◌, ◌==◌, ◌&&◌, Bool, List, count_by}
use Rattle.std.specs.List.{list_any}
use Rattle.std.specs.Str.{bytes_eq}
use Rattle.api_types.specs.Ident.{Ident}
use Rattle.api_types.specs.Table.{ident_eq}
use Rattle.api_types.specs.Lists.{Pass, stands_so, if_some, is_some_so}
use Rattle.api_types.specs.Owners.{is_interface, device_is}
use Rattle.api_types.specs.Consistent.Floating.{stands_for}
use Rattle.api_types.specs.declared.router.Gateway.{Gateway}
use Rattle.api_types.specs.declared.floating.FloatingRow.{FloatingRow}
use Rattle.api_types.specs.declared.floating.Target.{Target}
use Rattle.old_rows.specs.OldConsistent.Disjoint.{holds_in}
use Rattle.old_rows.specs.declared.port.OldPort.{OldPort}
use Rattle.old_rows.specs.declared.port.Fixed4.{Fixed4}
use Rattle.old_rows.specs.declared.router.OldRouter.{OldRouter}

-- whether a router has an interface on a subnet
abbrev pub has_interface : List OldPort → Ident → Ident → Bool
has_interface ports router subnet =
    list_any (λ q. is_interface q.owner && (device_is q.device router && holds_in subnet q)) ports

-- the port is of the project and holds the fixed address, on a subnet where the router has an
-- interface
abbrev pub is_target_port : List OldPort → FloatingRow → Target → OldPort → Bool
is_target_port ports f t p =
    bytes_eq p.project f.project
    && list_any (λ (x : Fixed4). (x.address == t.fixed) && has_interface ports t.router x.subnet)
    p.fixed

-- the router is of the project and has its gateway on the floating address's network
abbrev pub is_target_router : FloatingRow → OldRouter → Bool
is_target_router f r =
    bytes_eq r.project f.project
    && is_some_so (λ (g : Gateway). ident_eq g.network f.network) r.gateway

abbrev pub leads_to : List OldPort → List OldRouter → FloatingRow → Target → Bool
leads_to ports routers f t =
    stands_so (λ p. p.id) t.port (is_target_port ports f t) ports
    && stands_so (λ r. r.id) t.router (is_target_router f) routers

pub record FloatingsLead (ports : List OldPort) (routers : List OldRouter)
    (floatings : List FloatingRow) : Type 0 where
  pub once : (network port : Ident) (x : ℕ) → count_by (stands_for network port x) floatings ≤ 1
  pub targets : Pass (λ f. if_some (leads_to ports routers f) f.target) floatings

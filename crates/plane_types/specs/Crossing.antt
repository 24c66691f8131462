-- A path crosses between networks only at routers that have live ports on both, what is on it is
-- there, and the frame ends on its last network.
use Rattle.std.specs.Prelude.{◌≡◌, Bool, true, false, ◌&&◌, List, [], ◌∷◌, Option, Some, None, is_some, ⊤}
use Rattle.std.specs.List.{list_any}
use Rattle.api_types.specs.Ident.{Ident}
use Rattle.api_types.specs.RowsWith.{port_with, router_with, network_with}
use Rattle.api_types.specs.RowLists.{RowLists}
use Rattle.api_types.specs.Table.{ident_eq}
use Rattle.api_types.specs.declared.port.PortRow.{PortRow}
use Rattle.api_types.specs.declared.router.RouterRow.{RouterRow}
use Rattle.api_types.specs.RouterRows.{is_leg_of}
use Rattle.plane_types.specs.declared.verdict.Outcome.{Outcome}
use Rattle.plane_types.specs.declared.verdict.Outcome.TheVariants.{Absorbed, Answered, Delivered, Dropped, Out}
use Rattle.plane_types.specs.declared.verdict.Verdict.{Verdict as ToldVerdict}

-- the network is there
abbrev pub is_network : RowLists → Ident → Bool
is_network rows n = is_some (network_with rows n)

abbrev pub leg_on : RowLists → RouterRow → Ident → Bool
leg_on rows r n =
    list_any (λ (p : PortRow). is_leg_of rows r p && ident_eq n p.network) rows.ports

abbrev pub joins_networks : RowLists → Ident → Ident → Option RouterRow → Bool
joins_networks rows n m None = false
joins_networks rows n m (Some r) = leg_on rows r n && leg_on rows r m && is_network rows m

-- from a network on
abbrev pub CrossesFrom : RowLists → Ident → List Ident → Type 0
CrossesFrom rows n [] = ⊤
CrossesFrom rows n (r ∷ []) = ⊥
CrossesFrom rows n (r ∷ m ∷ rest) =
    (joins_networks rows n m (router_with rows r) ≡ true) × CrossesFrom rows m rest

abbrev pub last_from : Ident → List Ident → Ident
last_from n [] = n
last_from n (r ∷ []) = n
last_from n (r ∷ m ∷ rest) = last_from m rest

-- the port is there, and on the network
abbrev pub is_on : Ident → Option PortRow → Bool
is_on n None = false
is_on n (Some q) = ident_eq n q.network

-- the router is there, and has a leg on the network
abbrev pub has_leg_on : RowLists → Ident → Option RouterRow → Bool
has_leg_on rows n None = false
has_leg_on rows n (Some r) = leg_on rows r n

-- a packet is delivered to a port on this network, or absorbed by a router that has a leg on it,
-- and a frame that leaves by a wire leaves this network
abbrev pub EndsOn : RowLists → Ident → Outcome → Type 0
EndsOn rows n (Delivered port f) = is_on n (port_with rows port) ≡ true
EndsOn rows n (Answered a) = ⊤
EndsOn rows n (Absorbed r) = has_leg_on rows n (router_with rows r) ≡ true
EndsOn rows n (Out m t f) = ident_eq n m ≡ true
EndsOn rows n (Dropped c) = ⊤

abbrev pub is_dropped : Outcome → Bool
is_dropped (Delivered port f) = false
is_dropped (Answered a) = false
is_dropped (Absorbed r) = false
is_dropped (Out m t f) = false
is_dropped (Dropped c) = true

-- a frame that came to no network is dropped
abbrev pub PathCrosses : RowLists → List Ident → Outcome → Type 0
PathCrosses rows [] o = is_dropped o ≡ true
PathCrosses rows (n ∷ rest) o =
    (is_network rows n ≡ true) × CrossesFrom rows n rest × EndsOn rows (last_from n rest) o

abbrev pub CrossesAtRouters : RowLists → ToldVerdict → Type 0
CrossesAtRouters rows v = PathCrosses rows v.path v.outcome

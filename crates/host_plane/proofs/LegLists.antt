-- Searches among a router's ports as its view has them.
use Rattle.std.proofs.Common.{◌≡◌, List, [], ◌∷◌, Bool, true, false, cond, map, refl, ap}
use Rattle.std.specs.Prelude.{◌||◌, find, not, Some, option_map}
use Rattle.std.specs.List.{list_any}
use Rattle.net_addr.specs.Addresses.{addr_eq}
use Rattle.net_addr.specs.declared.address.Addr.{Addr}
use Rattle.api_types.specs.Ident.{Ident}
use Rattle.api_types.specs.Table.{ident_eq}
use Rattle.api_types.specs.RouterViews.{Leg}
use Rattle.plane_types.specs.TableStep.{leg_at}
use Rattle.plane_types.specs.declared.table.RouterPort.{RouterPort}

any_mapped : {X Y : Type 0} (T : Y → Bool) (f : X → Y) (xs : List X) → list_any T (map f xs) ≡ list_any (λ x. T (f x)) xs
any_mapped T f [] = refl
any_mapped T f (x ∷ xs) = ap (λ b. T (f x) || b) (any_mapped T f xs)

-- the gateway port is live
pub gateway_among : (ps : List RouterPort) → list_any (λ (l : Leg). not l.inside) (map leg_at ps) ≡ list_any (λ (p : RouterPort). not p.inside) ps
gateway_among ps = any_mapped (λ (l : Leg). not l.inside) leg_at ps

-- a port holds the address
pub own_among : (x : Addr) (ps : List RouterPort) → list_any (λ (l : Leg). list_any (λ a. addr_eq a x) l.addresses) (map leg_at ps) ≡ list_any (λ (p : RouterPort). list_any (λ a. addr_eq a x) p.addresses) ps
own_among x ps = any_mapped (λ (l : Leg). list_any (λ a. addr_eq a x) l.addresses) leg_at ps

-- the port with an id
pub leg_among : (i : Ident) (ps : List RouterPort) → find (λ (l : Leg). ident_eq i l.port) (map leg_at ps) ≡ option_map leg_at (find (λ (p : RouterPort). ident_eq i p.port) ps)
leg_among i [] = refl
leg_among i (p ∷ ps) = go (ident_eq i p.port) (leg_among i ps)
  where
    go : (b : Bool) → find (λ (l : Leg). ident_eq i l.port) (map leg_at ps) ≡ option_map leg_at (find (λ (q : RouterPort). ident_eq i q.port) ps) → cond b (Some (leg_at p)) (find (λ (l : Leg). ident_eq i l.port) (map leg_at ps)) ≡ option_map leg_at (cond b (Some p) (find (λ (q : RouterPort). ident_eq i q.port) ps))
    go true rest = refl
    go false rest = rest

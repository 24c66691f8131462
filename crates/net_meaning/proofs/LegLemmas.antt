-- Searches among a router's ports as its view has them.
use Rattle.std.proofs.Common.{◌≡◌, ◌∙◌, List, [], ◌∷◌, Bool, true, false, cond, map, refl, ap}
use Rattle.std.specs.Prelude.{◌||◌, find, not, Some, option_map}
use Rattle.std.specs.List.{list_any}
use Rattle.net_addr.specs.Addresses.{addr_eq}
use Rattle.net_addr.specs.declared.address.Addr.{Addr}
use Rattle.api_types.specs.Ident.{Ident}
use Rattle.api_types.specs.Owners.{is_interface}
use Rattle.api_types.specs.Table.{ident_eq}
use Rattle.api_types.specs.declared.port.Fixed.{Fixed}
use Rattle.api_types.specs.declared.port.PortRow.{PortRow}
use Rattle.api_types.specs.Holders.{holds}
use Rattle.api_types.specs.RouterRows.{leg_of}
use Rattle.api_types.specs.RouterViews.{Leg}

any_mapped : {X Y : Type 0} (T : Y → Bool) (f : X → Y) (xs : List X) → list_any T (map f xs) ≡ list_any (λ x. T (f x)) xs
any_mapped T f [] = refl
any_mapped T f (x ∷ xs) = ap (λ b. T (f x) || b) (any_mapped T f xs)

-- the gateway port is live
pub gateway_among : (ps : List PortRow) → list_any (λ (l : Leg). not l.inside) (map leg_of ps) ≡ list_any (λ (p : PortRow). not (is_interface p.owner)) ps
gateway_among ps = any_mapped (λ (l : Leg). not l.inside) leg_of ps

-- a port holds the address
pub own_among : (x : Addr) (ps : List PortRow) → list_any (λ (l : Leg). list_any (λ a. addr_eq a x) l.addresses) (map leg_of ps) ≡ list_any (λ (p : PortRow). holds p x) ps
own_among x [] = refl
own_among x (p ∷ ps) =
    ap (λ b. b || list_any (λ (l : Leg). list_any (λ a. addr_eq a x) l.addresses) (map leg_of ps)) (any_mapped (λ a. addr_eq a x) (λ (f : Fixed). f.address) p.fixed)
    ∙ ap (λ b. holds p x || b) (own_among x ps)

-- the port with an id
pub leg_among : (i : Ident) (ps : List PortRow) → find (λ (l : Leg). ident_eq i l.port) (map leg_of ps) ≡ option_map leg_of (find (λ (p : PortRow). ident_eq i p.id) ps)
leg_among i [] = refl
leg_among i (p ∷ ps) = go (ident_eq i p.id) (leg_among i ps)
  where
    go : (b : Bool) → find (λ (l : Leg). ident_eq i l.port) (map leg_of ps) ≡ option_map leg_of (find (λ (q : PortRow). ident_eq i q.id) ps) → cond b (Some (leg_of p)) (find (λ (l : Leg). ident_eq i l.port) (map leg_of ps)) ≡ option_map leg_of (cond b (Some p) (find (λ (q : PortRow). ident_eq i q.id) ps))
    go true rest = refl
    go false rest = rest

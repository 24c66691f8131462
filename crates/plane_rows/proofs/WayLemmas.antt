-- Routes by the first port in a subnet.
use Rattle.std.proofs.Common.{◌≡◌, ◌∙◌, ℕ, suc, ◌+◌, ◌<◌, List, ◌∷◌, Bor, length, drop, find, get_or, drop-cons, Bool, true, false, cond, Option, None, Some, map, refl, ap, sym, arith}
use Rattle.std.specs.Prelude.{if◌then◌else◌, option_map}
use Rattle.net_addr.specs.Prefixes.{Prefix}
use Rattle.net_addr.specs.declared.address.Addr.{Addr}
use Rattle.api_types.specs.Ident.{Ident}
use Rattle.api_types.specs.Owners.{holds_in}
use Rattle.api_types.specs.RouterRows.{way_by}
use Rattle.api_types.specs.RouterViews.{Way as TheWay}
use Rattle.api_types.specs.declared.port.PortRow.{PortRow}
use Rattle.api_types.specs.declared.route.RouteRank.{RouteRank}

abbrev pub port_in : Ident → List PortRow → Option Ident
port_in n legs = option_map (λ (p : PortRow). p.id) (find (holds_in n) legs)

abbrev leaving : Prefix → RouteRank → Option Addr → Option Ident → Option TheWay
leaving prefix rank next o = option_map (λ (i : Ident). record { prefix = prefix; rank = rank; next = next; port = i }) o

left_alike : (prefix : Prefix) (rank : RouteRank) (next : Option Addr) (o : Option PortRow) → leaving prefix rank next (option_map (λ (p : PortRow). p.id) o) ≡ option_map (λ (p : PortRow). record { prefix = prefix; rank = rank; next = next; port = p.id }) o
left_alike prefix rank next None = refl
left_alike prefix rank next (Some p) = refl

-- a route by the port that is found
pub left_by : (legs : List PortRow) (n : Ident) (prefix : Prefix) (rank : RouteRank) (next : Option Addr) (o : Option Ident) → o ≡ port_in n legs → leaving prefix rank next o ≡ way_by legs n prefix rank next
left_by legs n prefix rank next o is = ap (leaving prefix rank next) is ∙ left_alike prefix rank next (find (holds_in n) legs)

-- the first port from a place on, by those behind it
pub port_here : (legs : List (Bor PortRow)) (k : ℕ) (p : Bor PortRow) (n : Ident) (found : Option Ident) → k < length legs → p ≡ get_or legs k p
    → found ≡ port_in n (map (λ q. q.now) (drop (k + 1) legs))
    → (if holds_in n p.now then Some p.now.id else found) ≡ port_in n (map (λ q. q.now) (drop k legs))
port_here legs k p n found within is rest =
    let next : k + 1 ≡ suc k = omega arith in
    ap (λ o. if holds_in n p.now then Some p.now.id else o) rest
    ∙ go (holds_in n p.now)
    ∙ (λ j. port_in n (map (λ q. q.now) (is j ∷ drop (next j) legs)))
    ∙ sym (ap (λ ps. port_in n (map (λ q. q.now) ps)) (drop-cons legs k p within))
  where
    left : Option PortRow
    left = find (holds_in n) (map (λ q. q.now) (drop (k + 1) legs))

    go : (b : Bool) → (if b then Some p.now.id else option_map (λ (q : PortRow). q.id) left) ≡ option_map (λ (q : PortRow). q.id) (cond b (Some p.now) left)
    go true = refl
    go false = refl

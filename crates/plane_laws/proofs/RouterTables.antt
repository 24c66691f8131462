-- A router as its host's tables have it is the router of the rows.
use Rattle.std.proofs.Common.{◌≡◌, ℕ, suc, ◌-◌, ◌<◌, List, [], Bool, true, false, not, Option, Some, None, refl, ap, ◌∙◌, arith}
use Rattle.std.specs.Prelude.{find, ◌&&◌, ◌||◌, nat_le, ⊤, if◌then◌else◌}
use Rattle.std.specs.Option.{unwrap_or}
use Rattle.std.proofs.lemmas.Bool.{leb-false}
use Rattle.net_addr.specs.declared.address.Addr.TheVariants.{V4}
use Rattle.net_addr.specs.declared.address.Addr.{Addr}
use Rattle.api_types.specs.Ident.{Ident}
use Rattle.api_types.specs.Table.{ident_eq}
use Rattle.net_addr.specs.Addresses.{addr_eq}
use Rattle.plane_types.specs.Ends.{are_four, destination, source, with_source}
use Rattle.plane_types.specs.Keys.{key_eq}
use Rattle.plane_types.specs.Packets.{Packet, key_of}
use Rattle.plane_types.specs.Routing.{Changed, Destined, RouteEnds, RouteSends, Routed, Sourced, Use, answers, best_way, by_any, by_float, new_destination, destined_entry, destined_float, is_gateway_live, is_own, kept_source, new_port, routing_of, routed_out, routed_to, routed_way, sending_of, new_source, sourced_float, sourced_gateway, sourced_new, sourced_use, uses_by}
use Rattle.api_types.specs.RouterViews.{Float, Leg, RouterView, Way}
use Rattle.plane_types.specs.declared.entry.Entry.{Entry}
use Rattle.plane_types.specs.declared.verdict.DropCause.TheVariants.{Expired, RouterDown}
use Rattle.plane_types.specs.declared.verdict.Outcome.{Outcome}
use Rattle.plane_types.specs.declared.verdict.Outcome.TheVariants.{Absorbed, Answered, Delivered, Dropped, Out}

-- what ends in a router is absorbed by it, or dropped
abbrev pub EndsIn : Ident → Outcome → Type 0
EndsIn r (Delivered q f) = ⊥
EndsIn r (Answered a) = ⊥
EndsIn r (Absorbed s) = r ≡ s
EndsIn r (Out n t f) = ⊥
EndsIn r (Dropped c) = ⊤

-- a router that sends a packet on lowers its time to live
abbrev pub Lower : Ident → ℕ → Routed → Type 0
Lower r n (RouteEnds o) = EndsIn r o
Lower r n (RouteSends made out hop p) = p.ttl < n

abbrev Keeps : ℕ → Option Sourced → Type 0
Keeps n None = ⊤
Keeps n (Some s) = s.packet.ttl ≡ n

module _ (v : RouterView) (uses : List Use) where
  destined-ttl : (p : Packet) → (new_destination v uses p).packet.ttl ≡ p.ttl
  destined-ttl p = go (find (λ (f : Float). addr_eq (V4 f.floating) (destination p.ends)) v.floats)
    where
      by : (o : Option Use) → (destined_entry p o).packet.ttl ≡ p.ttl
      by None = refl
      by (Some u) = refl

      go : (o : Option Float) → (destined_float v uses p o).packet.ttl ≡ p.ttl
      go (Some f) = refl
      go None = by (find (answers v.gateway p) uses)

  sourced-ttl : (way_in out : Leg) (by : Changed) (p : Packet) → Keeps p.ttl (new_source v uses way_in out by p)
  sourced-ttl way_in out by p = start (are_four p.ends && way_in.inside && (not out.inside || by_any by))
    where
      fresh : (outer : ℕ) (o : Option ℕ) → Keeps p.ttl (sourced_new v.id p outer o)
      fresh outer None = tt
      fresh outer (Some x) = refl

      by_use : (outer : ℕ) (o : Option Use) → Keeps p.ttl (sourced_use v.id uses p outer o)
      by_use outer (Some u) = refl
      by_use outer None = fresh outer (new_port uses (key_of p))

      gateway : (o : Option ℕ) → Keeps p.ttl (sourced_gateway v uses p o)
      gateway None = refl
      gateway (Some outer) = by_use outer (find (λ (u : Use). key_eq u.key (key_of p)) uses)

      float : (o : Option Float) (b : Bool) → Keeps p.ttl (elim o [ Some f ↦ Some (record { packet = record p { ends = with_source p.ends f.floating }; made = [] }) | None ↦ (if b then sourced_gateway v uses p v.gateway else kept_source p) ])
      float (Some f) b = refl
      float None true = gateway v.gateway
      float None false = refl

      start : (b : Bool) → Keeps p.ttl (if b then sourced_float v uses out by p (find (λ (f : Float). addr_eq (V4 f.fixed) (source p.ends)) v.floats) else kept_source p)
      start false = refl
      start true = floated (find (λ (f : Float). addr_eq (V4 f.fixed) (source p.ends)) v.floats)
        where
          floated : (o : Option Float) → Keeps p.ttl (sourced_float v uses out by p o)
          floated (Some f) = refl
          floated None = float None ((not out.inside || by_float by) && v.snat && is_gateway_live v)

  sent-ttl : (out : Leg) (hop : Addr) (n m : ℕ) (o : Option Sourced) → n < m → Keeps n o → Lower v.id m (sending_of out hop o)
  sent-ttl out hop n m None lt k = tt
  sent-ttl out hop n m (Some s) lt k = omega arith

  to-ttl : (way_in : Leg) (d : Destined) (n : ℕ) → d.packet.ttl ≡ n → Lower v.id n (routed_to v uses way_in d)
  to-ttl way_in d n e = go (is_own v (destination d.packet.ends)) (nat_le d.packet.ttl 1) refl
    where
      p : Packet
      p = record (d.packet) { ttl = d.packet.ttl - 1 }

      out : (hop : Addr) (o : Option Leg) → 0 < d.packet.ttl → Lower v.id n (routed_out v uses way_in d.by (record (d.packet) { ttl = d.packet.ttl - 1 }) hop o)
      out hop None lt = tt
      out hop (Some l) lt = sent-ttl l hop (d.packet.ttl - 1) n (new_source v uses way_in l d.by (record (d.packet) { ttl = d.packet.ttl - 1 })) (omega arith) (sourced-ttl way_in l d.by (record (d.packet) { ttl = d.packet.ttl - 1 }))

      way : (o : Option Way) → 0 < d.packet.ttl → Lower v.id n (routed_way v uses way_in d.by (record (d.packet) { ttl = d.packet.ttl - 1 }) o)
      way None lt = tt
      way (Some w) lt = out (unwrap_or w.next (destination d.packet.ends)) (find (λ (l : Leg). ident_eq w.port l.port) v.legs) lt

      go : (own low : Bool) → nat_le d.packet.ttl 1 ≡ low → Lower v.id n (if own then RouteEnds (Absorbed v.id) else if low then RouteEnds (Dropped Expired) else routed_way v uses way_in d.by (record (d.packet) { ttl = d.packet.ttl - 1 }) (best_way (destination d.packet.ends) v.ways))
      go true low f = refl
      go false true f = tt
      go false false f = let above : 1 < d.packet.ttl = leb-false d.packet.ttl 1 f in way (best_way (destination d.packet.ends) v.ways) (omega arith)

pub routed-lower : (v : RouterView) (entries : List Entry) (way_in : Leg) (p : Packet) → Lower v.id p.ttl (routing_of v entries way_in p)
unfolding routing_of
routed-lower v entries way_in p = go (not v.up)
  where
    go : (b : Bool) → Lower v.id p.ttl (if b then RouteEnds (Dropped RouterDown) else routed_to v (uses_by v.snat v.gateway v.id entries) way_in (new_destination v (uses_by v.snat v.gateway v.id entries) p))
    go true = tt
    go false = to-ttl v (uses_by v.snat v.gateway v.id entries) way_in (new_destination v (uses_by v.snat v.gateway v.id entries) p) p.ttl (destined-ttl v (uses_by v.snat v.gateway v.id entries) p)

-- a router sends on what has a step to live behind it, with one step less
abbrev pub Lives : ℕ → Routed → Type 0
Lives n (RouteEnds o) = ⊤
Lives n (RouteSends made out hop p) = (suc p.ttl ≡ n) × (0 < p.ttl)

module _ (v : RouterView) (uses : List Use) where
  sent-lives : (out : Leg) (hop : Addr) (n m : ℕ) (o : Option Sourced) → suc n ≡ m → 0 < n → Keeps n o → Lives m (sending_of out hop o)
  sent-lives out hop n m None e more k = tt
  sent-lives out hop n m (Some s) e more k = (ap suc k ∙ e, omega (arith, more, k))

  to-lives : (way_in : Leg) (d : Destined) (n : ℕ) → d.packet.ttl ≡ n → Lives n (routed_to v uses way_in d)
  to-lives way_in d n e = go (is_own v (destination d.packet.ends)) (nat_le d.packet.ttl 1) refl
    where
      out : (hop : Addr) (o : Option Leg) → 1 < d.packet.ttl → Lives n (routed_out v uses way_in d.by (record (d.packet) { ttl = d.packet.ttl - 1 }) hop o)
      out hop None lt = tt
      out hop (Some l) lt = sent-lives l hop (d.packet.ttl - 1) n (new_source v uses way_in l d.by (record (d.packet) { ttl = d.packet.ttl - 1 })) (omega (arith, lt, e)) (omega (arith, lt)) (sourced-ttl v uses way_in l d.by (record (d.packet) { ttl = d.packet.ttl - 1 }))

      way : (o : Option Way) → 1 < d.packet.ttl → Lives n (routed_way v uses way_in d.by (record (d.packet) { ttl = d.packet.ttl - 1 }) o)
      way None lt = tt
      way (Some w) lt = out (unwrap_or w.next (destination d.packet.ends)) (find (λ (l : Leg). ident_eq w.port l.port) v.legs) lt

      go : (own low : Bool) → nat_le d.packet.ttl 1 ≡ low → Lives n (if own then RouteEnds (Absorbed v.id) else if low then RouteEnds (Dropped Expired) else routed_way v uses way_in d.by (record (d.packet) { ttl = d.packet.ttl - 1 }) (best_way (destination d.packet.ends) v.ways))
      go true low f = tt
      go false true f = tt
      go false false f = way (best_way (destination d.packet.ends) v.ways) (leb-false d.packet.ttl 1 f)

pub routed-lives : (v : RouterView) (entries : List Entry) (way_in : Leg) (p : Packet) → Lives p.ttl (routing_of v entries way_in p)
unfolding routing_of
routed-lives v entries way_in p = go (not v.up)
  where
    go : (b : Bool) → Lives p.ttl (if b then RouteEnds (Dropped RouterDown) else routed_to v (uses_by v.snat v.gateway v.id entries) way_in (new_destination v (uses_by v.snat v.gateway v.id entries) p))
    go true = tt
    go false = to-lives v (uses_by v.snat v.gateway v.id entries) way_in (new_destination v (uses_by v.snat v.gateway v.id entries) p) p.ttl (destined-ttl v (uses_by v.snat v.gateway v.id entries) p)

-- entries are asked for the router's valid uses alone
pub routed-same : (v : RouterView) (a b : List Entry) (way_in : Leg) (p : Packet) → uses_by v.snat v.gateway v.id a ≡ uses_by v.snat v.gateway v.id b → routing_of v a way_in p ≡ routing_of v b way_in p
unfolding routing_of
routed-same v a b way_in p e = ap (λ us. if not v.up then RouteEnds (Dropped RouterDown) else routed_to v us way_in (new_destination v us p)) e

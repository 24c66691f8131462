-- A router that doesn't translate a packet takes no entries where it ends the packet or sends it out by an interface.
use Rattle.api_types.proofs.ListLemmas.{or_none}
use Rattle.api_types.proofs.NameLemmas.{and_fails}
use Rattle.api_types.specs.RouterViews.{Float, Leg, RouterView, Way}
use Rattle.api_types.specs.Table.{ident_eq}
use Rattle.dvr_types.specs.Near.{ends_in_router, is_for_outer_address, is_gateway_address}
use Rattle.net_addr.specs.Addresses.{addr_eq}
use Rattle.net_addr.specs.declared.address.Addr.{Addr}
use Rattle.net_addr.specs.declared.address.Addr.TheVariants.{V4}
use Rattle.plane_laws.proofs.ListLemmas.{find-some}
use Rattle.plane_types.specs.Ends.{are_four, destination, source}
use Rattle.plane_types.specs.Keys.{answer_key, kind_eq}
use Rattle.plane_types.specs.Packets.{Packet, key_of, packet}
use Rattle.plane_types.specs.Routing.{ByNothing, RouteEnds, RouteSends, Routed, Sourced, Use, answers, best_way, destined_entry, destined_float, is_own, kept_source, new_destination, new_source, routed_out, routed_to, routed_way, routing_of, sending_of, sourced_float, uses_by}
use Rattle.plane_types.specs.declared.entry.Entry.{Entry}
use Rattle.plane_types.specs.declared.verdict.DropCause.TheVariants.{Expired, NoRoute, RouterDown, Unknown}
use Rattle.plane_types.specs.declared.verdict.Outcome.TheVariants.{Absorbed, Dropped}
use Rattle.std.proofs.Common.{Bool, List, None, Option, Some, [], ap, cond, false, not, refl, subst, sym, true, ℕ, ◌-◌, ◌∙◌, ◌∷◌, ◌≡◌}
use Rattle.std.specs.List.{list_any}
use Rattle.std.specs.Option.{unwrap_or}
use Rattle.std.specs.Prelude.{find, if◌then◌else◌, is_some, nat_le, ⊤, ◌&&◌, ◌==◌, ◌||◌}

-- how a routed packet stays near, by a test of the leg by which it goes out
abbrev pub stays : (Leg → Bool) → Routed → Bool
stays g (RouteEnds o) = ends_in_router o
stays g (RouteSends made out hop p) = g out

abbrev pub NoneMade : Routed → Type 0
NoneMade (RouteEnds o) = ⊤
NoneMade (RouteSends made out hop p) = made ≡ []

-- two stay near alike, and are then the same, with no entry
abbrev pub Same : (Leg → Bool) → Routed → Routed → Type 0
Same g x y = (stays g x ≡ stays g y) × (stays g x ≡ true → (x ≡ y) × NoneMade x)

none-of : {X : Type 0} (o : Option X) → is_some o ≡ false → o ≡ None
none-of None e = refl
none-of (Some x) e = cc

no-answer : (o : Option ℕ) (p : Packet) → is_gateway_address o (destination p.ends) ≡ false → (us : List Use) → find (answers o p) us ≡ None
no-answer o p e [] = refl
no-answer None p e (u ∷ us) = no-answer None p e us
no-answer (Some outer) p e (u ∷ us) =
    ap (λ b. cond (b && kind_eq u.key.kind (answer_key (key_of p)).kind && (u.port == (key_of p).dport) && addr_eq (destination u.key.ends) (source p.ends) && (u.key.dport == (key_of p).sport)) (Some u) (find (answers (Some outer) p) us)) e
    ∙ no-answer (Some outer) p e us

pub destined-plain : (v : RouterView) (us : List Use) (p : Packet) → is_for_outer_address v p ≡ false → new_destination v us p ≡ record { packet = p; by = ByNothing }
destined-plain v us p e =
    let both = or_none (list_any (λ (f : Float). addr_eq (V4 f.floating) (destination p.ends)) v.floats) (is_gateway_address v.gateway (destination p.ends)) e in
    ap (destined_float v us p) (none-of (find (λ (f : Float). addr_eq (V4 f.floating) (destination p.ends)) v.floats) (find-some (λ (f : Float). addr_eq (V4 f.floating) (destination p.ends)) v.floats ∙ both.0))
    ∙ ap (destined_entry p) (no-answer v.gateway p both.1 us)

module _ (v : RouterView) (g : Leg → Bool) (inside : (l : Leg) → g l ≡ true → l.inside ≡ true) (way_in : Leg) where
  pub kept : (us : List Use) (out : Leg) (p : Packet) → out.inside ≡ true → new_source v us way_in out ByNothing p ≡ kept_source p
  kept us out p e =
      ap (λ b. if are_four p.ends && way_in.inside && (not b || false) then sourced_float v us out ByNothing p (find (λ (f : Float). addr_eq (V4 f.fixed) (source p.ends)) v.floats) else kept_source p) e
      ∙ ap (λ b. if b then sourced_float v us out ByNothing p (find (λ (f : Float). addr_eq (V4 f.fixed) (source p.ends)) v.floats) else kept_source p) (and_fails (are_four p.ends && way_in.inside) false refl)

  leaves : (out : Leg) (hop : Addr) → g out ≡ false → (o : Option Sourced) → stays g (sending_of out hop o) ≡ false
  leaves out hop e None = refl
  leaves out hop e (Some s) = e

  out-same : (us vs : List Use) (out : Leg) (hop : Addr) (p : Packet) → Same g (sending_of out hop (new_source v us way_in out ByNothing p)) (sending_of out hop (new_source v vs way_in out ByNothing p))
  out-same us vs out hop p = by (out.inside) refl
    where
      by : (b : Bool) → out.inside ≡ b → Same g (sending_of out hop (new_source v us way_in out ByNothing p)) (sending_of out hop (new_source v vs way_in out ByNothing p))
      by true e =
          let x : sending_of out hop (new_source v us way_in out ByNothing p) ≡ sending_of out hop (kept_source p) = ap (sending_of out hop) (kept us out p e) in
          let y : sending_of out hop (new_source v vs way_in out ByNothing p) ≡ sending_of out hop (kept_source p) = ap (sending_of out hop) (kept vs out p e) in
          (ap (stays g) (x ∙ sym y), λ t. (x ∙ sym y, subst NoneMade (sym x) refl))
      by false e =
          let far : g out ≡ false = outside (g out) refl in
          let x = leaves out hop far (new_source v us way_in out ByNothing p) in
          let y = leaves out hop far (new_source v vs way_in out ByNothing p) in
          (x ∙ sym y, λ t. absurd (never (sym t ∙ x)))
        where
          never : true ≡ false → ⊥
          never k = cc

          outside : (c : Bool) → g out ≡ c → c ≡ false
          outside false k = refl
          outside true k = let bad : true ≡ false = sym (inside out k) ∙ e in cc

  same-itself : (x : Routed) → NoneMade x → Same g x x
  same-itself x m = (refl, λ t. (refl, m))

  to-same : (us vs : List Use) (p : Packet) → Same g (routed_to v us way_in (record { packet = p; by = ByNothing })) (routed_to v vs way_in (record { packet = p; by = ByNothing }))
  to-same us vs p = go (is_own v (destination p.ends)) (nat_le p.ttl 1)
    where
      q : Packet
      q = record p { ttl = p.ttl - 1 }

      out : (hop : Addr) (o : Option Leg) → Same g (routed_out v us way_in ByNothing (record p { ttl = p.ttl - 1 }) hop o) (routed_out v vs way_in ByNothing (record p { ttl = p.ttl - 1 }) hop o)
      out hop None = same-itself (RouteEnds (Dropped Unknown)) tt
      out hop (Some l) = out-same us vs l hop (record p { ttl = p.ttl - 1 })

      way : (o : Option Way) → Same g (routed_way v us way_in ByNothing (record p { ttl = p.ttl - 1 }) o) (routed_way v vs way_in ByNothing (record p { ttl = p.ttl - 1 }) o)
      way None = same-itself (RouteEnds (Dropped NoRoute)) tt
      way (Some w) = out (unwrap_or w.next (destination p.ends)) (find (λ (l : Leg). ident_eq w.port l.port) v.legs)

      go : (own low : Bool) → Same g (if own then RouteEnds (Absorbed v.id) else if low then RouteEnds (Dropped Expired) else routed_way v us way_in ByNothing (record p { ttl = p.ttl - 1 }) (best_way (destination p.ends) v.ways)) (if own then RouteEnds (Absorbed v.id) else if low then RouteEnds (Dropped Expired) else routed_way v vs way_in ByNothing (record p { ttl = p.ttl - 1 }) (best_way (destination p.ends) v.ways))
      go true low = same-itself (RouteEnds (Absorbed v.id)) tt
      go false true = same-itself (RouteEnds (Dropped Expired)) tt
      go false false = way (best_way (destination p.ends) v.ways)

  pub near-routed : (es fs : List Entry) (p : Packet) → is_for_outer_address v p ≡ false → Same g (routing_of v es way_in p) (routing_of v fs way_in p)
  unfolding routing_of
  near-routed es fs p e = go (not v.up)
    where
      us : List Use
      us = uses_by v.snat v.gateway v.id es

      vs : List Use
      vs = uses_by v.snat v.gateway v.id fs

      rest : Same g (routed_to v (uses_by v.snat v.gateway v.id es) way_in (new_destination v (uses_by v.snat v.gateway v.id es) p)) (routed_to v (uses_by v.snat v.gateway v.id fs) way_in (new_destination v (uses_by v.snat v.gateway v.id fs) p))
      rest =
          subst (λ d. Same g (routed_to v (uses_by v.snat v.gateway v.id es) way_in d) (routed_to v (uses_by v.snat v.gateway v.id fs) way_in (new_destination v (uses_by v.snat v.gateway v.id fs) p))) (sym (destined-plain v (uses_by v.snat v.gateway v.id es) p e))
          (subst (λ d. Same g (routed_to v (uses_by v.snat v.gateway v.id es) way_in (record { packet = p; by = ByNothing })) (routed_to v (uses_by v.snat v.gateway v.id fs) way_in d)) (sym (destined-plain v (uses_by v.snat v.gateway v.id fs) p e))
          (to-same (uses_by v.snat v.gateway v.id es) (uses_by v.snat v.gateway v.id fs) p))

      go : (b : Bool) → Same g (if b then RouteEnds (Dropped RouterDown) else routed_to v (uses_by v.snat v.gateway v.id es) way_in (new_destination v (uses_by v.snat v.gateway v.id es) p)) (if b then RouteEnds (Dropped RouterDown) else routed_to v (uses_by v.snat v.gateway v.id fs) way_in (new_destination v (uses_by v.snat v.gateway v.id fs) p))
      go true = same-itself (RouteEnds (Dropped RouterDown)) tt
      go false = rest

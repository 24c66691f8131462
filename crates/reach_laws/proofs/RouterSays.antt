-- What a router's answer says of where a packet goes, whatever entries there are, and when entries change nothing.
use Rattle.std.proofs.Common.{◌≡◌, ℕ, ◌-◌, List, [], ◌∷◌, Bool, true, false, not, Option, Some, None, refl, ap, sym, subst, ◌∙◌}
use Rattle.std.specs.Prelude.{find, option_map, ◌&&◌, ◌||◌, nat_le, if◌then◌else◌, ⊤}
use Rattle.std.specs.Option.{unwrap_or}
use Rattle.std.proofs.lemmas.Bool.{and_parts}
use Rattle.net_addr.specs.Addresses.{addr_eq}
use Rattle.net_addr.specs.declared.address.Addr.{Addr}
use Rattle.net_addr.specs.declared.address.Addr.TheVariants.{V4}
use Rattle.api_types.specs.Ident.{Ident}
use Rattle.api_types.specs.RouterViews.{Float, Leg, RouterView, Way}
use Rattle.api_types.specs.Table.{ident_eq}
use Rattle.plane_types.specs.Ends.{Ends, Ends4, Ends6, are_four, destination, source, with_destination, with_source}
use Rattle.plane_types.specs.Keys.{key_eq, key_of_part}
use Rattle.plane_types.specs.Packets.{Packet, key_of, part_from}
use Rattle.plane_types.specs.Routing.{Changed, Destined, RouteEnds, RouteSends, Routed, Sourced, Use, answers, best_way, by_any, by_float, new_destination, destined_entry, destined_float, has_choice, is_gateway_live, is_own, is_taken, kept_source, least_untaken, new_port, routing_of, routed_out, routed_to, routed_way, sending_of, new_source, sourced_float, sourced_gateway, sourced_new, sourced_use, uses_by}
use Rattle.plane_types.specs.declared.entry.Entry.{Entry}
use Rattle.plane_types.specs.declared.entry.Entry.TheVariants.{Flow, Snat}
use Rattle.plane_types.specs.declared.frame.Key.{Key}
use Rattle.plane_types.specs.declared.frame.KeyPart.{KeyPart}
use Rattle.plane_types.specs.declared.frame.KeyPart.TheVariants.{EchoAsk, EchoReply, Proto, Tcp, Udp}
use Rattle.plane_types.specs.declared.verdict.DropCause.TheVariants.{Expired, RouterDown}
use Rattle.plane_types.specs.declared.verdict.Outcome.TheVariants.{Absorbed, Dropped}
use Rattle.reach_laws.proofs.Walk.{aim, aim_by, exit, moved, way_leg}
use Rattle.reach_laws.specs.Reach.{is_delivered}

dest-source : (e : Ends) (n : ℕ) → destination (with_source e n) ≡ destination e
dest-source (Ends4 a b) n = refl
dest-source (Ends6 a b) n = refl

dest-moved : (e : Ends) (n : ℕ) → destination (with_destination e n) ≡ moved (destination e) n
dest-moved (Ends4 a b) n = refl
dest-moved (Ends6 a b) n = refl

-- a part with its own source port is itself
pub keeps : (part : KeyPart) (ends : Ends) → part_from part (key_of_part part ends).sport ≡ part
keeps (Tcp s d) ends = refl
keeps (Udp s d) ends = refl
keeps (EchoAsk i) ends = refl
keeps (EchoReply i) ends = refl
keeps (Proto n) ends = refl

pub new-alone : (k : Key) → new_port [] k ≡ Some k.sport
unfolding new_port
new-alone k = refl

new-free : (uses : List Use) (k : Key) → is_taken uses k k.sport ≡ false → new_port uses k ≡ Some k.sport
unfolding new_port
new-free uses k h = ap (λ b. if b then (if has_choice k.kind then least_untaken uses k 64512 1024 else None) else Some k.sport) h

-- a router that sees no entries
abbrev pub routed_alone : RouterView → Leg → Packet → Routed
routed_alone v way_in p = if not v.up then RouteEnds (Dropped RouterDown) else routed_to v [] way_in (new_destination v [] p)

module _ (v : RouterView) where
  pub aimed : (p : Packet) → destination (new_destination v [] p).packet.ends ≡ aim v (destination p.ends)
  aimed p = go (find (λ (f : Float). addr_eq (V4 f.floating) (destination p.ends)) v.floats)
    where
      go : (o : Option Float) → destination (destined_float v [] p o).packet.ends ≡ aim_by (destination p.ends) o
      go None = refl
      go (Some f) = dest-moved p.ends f.fixed

  pub aimed-part : (p : Packet) → (new_destination v [] p).packet.part ≡ p.part
  aimed-part p = go (find (λ (f : Float). addr_eq (V4 f.floating) (destination p.ends)) v.floats)
    where
      go : (o : Option Float) → (destined_float v [] p o).packet.part ≡ p.part
      go None = refl
      go (Some f) = refl

  pub destined-same : (uses : List Use) (p : Packet) → (find (λ (f : Float). addr_eq (V4 f.floating) (destination p.ends)) v.floats ≡ None → find (answers v.gateway p) uses ≡ None) → new_destination v uses p ≡ new_destination v [] p
  destined-same uses p h = go (find (λ (f : Float). addr_eq (V4 f.floating) (destination p.ends)) v.floats) refl
    where
      go : (o : Option Float) → find (λ (f : Float). addr_eq (V4 f.floating) (destination p.ends)) v.floats ≡ o → destined_float v uses p o ≡ destined_float v [] p o
      go None e = ap (destined_entry p) (h e)
      go (Some f) e = refl

  module _ (uses : List Use) where
    -- what is made: nothing, or a translation of this key by a router whose gateway port is live
    abbrev pub Made : Key → List Entry → Type 0
    Made key [] = ⊤
    Made key (Flow a b c ∷ es) = ⊥
    Made key (Snat i k o port ∷ e ∷ es) = ⊥
    Made key (Snat i k o port ∷ []) = (i ≡ v.id) × (k ≡ key) × (is_gateway_live v ≡ true) × (uses ≡ [] → port ≡ key.sport)

    abbrev SaysSourced : Packet → Option Sourced → Type 0
    SaysSourced p None = ⊤
    SaysSourced p (Some s) = (destination s.packet.ends ≡ destination p.ends) × (uses ≡ [] → s.packet.part ≡ p.part) × Made (key_of p) s.made

    sourced-says : (way_in out : Leg) (by : Changed) (p : Packet) → SaysSourced p (new_source v uses way_in out by p)
    sourced-says way_in out by p = start (are_four p.ends && way_in.inside && (not out.inside || by_any by))
      where
        kept : SaysSourced p (kept_source p)
        kept = (refl, λ none. refl, tt)

        fresh : is_gateway_live v ≡ true → (outer : ℕ) (o : Option ℕ) → new_port uses (key_of p) ≡ o → SaysSourced p (sourced_new v.id p outer o)
        fresh live outer None e = tt
        fresh live outer (Some port) e = (dest-source p.ends outer, (λ none. ap (part_from p.part) (same none) ∙ keeps p.part p.ends), (refl, refl, live, same))
          where
            same : uses ≡ [] → port ≡ (key_of p).sport
            same none = let z : Some port ≡ Some (key_of p).sport = sym e ∙ ap (λ us. new_port us (key_of p)) none ∙ new-alone (key_of p) in cc

        by_use : is_gateway_live v ≡ true → (outer : ℕ) (o : Option Use) → find (λ (u : Use). key_eq u.key (key_of p)) uses ≡ o → SaysSourced p (sourced_use v.id uses p outer o)
        by_use live outer (Some u) e = (dest-source p.ends outer, (λ none. let z : None ≡ Some u = sym (ap (find (λ (u : Use). key_eq u.key (key_of p))) none) ∙ e in cc), tt)
        by_use live outer None e = fresh live outer (new_port uses (key_of p)) refl

        gateway : is_gateway_live v ≡ true → (o : Option ℕ) → SaysSourced p (sourced_gateway v uses p o)
        gateway live None = kept
        gateway live (Some outer) = by_use live outer (find (λ (u : Use). key_eq u.key (key_of p)) uses) refl

        float : (b : Bool) → ((not out.inside || by_float by) && v.snat && is_gateway_live v) ≡ b → SaysSourced p (if b then sourced_gateway v uses p v.gateway else kept_source p)
        float true e = gateway (and_parts ((not out.inside || by_float by) && v.snat) (is_gateway_live v) e).1 v.gateway
        float false e = kept

        floated : (o : Option Float) → SaysSourced p (sourced_float v uses out by p o)
        floated (Some f) = (dest-source p.ends f.floating, (λ none. refl), tt)
        floated None = float ((not out.inside || by_float by) && v.snat && is_gateway_live v) refl

        start : (b : Bool) → SaysSourced p (if b then sourced_float v uses out by p (find (λ (f : Float). addr_eq (V4 f.fixed) (source p.ends)) v.floats) else kept_source p)
        start false = kept
        start true = floated (find (λ (f : Float). addr_eq (V4 f.fixed) (source p.ends)) v.floats)

    -- a packet that ends in a router is delivered to nobody; one that leaves does so by the way of its destination
    abbrev pub Says : Packet → Routed → Type 0
    Says p (RouteEnds o) = (j : Ident) → is_delivered j o ≡ false
    Says p (RouteSends made out hop x) = (destination x.ends ≡ destination p.ends) × (exit v (destination p.ends) ≡ Some (out, hop)) × (uses ≡ [] → x.part ≡ p.part) × Made (key_of p) made

    to-says : v.up ≡ true → (way_in : Leg) (d : Destined) → Says d.packet (routed_to v uses way_in d)
    to-says up way_in d = go (is_own v y) (nat_le d.packet.ttl 1) refl
      where
        y : Addr
        y = destination d.packet.ends

        send : (l : Leg) (hop : Addr) → exit v y ≡ Some (l, hop) → (o : Option Sourced) → SaysSourced (record (d.packet) { ttl = d.packet.ttl - 1 }) o → Says d.packet (sending_of l hop o)
        send l hop e None s = λ j. refl
        send l hop e (Some x) s = (s.0, e, s.1, s.2)

        out : is_own v y ≡ false → (w : Way) → best_way y v.ways ≡ Some w → (o : Option Leg) → find (λ (l : Leg). ident_eq w.port l.port) v.legs ≡ o → Says d.packet (routed_out v uses way_in d.by (record (d.packet) { ttl = d.packet.ttl - 1 }) (unwrap_or w.next y) o)
        out own w best None f = λ j. refl
        out own w best (Some l) f = send l (unwrap_or w.next y) there (new_source v uses way_in l d.by (record (d.packet) { ttl = d.packet.ttl - 1 })) (sourced-says way_in l d.by (record (d.packet) { ttl = d.packet.ttl - 1 }))
          where
            there : exit v y ≡ Some (l, unwrap_or w.next y)
            there =
                ap (λ b. if not b then None else if is_own v y then None else way_leg v y (best_way y v.ways)) up
                ∙ ap (λ b. if b then None else way_leg v y (best_way y v.ways)) own
                ∙ ap (way_leg v y) best
                ∙ ap (option_map (λ (l : Leg). (l, unwrap_or w.next y))) f

        way : is_own v y ≡ false → (o : Option Way) → best_way y v.ways ≡ o → Says d.packet (routed_way v uses way_in d.by (record (d.packet) { ttl = d.packet.ttl - 1 }) o)
        way own None best = λ j. refl
        way own (Some w) best = out own w best (find (λ (l : Leg). ident_eq w.port l.port) v.legs) refl

        go : (own low : Bool) → is_own v y ≡ own → Says d.packet (if own then RouteEnds (Absorbed v.id) else if low then RouteEnds (Dropped Expired) else routed_way v uses way_in d.by (record (d.packet) { ttl = d.packet.ttl - 1 }) (best_way y v.ways))
        go true low e = λ j. refl
        go false true e = λ j. refl
        go false false e = way e (best_way y v.ways) refl

    whole-says : (way_in : Leg) (p : Packet) (d : Destined) → new_destination v uses p ≡ d → Says d.packet (if not v.up then RouteEnds (Dropped RouterDown) else routed_to v uses way_in (new_destination v uses p))
    whole-says way_in p d same = go v.up refl
      where
        go : (b : Bool) → v.up ≡ b → Says d.packet (if not b then RouteEnds (Dropped RouterDown) else routed_to v uses way_in (new_destination v uses p))
        go true up = subst (λ x. Says d.packet (routed_to v uses way_in x)) (sym same) (to-says up way_in d)
        go false up = λ j. refl

  pub routed-says : (entries : List Entry) (way_in : Leg) (p : Packet) → new_destination v (uses_by v.snat v.gateway v.id entries) p ≡ new_destination v [] p → Says (uses_by v.snat v.gateway v.id entries) (new_destination v [] p).packet (routing_of v entries way_in p)
  unfolding routing_of
  routed-says entries way_in p same = whole-says (uses_by v.snat v.gateway v.id entries) way_in p (new_destination v [] p) same

  pub alone-says : (way_in : Leg) (p : Packet) → Says [] (new_destination v [] p).packet (routed_alone v way_in p)
  alone-says way_in p = whole-says [] way_in p (new_destination v [] p) refl

  -- where no entry answers, and none is in the way, entries change nothing
  module _ (uses : List Use) (p : Packet) (none : find (λ (u : Use). key_eq u.key (key_of p)) uses ≡ None) (free : is_taken uses (key_of p) (key_of p).sport ≡ false) where
    sourced-same : (way_in out : Leg) (by : Changed) → new_source v uses way_in out by p ≡ new_source v [] way_in out by p
    sourced-same way_in out by = start (are_four p.ends && way_in.inside && (not out.inside || by_any by))
      where
        gateway : (o : Option ℕ) → sourced_gateway v uses p o ≡ sourced_gateway v [] p o
        gateway None = refl
        gateway (Some outer) = ap (sourced_use v.id uses p outer) none ∙ ap (sourced_new v.id p outer) (new-free uses (key_of p) free ∙ sym (new-alone (key_of p)))

        float : (b : Bool) → (if b then sourced_gateway v uses p v.gateway else kept_source p) ≡ (if b then sourced_gateway v [] p v.gateway else kept_source p)
        float true = gateway v.gateway
        float false = refl

        floated : (o : Option Float) → sourced_float v uses out by p o ≡ sourced_float v [] out by p o
        floated (Some f) = refl
        floated None = float ((not out.inside || by_float by) && v.snat && is_gateway_live v)

        start : (b : Bool) → (if b then sourced_float v uses out by p (find (λ (f : Float). addr_eq (V4 f.fixed) (source p.ends)) v.floats) else kept_source p) ≡ (if b then sourced_float v [] out by p (find (λ (f : Float). addr_eq (V4 f.fixed) (source p.ends)) v.floats) else kept_source p)
        start false = refl
        start true = floated (find (λ (f : Float). addr_eq (V4 f.fixed) (source p.ends)) v.floats)

  to-same : (uses : List Use) (way_in : Leg) (d : Destined) → find (λ (u : Use). key_eq u.key (key_of d.packet)) uses ≡ None → is_taken uses (key_of d.packet) (key_of d.packet).sport ≡ false → routed_to v uses way_in d ≡ routed_to v [] way_in d
  to-same uses way_in d none free = go (is_own v (destination d.packet.ends)) (nat_le d.packet.ttl 1)
    where
      lower : Packet
      lower = record (d.packet) { ttl = d.packet.ttl - 1 }

      out : (hop : Addr) (o : Option Leg) → routed_out v uses way_in d.by lower hop o ≡ routed_out v [] way_in d.by lower hop o
      out hop None = refl
      out hop (Some l) = ap (sending_of l hop) (sourced-same uses lower none free way_in l d.by)

      way : (o : Option Way) → routed_way v uses way_in d.by lower o ≡ routed_way v [] way_in d.by lower o
      way None = refl
      way (Some w) = out (unwrap_or w.next (destination d.packet.ends)) (find (λ (l : Leg). ident_eq w.port l.port) v.legs)

      go : (own low : Bool) → (if own then RouteEnds (Absorbed v.id) else if low then RouteEnds (Dropped Expired) else routed_way v uses way_in d.by lower (best_way (destination d.packet.ends) v.ways)) ≡ (if own then RouteEnds (Absorbed v.id) else if low then RouteEnds (Dropped Expired) else routed_way v [] way_in d.by lower (best_way (destination d.packet.ends) v.ways))
      go true low = refl
      go false true = refl
      go false false = way (best_way (destination d.packet.ends) v.ways)

  pub routed-same : (entries : List Entry) (way_in : Leg) (p : Packet)
      → new_destination v (uses_by v.snat v.gateway v.id entries) p ≡ new_destination v [] p
      → find (λ (u : Use). key_eq u.key (key_of (new_destination v [] p).packet)) (uses_by v.snat v.gateway v.id entries) ≡ None
      → is_taken (uses_by v.snat v.gateway v.id entries) (key_of (new_destination v [] p).packet) (key_of (new_destination v [] p).packet).sport ≡ false
      → routing_of v entries way_in p ≡ routed_alone v way_in p
  unfolding routing_of
  routed-same entries way_in p same none free =
      ap (λ d. if not v.up then RouteEnds (Dropped RouterDown) else routed_to v (uses_by v.snat v.gateway v.id entries) way_in d) same
      ∙ ap (λ x. if not v.up then RouteEnds (Dropped RouterDown) else x) (to-same (uses_by v.snat v.gateway v.id entries) way_in (new_destination v [] p) none free)

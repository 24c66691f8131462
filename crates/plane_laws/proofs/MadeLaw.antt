-- What a look-up makes: at most one entry, of a tap or router of the tables, and no translation that another one can be taken for.
use Rattle.std.proofs.Common.{◌≡◌, ℕ, zero, suc, ◌+◌, ◌-◌, ◌≤◌, List, [], ◌∷◌, Bool, true, false, not, Option, Some, None, refl, ap, sym, subst, ◌∙◌, arith}
use Rattle.std.specs.Prelude.{length, find, ◌&&◌, ◌||◌, ◌==◌, if◌then◌else◌, ⊤, is_some, nat_le}
use Rattle.std.specs.List.{list_any}
use Rattle.std.specs.Option.{unwrap_or}
use Rattle.std.proofs.lemmas.Bool.{and_parts}
use Rattle.api_types.proofs.NameLemmas.{ident_itself}
use Rattle.plane_laws.proofs.ListLemmas.{find-some, list_any-found}
use Rattle.net_addr.specs.declared.address.Addr.TheVariants.{V4}
use Rattle.net_addr.specs.declared.address.Addr.{Addr}
use Rattle.api_types.specs.Ident.{Ident}
use Rattle.api_types.specs.Table.{ident_eq}
use Rattle.api_types.specs.declared.group.Direction.{Direction}
use Rattle.api_types.specs.declared.group.Direction.TheVariants.{Egress, Ingress}
use Rattle.net_addr.specs.Addresses.{addr_eq}
use Rattle.plane_types.specs.Ends.{are_four, destination, source}
use Rattle.plane_types.specs.Entries.{has_flow, opposite}
use Rattle.plane_types.specs.Keys.{key_eq, kind_eq, answer_key}
use Rattle.plane_types.specs.Packets.{Packet, is_unsupported, key_of, packet}
use Rattle.plane_types.specs.Passage.{Passage, new_flow, passage}
use Rattle.plane_types.specs.Attached.{is_attached, meets, translates}
use Rattle.plane_types.specs.Places.{Bridge, DhcpIn, Next, Place, RouterIn, TapIn, TapOut, TunnelIn, WireIn}
use Rattle.plane_types.specs.Routing.{Changed, Destined, RouteEnds, RouteSends, Routed, Sourced, Use, best_way, by_any, by_float, new_destination, has_choice, is_gateway_live, is_own, is_taken, kept_source, least_untaken, new_port, routing_of, routed_out, routed_to, routed_way, sending_of, new_source, sourced_float, sourced_gateway, sourced_new, sourced_use, uses_at, uses_by}
use Rattle.api_types.specs.RouterViews.{Float, Leg, RouterView, Way}
use Rattle.plane_types.specs.TableStep.{Stepped, drops, leg_at, plain, router_at, router_by_leg, router_by_row, stops, table_routed, table_step, table_view, tables_allow, tagged_leg, tap_at, tap_guards, tap_in, tap_out, tap_passage, tap_sends}
use Rattle.plane_types.specs.declared.entry.Entry.{Entry}
use Rattle.plane_types.specs.declared.entry.Entry.TheVariants.{Flow, Snat}
use Rattle.plane_types.specs.declared.frame.Frame.{Frame}
use Rattle.plane_types.specs.declared.frame.Frame.TheVariants.{Dhcp, Ip, NeighbourAsk, Other}
use Rattle.plane_types.specs.declared.frame.Key.{Key}
use Rattle.plane_types.specs.declared.table.RouterPort.{RouterPort}
use Rattle.plane_types.specs.declared.table.RouterTable.{RouterTable}
use Rattle.plane_types.specs.declared.table.TapRow.{TapRow}
use Rattle.plane_types.specs.declared.lists.TableLists.{TableLists}
use Rattle.plane_types.specs.declared.verdict.DropCause.TheVariants.{Egress as EgressFilter, Expired, Ingress as IngressFilter, RouterDown, Spoof, Unsupported}
use Rattle.plane_types.specs.declared.verdict.Outcome.TheVariants.{Absorbed, Delivered, Dropped}

-- a router's new translation, by the uses that are valid
abbrev pub Gives : RouterView → List Use → List Entry → Type 0
Gives v uses [] = ⊤
Gives v uses (Flow p d k ∷ es) = ⊥
Gives v uses (Snat r k o p ∷ e ∷ es) = ⊥
Gives v uses (Snat r k o p ∷ []) = (r ≡ v.id) × (v.gateway ≡ Some o) × (v.snat ≡ true) × (is_taken uses k p ≡ false) × (find (λ (u : Use). key_eq u.key k) uses ≡ None)

abbrev GivesSourced : RouterView → List Use → Option Sourced → Type 0
GivesSourced v uses None = ⊤
GivesSourced v uses (Some s) = Gives v uses s.made

abbrev pub GivesRouted : RouterView → List Use → Routed → Type 0
GivesRouted v uses (RouteEnds o) = ⊤
GivesRouted v uses (RouteSends made out hop p) = Gives v uses made

least-free : (uses : List Use) (k : Key) (many first port : ℕ) → least_untaken uses k many first ≡ Some port → is_taken uses k port ≡ false
unfolding least_untaken
least-free uses k zero first port h = cc
least-free uses k (suc many) first port h = go (is_taken uses k first) refl h (least-free uses k many (first + 1) port)
  where
    go : (b : Bool) → is_taken uses k first ≡ b → (if b then least_untaken uses k many (first + 1) else Some first) ≡ Some port → (least_untaken uses k many (first + 1) ≡ Some port → is_taken uses k port ≡ false) → is_taken uses k port ≡ false
    go true e h rest = rest h
    go false e h rest = let same : first ≡ port = cc in subst (λ n. is_taken uses k n ≡ false) same e

-- a new outer port is free
new-free : (uses : List Use) (k : Key) (port : ℕ) → new_port uses k ≡ Some port → is_taken uses k port ≡ false
unfolding new_port
new-free uses k port h = go (is_taken uses k k.sport) (has_choice k.kind) refl h
  where
    go : (b c : Bool) → is_taken uses k k.sport ≡ b → (if b then (if c then least_untaken uses k 64512 1024 else None) else Some k.sport) ≡ Some port → is_taken uses k port ≡ false
    go false c e h = let same : k.sport ≡ port = cc in subst (λ n. is_taken uses k n ≡ false) same e
    go true true e h = least-free uses k 64512 1024 port h
    go true false e h = cc

module _ (v : RouterView) (uses : List Use) where
  sourced-gives : (way_in out : Leg) (by : Changed) (p : Packet) → GivesSourced v uses (new_source v uses way_in out by p)
  sourced-gives way_in out by p = start (are_four p.ends && way_in.inside && (not out.inside || by_any by))
    where
      fresh : (outer : ℕ) → v.gateway ≡ Some outer → v.snat ≡ true → find (λ (u : Use). key_eq u.key (key_of p)) uses ≡ None → (o : Option ℕ) → new_port uses (key_of p) ≡ o → GivesSourced v uses (sourced_new v.id p outer o)
      fresh outer g s none None e = tt
      fresh outer g s none (Some x) e = (refl, g, s, new-free uses (key_of p) x e, none)

      by_use : (outer : ℕ) → v.gateway ≡ Some outer → v.snat ≡ true → (o : Option Use) → find (λ (u : Use). key_eq u.key (key_of p)) uses ≡ o → GivesSourced v uses (sourced_use v.id uses p outer o)
      by_use outer g s (Some u) e = tt
      by_use outer g s None e = fresh outer g s e (new_port uses (key_of p)) refl

      gateway : v.snat ≡ true → (o : Option ℕ) → v.gateway ≡ o → GivesSourced v uses (sourced_gateway v uses p o)
      gateway s None g = tt
      gateway s (Some outer) g = by_use outer g s (find (λ (u : Use). key_eq u.key (key_of p)) uses) refl

      float : (b : Bool) → ((not out.inside || by_float by) && v.snat && is_gateway_live v) ≡ b → GivesSourced v uses (if b then sourced_gateway v uses p v.gateway else kept_source p)
      float true e = gateway (and_parts (not out.inside || by_float by) v.snat (and_parts ((not out.inside || by_float by) && v.snat) (is_gateway_live v) e).0).1 v.gateway refl
      float false e = tt

      floated : (o : Option Float) → GivesSourced v uses (sourced_float v uses out by p o)
      floated (Some f) = tt
      floated None = float ((not out.inside || by_float by) && v.snat && is_gateway_live v) refl

      start : (b : Bool) → GivesSourced v uses (if b then sourced_float v uses out by p (find (λ (f : Float). addr_eq (V4 f.fixed) (source p.ends)) v.floats) else kept_source p)
      start false = tt
      start true = floated (find (λ (f : Float). addr_eq (V4 f.fixed) (source p.ends)) v.floats)

  sent-gives : (out : Leg) (hop : Addr) (o : Option Sourced) → GivesSourced v uses o → GivesRouted v uses (sending_of out hop o)
  sent-gives out hop None g = tt
  sent-gives out hop (Some s) g = g

  to-gives : (way_in : Leg) (d : Destined) → GivesRouted v uses (routed_to v uses way_in d)
  to-gives way_in d = go (is_own v (destination d.packet.ends)) (nat_le d.packet.ttl 1)
    where
      out : (hop : Addr) (o : Option Leg) → GivesRouted v uses (routed_out v uses way_in d.by (record (d.packet) { ttl = d.packet.ttl - 1 }) hop o)
      out hop None = tt
      out hop (Some l) = sent-gives l hop (new_source v uses way_in l d.by (record (d.packet) { ttl = d.packet.ttl - 1 })) (sourced-gives way_in l d.by (record (d.packet) { ttl = d.packet.ttl - 1 }))

      way : (o : Option Way) → GivesRouted v uses (routed_way v uses way_in d.by (record (d.packet) { ttl = d.packet.ttl - 1 }) o)
      way None = tt
      way (Some w) = out (unwrap_or w.next (destination d.packet.ends)) (find (λ (l : Leg). ident_eq w.port l.port) v.legs)

      go : (own low : Bool) → GivesRouted v uses (if own then RouteEnds (Absorbed v.id) else if low then RouteEnds (Dropped Expired) else routed_way v uses way_in d.by (record (d.packet) { ttl = d.packet.ttl - 1 }) (best_way (destination d.packet.ends) v.ways))
      go true low = tt
      go false true = tt
      go false false = way (best_way (destination d.packet.ends) v.ways)

pub routed-gives : (v : RouterView) (entries : List Entry) (way_in : Leg) (p : Packet) → GivesRouted v (uses_by v.snat v.gateway v.id entries) (routing_of v entries way_in p)
unfolding routing_of
routed-gives v entries way_in p = go (not v.up)
  where
    go : (b : Bool) → GivesRouted v (uses_by v.snat v.gateway v.id entries) (if b then RouteEnds (Dropped RouterDown) else routed_to v (uses_by v.snat v.gateway v.id entries) way_in (new_destination v (uses_by v.snat v.gateway v.id entries) p))
    go true = tt
    go false = to-gives v (uses_by v.snat v.gateway v.id entries) way_in (new_destination v (uses_by v.snat v.gateway v.id entries) p)

-- among entries: what no valid use says, no translation of the router from that address says
any-if : {X : Type 0} (f : X → Bool) (b : Bool) (x : X) (xs : List X) → list_any f (if b then x ∷ xs else xs) ≡ ((b && f x) || list_any f xs)
any-if f true x xs = refl
any-if f false x xs = refl

taken-is : (r : Ident) (o : ℕ) (k : Key) (port : ℕ) (es : List Entry) → is_taken (uses_at r o es) k port ≡ list_any (meets r k.kind o port (destination k.ends) k.dport) es
taken-is r o k port [] = refl
taken-is r o k port (Flow p d q ∷ es) = taken-is r o k port es
taken-is r o k port (Snat s q x p ∷ es) =
    any-if (λ (u : Use). (u.port == port) && kind_eq u.key.kind k.kind && addr_eq (destination u.key.ends) (destination k.ends) && (u.key.dport == k.dport)) (ident_eq r s && (o == x)) (record { key = q; port = p }) (uses_at r o es)
    ∙ ap (λ b. (ident_eq r s && (o == x) && ((p == port) && kind_eq q.kind k.kind && addr_eq (destination q.ends) (destination k.ends) && (q.dport == k.dport))) || b) (taken-is r o k port es)

used-is : (r : Ident) (o : ℕ) (k : Key) (es : List Entry) → list_any (λ (u : Use). key_eq u.key k) (uses_at r o es) ≡ list_any (translates r k o) es
used-is r o k [] = refl
used-is r o k (Flow p d q ∷ es) = used-is r o k es
used-is r o k (Snat s q x p ∷ es) =
    any-if (λ (u : Use). key_eq u.key k) (ident_eq r s && (o == x)) (record { key = q; port = p }) (uses_at r o es)
    ∙ ap (λ b. (ident_eq r s && (o == x) && key_eq q k) || b) (used-is r o k es)

-- a new entry can be taken for none of these
abbrev pub IsApart : List Entry → Entry → Type 0
IsApart entries (Flow p d k) = ⊤
IsApart entries (Snat r k o p) = (list_any (meets r k.kind o p (destination k.ends) k.dport) entries ≡ false) × (list_any (translates r k o) entries ≡ false)

abbrev pub Admits : TableLists → List Entry → List Entry → Type 0
Admits t entries [] = ⊤
Admits t entries (e ∷ []) = (is_attached t e ≡ true) × IsApart entries e
Admits t entries (e ∷ f ∷ es) = ⊥

unused : (uses : List Use) (k : Key) → find (λ (u : Use). key_eq u.key k) uses ≡ None → list_any (λ (u : Use). key_eq u.key k) uses ≡ false
unused uses k h = sym (find-some (λ (u : Use). key_eq u.key k) uses) ∙ ap is_some h

gives-admits : (t : TableLists) (v : RouterView) (entries made : List Entry) → list_any (λ (r : RouterTable). ident_eq v.id r.router) t.routers ≡ true → Gives v (uses_by v.snat v.gateway v.id entries) made → Admits t entries made
gives-admits t v entries [] there g = tt
gives-admits t v entries (Flow p d k ∷ es) there g = absurd g
gives-admits t v entries (Snat r k o p ∷ e ∷ es) there g = absurd g
gives-admits t v entries (Snat r k o p ∷ []) there g =
    let uses : uses_by v.snat v.gateway v.id entries ≡ uses_at r o entries = (λ j. uses_by (g.2 j) (g.1 j) (sym (g.0) j) entries) in (
      subst (λ i. list_any (λ (x : RouterTable). ident_eq i x.router) t.routers ≡ true) (sym g.0) there,
      (
        sym (taken-is r o k p entries) ∙ ap (λ us. is_taken us k p) (sym uses) ∙ g.3,
        sym (used-is r o k entries) ∙ ap (λ us. list_any (λ (u : Use). key_eq u.key k) us) (sym uses) ∙ unused (uses_by v.snat v.gateway v.id entries) k g.4,
      ),
    )

abbrev of_passage : Passage → List Entry
of_passage y = y.made

abbrev pub of_step : Stepped → List Entry
of_step s = s.made

module _ (t : TableLists) (entries : List Entry) where
  passage-admits : (secured : Bool) (allows : Direction → Key → Bool) (port : Ident) (d : Direction) (k : Key) → list_any (λ (r : TapRow). ident_eq port r.port) t.taps ≡ true → Admits t entries (passage secured allows entries port d k).made
  passage-admits secured allows port d k there = go secured (allows d k)
    where
      by : (b : Bool) → Admits t entries (if b then [] else Flow port d k ∷ [])
      by true = tt
      by false = (there, tt)

      go : (s a : Bool) → Admits t entries (of_passage (if not s then record { passes = true; made = [] } else if a then record { passes = true; made = new_flow entries port d k } else record { passes = has_flow entries port (opposite d) (answer_key k) && allows (opposite d) (answer_key k); made = [] }))
      go false a = tt
      go true true = by (has_flow entries port d k)
      go true false = tt

  tap-there : (port : Ident) (tap : TapRow) → tap_at t port ≡ Some tap → list_any (λ (r : TapRow). ident_eq tap.port r.port) t.taps ≡ true
  tap-there port tap e = list_any-found (λ (r : TapRow). ident_eq port r.port) (λ (r : TapRow). ident_eq tap.port r.port) t.taps tap e (ident_itself tap.port)

  router-there : (router : Ident) (r : RouterTable) → router_at t router ≡ Some r → list_any (λ (x : RouterTable). ident_eq r.router x.router) t.routers ≡ true
  router-there router r e = list_any-found (λ (x : RouterTable). ident_eq router x.router) (λ (x : RouterTable). ident_eq r.router x.router) t.routers r e (ident_itself r.router)

  tap-in-admits : (port : Ident) (frame : Frame) (o : Option TapRow) → tap_at t port ≡ o → Admits t entries (tap_in t entries frame o).made
  tap-in-admits port frame None e = tt
  tap-in-admits port frame (Some tap) e = go (is_unsupported frame) (not (not tap.secured || tap_guards tap frame))
    where
      filtered : (f : Frame) (y : Passage) → Admits t entries y.made → (b : Bool) → Admits t entries (of_step (if b then record { step = Next (Bridge tap.tag f); made = y.made } else plain (drops EgressFilter)))
      filtered f y a true = a
      filtered f y a false = tt

      sends : (f : Frame) → Admits t entries (tap_sends t entries tap f).made
      sends (Ip src dst ends ttl part) =
          let y = tap_passage t entries tap Egress (packet src dst ends ttl part) in
          filtered (Ip src dst ends ttl part) y (passage-admits tap.secured (tables_allow t tap.port) tap.port Egress (key_of (packet src dst ends ttl part)) (tap-there port tap e)) y.passes
      sends (NeighbourAsk src ends) = tt
      sends (Dhcp src from) = tt
      sends (Other src dst ethertype) = tt

      go : (u g : Bool) → Admits t entries (of_step (if u then plain (drops Unsupported) else if g then plain (drops Spoof) else tap_sends t entries tap frame))
      go true g = tt
      go false true = tt
      go false false = sends frame

  tap-out-admits : (port : Ident) (frame : Frame) (o : Option TapRow) → tap_at t port ≡ o → Admits t entries (tap_out t entries frame o).made
  tap-out-admits port frame None e = tt
  tap-out-admits port (Ip src dst ends ttl part) (Some tap) e =
      go (tap_passage t entries tap Ingress (packet src dst ends ttl part)) (passage-admits tap.secured (tables_allow t tap.port) tap.port Ingress (key_of (packet src dst ends ttl part)) (tap-there port tap e)) (tap_passage t entries tap Ingress (packet src dst ends ttl part)).passes
    where
      go : (y : Passage) → Admits t entries y.made → (b : Bool) → Admits t entries (of_step (if b then record { step = stops (Delivered tap.port (Ip src dst ends ttl part)); made = y.made } else plain (drops IngressFilter)))
      go y a true = a
      go y a false = tt
  tap-out-admits port (NeighbourAsk src ends) (Some tap) e = tt
  tap-out-admits port (Dhcp src from) (Some tap) e = tt
  tap-out-admits port (Other src dst ethertype) (Some tap) e = tt

  router-admits : (port router : Ident) (p : Packet) (o : Option RouterTable) → router_at t router ≡ o → Admits t entries (router_by_row t entries port p o).made
  router-admits port router p None e = tt
  router-admits port router p (Some r) e = leg (tagged_leg r port)
    where
      by : (x : Routed) → GivesRouted (table_view t r) (uses_by r.snat r.gateway r.router entries) x → Admits t entries (table_routed t r x).made
      by (RouteEnds o) g = tt
      by (RouteSends made out hop p2) g = gives-admits t (table_view t r) entries made (router-there router r e) g

      leg : (o : Option RouterPort) → Admits t entries (router_by_leg t entries r p o).made
      leg None = tt
      leg (Some x) = by (routing_of (table_view t r) entries (leg_at x) p) (routed-gives (table_view t r) entries (leg_at x) p)

  pub step-admits : (place : Place) → Admits t entries (table_step t entries place).made
  step-admits (TapIn port frame) = tap-in-admits port frame (tap_at t port) refl
  step-admits (Bridge tag frame) = tt
  step-admits (TunnelIn number frame) = tt
  step-admits (WireIn wire frame) = tt
  step-admits (RouterIn port router (Ip src dst ends ttl part)) = router-admits port router (packet src dst ends ttl part) (router_at t router) refl
  step-admits (RouterIn port router (NeighbourAsk src ends)) = tt
  step-admits (RouterIn port router (Dhcp src from)) = tt
  step-admits (RouterIn port router (Other src dst ethertype)) = tt
  step-admits (DhcpIn tag frame) = tt
  step-admits (TapOut port frame) = tap-out-admits port frame (tap_at t port) refl

-- at most one entry
pub gives-one : (v : RouterView) (uses : List Use) (made : List Entry) → Gives v uses made → length made ≤ 1
gives-one v uses [] g = omega arith
gives-one v uses (Flow p d k ∷ es) g = absurd g
gives-one v uses (Snat r k o p ∷ e ∷ es) g = absurd g
gives-one v uses (Snat r k o p ∷ []) g = omega arith

pub admits-one : (t : TableLists) (entries made : List Entry) → Admits t entries made → length made ≤ 1
admits-one t entries [] a = omega arith
admits-one t entries (e ∷ []) a = omega arith
admits-one t entries (e ∷ f ∷ es) a = absurd a

pub passage-one : (secured : Bool) (allows : Direction → Key → Bool) (entries : List Entry) (port : Ident) (d : Direction) (k : Key) → length (passage secured allows entries port d k).made ≤ 1
passage-one secured allows entries port d k = go secured (allows d k)
  where
    by : (b : Bool) → length (if b then [] else Flow port d k ∷ []) ≤ 1
    by true = omega arith
    by false = omega arith

    go : (s a : Bool) → length (of_passage (if not s then record { passes = true; made = [] } else if a then record { passes = true; made = new_flow entries port d k } else record { passes = has_flow entries port (opposite d) (answer_key k) && allows (opposite d) (answer_key k); made = [] })) ≤ 1
    go false a = omega arith
    go true true = by (has_flow entries port d k)
    go true false = omega arith

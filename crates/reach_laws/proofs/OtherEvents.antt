-- Events of two protocols that no rule tells apart are delivered to the same port, or both to none.
use Rattle.std.proofs.Common.{◌≡◌, ℕ, zero, suc, List, [], ◌∷◌, ◌++◌, map, Bool, true, false, not, Option, Some, None, refl, ap, sym, ◌∙◌}
use Rattle.std.specs.Prelude.{option_map, ◌&&◌, ◌||◌, ◌==◌, if◌then◌else◌}
use Rattle.net_addr.specs.Addresses.{addr_eq}
use Rattle.net_addr.specs.declared.address.Addr.{Addr}
use Rattle.api_types.specs.Consistent.Groups.{is_direction}
use Rattle.api_types.specs.Holders.{port_at, router_of}
use Rattle.api_types.specs.Ident.{Ident}
use Rattle.api_types.specs.Live.{joined_with, segment}
use Rattle.api_types.specs.Owners.{is_router_port}
use Rattle.api_types.specs.RouterRows.{leg_of, router_view}
use Rattle.api_types.specs.RowLists.{RowLists}
use Rattle.api_types.specs.Table.{ident_eq, row_of}
use Rattle.api_types.specs.Wires.{wire_of}
use Rattle.api_types.specs.declared.group.Direction.{Direction}
use Rattle.api_types.specs.declared.group.Direction.TheVariants.{Egress, Ingress}
use Rattle.api_types.specs.declared.port.PortRow.{PortRow}
use Rattle.api_types.specs.declared.router.RouterRow.{RouterRow}
use Rattle.api_types.specs.declared.wire.Wire.{Wire}
use Rattle.plane_types.specs.Ends.{Ends, destination, ends_of, source, turned_round}
use Rattle.plane_types.specs.Entries.{has_flow, opposite}
use Rattle.plane_types.specs.Filter.{rules_allow}
use Rattle.plane_types.specs.Guard.{passes_guard}
use Rattle.plane_types.specs.Keys.{key_of_part, kind_eq, answer_key}
use Rattle.plane_types.specs.Meaning.{Trace, at_router, delivered_by, drop_fate, from_port, from_sender, port_fate, after_router, may_begin, none_so_far, out_or, at_receiver, rows_fate, sent_out, sent_to}
use Rattle.plane_types.specs.Packets.{Packet, ip_frame, is_for_many, packet}
use Rattle.plane_types.specs.Passage.{Passage, new_flow, passage}
use Rattle.plane_types.specs.Routing.{RouteEnds, RouteSends, Routed, routing_of}
use Rattle.plane_types.specs.declared.entry.Entry.{Entry}
use Rattle.plane_types.specs.declared.entry.Entry.TheVariants.{Flow, Snat}
use Rattle.plane_types.specs.declared.event.Event.TheVariants.{FromPort}
use Rattle.plane_types.specs.declared.frame.Frame.{Frame}
use Rattle.plane_types.specs.declared.frame.Frame.TheVariants.{Ip}
use Rattle.plane_types.specs.declared.frame.Key.{Key}
use Rattle.plane_types.specs.declared.frame.KeyKind.TheVariants.{Proto as ProtoKey}
use Rattle.plane_types.specs.declared.frame.KeyPart.TheVariants.{Proto}
use Rattle.plane_types.specs.declared.verdict.DropCause.{DropCause}
use Rattle.plane_types.specs.declared.verdict.DropCause.TheVariants.{Dead, Spoof, Unknown, Unsupported}
use Rattle.plane_types.specs.declared.verdict.Toward.{Toward}
use Rattle.plane_types.specs.declared.verdict.Toward.TheVariants.{Mac as TowardMac}
use Rattle.reach_laws.proofs.Follow.{OwnGateways, lands, lost}
use Rattle.reach_laws.proofs.Others.{re_entry, re_routed, routed-re, self}
use Rattle.reach_laws.proofs.Lists.{and-false}
use Rattle.reach_laws.proofs.Parts.{with_part}
use Rattle.reach_laws.proofs.RowsFound.{IsRow, landing-row, port-row}
use Rattle.reach_laws.proofs.Walk.{landing}
use Rattle.reach_laws.specs.FirstEvent.{first_mac, first_packet}
use Rattle.reach_laws.specs.Reach.{comes, event_comes, is_delivered}

map-append : {X Y : Type 0} (f : X → Y) (xs ys : List X) → map f (xs ++ ys) ≡ map f xs ++ map f ys
map-append f [] ys = refl
map-append f (x ∷ xs) ys = ap (λ zs. f x ∷ zs) (map-append f xs ys)

delivered-is : (j : Ident) (x : PortRow) (p : Packet) (t : Trace) (y : Passage) → is_delivered j (delivered_by x p t y).outcome ≡ (y.passes && ident_eq j x.id)
delivered-is j x p t y = go y.passes
  where
    go : (b : Bool) → is_delivered j (delivered_by x p t (record { passes = b; made = y.made })).outcome ≡ (b && ident_eq j x.id)
    go true = refl
    go false = refl

abbrev passes_of : Passage → Bool
passes_of y = y.passes

passes-is : (secured : Bool) (allows : Direction → Key → Bool) (es : List Entry) (i : Ident) (dir : Direction) (k : Key)
    → (passage secured allows es i dir k).passes ≡ (not secured || (allows dir k || (has_flow es i (opposite dir) (answer_key k) && allows (opposite dir) (answer_key k))))
passes-is secured allows es i dir k = go secured (allows dir k)
  where
    go : (b c : Bool) → passes_of (if not b then record { passes = true; made = [] } else if c then record { passes = true; made = new_flow es i dir k } else record { passes = has_flow es i (opposite dir) (answer_key k) && allows (opposite dir) (answer_key k); made = [] })
        ≡ (not b || (c || (has_flow es i (opposite dir) (answer_key k) && allows (opposite dir) (answer_key k))))
    go false c = refl
    go true true = refl
    go true false = refl

module _ (n m : ℕ) where
  flow-re : (port : Ident) (dir : Direction) (ends : Ends) (es : List Entry) → has_flow (map (re_entry m) es) port dir (key_of_part (Proto m) ends) ≡ has_flow (map (re_entry n) es) port dir (key_of_part (Proto n) ends)
  flow-re port dir ends [] = refl
  flow-re port dir ends (Snat i k o p ∷ es) = flow-re port dir ends es
  flow-re port dir ends (Flow a b c ∷ es) =
      ap (λ x. (ident_eq port a && is_direction dir b && (x && addr_eq (source ends) (source c.ends) && (0 == c.sport) && addr_eq (destination ends) (destination c.ends) && (0 == c.dport))) || has_flow (map (re_entry m) es) port dir (key_of_part (Proto m) ends)) (self m n)
      ∙ ap (λ y. (ident_eq port a && is_direction dir b && (kind_eq (ProtoKey n) (ProtoKey n) && addr_eq (source ends) (source c.ends) && (0 == c.sport) && addr_eq (destination ends) (destination c.ends) && (0 == c.dport))) || y) (flow-re port dir ends es)

module _ (rows : RowLists) (good : OwnGateways rows) (j : Ident) (n m : ℕ)
    (alike : (x : PortRow) (dir : Direction) (ends : Ends) → IsRow rows x → ident_eq j x.id ≡ true → rules_allow rows x dir (key_of_part (Proto m) ends) ≡ rules_allow rows x dir (key_of_part (Proto n) ends)) where
  received-re : (x : PortRow) → IsRow rows x → (p : Packet) (es : List Entry) (t u : Trace) → t.fresh ≡ map (re_entry m) es → u.fresh ≡ map (re_entry n) es
      → is_delivered j (at_receiver rows [] x (with_part (Proto m) p) t).outcome ≡ is_delivered j (at_receiver rows [] x (with_part (Proto n) p) u).outcome
  received-re x row p es t u a b = go (ident_eq j x.id) refl
    where
      one : is_delivered j (at_receiver rows [] x (with_part (Proto m) p) t).outcome ≡ ((passage x.secured (rules_allow rows x) t.fresh x.id Ingress (key_of_part (Proto m) p.ends)).passes && ident_eq j x.id)
      one = delivered-is j x (with_part (Proto m) p) t (passage x.secured (rules_allow rows x) t.fresh x.id Ingress (key_of_part (Proto m) p.ends))

      two : is_delivered j (at_receiver rows [] x (with_part (Proto n) p) u).outcome ≡ ((passage x.secured (rules_allow rows x) u.fresh x.id Ingress (key_of_part (Proto n) p.ends)).passes && ident_eq j x.id)
      two = delivered-is j x (with_part (Proto n) p) u (passage x.secured (rules_allow rows x) u.fresh x.id Ingress (key_of_part (Proto n) p.ends))

      go : (c : Bool) → ident_eq j x.id ≡ c → is_delivered j (at_receiver rows [] x (with_part (Proto m) p) t).outcome ≡ is_delivered j (at_receiver rows [] x (with_part (Proto n) p) u).outcome
      go false e =
          one ∙ ap (λ c. (passage x.secured (rules_allow rows x) t.fresh x.id Ingress (key_of_part (Proto m) p.ends)).passes && c) e ∙ and-false (passage x.secured (rules_allow rows x) t.fresh x.id Ingress (key_of_part (Proto m) p.ends)).passes
          ∙ sym (two ∙ ap (λ c. (passage x.secured (rules_allow rows x) u.fresh x.id Ingress (key_of_part (Proto n) p.ends)).passes && c) e ∙ and-false (passage x.secured (rules_allow rows x) u.fresh x.id Ingress (key_of_part (Proto n) p.ends)).passes)
      go true e =
          one
          ∙ ap (λ c. c && ident_eq j x.id)
          (passes-is x.secured (rules_allow rows x) t.fresh x.id Ingress (key_of_part (Proto m) p.ends)
          ∙ ap (λ c. not x.secured || (c || (has_flow t.fresh x.id Egress (answer_key (key_of_part (Proto m) p.ends)) && rules_allow rows x Egress (answer_key (key_of_part (Proto m) p.ends))))) (alike x Ingress p.ends row e)
          ∙ ap (λ c. not x.secured || (rules_allow rows x Ingress (key_of_part (Proto n) p.ends) || (c && rules_allow rows x Egress (answer_key (key_of_part (Proto m) p.ends)))))
          (ap (λ f. has_flow f x.id Egress (answer_key (key_of_part (Proto m) p.ends))) a ∙ flow-re n m x.id Egress (turned_round p.ends) es ∙ sym (ap (λ f. has_flow f x.id Egress (answer_key (key_of_part (Proto n) p.ends))) b))
          ∙ ap (λ c. not x.secured || (rules_allow rows x Ingress (key_of_part (Proto n) p.ends) || (has_flow u.fresh x.id Egress (answer_key (key_of_part (Proto n) p.ends)) && c))) (alike x Egress (turned_round p.ends) row e)
          ∙ sym (passes-is x.secured (rules_allow rows x) u.fresh x.id Ingress (key_of_part (Proto n) p.ends)))
          ∙ sym two

  abbrev Same : ℕ → Type 0
  Same many = (q : PortRow) → IsRow rows q → (p : Packet) (es : List Entry) (t u : Trace) → t.fresh ≡ map (re_entry m) es → u.fresh ≡ map (re_entry n) es → is_delivered j (port_fate rows [] many q (with_part (Proto m) p) t).outcome ≡ is_delivered j (port_fate rows [] many q (with_part (Proto n) p) u).outcome

  handed-re : (many : ℕ) → Same many → (r : RouterRow) (es : List Entry) (t u : Trace) → t.fresh ≡ map (re_entry m) es → u.fresh ≡ map (re_entry n) es → (w : Routed)
      → is_delivered j (after_router rows (port_fate rows [] many) r t (re_routed m w)).outcome ≡ is_delivered j (after_router rows (port_fate rows [] many) r u (re_routed n w)).outcome
  handed-re many rest r es t u a b (RouteEnds o) = refl
  handed-re many rest r es t u a b (RouteSends made out hop z) = go (landing rows r (out, hop)) refl
    where
      go : (o : Option PortRow) → landing rows r (out, hop) ≡ o → is_delivered j (after_router rows (port_fate rows [] many) r t (RouteSends (map (re_entry m) made) out hop (with_part (Proto m) z))).outcome ≡ is_delivered j (after_router rows (port_fate rows [] many) r u (RouteSends (map (re_entry n) made) out hop (with_part (Proto n) z))).outcome
      go None e = lost rows good (port_fate rows [] many) r t (map (re_entry m) made) out hop (with_part (Proto m) z) j e ∙ sym (lost rows good (port_fate rows [] many) r u (map (re_entry n) made) out hop (with_part (Proto n) z) j e)
      go (Some q) e =
          let x = lands rows good (port_fate rows [] many) r t (map (re_entry m) made) out hop (with_part (Proto m) z) q e in
          let y = lands rows good (port_fate rows [] many) r u (map (re_entry n) made) out hop (with_part (Proto n) z) q e in
          ap (λ f. is_delivered j f.outcome) x.same
          ∙ rest q (landing-row rows r (out, hop) q e) (record z { dst = q.mac }) (es ++ made) x.trace y.trace (x.fresh_is ∙ ap (λ f. f ++ map (re_entry m) made) a ∙ sym (map-append (re_entry m) es made)) (y.fresh_is ∙ ap (λ f. f ++ map (re_entry n) made) b ∙ sym (map-append (re_entry n) es made))
          ∙ sym (ap (λ f. is_delivered j f.outcome) y.same)

  at-re : (many : ℕ) → Same many → (q : PortRow) (p : Packet) (es : List Entry) (t u : Trace) → t.fresh ≡ map (re_entry m) es → u.fresh ≡ map (re_entry n) es → (o : Option RouterRow)
      → is_delivered j (at_router rows [] (port_fate rows [] many) q (with_part (Proto m) p) t o).outcome ≡ is_delivered j (at_router rows [] (port_fate rows [] many) q (with_part (Proto n) p) u o).outcome
  at-re many rest q p es t u a b None = refl
  at-re many rest q p es t u a b (Some r) =
      ap (λ f. is_delivered j (after_router rows (port_fate rows [] many) r t (routing_of (router_view rows r) f (leg_of q) (with_part (Proto m) p))).outcome) a
      ∙ ap (λ w. is_delivered j (after_router rows (port_fate rows [] many) r t w).outcome) (routed-re (router_view rows r) n m es (leg_of q) p)
      ∙ handed-re many rest r es t u a b (routing_of (router_view rows r) (map (re_entry n) es) (leg_of q) (with_part (Proto n) p))
      ∙ sym (ap (λ w. is_delivered j (after_router rows (port_fate rows [] many) r u w).outcome) (routed-re (router_view rows r) n n es (leg_of q) p))
      ∙ sym (ap (λ f. is_delivered j (after_router rows (port_fate rows [] many) r u (routing_of (router_view rows r) f (leg_of q) (with_part (Proto n) p))).outcome) b)

  got-re : (many : ℕ) → Same many
  unfolding port_fate
  got-re zero q row p es t u a b = refl
  got-re (suc many) q row p es t u a b = go (is_router_port q.owner) (at-re many (got-re many) q p es t u a b (router_of rows q)) (received-re q row p es t u a b)
    where
      go : (c : Bool) → is_delivered j (at_router rows [] (port_fate rows [] many) q (with_part (Proto m) p) t (router_of rows q)).outcome ≡ is_delivered j (at_router rows [] (port_fate rows [] many) q (with_part (Proto n) p) u (router_of rows q)).outcome
          → is_delivered j (at_receiver rows [] q (with_part (Proto m) p) t).outcome ≡ is_delivered j (at_receiver rows [] q (with_part (Proto n) p) u).outcome
          → is_delivered j (if c then at_router rows [] (port_fate rows [] many) q (with_part (Proto m) p) t (router_of rows q) else at_receiver rows [] q (with_part (Proto m) p) t).outcome
          ≡ is_delivered j (if c then at_router rows [] (port_fate rows [] many) q (with_part (Proto n) p) u (router_of rows q) else at_receiver rows [] q (with_part (Proto n) p) u).outcome
      go true x y = x
      go false x y = y

  wire : (i : Ident) (toward : Toward) (frame : Frame) (c : DropCause) (o : Option Wire) → is_delivered j (out_or o i toward frame c) ≡ false
  wire i toward frame c None = refl
  wire i toward frame c (Some w) = refl

  module _ (p : PortRow) (leaving : (ends : Ends) → rules_allow rows p Egress (key_of_part (Proto m) ends) ≡ rules_allow rows p Egress (key_of_part (Proto n) ends)) (mac : ℕ) (e : Ends) (path : List Ident) where
    start : Trace
    start = record { path = path; fresh = [] }

    to-re : (es : List Entry) (o : Option PortRow) → joined_with rows p.host (port_at rows p.network mac) ≡ o → is_delivered j (sent_to rows (port_fate rows [] (suc 64)) p.network (packet p.mac mac e 64 (Proto m)) (record { path = path; fresh = map (re_entry m) es }) o).outcome
        ≡ is_delivered j (sent_to rows (port_fate rows [] (suc 64)) p.network (packet p.mac mac e 64 (Proto n)) (record { path = path; fresh = map (re_entry n) es }) o).outcome
    to-re es None f = wire p.network (TowardMac mac) (ip_frame (packet p.mac mac e 64 (Proto m))) Unknown (wire_of (segment rows p.network)) ∙ sym (wire p.network (TowardMac mac) (ip_frame (packet p.mac mac e 64 (Proto n))) Unknown (wire_of (segment rows p.network)))
    to-re es (Some q) f = got-re (suc 64) q (port-row rows p.network mac p.host q f) (packet p.mac mac e 64 (Proto m)) es (record { path = path; fresh = map (re_entry m) es }) (record { path = path; fresh = map (re_entry n) es }) refl refl

    leaves-re : (b c : Bool) → p.secured ≡ b → rules_allow rows p Egress (key_of_part (Proto n) e) ≡ c
        → is_delivered j (sent_out rows (port_fate rows [] (suc 64)) p (packet p.mac mac e 64 (Proto m)) (record { path = path; fresh = [] }) (passage p.secured (rules_allow rows p) [] p.id Egress (key_of_part (Proto m) e))).outcome
        ≡ is_delivered j (sent_out rows (port_fate rows [] (suc 64)) p (packet p.mac mac e 64 (Proto n)) (record { path = path; fresh = [] }) (passage p.secured (rules_allow rows p) [] p.id Egress (key_of_part (Proto n) e))).outcome
    leaves-re b c f g =
        ap (λ y. is_delivered j (sent_out rows (port_fate rows [] (suc 64)) p (packet p.mac mac e 64 (Proto m)) (record { path = path; fresh = [] }) y).outcome) (is m b c f (leaving e ∙ g))
        ∙ go b c
        ∙ sym (ap (λ y. is_delivered j (sent_out rows (port_fate rows [] (suc 64)) p (packet p.mac mac e 64 (Proto n)) (record { path = path; fresh = [] }) y).outcome) (is n b c f g))
      where
        out : ℕ → Bool → Bool → Passage
        out k b c = if not b then record { passes = true; made = [] } else if c then record { passes = true; made = Flow p.id Egress (key_of_part (Proto k) e) ∷ [] } else record { passes = false; made = [] }

        is : (k : ℕ) (b c : Bool) → p.secured ≡ b → rules_allow rows p Egress (key_of_part (Proto k) e) ≡ c → passage p.secured (rules_allow rows p) [] p.id Egress (key_of_part (Proto k) e) ≡ out k b c
        is k b c f g = ap (λ x. out k x (rules_allow rows p Egress (key_of_part (Proto k) e))) f ∙ ap (out k b) g

        go : (b c : Bool) → is_delivered j (sent_out rows (port_fate rows [] (suc 64)) p (packet p.mac mac e 64 (Proto m)) (record { path = path; fresh = [] }) (out m b c)).outcome ≡ is_delivered j (sent_out rows (port_fate rows [] (suc 64)) p (packet p.mac mac e 64 (Proto n)) (record { path = path; fresh = [] }) (out n b c)).outcome
        go false c = to-re [] (joined_with rows p.host (port_at rows p.network mac)) refl
        go true true = to-re (Flow p.id Egress (key_of_part (Proto n) e) ∷ []) (joined_with rows p.host (port_at rows p.network mac)) refl
        go true false = refl

  sent-re : (p : PortRow) → ((ends : Ends) → rules_allow rows p Egress (key_of_part (Proto m) ends) ≡ rules_allow rows p Egress (key_of_part (Proto n) ends)) → row_of (λ (x : PortRow). x.id) p.id rows.ports ≡ Some p → (mac : ℕ) (e : Ends) → is_delivered j (rows_fate rows [] (FromPort p.id (Ip p.mac mac e 64 (Proto m)))).outcome ≡ is_delivered j (rows_fate rows [] (FromPort p.id (Ip p.mac mac e 64 (Proto n)))).outcome
  unfolding rows_fate
  sent-re p leaving there mac e =
      ap (λ o. is_delivered j (from_port rows [] (suc 64) (Ip p.mac mac e 64 (Proto m)) o).outcome) there
      ∙ begin (may_begin rows p) (is_for_many mac) (passes_guard p (Ip p.mac mac e 64 (Proto m)))
      ∙ sym (ap (λ o. is_delivered j (from_port rows [] (suc 64) (Ip p.mac mac e 64 (Proto n)) o).outcome) there)
    where
      t : Trace
      t = record { path = p.network ∷ []; fresh = [] }

      begin : (b u g : Bool) → is_delivered j (if b then (if u then drop_fate t Unsupported else if not g then drop_fate t Spoof else from_sender rows [] (suc 64) p t (Ip p.mac mac e 64 (Proto m))) else drop_fate none_so_far Dead).outcome
          ≡ is_delivered j (if b then (if u then drop_fate t Unsupported else if not g then drop_fate t Spoof else from_sender rows [] (suc 64) p t (Ip p.mac mac e 64 (Proto n))) else drop_fate none_so_far Dead).outcome
      begin false u g = refl
      begin true true g = refl
      begin true false false = refl
      begin true false true = leaves-re p leaving mac e (p.network ∷ []) p.secured (rules_allow rows p Egress (key_of_part (Proto n) e)) refl refl

pub others : (rows : RowLists) → OwnGateways rows → (p q : PortRow) → row_of (λ (x : PortRow). x.id) p.id rows.ports ≡ Some p → (a b : Addr) (n m : ℕ)
    → ((ends : Ends) → rules_allow rows p Egress (key_of_part (Proto m) ends) ≡ rules_allow rows p Egress (key_of_part (Proto n) ends))
    → ((x : PortRow) (dir : Direction) (ends : Ends) → IsRow rows x → ident_eq q.id x.id ≡ true → rules_allow rows x dir (key_of_part (Proto m) ends) ≡ rules_allow rows x dir (key_of_part (Proto n) ends))
    → comes rows p a q b (Proto m) ≡ comes rows p a q b (Proto n)
others rows good p q there a b n m leaving alike = go (first_mac rows p a q)
  where
    go : (o : Option ℕ) → event_comes rows q.id (option_map (λ (mac : ℕ). FromPort p.id (ip_frame (first_packet p a b (Proto m) mac))) o) ≡ event_comes rows q.id (option_map (λ (mac : ℕ). FromPort p.id (ip_frame (first_packet p a b (Proto n) mac))) o)
    go None = refl
    go (Some mac) = sent-re rows good q.id n m alike p leaving there mac (ends_of a b)

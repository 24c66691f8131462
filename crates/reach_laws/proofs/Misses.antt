-- Where a packet is delivered to nobody among routers that keep no entries, it is delivered to nobody: of packets that no entry of
-- their own answers.
use Rattle.std.proofs.Common.{◌≡◌, ℕ, zero, suc, List, [], ◌++◌, Bool, true, false, Option, Some, None, refl, ap, sym, subst, ◌∙◌}
use Rattle.std.specs.Prelude.{find, option_and_then, ◌&&◌, ◌==◌, if◌then◌else◌, ⊤}
use Rattle.net_addr.specs.Addresses.{addr_eq}
use Rattle.net_addr.specs.declared.address.Addr.TheVariants.{V4}
use Rattle.api_types.specs.Holders.{router_of}
use Rattle.api_types.specs.Ident.{Ident}
use Rattle.api_types.specs.Owners.{is_router_port}
use Rattle.api_types.specs.RouterRows.{leg_of, router_view}
use Rattle.api_types.specs.RouterViews.{RouterView}
use Rattle.api_types.specs.RowLists.{RowLists}
use Rattle.api_types.specs.declared.port.PortRow.{PortRow}
use Rattle.api_types.specs.declared.router.RouterRow.{RouterRow}
use Rattle.plane_types.specs.Ends.{Ends, destination, source}
use Rattle.plane_types.specs.Keys.{answer_kind, key_eq, key_of_part, kind_eq, answer_key}
use Rattle.plane_types.specs.Meaning.{Trace, at_router, port_fate, after_router, at_receiver}
use Rattle.plane_types.specs.Packets.{Packet, key_of}
use Rattle.plane_types.specs.Routing.{RouteEnds, RouteSends, Routed, Use, answers, new_destination, is_gateway_live, is_taken, routing_of, uses_by}
use Rattle.plane_types.specs.declared.entry.Entry.{Entry}
use Rattle.plane_types.specs.declared.entry.Entry.TheVariants.{Flow, Snat}
use Rattle.plane_types.specs.declared.frame.Key.{Key}
use Rattle.plane_types.specs.declared.frame.KeyKind.{KeyKind}
use Rattle.plane_types.specs.declared.frame.KeyPart.{KeyPart}
use Rattle.reach_laws.proofs.Alone.{alone, alone_at, alone_by, alone_to}
use Rattle.reach_laws.proofs.Follow.{AheadEntry, LiveEntry, Misses, OwnGateways, clear, lands, lost, made-each, second-third, uses-miss-by}
use Rattle.reach_laws.proofs.Lists.{AllOf, AllOf-append, AllOf-map, find-none}
use Rattle.reach_laws.proofs.Lockstep.{ahead-more, alone-is, got-is, key-ends, live-more, onward-is}
use Rattle.reach_laws.proofs.RouterSays.{Made, Says, aimed, aimed-part, alone-says, destined-same, routed-same, routed-says, routed_alone}
use Rattle.reach_laws.proofs.Walk.{aim, exit, is_end, landing, leads, next_of, router-again, stepped, stops, then_by}
use Rattle.reach_laws.specs.Reach.{is_delivered}

abbrev NoUses : List Use → Type 0
NoUses us = us ≡ []

module _ (rows : RowLists) (good : OwnGateways rows)
    (part : KeyPart) (kind : KeyKind) (s d : ℕ) (is : (ends : Ends) → key_of_part part ends ≡ record { kind = kind; ends = ends; sport = s; dport = d })
    (apart : (kind_eq kind (answer_kind kind) && (s == d)) ≡ false) where
  abbrev pub SameEntry : Entry → Type 0
  SameEntry (Flow a b c) = ⊤
  SameEntry (Snat i k o port) = (k.kind ≡ kind) × (port ≡ s)

  key-is : (p : Packet) → p.part ≡ part → key_of p ≡ record { kind = kind; ends = p.ends; sport = s; dport = d }
  key-is p e = ap (λ x. key_of_part x p.ends) e ∙ is p.ends

  answers-none : (g : Option ℕ) (p : Packet) (u : Use) → p.part ≡ part → u.key.kind ≡ kind → u.port ≡ s → answers g p u ≡ false
  answers-none None p u e a b = refl
  answers-none (Some outer) p u e a b =
      second-third (addr_eq (V4 outer) (destination p.ends)) (kind_eq u.key.kind (answer_key (key_of p)).kind) (u.port == (key_of p).dport) (addr_eq (destination u.key.ends) (source p.ends)) (u.key.dport == (key_of p).sport)
      (ap (λ (k : Key). kind_eq u.key.kind (answer_key k).kind && (u.port == k.dport)) (key-is p e) ∙ ap (λ (c : KeyKind). kind_eq c (answer_kind kind) && (u.port == d)) a ∙ ap (λ (n : ℕ). kind_eq kind (answer_kind kind) && (n == d)) b ∙ apart)

  same-apart : (v : RouterView) (p : Packet) (es : List Entry) → p.part ≡ part → AllOf SameEntry es → new_destination v (uses_by v.snat v.gateway v.id es) p ≡ new_destination v [] p
  same-apart v p es e same = destined-same v (uses_by v.snat v.gateway v.id es) p (λ none.
      find-none (answers v.gateway p) (uses_by v.snat v.gateway v.id es) (uses-miss-by (answers v.gateway p) v.snat v.gateway v.id es (AllOf-map SameEntry (Misses (answers v.gateway p) v.id) es each same)))
    where
      each : (x : Entry) → SameEntry x → Misses (answers v.gateway p) v.id x
      each (Flow a b c) l = tt
      each (Snat i k o port) l = λ h. answers-none v.gateway p (record { key = k; port = port }) e l.0 l.1

  same-more : (v : RouterView) (p : Packet) (es made : List Entry) → p.part ≡ part → AllOf SameEntry es → Made v [] (key_of p) made → AllOf SameEntry (es ++ made)
  same-more v p es made e same new = AllOf-append SameEntry es made same (made-each v [] (key_of p) SameEntry each made new)
    where
      each : (i : Ident) (k : Key) (o port : ℕ) → i ≡ v.id → k ≡ key_of p → is_gateway_live v ≡ true → (NoUses [] → port ≡ (key_of p).sport) → SameEntry (Snat i k o port)
      each i k o port f g live h = (ap (λ (x : Key). x.kind) (g ∙ key-is p e), h refl ∙ ap (λ (x : Key). x.sport) (key-is p e))

  abbrev Missing : ℕ → Type 0
  Missing many = (n : ℕ) (q : PortRow) (p : Packet) (t : Trace) → stops rows n q (destination p.ends) ≡ true → p.part ≡ part → AllOf (LiveEntry rows good) t.fresh → AllOf (AheadEntry rows good n) t.fresh → AllOf SameEntry t.fresh → alone rows many q p ≡ None → (j : Ident) → is_delivered j (port_fate rows [] many q p t).outcome ≡ false

  module _ (many : ℕ) (rest : Missing many) (q : PortRow) (p : Packet) (t : Trace) (of : p.part ≡ part) (live : AllOf (LiveEntry rows good) t.fresh) (same : AllOf SameEntry t.fresh) (j : Ident) where
    module _ (r : RouterRow) (is_port : is_router_port q.owner ≡ true) (named : router_of rows q ≡ Some r) where
      -- the last router
      miss-end : next_of rows r (aim (router_view rows r) (destination p.ends)) ≡ None → is_delivered j (port_fate rows [] (suc many) q p t).outcome ≡ false
      miss-end none = ap (λ f. is_delivered j f.outcome) (got-is rows good q r is_port named many p t) ∙ by (routing_of (router_view rows r) t.fresh (leg_of q) p) (routed-says (router_view rows r) t.fresh (leg_of q) p (same-apart (router_view rows r) p t.fresh of same))
        where
          by : (w : Routed) → Says (router_view rows r) (uses_by (router_view rows r).snat (router_view rows r).gateway (router_view rows r).id t.fresh) (new_destination (router_view rows r) [] p).packet w → is_delivered j (after_router rows (port_fate rows [] many) r t w).outcome ≡ false
          by (RouteEnds o) s = s j
          by (RouteSends made out hop z) s = lost rows good (port_fate rows [] many) r t made out hop z j
              (sym (ap (option_and_then (landing rows r)) (ap (exit (router_view rows r)) (sym (aimed (router_view rows r) p)) ∙ s.1)) ∙ none)

      -- a router behind which others come
      miss-step : (n : ℕ) (next : PortRow) → next_of rows r (aim (router_view rows r) (destination p.ends)) ≡ Some next → stops rows n next (aim (router_view rows r) (destination p.ends)) ≡ true → AllOf (AheadEntry rows good (suc n)) t.fresh
          → alone_by rows (alone rows many) r (routed_alone (router_view rows r) (leg_of q) p) ≡ None → is_delivered j (port_fate rows [] (suc many) q p t).outcome ≡ false
      miss-step n next next_is st ahead h =
          ap (λ f. is_delivered j f.outcome) (got-is rows good q r is_port named many p t ∙ ap (after_router rows (port_fate rows [] many) r t) (routed-same (router_view rows r) t.fresh (leg_of q) p (same-apart (router_view rows r) p t.fresh of same) free.0 free.1))
          ∙ by (routed_alone (router_view rows r) (leg_of q) p) (alone-says (router_view rows r) (leg_of q) p) h
        where
          kends : (key_of (new_destination (router_view rows r) [] p).packet).ends ≡ (new_destination (router_view rows r) [] p).packet.ends
          kends = key-ends (new_destination (router_view rows r) [] p).packet.part (new_destination (router_view rows r) [] p).packet.ends

          lead : leads rows n r (destination (key_of (new_destination (router_view rows r) [] p).packet).ends) ≡ true
          lead =
              ap (λ e. leads rows n r (destination e)) kends ∙ ap (leads rows n r) (aimed (router_view rows r) p)
              ∙ ap (λ o. then_by (stops rows n) (stepped (aim (router_view rows r) (destination p.ends)) o)) next_is ∙ st

          free : (find (λ (u : Use). key_eq u.key (key_of (new_destination (router_view rows r) [] p).packet)) (uses_by (router_view rows r).snat (router_view rows r).gateway (router_view rows r).id t.fresh) ≡ None)
              × (is_taken (uses_by (router_view rows r).snat (router_view rows r).gateway (router_view rows r).id t.fresh) (key_of (new_destination (router_view rows r) [] p).packet) (key_of (new_destination (router_view rows r) [] p).packet).sport ≡ false)
          free = clear rows good r (router-again rows q r named) n (key_of (new_destination (router_view rows r) [] p).packet) t.fresh lead ahead

          of_dp : (new_destination (router_view rows r) [] p).packet.part ≡ part
          of_dp = aimed-part (router_view rows r) p ∙ of

          by : (w : Routed) → Says (router_view rows r) [] (new_destination (router_view rows r) [] p).packet w → alone_by rows (alone rows many) r w ≡ None → is_delivered j (after_router rows (port_fate rows [] many) r t w).outcome ≡ false
          by (RouteEnds o) s h = s j
          by (RouteSends made out hop z) s h =
              let land : landing rows r (out, hop) ≡ Some next = sym (ap (option_and_then (landing rows r)) (ap (exit (router_view rows r)) (sym (aimed (router_view rows r) p)) ∙ s.1)) ∙ next_is in
              let on = lands rows good (port_fate rows [] many) r t made out hop z next land in
              let live2 = subst (AllOf (LiveEntry rows good)) (sym on.fresh_is) (live-more rows good q r is_port named [] (key_of (new_destination (router_view rows r) [] p).packet) t.fresh made live s.3) in
              let ahead2 = subst (AllOf (AheadEntry rows good n)) (sym on.fresh_is) (ahead-more rows good q r is_port named n [] (key_of (new_destination (router_view rows r) [] p).packet) t.fresh made lead ahead s.3) in
              let same2 = subst (AllOf SameEntry) (sym on.fresh_is) (same-more (router_view rows r) (new_destination (router_view rows r) [] p).packet t.fresh made of_dp same s.3) in
              let none : alone rows many next (record z { dst = next.mac }) ≡ None = sym (ap (alone_to (alone rows many) z) land) ∙ h in
              ap (λ f. is_delivered j f.outcome) on.same
              ∙ rest n next (record z { dst = next.mac }) on.trace (ap (stops rows n next) (s.0 ∙ aimed (router_view rows r) p) ∙ st) (s.2 refl ∙ of_dp) live2 ahead2 same2 none j

      miss-at : (n : ℕ) → stops rows n q (destination p.ends) ≡ true → AllOf (AheadEntry rows good n) t.fresh → alone rows (suc many) q p ≡ None → is_delivered j (port_fate rows [] (suc many) q p t).outcome ≡ false
      unfolding stops
      miss-at zero st ahead h = go (next_of rows r (aim (router_view rows r) (destination p.ends))) refl (sym (ap is_end (onward-is rows good q r is_port named (destination p.ends))) ∙ st)
        where
          go : (o : Option PortRow) → next_of rows r (aim (router_view rows r) (destination p.ends)) ≡ o → is_end (stepped (aim (router_view rows r) (destination p.ends)) o) ≡ true → is_delivered j (port_fate rows [] (suc many) q p t).outcome ≡ false
          go None e k = miss-end e
          go (Some z) e k = cc
      miss-at (suc n) st ahead h = go (next_of rows r (aim (router_view rows r) (destination p.ends))) refl (sym (ap (then_by (stops rows n)) (onward-is rows good q r is_port named (destination p.ends))) ∙ st)
        where
          go : (o : Option PortRow) → next_of rows r (aim (router_view rows r) (destination p.ends)) ≡ o → then_by (stops rows n) (stepped (aim (router_view rows r) (destination p.ends)) o) ≡ true → is_delivered j (port_fate rows [] (suc many) q p t).outcome ≡ false
          go None e k = cc
          go (Some z) e k = miss-step n z e k ahead (sym (alone-is rows good q r is_port named many p) ∙ h)

    miss-more : (n : ℕ) → stops rows n q (destination p.ends) ≡ true → AllOf (AheadEntry rows good n) t.fresh → alone rows (suc many) q p ≡ None → is_delivered j (port_fate rows [] (suc many) q p t).outcome ≡ false
    unfolding alone port_fate
    miss-more n st ahead h = go (is_router_port q.owner) refl h
      where
        at : is_router_port q.owner ≡ true → (o : Option RouterRow) → router_of rows q ≡ o → is_delivered j (at_router rows [] (port_fate rows [] many) q p t o).outcome ≡ is_delivered j (port_fate rows [] (suc many) q p t).outcome → is_delivered j (port_fate rows [] (suc many) q p t).outcome ≡ false
        at b None e k = sym k
        at b (Some r) e k = miss-at r b e n st ahead h

        go : (b : Bool) → is_router_port q.owner ≡ b → (if b then alone_at rows (alone rows many) q p (router_of rows q) else Some (record { port = q; packet = p })) ≡ None → is_delivered j (port_fate rows [] (suc many) q p t).outcome ≡ false
        go false b h = cc
        go true b h = at b (router_of rows q) refl (sym (ap (λ c. is_delivered j (if c then at_router rows [] (port_fate rows [] many) q p t (router_of rows q) else at_receiver rows [] q p t).outcome) b))

  pub misses : (many : ℕ) → Missing many
  unfolding port_fate
  misses zero n q p t st of live ahead same h j = refl
  misses (suc many) n q p t st of live ahead same h j = miss-more many (misses many) q p t of live same j n st ahead h

-- What an event comes to, beside the same packet among routers that keep no entries.
use Rattle.std.proofs.Common.{◌≡◌, ℕ, zero, suc, List, [], ◌++◌, Bool, true, false, not, Option, Some, None, refl, ap, sym, subst, ◌∙◌, arith}
use Rattle.std.specs.Prelude.{option_and_then, if◌then◌else◌}
use Rattle.net_addr.specs.declared.address.Addr.{Addr}
use Rattle.api_types.specs.Holders.{router_of}
use Rattle.api_types.specs.Ident.{Ident}
use Rattle.api_types.specs.Owners.{is_router_port}
use Rattle.api_types.specs.RouterRows.{leg_of, router_view}
use Rattle.api_types.specs.RouterViews.{Leg, RouterView}
use Rattle.api_types.specs.RowLists.{RowLists}
use Rattle.api_types.specs.declared.group.Direction.{Direction}
use Rattle.api_types.specs.declared.port.PortRow.{PortRow}
use Rattle.api_types.specs.declared.router.RouterRow.{RouterRow}
use Rattle.plane_types.specs.Ends.{Ends, destination}
use Rattle.plane_types.specs.Entries.{has_flow}
use Rattle.plane_types.specs.Keys.{key_of_part}
use Rattle.plane_types.specs.Meaning.{Trace, at_router, port_fate, after_router, at_receiver}
use Rattle.plane_types.specs.Packets.{Packet, key_of}
use Rattle.plane_types.specs.Routing.{RouteEnds, RouteSends, Routed, Use, best_way, new_destination, is_gateway_live, is_own, routing_of, uses_by}
use Rattle.plane_types.specs.declared.entry.Entry.{Entry}
use Rattle.plane_types.specs.declared.entry.Entry.TheVariants.{Snat}
use Rattle.plane_types.specs.declared.frame.Key.{Key}
use Rattle.plane_types.specs.declared.frame.KeyPart.{KeyPart}
use Rattle.plane_types.specs.declared.frame.KeyPart.TheVariants.{EchoAsk, EchoReply, Proto, Tcp, Udp}
use Rattle.reach_laws.proofs.Alone.{Landing, alone, alone_at, alone_by, alone_to}
use Rattle.reach_laws.proofs.Follow.{AheadEntry, IsTranslation, LiveEntry, OwnGateways, clear, flows-same, lands, less-ahead, made-each, unanswered}
use Rattle.reach_laws.proofs.Lists.{AllOf, AllOf-append, AllOf-map}
use Rattle.reach_laws.proofs.RouterSays.{Made, Says, aimed, alone-says, destined-same, routed-same, routed-says, routed_alone}
use Rattle.reach_laws.proofs.Walk.{aim, aim_by, exit, goes, is_end, landing, leads, leads-once, next_of, onward, onward_by, router-again, router_at, stepped, stops, then_by, view-id, way_leg}
use Rattle.reach_laws.specs.Reach.{is_delivered}

pub key-ends : (part : KeyPart) (ends : Ends) → (key_of_part part ends).ends ≡ ends
key-ends (Tcp s d) ends = refl
key-ends (Udp s d) ends = refl
key-ends (EchoAsk i) ends = refl
key-ends (EchoReply i) ends = refl
key-ends (Proto n) ends = refl

pub foreign : (v : RouterView) (y : Addr) (z : Leg × Addr) → exit v y ≡ Some z → is_own v y ≡ false
foreign v y z h = go v.up (is_own v y) refl h
  where
    go : (u b : Bool) → is_own v y ≡ b → (if not u then None else if b then None else way_leg v y (best_way y v.ways)) ≡ Some z → is_own v y ≡ false
    go true true e h = cc
    go true false e h = e
    go false b e h = cc

some-by : {X Y : Type 0} (f : X → Option Y) (o : Option X) (y : Y) → option_and_then f o ≡ Some y → (P : Type 0) → ((x : X) → o ≡ Some x → f x ≡ Some y → P) → P
some-by f None y h P k = cc
some-by f (Some x) y h P k = k x refl h

module _ (rows : RowLists) (good : OwnGateways rows) where
  module _ (q : PortRow) (r : RouterRow) (is_port : is_router_port q.owner ≡ true) (named : router_of rows q ≡ Some r) where
    found : router_at rows r.id ≡ Some r
    found = router-again rows q r named

    pub onward-is : (x : Addr) → onward rows q x ≡ stepped (aim (router_view rows r) x) (next_of rows r (aim (router_view rows r) x))
    onward-is x = ap (λ b. if b then onward_by rows x (router_of rows q) else None) is_port ∙ ap (onward_by rows x) named

    pub got-is : (many : ℕ) (p : Packet) (t : Trace) → port_fate rows [] (suc many) q p t ≡ after_router rows (port_fate rows [] many) r t (routing_of (router_view rows r) t.fresh (leg_of q) p)
    unfolding port_fate
    got-is many p t = ap (λ b. if b then at_router rows [] (port_fate rows [] many) q p t (router_of rows q) else at_receiver rows [] q p t) is_port ∙ ap (at_router rows [] (port_fate rows [] many) q p t) named

    pub alone-is : (many : ℕ) (p : Packet) → alone rows (suc many) q p ≡ alone_by rows (alone rows many) r (routed_alone (router_view rows r) (leg_of q) p)
    unfolding alone
    alone-is many p = ap (λ b. if b then alone_at rows (alone rows many) q p (router_of rows q) else Some (record { port = q; packet = p })) is_port ∙ ap (alone_at rows (alone rows many) q p) named

    pub same-by-own : (p : Packet) (es : List Entry) → AllOf (LiveEntry rows good) es → is_own (router_view rows r) (aim (router_view rows r) (destination p.ends)) ≡ false
        → new_destination (router_view rows r) (uses_by (router_view rows r).snat (router_view rows r).gateway (router_view rows r).id es) p ≡ new_destination (router_view rows r) [] p
    same-by-own p es live own = destined-same (router_view rows r) (uses_by (router_view rows r).snat (router_view rows r).gateway (router_view rows r).id es) p (λ none.
        unanswered rows good r found p es live (ap (is_own (router_view rows r)) (ap (aim_by (destination p.ends)) (sym none)) ∙ own))

    -- entries that were made here keep their facts
    pub live-more : (uses : List Use) (k : Key) (es made : List Entry) → AllOf (LiveEntry rows good) es → Made (router_view rows r) uses k made → AllOf (LiveEntry rows good) (es ++ made)
    live-more uses k es made live new = AllOf-append (LiveEntry rows good) es made live (made-each (router_view rows r) uses k (LiveEntry rows good) each made new)
      where
        each : (i : Ident) (kk : Key) (o port : ℕ) → i ≡ (router_view rows r).id → kk ≡ k → is_gateway_live (router_view rows r) ≡ true → (uses ≡ [] → port ≡ k.sport) → LiveEntry rows good (Snat i kk o port)
        each i kk o port e f live g = λ z at. let same : Some z ≡ Some r = sym at ∙ ap (router_at rows) (e ∙ view-id rows r) ∙ found in let is : z ≡ r = cc in ap (λ x. is_gateway_live (router_view rows x)) is ∙ live

    pub ahead-more : (n : ℕ) (uses : List Use) (k : Key) (es made : List Entry) → leads rows n r (destination k.ends) ≡ true → AllOf (AheadEntry rows good (suc n)) es → Made (router_view rows r) uses k made → AllOf (AheadEntry rows good n) (es ++ made)
    ahead-more n uses k es made lead ahead new = AllOf-append (AheadEntry rows good n) es made (AllOf-map (AheadEntry rows good (suc n)) (AheadEntry rows good n) es (less-ahead rows good n) ahead) (made-each (router_view rows r) uses k (AheadEntry rows good n) each made new)
      where
        each : (i : Ident) (kk : Key) (o port : ℕ) → i ≡ (router_view rows r).id → kk ≡ k → is_gateway_live (router_view rows r) ≡ true → (uses ≡ [] → port ≡ k.sport) → AheadEntry rows good n (Snat i kk o port)
        each i kk o port e f live g = λ z at m there.
            let same : Some z ≡ Some r = sym at ∙ ap (router_at rows) (e ∙ view-id rows r) ∙ found in
            let is : z ≡ r = cc in
            let here : leads rows m r (destination k.ends) ≡ true = ap (λ x. leads rows m x (destination k.ends)) (sym is) ∙ ap (λ (c : Key). leads rows m z (destination c.ends)) (sym f) ∙ there in
            let n_is : n ≡ m = leads-once rows n m r (destination k.ends) lead here in
            omega (arith, n_is)

    pub translations : (uses : List Use) (k : Key) (made : List Entry) → Made (router_view rows r) uses k made → AllOf IsTranslation made
    translations uses k made new = made-each (router_view rows r) uses k IsTranslation (λ i kk o port e f live g. tt) made new

  -- it arrives where the packet among routers that keep no entries does
  pub record Arrives (many : ℕ) (q : PortRow) (p : Packet) (t : Trace) (l : Landing) : Type 0 where
    pub trace : Trace
    pub same : port_fate rows [] many q p t ≡ at_receiver rows [] l.port l.packet trace
    pub flows : (port : Ident) (dir : Direction) (key : Key) → has_flow trace.fresh port dir key ≡ has_flow t.fresh port dir key

  abbrev Arriving : ℕ → Type 0
  Arriving many = (n : ℕ) (q : PortRow) (p : Packet) (t : Trace) (l : Landing) → stops rows n q (destination p.ends) ≡ true → AllOf (LiveEntry rows good) t.fresh → AllOf (AheadEntry rows good n) t.fresh → alone rows many q p ≡ Some l → Arrives many q p t l

  module _ (many : ℕ) (rest : Arriving many) (q : PortRow) (p : Packet) (t : Trace) (l : Landing) (live : AllOf (LiveEntry rows good) t.fresh) where
    module _ (r : RouterRow) (is_port : is_router_port q.owner ≡ true) (named : router_of rows q ≡ Some r) where
      v : RouterView
      v = router_view rows r

      dp : Packet
      dp = (new_destination (router_view rows r) [] p).packet

      arrive-step : (n : ℕ) (made : List Entry) (out : Leg) (hop : Addr) (z : Packet) (next : PortRow)
          → routed_alone (router_view rows r) (leg_of q) p ≡ RouteSends made out hop z → Says (router_view rows r) [] (new_destination (router_view rows r) [] p).packet (RouteSends made out hop z)
          → landing rows r (out, hop) ≡ Some next → stops rows n next (destination z.ends) ≡ true → AllOf (AheadEntry rows good (suc n)) t.fresh
          → alone rows many next (record z { dst = next.mac }) ≡ Some l → Arrives (suc many) q p t l
      arrive-step n made out hop z next w s land st ahead h =
          let own = foreign (router_view rows r) (destination (new_destination (router_view rows r) [] p).packet.ends) (out, hop) s.1 in
          let aim_is = aimed (router_view rows r) p in
          let same = same-by-own q r is_port named p t.fresh live (ap (is_own (router_view rows r)) (sym aim_is) ∙ own) in
          let kends = key-ends (new_destination (router_view rows r) [] p).packet.part (new_destination (router_view rows r) [] p).packet.ends in
          let next_is : next_of rows r (destination (new_destination (router_view rows r) [] p).packet.ends) ≡ Some next = ap (option_and_then (landing rows r)) s.1 ∙ land in
          let lead0 : leads rows n r (destination (new_destination (router_view rows r) [] p).packet.ends) ≡ true =
          ap (λ o. then_by (stops rows n) (stepped (destination (new_destination (router_view rows r) [] p).packet.ends) o)) next_is ∙ ap (stops rows n next) (sym s.0) ∙ st in
          let lead : leads rows n r (destination (key_of (new_destination (router_view rows r) [] p).packet).ends) ≡ true = ap (λ e. leads rows n r (destination e)) kends ∙ lead0 in
          let free = clear rows good r (router-again rows q r named) n (key_of (new_destination (router_view rows r) [] p).packet) t.fresh lead ahead in
          let routed_is = routed-same (router_view rows r) t.fresh (leg_of q) p same free.0 free.1 ∙ w in
          let on = lands rows good (port_fate rows [] many) r t made out hop z next land in
          let live2 = subst (AllOf (LiveEntry rows good)) (sym on.fresh_is) (live-more q r is_port named [] (key_of (new_destination (router_view rows r) [] p).packet) t.fresh made live s.3) in
          let ahead2 = subst (AllOf (AheadEntry rows good n)) (sym on.fresh_is) (ahead-more q r is_port named n [] (key_of (new_destination (router_view rows r) [] p).packet) t.fresh made lead ahead s.3) in
          let a = rest n next (record z { dst = next.mac }) on.trace l st live2 ahead2 h in
          record {
            trace = a.trace;
            same = got-is q r is_port named many p t ∙ ap (after_router rows (port_fate rows [] many) r t) routed_is ∙ on.same ∙ a.same;
            flows = λ port dir key. a.flows port dir key ∙ ap (λ es. has_flow es port dir key) on.fresh_is ∙ flows-same port dir key t.fresh made (translations q r is_port named [] (key_of (new_destination (router_view rows r) [] p).packet) made s.3);
          }

      arrive-out : (n : ℕ) → stops rows n q (destination p.ends) ≡ true → AllOf (AheadEntry rows good n) t.fresh → (made : List Entry) (out : Leg) (hop : Addr) (z : Packet) (next : PortRow)
          → routed_alone (router_view rows r) (leg_of q) p ≡ RouteSends made out hop z → Says (router_view rows r) [] (new_destination (router_view rows r) [] p).packet (RouteSends made out hop z)
          → landing rows r (out, hop) ≡ Some next → alone rows many next (record z { dst = next.mac }) ≡ Some l → Arrives (suc many) q p t l
      unfolding stops
      arrive-out zero st ahead made out hop z next w s land h =
          let on : onward rows q (destination p.ends) ≡ Some (next, aim (router_view rows r) (destination p.ends)) =
          onward-is q r is_port named (destination p.ends)
          ∙ ap (stepped (aim (router_view rows r) (destination p.ends))) (ap (option_and_then (landing rows r)) (ap (exit (router_view rows r)) (sym (aimed (router_view rows r) p)) ∙ s.1) ∙ land) in
          let bad : false ≡ true = sym (ap is_end on) ∙ st in
          cc
      arrive-out (suc n) st ahead made out hop z next w s land h =
          let on : onward rows q (destination p.ends) ≡ Some (next, aim (router_view rows r) (destination p.ends)) =
          onward-is q r is_port named (destination p.ends)
          ∙ ap (stepped (aim (router_view rows r) (destination p.ends))) (ap (option_and_then (landing rows r)) (ap (exit (router_view rows r)) (sym (aimed (router_view rows r) p)) ∙ s.1) ∙ land) in
          let there : stops rows n next (aim (router_view rows r) (destination p.ends)) ≡ true = sym (ap (then_by (stops rows n)) on) ∙ st in
          arrive-step n made out hop z next w s land (ap (stops rows n next) (s.0 ∙ aimed (router_view rows r) p) ∙ there) ahead h

      arrive-by : (n : ℕ) → stops rows n q (destination p.ends) ≡ true → AllOf (AheadEntry rows good n) t.fresh → (w : Routed) → routed_alone (router_view rows r) (leg_of q) p ≡ w
          → Says (router_view rows r) [] (new_destination (router_view rows r) [] p).packet w → alone_by rows (alone rows many) r w ≡ Some l → Arrives (suc many) q p t l
      arrive-by n st ahead (RouteEnds o) w s h = cc
      arrive-by n st ahead (RouteSends made out hop z) w s h = go (landing rows r (out, hop)) refl h
        where
          go : (o : Option PortRow) → landing rows r (out, hop) ≡ o → alone_to (alone rows many) z o ≡ Some l → Arrives (suc many) q p t l
          go None e h = cc
          go (Some next) e h = arrive-out n st ahead made out hop z next w s e h

    arrive-more : (n : ℕ) → stops rows n q (destination p.ends) ≡ true → AllOf (AheadEntry rows good n) t.fresh → alone rows (suc many) q p ≡ Some l → Arrives (suc many) q p t l
    unfolding alone port_fate
    arrive-more n st ahead h = go (is_router_port q.owner) refl h
      where
        at : is_router_port q.owner ≡ true → (o : Option RouterRow) → router_of rows q ≡ o → alone_at rows (alone rows many) q p o ≡ Some l → Arrives (suc many) q p t l
        at b None e h = cc
        at b (Some r) e h = arrive-by r b e n st ahead (routed_alone (router_view rows r) (leg_of q) p) refl (alone-says (router_view rows r) (leg_of q) p) h

        go : (b : Bool) → is_router_port q.owner ≡ b → (if b then alone_at rows (alone rows many) q p (router_of rows q) else Some (record { port = q; packet = p })) ≡ Some l → Arrives (suc many) q p t l
        go false b h =
            let same : record { port = q; packet = p } ≡ l = cc in
            record {
              trace = t;
              same = ap (λ c. if c then at_router rows [] (port_fate rows [] many) q p t (router_of rows q) else at_receiver rows [] q p t) b ∙ ap (λ (x : Landing). at_receiver rows [] x.port x.packet t) same;
              flows = λ port dir key. refl;
            }
        go true b h = at b (router_of rows q) refl h

  pub arrives : (many : ℕ) → Arriving many
  unfolding alone
  arrives zero n q p t l st live ahead h = cc
  arrives (suc many) n q p t l st live ahead h = arrive-more many (arrives many) q p t l live n st ahead h

  -- what goes on and on is delivered to nobody
  abbrev Losing : ℕ → Type 0
  Losing many = (q : PortRow) (p : Packet) (t : Trace) → goes rows many q (destination p.ends) ≡ true → AllOf (LiveEntry rows good) t.fresh → (j : Ident) → is_delivered j (port_fate rows [] many q p t).outcome ≡ false

  module _ (many : ℕ) (rest : Losing many) (q : PortRow) (p : Packet) (t : Trace) (live : AllOf (LiveEntry rows good) t.fresh) (j : Ident) where
    lose-out : (r : RouterRow) → is_router_port q.owner ≡ true → router_of rows q ≡ Some r → (y : Leg × Addr) (next : PortRow) → exit (router_view rows r) (aim (router_view rows r) (destination p.ends)) ≡ Some y
        → landing rows r y ≡ Some next → goes rows many next (aim (router_view rows r) (destination p.ends)) ≡ true → is_delivered j (port_fate rows [] (suc many) q p t).outcome ≡ false
    lose-out r is_port named y next there land on =
        ap (λ f. is_delivered j f.outcome) (got-is q r is_port named many p t)
        ∙ by (routing_of (router_view rows r) t.fresh (leg_of q) p) (routed-says (router_view rows r) t.fresh (leg_of q) p (same-by-own q r is_port named p t.fresh live (foreign (router_view rows r) (aim (router_view rows r) (destination p.ends)) y there)))
      where
        uses : List Use
        uses = uses_by (router_view rows r).snat (router_view rows r).gateway (router_view rows r).id t.fresh

        by : (w : Routed) → Says (router_view rows r) uses (new_destination (router_view rows r) [] p).packet w → is_delivered j (after_router rows (port_fate rows [] many) r t w).outcome ≡ false
        by (RouteEnds o) s = s j
        by (RouteSends made out hop z) s =
            let exits : Some y ≡ Some (out, hop) = sym there ∙ ap (exit (router_view rows r)) (sym (aimed (router_view rows r) p)) ∙ s.1 in
            let same : y ≡ (out, hop) = cc in
            let lands_at : landing rows r (out, hop) ≡ Some next = ap (landing rows r) (sym same) ∙ land in
            let on2 = lands rows good (port_fate rows [] many) r t made out hop z next lands_at in
            let live2 = subst (AllOf (LiveEntry rows good)) (sym on2.fresh_is) (live-more q r is_port named uses (key_of (new_destination (router_view rows r) [] p).packet) t.fresh made live s.3) in
            ap (λ f. is_delivered j f.outcome) on2.same ∙ rest next (record z { dst = next.mac }) on2.trace (ap (goes rows many next) (s.0 ∙ aimed (router_view rows r) p) ∙ on) live2 j

    lose-more : goes rows (suc many) q (destination p.ends) ≡ true → is_delivered j (port_fate rows [] (suc many) q p t).outcome ≡ false
    unfolding goes
    lose-more h = go (is_router_port q.owner) refl h
      where
        x : Addr
        x = destination p.ends

        landed : (r : RouterRow) → is_router_port q.owner ≡ true → router_of rows q ≡ Some r → (y : Leg × Addr) → exit (router_view rows r) (aim (router_view rows r) x) ≡ Some y
            → (o : Option PortRow) → landing rows r y ≡ o → then_by (goes rows many) (stepped (aim (router_view rows r) x) o) ≡ true → is_delivered j (port_fate rows [] (suc many) q p t).outcome ≡ false
        landed r b e y f None land h = cc
        landed r b e y f (Some next) land h = lose-out r b e y next f land h

        exits : (r : RouterRow) → is_router_port q.owner ≡ true → router_of rows q ≡ Some r → (o : Option (Leg × Addr)) → exit (router_view rows r) (aim (router_view rows r) x) ≡ o
            → then_by (goes rows many) (stepped (aim (router_view rows r) x) (option_and_then (landing rows r) o)) ≡ true → is_delivered j (port_fate rows [] (suc many) q p t).outcome ≡ false
        exits r b e None f h = cc
        exits r b e (Some y) f h = landed r b e y f (landing rows r y) refl h

        at : is_router_port q.owner ≡ true → (o : Option RouterRow) → router_of rows q ≡ o → then_by (goes rows many) (onward_by rows x o) ≡ true → is_delivered j (port_fate rows [] (suc many) q p t).outcome ≡ false
        at b None e h = cc
        at b (Some r) e h = exits r b e (exit (router_view rows r) (aim (router_view rows r) x)) refl h

        go : (b : Bool) → is_router_port q.owner ≡ b → then_by (goes rows many) (if b then onward_by rows x (router_of rows q) else None) ≡ true → is_delivered j (port_fate rows [] (suc many) q p t).outcome ≡ false
        go false b h = cc
        go true b h = at b (router_of rows q) refl h

  pub loses : (many : ℕ) → Losing many
  unfolding port_fate
  loses zero q p t h live j = refl
  loses (suc many) q p t h live j = lose-more many (loses many) q p t live j h

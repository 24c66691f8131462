-- By the rows a packet crosses between networks at routers alone, and any law of how frames end, by
-- the network on which the path ends, holds of it.
use Rattle.std.proofs.Common.{◌≡◌, ℕ, zero, suc, List, [], ◌∷◌, ◌++◌, Bool, true, false, Option, Some, None, refl, ap, sym, subst, ◌∙◌, append_assoc}
use Rattle.std.specs.Prelude.{find, is_some, ◌&&◌, ◌==◌, if◌then◌else◌}
use Rattle.std.proofs.lemmas.Bool.{and_parts, and_from}
use Rattle.std.proofs.lemmas.List.{append-nil}
use Rattle.api_types.proofs.NameLemmas.{ident_same, ident_itself}
use Rattle.plane_laws.proofs.ListLemmas.{find-passes, find-only, list_any-found}
use Rattle.plane_laws.proofs.Neighbours.{holder-at}
use Rattle.plane_laws.proofs.RouterTables.{EndsIn, Lower, routed-lower}
use Rattle.plane_laws.proofs.RouterLaw.{joined-found, passes-filter, from-filter}
use Rattle.net_addr.specs.declared.address.Addr.{Addr}
use Rattle.api_types.specs.Ident.{Ident}
use Rattle.api_types.specs.Owners.{device_is, is_router_port}
use Rattle.api_types.specs.RowLists.{RowLists}
use Rattle.api_types.specs.Table.{ident_eq}
use Rattle.api_types.specs.declared.group.Direction.TheVariants.{Ingress}
use Rattle.api_types.specs.declared.network.NetworkRow.{NetworkRow}
use Rattle.api_types.specs.declared.port.PortRow.{PortRow}
use Rattle.api_types.specs.declared.router.RouterRow.{RouterRow}
use Rattle.plane_types.specs.Crossing.{CrossesFrom, is_network, joins_networks, last_from, leg_on}
use Rattle.api_types.specs.Holders.{has_mac, holder, router_of}
use Rattle.api_types.specs.RowsWith.{router_with, network_with}
use Rattle.api_types.specs.Consistent.Carried.{is_bound}
use Rattle.api_types.specs.Live.{is_live, joined_with, network_up, segment}
use Rattle.api_types.specs.Wires.{wire_of}
use Rattle.plane_types.specs.Meaning.{Fate, Trace, at_router, delivered_by, end_fate, port_fate, after_router, handed_out, handed_to, out_or, at_receiver, rows_passage, with_fresh, with_path}
use Rattle.plane_types.specs.Packets.{Packet, ip_frame}
use Rattle.plane_types.specs.Passage.{Passage}
use Rattle.api_types.specs.RouterRows.{is_leg_of, leg_of, legs_of, router_view}
use Rattle.plane_types.specs.Routing.{RouteEnds, RouteSends, Routed, routing_of}
use Rattle.plane_types.specs.declared.entry.Entry.{Entry}
use Rattle.api_types.specs.declared.wire.Wire.{Wire}
use Rattle.plane_types.specs.declared.frame.Frame.{Frame}
use Rattle.plane_types.specs.declared.verdict.AskAnswer.{AskAnswer}
use Rattle.plane_types.specs.declared.verdict.DropCause.{DropCause}
use Rattle.plane_types.specs.declared.verdict.DropCause.TheVariants.{Ingress as IngressFilter, NoHolder, Unknown}
use Rattle.plane_types.specs.declared.verdict.Outcome.{Outcome}
use Rattle.plane_types.specs.declared.verdict.Outcome.TheVariants.{Absorbed, Answered, Delivered, Dropped, Out}
use Rattle.plane_types.specs.declared.verdict.Toward.{Toward}
use Rattle.plane_types.specs.declared.verdict.Toward.TheVariants.{Address as TowardAddress}
use Rattle.plane_laws.proofs.Facts.{FrameFacts, has_id}

-- what is to be shown of each way to end, for the law to hold of all that frames come to
pub record LawOfEnds (rows : RowLists) (Holds : Ident → Outcome → Type 0) : Type 0 where
  pub drops : (n : Ident) (c : DropCause) → Holds n (Dropped c)
  pub answers : (n : Ident) (a : AskAnswer) → Holds n (Answered a)
  pub leaves : (n : Ident) (t : Toward) (f : Frame) → Holds n (Out n t f)
  pub absorbs : (n : Ident) (r : RouterRow) → router_with rows r.id ≡ Some r → leg_on rows r n ≡ true → Holds n (Absorbed r.id)
  pub delivers : (q : PortRow) (entries : List Entry) (p : Packet) → find (has_id q.id) rows.ports ≡ Some q → (rows_passage rows entries q Ingress p).passes ≡ true → Holds q.network (Delivered q.id (ip_frame p))

view-id : (rows : RowLists) (r : RouterRow) → (router_view rows r).id ≡ r.id
unfolding router_view
view-id rows r = refl

-- a live port's network is there
pub live-network : (rows : RowLists) (p : PortRow) → is_live rows p ≡ true → is_network rows p.network ≡ true
unfolding is_live
live-network rows p live = go (network_with rows p.network) (and_parts (p.up && is_bound p.vif) (network_up (network_with rows p.network)) live).1
  where
    go : (o : Option NetworkRow) → network_up o ≡ true → is_some o ≡ true
    go None e = cc
    go (Some n) e = refl

-- what is added to the path from a network on
pub record Goes (rows : RowLists) (Holds : Ident → Outcome → Type 0) (n : Ident) (t : Trace) (v : Fate) : Type 0 where
  pub added : List Ident
  pub path : v.path ≡ t.path ++ added
  pub crosses : CrossesFrom rows n added
  pub on : Holds (last_from n added) v.outcome

module _ (rows : RowLists) (good : FrameFacts rows) (entries : List Entry) (Holds : Ident → Outcome → Type 0) (law : LawOfEnds rows Holds) where
  stays : (n : Ident) (t : Trace) (o : Outcome) → Holds n o → Goes rows Holds n t (end_fate t o)
  stays n t o h = record { added = []; path = sym (append-nil t.path); crosses = tt; on = h }

  -- out by the network's wire, or dropped
  pub leaves-or : (w : Option Wire) (n : Ident) (t : Toward) (f : Frame) (c : DropCause) → Holds n (out_or w n t f c)
  leaves-or None n t f c = law.drops n c
  leaves-or (Some w) n t f c = law.leaves n t f

  module _ (test : PortRow → Bool) (q : PortRow) (found : find test rows.ports ≡ Some q) (live : is_live rows q ≡ true) where
    arrives : (p : Packet) (t : Trace) → Goes rows Holds q.network t (at_receiver rows entries q p t)
    arrives p t = go (rows_passage rows (entries ++ t.fresh) q Ingress p) (law.delivers q (entries ++ t.fresh) p there)
      where
        there : find (has_id q.id) rows.ports ≡ Some q
        there = find-only test (has_id q.id) rows.ports q (good.port_ids q.id) found (ident_itself q.id)

        go : (y : Passage) → (y.passes ≡ true → Holds q.network (Delivered q.id (ip_frame p))) → Goes rows Holds q.network t (delivered_by q p t y)
        go y delivered = by y.passes refl
          where
            by : (b : Bool) → y.passes ≡ b → Goes rows Holds q.network t (if b then end_fate (with_fresh t y.made) (Delivered q.id (ip_frame p)) else end_fate t (Dropped IngressFilter))
            by true e = record { added = []; path = sym (append-nil t.path); crosses = tt; on = delivered e }
            by false e = stays q.network t (Dropped IngressFilter) (law.drops q.network IngressFilter)

    module _ (router : is_router_port q.owner ≡ true) (r : RouterRow) (router_is : router_of rows q ≡ Some r) where
      named : router_with rows r.id ≡ Some r
      named = find-only (λ (z : RouterRow). device_is q.device z.id) (λ (z : RouterRow). ident_eq r.id z.id) rows.routers r (good.router_ids r.id) router_is (ident_itself r.id)

      mine : is_leg_of rows r q ≡ true
      mine = and_from (is_router_port q.owner && device_is q.device r.id) (is_live rows q) (and_from (is_router_port q.owner) (device_is q.device r.id) router (find-passes (λ (z : RouterRow). device_is q.device z.id) rows.routers r router_is)) live

      first : leg_on rows r q.network ≡ true
      first = list_any-found test (λ (p : PortRow). is_leg_of rows r p && ident_eq q.network p.network) rows.ports q found (and_from (is_leg_of rows r q) (ident_eq q.network q.network) mine (ident_itself q.network))

      ends : (i : Ident) → i ≡ r.id → (o : Outcome) → EndsIn i o → Holds q.network o
      ends i same (Delivered p f) h = absurd h
      ends i same (Answered a) h = absurd h
      ends i same (Absorbed s) h = subst (λ x. Holds q.network (Absorbed x)) (sym same ∙ h) (law.absorbs q.network r named first)
      ends i same (Out n t f) h = absurd h
      ends i same (Dropped c) h = law.drops q.network c

      module _ (many : ℕ) (rest : (test : PortRow → Bool) (q : PortRow) → find test rows.ports ≡ Some q → is_live rows q ≡ true → (p : Packet) (t : Trace) → Goes rows Holds q.network t (port_fate rows entries many q p t)) where
        onward : (t : Trace) (hop : Addr) (p : Packet) (port : Ident) (made : List Entry) (o : PortRow) → find (has_id port) (legs_of rows r) ≡ Some o → Goes rows Holds q.network t (handed_out rows (port_fate rows entries many) r hop p (with_fresh t made) (Some o))
        unfolding legs_of
        onward t hop p port made o leg = go (joined_with rows o.host (holder rows o.network hop)) refl
          where
            is_leg : is_leg_of rows r o ≡ true
            is_leg = passes-filter (has_id port) (is_leg_of rows r) rows.ports o leg

            live_too : is_live rows o ≡ true
            live_too = (and_parts (is_router_port o.owner && device_is o.device r.id) (is_live rows o) is_leg).1

            by_id : find (has_id o.id) rows.ports ≡ Some o
            by_id = from-filter (has_id port) (is_leg_of rows r) (has_id o.id) rows.ports o leg (ident_itself o.id) (good.port_ids o.id)

            second : leg_on rows r o.network ≡ true
            second = list_any-found (has_id o.id) (λ (p : PortRow). is_leg_of rows r p && ident_eq o.network p.network) rows.ports o by_id (and_from (is_leg_of rows r o) (ident_eq o.network o.network) is_leg (ident_itself o.network))

            crossing : joins_networks rows q.network o.network (router_with rows r.id) ≡ true
            crossing = ap (joins_networks rows q.network o.network) named ∙ and_from (leg_on rows r q.network && leg_on rows r o.network) (is_network rows o.network)
                (and_from (leg_on rows r q.network) (leg_on rows r o.network) first second) (live-network rows o live_too)

            go : (j : Option PortRow) → joined_with rows o.host (holder rows o.network hop) ≡ j → Goes rows Holds q.network t (handed_to rows (port_fate rows entries many) o.network hop p (with_path (with_fresh t made) (r.id ∷ o.network ∷ [])) j)
            go None e = record { added = r.id ∷ o.network ∷ []; path = refl; crosses = (crossing, tt); on = leaves-or (wire_of (segment rows o.network)) o.network (TowardAddress hop) (ip_frame (record p { dst = 0 })) NoHolder }
            go (Some q2) e =
                let at = holder-at rows good o.network hop q2 (joined-found rows o.host (holder rows o.network hop) q2 e).0 in
                let parts = and_parts (ident_eq o.network q2.network && (q2.mac == q2.mac)) (is_live rows q2) (find-passes (has_mac rows o.network q2.mac) rows.ports q2 at) in
                let same : o.network ≡ q2.network = ident_same o.network q2.network (and_parts (ident_eq o.network q2.network) (q2.mac == q2.mac) parts.0).0 in
                then_on q2 same (rest (has_mac rows o.network q2.mac) q2 at parts.1 (record p { dst = q2.mac }) (with_path (with_fresh t made) (r.id ∷ o.network ∷ [])))
              where
                then_on : (q2 : PortRow) → o.network ≡ q2.network → Goes rows Holds q2.network (with_path (with_fresh t made) (r.id ∷ o.network ∷ [])) (port_fate rows entries many q2 (record p { dst = q2.mac }) (with_path (with_fresh t made) (r.id ∷ o.network ∷ []))) → Goes rows Holds q.network t (port_fate rows entries many q2 (record p { dst = q2.mac }) (with_path (with_fresh t made) (r.id ∷ o.network ∷ [])))
                then_on q2 same g = record {
                  added = r.id ∷ o.network ∷ g.added;
                  path = g.path ∙ append_assoc t.path (r.id ∷ o.network ∷ []) g.added;
                  crosses = (crossing, subst (λ n. CrossesFrom rows n g.added) (sym same) g.crosses);
                  on = subst (λ n. Holds (last_from n g.added) (port_fate rows entries many q2 (record p { dst = q2.mac }) (with_path (with_fresh t made) (r.id ∷ o.network ∷ []))).outcome) (sym same) g.on;
                }

        by-routed : (t : Trace) (n : ℕ) (x : Routed) → Lower (router_view rows r).id n x → Goes rows Holds q.network t (after_router rows (port_fate rows entries many) r t x)
        by-routed t n (RouteEnds o) low = stays q.network t o (ends (router_view rows r).id (view-id rows r) o low)
        by-routed t n (RouteSends made out hop p) low = go (find (has_id out.port) (legs_of rows r)) refl
          where
            go : (o : Option PortRow) → find (has_id out.port) (legs_of rows r) ≡ o → Goes rows Holds q.network t (handed_out rows (port_fate rows entries many) r hop p (with_fresh t made) o)
            go None e = record { added = []; path = sym (append-nil t.path); crosses = tt; on = law.drops q.network Unknown }
            go (Some o) e = onward t hop p out.port made o e

  pub got-goes : (many : ℕ) (test : PortRow → Bool) (q : PortRow) → find test rows.ports ≡ Some q → is_live rows q ≡ true → (p : Packet) (t : Trace) → Goes rows Holds q.network t (port_fate rows entries many q p t)
  unfolding port_fate
  got-goes zero test q found live p t = record { added = []; path = sym (append-nil t.path); crosses = tt; on = law.drops q.network Unknown }
  got-goes (suc many) test q found live p t = go (is_router_port q.owner) refl (got-goes many)
    where
      by : is_router_port q.owner ≡ true → ((test : PortRow → Bool) (q : PortRow) → find test rows.ports ≡ Some q → is_live rows q ≡ true → (p : Packet) (t : Trace) → Goes rows Holds q.network t (port_fate rows entries many q p t)) → (o : Option RouterRow) → router_of rows q ≡ o → Goes rows Holds q.network t (at_router rows entries (port_fate rows entries many) q p t o)
      by e rest None f = record { added = []; path = sym (append-nil t.path); crosses = tt; on = law.drops q.network Unknown }
      by e rest (Some r) f = by-routed test q found live e r f many rest t p.ttl (routing_of (router_view rows r) (entries ++ t.fresh) (leg_of q) p) (routed-lower (router_view rows r) (entries ++ t.fresh) (leg_of q) p)

      go : (b : Bool) → is_router_port q.owner ≡ b → ((test : PortRow → Bool) (q : PortRow) → find test rows.ports ≡ Some q → is_live rows q ≡ true → (p : Packet) (t : Trace) → Goes rows Holds q.network t (port_fate rows entries many q p t)) → Goes rows Holds q.network t (if b then at_router rows entries (port_fate rows entries many) q p t (router_of rows q) else at_receiver rows entries q p t)
      go true e rest = by e rest (router_of rows q) refl
      go false e rest = arrives test q found live p t

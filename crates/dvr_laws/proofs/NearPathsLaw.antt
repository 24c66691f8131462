-- A packet that is near at each router passes the host of its last port alone, after that of its sender; what is delivered is delivered to that port, which is the row with its id.
use Rattle.api_types.specs.Consistent.{IsConsistent}
use Rattle.api_types.specs.Holders.{dhcp_port, floating_holder, floats_at, gateway_port, gateway_port_of, has_mac, held_by_floating, holder, holds_live, live_on, port_at, router_of, target_router}
use Rattle.api_types.specs.Ident.{Ident}
use Rattle.api_types.specs.Leases.{lease_for}
use Rattle.api_types.specs.Live.{is_joined, is_live, joined_with, segment}
use Rattle.api_types.specs.Owners.{is_router_port}
use Rattle.api_types.specs.RouterRows.{leg_of, legs_of, router_view}
use Rattle.api_types.specs.RowLists.{RowLists}
use Rattle.api_types.specs.RowsWith.{port_with}
use Rattle.api_types.specs.Table.{ident_eq}
use Rattle.api_types.specs.Wires.{wire_of}
use Rattle.api_types.specs.declared.group.Direction.TheVariants.{Egress, Ingress}
use Rattle.api_types.specs.declared.floating.FloatingRow.{FloatingRow}
use Rattle.api_types.specs.declared.lease.Lease.{Lease}
use Rattle.api_types.specs.declared.port.PortRow.{PortRow}
use Rattle.api_types.specs.declared.router.Gateway.{Gateway}
use Rattle.api_types.specs.declared.router.RouterRow.{RouterRow}
use Rattle.api_types.specs.declared.wire.Wire.{Wire}
use Rattle.api_types.proofs.ListLemmas.{none_some, some_equal}
use Rattle.api_types.proofs.NameLemmas.{ident_itself}
use Rattle.dvr_laws.specs.NearPaths.{all_near, begun_by, first_arrival, is_near_all_way, near_after, router_near}
use Rattle.dvr_types.specs.Handlers.{Arrival, arrival, arrival_by, handlers, host_of_port, hosts_after_router, hosts_after_sender, hosts_from, hosts_of_sender, hosts_to, once_in_a_row, router_hosts}
use Rattle.dvr_types.specs.Near.{is_near}
use Rattle.net_addr.specs.Words.{Text}
use Rattle.net_addr.specs.declared.address.Addr.{Addr}
use Rattle.plane_laws.proofs.Facts.{FrameFacts, has_id}
use Rattle.plane_laws.proofs.FactsHold.{frame-facts}
use Rattle.plane_laws.proofs.ListLemmas.{find-only}
use Rattle.plane_laws.proofs.RouterTables.{EndsIn, Lower, routed-lower}
use Rattle.plane_types.specs.Ends.{destination}
use Rattle.plane_types.specs.Guard.{passes_guard}
use Rattle.plane_types.specs.Meaning.{Fate, Trace, after_router, asked_by, at_receiver, at_router, delivered_by, drop_fate, end_fate, from_port, from_sender, handed_out, handed_to, lease_asked_by, lease_outcome, life_of, may_begin, none_so_far, out_or, port_fate, rows_fate, rows_passage, sent_to, with_fresh, with_path}
use Rattle.plane_types.specs.Packets.{AddressAsk, LeaseAsk, Packet, address_ask, ask_frame, dhcp_frame, ip_frame, is_unsupported, lease_ask, packet}
use Rattle.plane_types.specs.Passage.{Passage}
use Rattle.plane_types.specs.Routing.{RouteEnds, RouteSends, Routed, routing_of}
use Rattle.plane_types.specs.declared.entry.Entry.{Entry}
use Rattle.plane_types.specs.declared.event.Event.TheVariants.{FromPort}
use Rattle.plane_types.specs.declared.frame.Frame.{Frame}
use Rattle.plane_types.specs.declared.frame.Frame.TheVariants.{Dhcp, Ip, NeighbourAsk, Other}
use Rattle.plane_types.specs.declared.verdict.DropCause.{DropCause}
use Rattle.plane_types.specs.declared.verdict.DropCause.TheVariants.{Dead, Egress as EgressFilter, Ingress as IngressFilter, NoHolder, NoLease, Spoof, Unknown, Unsupported}
use Rattle.plane_types.specs.declared.verdict.Outcome.{Outcome}
use Rattle.plane_types.specs.declared.verdict.Outcome.TheVariants.{Delivered, Dropped}
use Rattle.plane_types.specs.declared.verdict.Toward.{Toward}
use Rattle.plane_types.specs.declared.verdict.Toward.TheVariants.{Address as TowardAddress, Dhcp as TowardDhcp, Mac as TowardMac}
use Rattle.std.proofs.Common.{Bool, List, None, Option, Some, [], ap, false, not, refl, subst, suc, sym, true, zero, ℕ, ◌++◌, ◌∙◌, ◌∷◌, ◌≡◌}
use Rattle.std.proofs.lemmas.Bool.{and_parts}
use Rattle.std.specs.Option.{option_or}
use Rattle.std.specs.Prelude.{find, if◌then◌else◌, option_and_then, option_map, option_to_list, ◌&&◌, ◌||◌}

-- the port that is no router's and gets the packet, if there is one
abbrev Found : Type 0
Found = PortRow → Packet → Trace → Option PortRow

abbrev port_after : Found → Option Arrival → Option PortRow
port_after on None = None
port_after on (Some a) = on a.port a.packet a.trace

abbrev port_after_router : RowLists → List Entry → Found → PortRow → Packet → Trace → Option RouterRow → Option PortRow
port_after_router rows entries on q p t None = None
port_after_router rows entries on q p t (Some r) = port_after on (arrival rows r t (routing_of (router_view rows r) (entries ++ t.fresh) (leg_of q) p))

unfoldable pub last_port : RowLists → List Entry → ℕ → Found
last_port rows entries zero q p t = None
last_port rows entries (suc many) q p t = if is_router_port q.owner then port_after_router rows entries (last_port rows entries many) q p t (router_of rows q) else Some q

abbrev Rest : RowLists → List Entry → ℕ → Type 0
Rest rows entries many = (q : PortRow) (p : Packet) (t : Trace) → all_near rows entries many q p t ≡ true → hosts_from rows entries many q p t ≡ host_of_port (last_port rows entries many q p t)

pub near-alone : (rows : RowLists) (entries : List Entry) (many : ℕ) (q : PortRow) (p : Packet) (t : Trace) → all_near rows entries many q p t ≡ true → hosts_from rows entries many q p t ≡ host_of_port (last_port rows entries many q p t)
unfolding all_near last_port hosts_from
near-alone rows entries zero q p t e = refl
near-alone rows entries (suc many) q p t e = go (near-alone rows entries many) (is_router_port q.owner) (router_of rows q) e
  where
    behind : Rest rows entries many → (a : Option Arrival) → near_after (all_near rows entries many) a ≡ true → hosts_after_router (hosts_from rows entries many) a ≡ host_of_port (port_after (last_port rows entries many) a)
    behind rest None k = refl
    behind rest (Some a) k = rest a.port a.packet a.trace k

    by : Rest rows entries many → (o : Option RouterRow) → router_near rows entries (all_near rows entries many) q p t o ≡ true → router_hosts rows entries (hosts_from rows entries many) q p t o ≡ host_of_port (port_after_router rows entries (last_port rows entries many) q p t o)
    by rest None k = refl
    by rest (Some r) k =
        let both = and_parts (is_near rows (entries ++ t.fresh) r q p) (near_after (all_near rows entries many) (arrival rows r t (routing_of (router_view rows r) (entries ++ t.fresh) (leg_of q) p))) k in
        ap (λ b. (if b then [] else option_to_list r.host) ++ hosts_after_router (hosts_from rows entries many) (arrival rows r t (routing_of (router_view rows r) (entries ++ t.fresh) (leg_of q) p))) both.0
        ∙ behind rest (arrival rows r t (routing_of (router_view rows r) (entries ++ t.fresh) (leg_of q) p)) both.1

    go : Rest rows entries many → (b : Bool) (o : Option RouterRow) → (if b then router_near rows entries (all_near rows entries many) q p t o else true) ≡ true → (if b then router_hosts rows entries (hosts_from rows entries many) q p t o else q.host ∷ []) ≡ host_of_port (if b then port_after_router rows entries (last_port rows entries many) q p t o else Some q)
    go rest true o k = by rest o k
    go rest false o k = refl

abbrev ends : Fate → Outcome
ends v = v.outcome

-- the port is the row with its id
abbrev Own : RowLists → PortRow → Type 0
Own rows d = port_with rows d.id ≡ Some d

abbrev Last : RowLists → Option PortRow → Ident → Type 0
Last rows o i = (d : PortRow) × (o ≡ Some d) × (d.id ≡ i) × Own rows d

abbrev Lasts : RowLists → List Entry → ℕ → Type 0
Lasts rows entries many = (q : PortRow) (p : Packet) (t : Trace) (i : Ident) (f : Frame) → Own rows q → ends (port_fate rows entries many q p t) ≡ Delivered i f → Last rows (last_port rows entries many q p t) i

joined-is : (rows : RowLists) (host : Text) (o : Option PortRow) (d : PortRow) → joined_with rows host o ≡ Some d → o ≡ Some d
joined-is rows host None d h = none_some d _ h
joined-is rows host (Some x) d h = go (is_joined rows x host) h
  where
    go : (b : Bool) → (if b then Some x else None) ≡ Some d → Some x ≡ Some d
    go true h = h
    go false h = none_some d _ h

-- whom a search finds is the row with its id
module _ (rows : RowLists) (good : FrameFacts rows) where
  own-found : (test : PortRow → Bool) (d : PortRow) → find test rows.ports ≡ Some d → Own rows d
  own-found test d found = find-only test (has_id d.id) rows.ports d (good.port_ids d.id) found (ident_itself d.id)

  own-gateway : (o : Option Gateway) (d : PortRow) → gateway_port_of rows o ≡ Some d → Own rows d
  own-gateway None d h = none_some d _ h
  own-gateway (Some g) d h = own-found (has_id g.port) d h

  own-live : (n : Ident) (o : Option PortRow) (d : PortRow) → ((x : PortRow) → o ≡ Some x → Own rows x) → live_on rows n o ≡ Some d → Own rows d
  own-live n None d own h = none_some d _ h
  own-live n (Some x) d own h = go (ident_eq n x.network && is_live rows x) h
    where
      go : (b : Bool) → (if b then Some x else None) ≡ Some d → Own rows d
      go true h = own d h
      go false h = none_some d _ h

  own-floating : (f : FloatingRow) (d : PortRow) → floating_holder rows f ≡ Some d → Own rows d
  unfolding floating_holder
  own-floating f d h = own-live f.network (option_and_then (gateway_port rows) (target_router rows f.target)) d (go (target_router rows f.target)) h
    where
      go : (o : Option RouterRow) (x : PortRow) → option_and_then (gateway_port rows) o ≡ Some x → Own rows x
      go None x h = none_some x _ h
      go (Some r) x h = own-gateway r.gateway x h

  own-holder : (n : Ident) (a : Addr) (d : PortRow) → holder rows n a ≡ Some d → Own rows d
  own-holder n a d h = go (find (holds_live rows n a) rows.ports) refl h
    where
      by : (o : Option FloatingRow) → option_and_then (floating_holder rows) o ≡ Some d → Own rows d
      by None h = none_some d _ h
      by (Some f) h = own-floating f d h

      go : (o : Option PortRow) → find (holds_live rows n a) rows.ports ≡ o → option_or o (held_by_floating rows n a) ≡ Some d → Own rows d
      go None e h = by (find (floats_at n a) rows.floatings) h
      go (Some y) e h = own-found (holds_live rows n a) d (e ∙ h)

not-out : (w : Option Wire) (n : Ident) (toward : Toward) (frame : Frame) (c : DropCause) (i : Ident) (f : Frame) → out_or w n toward frame c ≡ Delivered i f → ⊥
not-out None n toward frame c i f e = cc
not-out (Some w) n toward frame c i f e = cc

never-dropped : (c : DropCause) (i : Ident) (f : Frame) → Dropped c ≡ Delivered i f → ⊥
never-dropped c i f e = cc

same-id : (i j : Ident) (f g : Frame) → Delivered i f ≡ Delivered j g → i ≡ j
same-id i j f g e = cc

-- one router more
module _ (rows : RowLists) (good : FrameFacts rows) (entries : List Entry) (many : ℕ) (rest : Lasts rows entries many) (q : PortRow) (p : Packet) (t : Trace) (i : Ident) (f : Frame) (own : Own rows q) where
  received : (x : Passage) → ends (delivered_by q p t x) ≡ Delivered i f → Last rows (Some q) i
  received x e = by x.passes e
    where
      by : (b : Bool) → ends (if b then end_fate (with_fresh t x.made) (Delivered q.id (ip_frame p)) else drop_fate t IngressFilter) ≡ Delivered i f → Last rows (Some q) i
      by true k = (q, refl, same-id q.id i (ip_frame p) f k, own)
      by false k = absurd (never-dropped IngressFilter i f k)

  handed : (r : RouterRow) (hop : Addr) (x : Packet) (u : Trace) (o : Option PortRow) → ends (handed_out rows (port_fate rows entries many) r hop x u o) ≡ Delivered i f → Last rows (port_after (last_port rows entries many) (arrival_by rows r hop x u o)) i
  handed r hop x u None e = absurd (never-dropped Unknown i f e)
  handed r hop x u (Some out) e = to (joined_with rows out.host (holder rows out.network hop)) refl e
    where
      to : (o : Option PortRow) → joined_with rows out.host (holder rows out.network hop) ≡ o → ends (handed_to rows (port_fate rows entries many) out.network hop x (with_path u (r.id ∷ out.network ∷ [])) o) ≡ Delivered i f → Last rows (port_after (last_port rows entries many) (option_map (λ (z : PortRow). record { port = z; packet = record x { dst = z.mac }; trace = with_path u (r.id ∷ out.network ∷ []) }) o)) i
      to None is k = absurd (not-out (wire_of (segment rows out.network)) out.network (TowardAddress hop) (ip_frame (record x { dst = 0 })) NoHolder i f k)
      to (Some z) is k = rest z (record x { dst = z.mac }) (with_path u (r.id ∷ out.network ∷ [])) i f (own-holder rows good out.network hop z (joined-is rows out.host (holder rows out.network hop) z is)) k

  by-routed : (r : RouterRow) (v : Ident) (n : ℕ) (x : Routed) → Lower v n x → ends (after_router rows (port_fate rows entries many) r t x) ≡ Delivered i f → Last rows (port_after (last_port rows entries many) (arrival rows r t x)) i
  by-routed r v n (RouteEnds o) low e = absurd (subst (EndsIn v) e low)
  by-routed r v n (RouteSends made out hop x) low e = handed r hop x (with_fresh t made) (find (λ (y : PortRow). ident_eq out.port y.id) (legs_of rows r)) e

  routed-last : (o : Option RouterRow) → ends (at_router rows entries (port_fate rows entries many) q p t o) ≡ Delivered i f → Last rows (port_after_router rows entries (last_port rows entries many) q p t o) i
  routed-last None e = absurd (never-dropped Unknown i f e)
  routed-last (Some r) e = by-routed r (router_view rows r).id p.ttl (routing_of (router_view rows r) (entries ++ t.fresh) (leg_of q) p) (routed-lower (router_view rows r) (entries ++ t.fresh) (leg_of q) p) e

  one-more : (b : Bool) (o : Option RouterRow) → ends (if b then at_router rows entries (port_fate rows entries many) q p t o else at_receiver rows entries q p t) ≡ Delivered i f → Last rows (if b then port_after_router rows entries (last_port rows entries many) q p t o else Some q) i
  one-more true o e = routed-last o e
  one-more false o e = received (rows_passage rows (entries ++ t.fresh) q Ingress p) e

pub delivered-last : (rows : RowLists) → FrameFacts rows → (entries : List Entry) (many : ℕ) → Lasts rows entries many
unfolding port_fate last_port
delivered-last rows good entries zero q p t i f own e = absurd (never-dropped Unknown i f e)
delivered-last rows good entries (suc many) q p t i f own e = one-more rows good entries many (delivered-last rows good entries many) q p t i f own (is_router_port q.owner) (router_of rows q) e

-- the frame of a port
module _ (rows : RowLists) (good : FrameFacts rows) (entries : List Entry) (names : List Text) (s : PortRow) (i : Ident) (f : Frame) where
  abbrev Two : List Text → Type 0
  Two hosts = (d : PortRow) × (d.id ≡ i) × Own rows d × (s.host ∷ hosts ≡ s.host ∷ d.host ∷ [])

  sent-two : (many : ℕ) (p : Packet) (y : Passage) (o : Option PortRow) → ((d : PortRow) → o ≡ Some d → Own rows d) → (b : Bool)
      → ends (if b then sent_to rows (port_fate rows entries many) s.network p (with_fresh (begun_by s) y.made) o else drop_fate (begun_by s) EgressFilter) ≡ Delivered i f
      → near_after (all_near rows entries many) (if b then option_map (λ (q : PortRow). record { port = q; packet = p; trace = with_fresh (begun_by s) y.made }) o else None) ≡ true
      → Two (if b then hosts_to (hosts_from rows entries many) p (with_fresh (begun_by s) y.made) o else [])
  sent-two many p y o own false e near = absurd (never-dropped EgressFilter i f e)
  sent-two many p y None own true e near = absurd (not-out (wire_of (segment rows s.network)) s.network (TowardMac p.dst) (ip_frame p) Unknown i f e)
  sent-two many p y (Some q) own true e near =
      let last = delivered-last rows good entries many q p (with_fresh (begun_by s) y.made) i f (own q refl) e in
      (last.0, last.2, last.3, ap (λ xs. s.host ∷ xs) (near-alone rows entries many q p (with_fresh (begun_by s) y.made) near ∙ ap host_of_port last.1))

  address-never : (n : Ident) (a : AddressAsk) (o : Option PortRow) → asked_by rows n a o ≡ Delivered i f → ⊥
  address-never n a None e = not-out (wire_of (segment rows n)) n (TowardAddress (destination a.ends)) (ask_frame a) NoHolder i f e
  address-never n a (Some q) e = cc

  lease-never : (o : Option Lease) → lease_outcome o ≡ Delivered i f → ⊥
  lease-never None e = cc
  lease-never (Some l) e = cc

  dhcp-never : (n : Ident) (a : LeaseAsk) (o : Option PortRow) → lease_asked_by rows n a o ≡ Delivered i f → ⊥
  dhcp-never n a None e = not-out (wire_of (segment rows n)) n TowardDhcp (dhcp_frame a) NoLease i f e
  dhcp-never n a (Some d) e = lease-never (option_and_then (lease_for rows d) (port_at rows n a.src)) e

  sender-two : (frame : Frame) → ends (from_sender rows entries (life_of frame) s (begun_by s) frame) ≡ Delivered i f → near_after (all_near rows entries (life_of frame)) (first_arrival rows entries s frame) ≡ true
      → Two (hosts_after_sender rows entries (life_of frame) s (begun_by s) frame)
  sender-two (Ip src dst ends0 ttl part) e near =
      sent-two (suc ttl) (packet src dst ends0 ttl part) (rows_passage rows (entries ++ []) s Egress (packet src dst ends0 ttl part)) (joined_with rows s.host (port_at rows s.network dst))
      (λ d h. own-found rows good (has_mac rows s.network dst) d (joined-is rows s.host (port_at rows s.network dst) d h))
      (rows_passage rows (entries ++ []) s Egress (packet src dst ends0 ttl part)).passes e near
  sender-two (NeighbourAsk src ends0) e near = absurd (address-never s.network (address_ask src ends0) (joined_with rows s.host (holder rows s.network (destination ends0))) e)
  sender-two (Dhcp src from) e near = absurd (dhcp-never s.network (lease_ask src from) (joined_with rows s.host (dhcp_port rows s.network)) e)
  sender-two (Other a d y) e near = absurd (never-dropped Unsupported i f e)

  live-two : (frame : Frame) (b u g : Bool)
      → ends (if b then (if u then drop_fate (begun_by s) Unsupported else if not g then drop_fate (begun_by s) Spoof else from_sender rows entries (life_of frame) s (begun_by s) frame) else drop_fate none_so_far Dead) ≡ Delivered i f
      → near_after (all_near rows entries (life_of frame)) (first_arrival rows entries s frame) ≡ true
      → (d : PortRow) × (d.id ≡ i) × Own rows d × ((if not b then [] else s.host ∷ (if u || not g then [] else hosts_after_sender rows entries (life_of frame) s (begun_by s) frame)) ≡ s.host ∷ d.host ∷ [])
  live-two frame false u g e near = absurd (never-dropped Dead i f e)
  live-two frame true true g e near = absurd (never-dropped Unsupported i f e)
  live-two frame true false false e near = absurd (never-dropped Spoof i f e)
  live-two frame true false true e near = sender-two frame e near

  near-two : (frame : Frame) → port_with rows s.id ≡ Some s → is_near_all_way rows entries s frame ≡ true → ends (rows_fate rows entries (FromPort s.id frame)) ≡ Delivered i f
      → (d : PortRow) × (d.id ≡ i) × Own rows d × (handlers rows entries names (FromPort s.id frame) ≡ once_in_a_row (s.host ∷ d.host ∷ []))
  unfolding rows_fate handlers
  near-two frame found near e =
      let two = live-two frame (may_begin rows s) (is_unsupported frame) (passes_guard s frame) (sym (ap (λ o. ends (from_port rows entries (life_of frame) frame o)) found) ∙ e) near in
      (two.0, two.1, two.2, ap (λ o. once_in_a_row (hosts_of_sender rows entries (life_of frame) frame o)) found ∙ ap once_in_a_row two.3)

pub two-hosts : (rows : RowLists) → IsConsistent rows → (entries : List Entry) (names : List Text) (s q : PortRow) (frame end : Frame) → port_with rows s.id ≡ Some s → port_with rows q.id ≡ Some q
    → is_near_all_way rows entries s frame ≡ true → ends (rows_fate rows entries (FromPort s.id frame)) ≡ Delivered q.id end
    → handlers rows entries names (FromPort s.id frame) ≡ once_in_a_row (s.host ∷ q.host ∷ [])
two-hosts rows c entries names s q frame end sender receiver near e =
    let two = near-two rows (frame-facts rows c) entries names s q.id end frame sender near e in
    let same : two.0 ≡ q = some_equal two.0 q (sym two.2 ∙ ap (port_with rows) two.1 ∙ receiver) in
    two.3 ∙ ap (λ (d : PortRow). once_in_a_row (s.host ∷ d.host ∷ [])) same

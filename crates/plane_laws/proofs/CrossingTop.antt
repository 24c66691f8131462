-- The rows' verdict on any event crosses at routers alone, and ends on its path's last network.
use Rattle.std.proofs.Common.{◌≡◌, ℕ, List, [], ◌∷◌, ◌++◌, Bool, true, false, not, Option, Some, None, refl, ap, sym, subst, ◌∙◌}
use Rattle.std.specs.Prelude.{is_some, option_and_then, ◌&&◌, ◌==◌, if◌then◌else◌}
use Rattle.std.proofs.lemmas.Bool.{and_parts}
use Rattle.api_types.proofs.NameLemmas.{ident_itself, ident_same}
use Rattle.api_types.specs.RowsWith.{port_with}
use Rattle.plane_laws.proofs.ListLemmas.{find-only, find-passes}
use Rattle.plane_laws.proofs.FactsHold.{frame-facts}
use Rattle.plane_laws.proofs.Theorem.{tables-mean-rows}
use Rattle.plane_laws.proofs.RouterLaw.{joined-found}
use Rattle.plane_laws.proofs.CrossingLaw.{Goes, LawOfEnds, got-goes, leaves-or, live-network}
use Rattle.api_types.specs.Consistent.{IsConsistent}
use Rattle.api_types.specs.Ident.{Ident}
use Rattle.api_types.specs.RowLists.{RowLists}
use Rattle.api_types.specs.Table.{ident_eq}
use Rattle.api_types.specs.declared.group.Direction.TheVariants.{Egress}
use Rattle.api_types.specs.declared.network.NetworkRow.{NetworkRow}
use Rattle.api_types.specs.declared.network.Segment.{Segment}
use Rattle.api_types.specs.declared.port.PortRow.{PortRow}
use Rattle.plane_types.specs.Ends.{destination}
use Rattle.plane_types.specs.Crossing.{CrossesAtRouters, CrossesFrom, EndsOn, PathCrosses, has_leg_on, is_dropped, is_network, is_on, last_from}
use Rattle.plane_types.specs.Guard.{passes_guard}
use Rattle.api_types.specs.Holders.{dhcp_port, has_mac, holder, port_at}
use Rattle.plane_types.specs.Hosts.{Host, all_entries}
use Rattle.api_types.specs.Live.{is_live, joined_with, segment}
use Rattle.api_types.specs.Owners.{is_router_port}
use Rattle.api_types.specs.Wires.{is_wire, wire_of, network_on}
use Rattle.plane_types.specs.Meaning.{Fate, lease_outcome, address_outcome, asked_by, drop_fate, end_fate, from_port, from_sender, from_wire, port_fate, lease_asked, lease_asked_by, dhcp_outcome, life_of, may_begin, none_so_far, out_of, rows_fate, rows_passage, sent_on, sent_out, sent_to, wire_ask, wire_lease, wire_packet}
use Rattle.api_types.specs.Leases.{lease_for}
use Rattle.plane_types.specs.Packets.{Packet, address_ask, ask_frame, dhcp_frame, ip_frame, is_unsupported, lease_ask, packet}
use Rattle.plane_types.specs.Passage.{Passage}
use Rattle.plane_types.specs.Verdicts.{fabric_verdict, rows_verdict}
use Rattle.plane_types.specs.declared.entry.Entry.{Entry}
use Rattle.plane_types.specs.declared.event.Event.{Event}
use Rattle.plane_types.specs.declared.event.Event.TheVariants.{FromPort, FromWire}
use Rattle.plane_types.specs.declared.frame.Frame.{Frame}
use Rattle.plane_types.specs.declared.frame.Frame.TheVariants.{Dhcp, Ip, NeighbourAsk, Other}
use Rattle.plane_types.specs.declared.verdict.AskAnswer.TheVariants.{Arp as ArpAnswer, Lease as LeaseAnswer}
use Rattle.plane_types.specs.declared.verdict.DropCause.TheVariants.{Dead, Egress as EgressFilter, NoHolder, NoLease, Spoof, Unknown, Unsupported}
use Rattle.api_types.specs.declared.lease.Lease.{Lease}
use Rattle.plane_types.specs.declared.verdict.Outcome.{Outcome}
use Rattle.plane_types.specs.declared.verdict.Toward.TheVariants.{Address as TowardAddress, Dhcp as TowardDhcp, Mac as TowardMac}
use Rattle.plane_laws.proofs.Facts.{FrameFacts}
use Rattle.plane_laws.specs.Held.{HoldRows}

-- the path crosses at routers alone, and the law is met on its last network; what has no path is dropped
abbrev pub PathEnds : RowLists → (Ident → Outcome → Type 0) → List Ident → Outcome → Type 0
PathEnds rows Holds [] o = is_dropped o ≡ true
PathEnds rows Holds (n ∷ rest) o = (is_network rows n ≡ true) × CrossesFrom rows n rest × Holds (last_from n rest) o

abbrev pub FateEnds : RowLists → (Ident → Outcome → Type 0) → Fate → Type 0
FateEnds rows Holds v = PathEnds rows Holds v.path v.outcome

module _ (rows : RowLists) (good : FrameFacts rows) (entries : List Entry) (Holds : Ident → Outcome → Type 0) (law : LawOfEnds rows Holds) where
  one : (n : Ident) → is_network rows n ≡ true → (fresh : List Entry) (o : Outcome) → Holds n o → FateEnds rows Holds (end_fate (record { path = n ∷ []; fresh = fresh }) o)
  one n there fresh o h = (there, tt, h)

  answered-holds : (n : Ident) (o : Option Lease) → Holds n (lease_outcome o)
  answered-holds n None = law.drops n NoLease
  answered-holds n (Some l) = law.answers n (LeaseAnswer l)

  from-goes : (n : Ident) → is_network rows n ≡ true → (fresh : List Entry) (v : Fate) → Goes rows Holds n (record { path = n ∷ []; fresh = fresh }) v → FateEnds rows Holds v
  from-goes n there fresh v g = subst (λ path. PathEnds rows Holds path v.outcome) (sym g.path) (there, g.crosses, g.on)

  packet-case : (n : Ident) → is_network rows n ≡ true → (fresh : List Entry) (many : ℕ) (x : Packet) (mac : ℕ) (q : PortRow) → port_at rows n mac ≡ Some q → FateEnds rows Holds (port_fate rows entries many q x (record { path = n ∷ []; fresh = fresh }))
  packet-case n there fresh many x mac q e =
      let parts = and_parts (ident_eq n q.network && (q.mac == mac)) (is_live rows q) (find-passes (has_mac rows n mac) rows.ports q e) in
      let same : n ≡ q.network = ident_same n q.network (and_parts (ident_eq n q.network) (q.mac == mac) parts.0).0 in
      from-goes n there fresh (port_fate rows entries many q x (record { path = n ∷ []; fresh = fresh }))
      (subst (λ m. Goes rows Holds m (record { path = n ∷ []; fresh = fresh }) (port_fate rows entries many q x (record { path = n ∷ []; fresh = fresh }))) (sym same)
      (got-goes rows good entries Holds law many (has_mac rows n mac) q e parts.1 x (record { path = n ∷ []; fresh = fresh })))

  sends : (p : PortRow) → is_live rows p ≡ true → (fresh : List Entry) (many : ℕ) (x : Packet) → FateEnds rows Holds (sent_on rows (port_fate rows entries many) p.network p.host x (record { path = p.network ∷ []; fresh = fresh }))
  sends p live fresh many x = go (joined_with rows p.host (port_at rows p.network x.dst)) refl
    where
      go : (o : Option PortRow) → joined_with rows p.host (port_at rows p.network x.dst) ≡ o → FateEnds rows Holds (sent_to rows (port_fate rows entries many) p.network x (record { path = p.network ∷ []; fresh = fresh }) o)
      go None e = one p.network (live-network rows p live) fresh (out_of rows p.network (TowardMac x.dst) (ip_frame x) Unknown) (leaves-or rows good entries Holds law (wire_of (segment rows p.network)) p.network (TowardMac x.dst) (ip_frame x) Unknown)
      go (Some q) e = packet-case p.network (live-network rows p live) fresh many x x.dst q (joined-found rows p.host (port_at rows p.network x.dst) q e).0

  sender : (p : PortRow) → is_live rows p ≡ true → (many : ℕ) (frame : Frame) → FateEnds rows Holds (from_sender rows entries many p (record { path = p.network ∷ []; fresh = [] }) frame)
  sender p live many (Ip src dst ends ttl part) = go (rows_passage rows (entries ++ []) p Egress (packet src dst ends ttl part))
    where
      by : (b : Bool) (made : List Entry) → FateEnds rows Holds (if b then sent_on rows (port_fate rows entries many) p.network p.host (packet src dst ends ttl part) (record { path = p.network ∷ []; fresh = [] ++ made }) else drop_fate (record { path = p.network ∷ []; fresh = [] }) EgressFilter)
      by true made = sends p live ([] ++ made) many (packet src dst ends ttl part)
      by false made = (live-network rows p live, tt, law.drops p.network EgressFilter)

      go : (y : Passage) → FateEnds rows Holds (sent_out rows (port_fate rows entries many) p (packet src dst ends ttl part) (record { path = p.network ∷ []; fresh = [] }) y)
      go y = by y.passes y.made
  sender p live many (NeighbourAsk src ends) = one p.network (live-network rows p live) [] (address_outcome rows p.network p.host (address_ask src ends)) (go (joined_with rows p.host (holder rows p.network (destination ends))))
    where
      go : (o : Option PortRow) → Holds p.network (asked_by rows p.network (address_ask src ends) o)
      go None = leaves-or rows good entries Holds law (wire_of (segment rows p.network)) p.network (TowardAddress (destination (address_ask src ends).ends)) (ask_frame (address_ask src ends)) NoHolder
      go (Some q) = law.answers p.network (ArpAnswer (destination ends) q.mac)
  sender p live many (Dhcp src from) = one p.network (live-network rows p live) [] (lease_asked rows p.network p.host (lease_ask src from)) (go (joined_with rows p.host (dhcp_port rows p.network)))
    where
      go : (o : Option PortRow) → Holds p.network (lease_asked_by rows p.network (lease_ask src from) o)
      go None = leaves-or rows good entries Holds law (wire_of (segment rows p.network)) p.network TowardDhcp (dhcp_frame (lease_ask src from)) NoLease
      go (Some d) = answered-holds p.network (option_and_then (lease_for rows d) (port_at rows p.network (lease_ask src from).src))
  sender p live many (Other s d y) = (live-network rows p live, tt, law.drops p.network Unsupported)

  port : (many : ℕ) (frame : Frame) (o : Option PortRow) → FateEnds rows Holds (from_port rows entries many frame o)
  port many frame None = refl
  port many frame (Some p) = go (may_begin rows p) refl (is_unsupported frame) (passes_guard p frame)
    where
      alive : may_begin rows p ≡ true → is_live rows p ≡ true
      alive e = (and_parts (is_live rows p) (not (is_router_port p.owner)) e).0

      go : (b : Bool) → may_begin rows p ≡ b → (u g : Bool) → FateEnds rows Holds (if b then (if u then drop_fate (record { path = p.network ∷ []; fresh = [] }) Unsupported else if not g then drop_fate (record { path = p.network ∷ []; fresh = [] }) Spoof else from_sender rows entries many p (record { path = p.network ∷ []; fresh = [] }) frame) else drop_fate none_so_far Dead)
      go false e u g = refl
      go true e true g = (live-network rows p (alive e), tt, law.drops p.network Unsupported)
      go true e false false = (live-network rows p (alive e), tt, law.drops p.network Spoof)
      go true e false true = sender p (alive e) many frame

  wire : (many : ℕ) (frame : Frame) (o : Option NetworkRow) → ((n : NetworkRow) → o ≡ Some n → is_network rows n.id ≡ true) → FateEnds rows Holds (from_wire rows entries many frame o)
  wire many frame None there = refl
  wire many (Ip src dst ends ttl part) (Some n) there = go (port_at rows n.id dst) refl
    where
      go : (o : Option PortRow) → port_at rows n.id (packet src dst ends ttl part).dst ≡ o → FateEnds rows Holds (wire_packet rows entries many n (packet src dst ends ttl part) o)
      go None e = refl
      go (Some q) e = packet-case n.id (there n refl) [] many (packet src dst ends ttl part) (packet src dst ends ttl part).dst q e
  wire many (NeighbourAsk src ends) (Some n) there = go (holder rows n.id (destination ends))
    where
      go : (o : Option PortRow) → FateEnds rows Holds (wire_ask n (address_ask src ends) o)
      go None = refl
      go (Some q) = (there n refl, tt, law.answers n.id (ArpAnswer (destination ends) q.mac))
  wire many (Dhcp src from) (Some n) there = go (dhcp_port rows n.id)
    where
      go : (o : Option PortRow) → FateEnds rows Holds (wire_lease rows n (lease_ask src from) o)
      go None = refl
      go (Some d) = one n.id (there n refl) [] (dhcp_outcome rows n.id (lease_ask src from) d) (answered-holds n.id (option_and_then (lease_for rows d) (port_at rows n.id (lease_ask src from).src)))
  wire many (Other s d y) (Some n) there = refl

  pub ends-law : (e : Event) → FateEnds rows Holds (rows_fate rows entries e)
  unfolding rows_fate
  ends-law (FromPort i frame) = port (life_of frame) frame (port_with rows i)
  ends-law (FromWire physical tag frame) = go (is_unsupported frame)
    where
      wire_test : NetworkRow → Bool
      wire_test n = is_wire (record { physical = physical; tag = tag }) (wire_of n.segment)

      found : (n : NetworkRow) → network_on rows (record { physical = physical; tag = tag }) ≡ Some n → is_network rows n.id ≡ true
      found n e = ap is_some (find-only wire_test (λ (m : NetworkRow). ident_eq n.id m.id) rows.networks n (good.network_ids n.id) e (ident_itself n.id))

      go : (b : Bool) → FateEnds rows Holds (if b then drop_fate none_so_far Unsupported else from_wire rows entries (life_of frame) frame (network_on rows (record { physical = physical; tag = tag })))
      go true = refl
      go false = wire (life_of frame) frame (network_on rows (record { physical = physical; tag = tag })) found

on-network : (rows : RowLists) → LawOfEnds rows (EndsOn rows)
on-network rows = record {
  drops = λ n c. tt;
  answers = λ n a. tt;
  leaves = λ n t f. ident_itself n;
  absorbs = λ n r named leg. ap (has_leg_on rows n) named ∙ leg;
  delivers = λ q entries p there passes. ap (is_on q.network) there ∙ ident_itself q.network;
}

crosses-so : (rows : RowLists) (path : List Ident) (o : Outcome) → PathEnds rows (EndsOn rows) path o → PathCrosses rows path o
crosses-so rows [] o h = h
crosses-so rows (n ∷ rest) o h = h

pub by-rows : (rows : RowLists) → IsConsistent rows → (entries : List Entry) (e : Event) → CrossesAtRouters rows (rows_verdict rows entries e)
by-rows rows good entries e =
    let fate = rows_fate rows entries e in
    crosses-so rows fate.path fate.outcome (ends-law rows (frame-facts rows good) entries (EndsOn rows) (on-network rows) e)

pub by-tables : (carry : List ℕ → Segment → Bool) (rows : RowLists) (hosts : List Host) → HoldRows carry rows hosts → (e : Event) → CrossesAtRouters rows (fabric_verdict hosts e)
by-tables carry rows hosts h e =
    subst (CrossesAtRouters rows) (sym (tables-mean-rows carry rows hosts h e)) (by-rows rows h.consistent (all_entries hosts) e)

-- An event from a port comes to what the rows say.
use Rattle.std.proofs.Common.{◌≡◌, ℕ, suc, ◌+◌, ◌-◌, ◌*◌, ◌≤◌, List, [], ◌∷◌, ◌++◌, Bool, true, false, not, Option, Some, None, refl, ap, sym, ◌∙◌, arith}
use Rattle.std.specs.Prelude.{find, option_and_then, option_map, ◌&&◌, ◌||◌, if◌then◌else◌, is_some}
use Rattle.std.specs.Str.{bytes_eq}
use Rattle.std.proofs.lemmas.Bool.{and_from, and_right}
use Rattle.api_types.proofs.NameLemmas.{ident_same, bytes_same}
use Rattle.plane_laws.proofs.ListLemmas.{find-passes, find-each, some_of, find-none_each, find-same_each, AllOf-more}
use Rattle.plane_laws.proofs.Located.{tag-row}
use Rattle.plane_laws.proofs.Tagged.{tap-located, tagged}
use Rattle.plane_laws.proofs.Sent.{trace_of, walk-on, trace-plain}
use Rattle.plane_laws.proofs.SentLaw.{sent-law}
use Rattle.plane_laws.proofs.RouterLaw.{trace-step, no-path}
use Rattle.plane_laws.proofs.LandsLaw.{lands-law, tap-found, tag-here, passage-here, real-at}
use Rattle.plane_laws.proofs.AskLaw.{guards-same, arp-law}
use Rattle.api_types.specs.Ident.{Ident}
use Rattle.api_types.specs.Owners.{is_router_port}
use Rattle.api_types.specs.RowLists.{RowLists}
use Rattle.api_types.specs.declared.group.Direction.TheVariants.{Egress}
use Rattle.api_types.specs.declared.network.NetworkRow.{NetworkRow}
use Rattle.api_types.specs.declared.port.PortRow.{PortRow}
use Rattle.plane_types.specs.Fabric.{Run, after_step, at_tap, run_from, fabric_fate, from_tap, meant, network_at, steps_for, fate_after, walk}
use Rattle.plane_types.specs.Guard.{passes_guard}
use Rattle.plane_types.specs.Hosts.{Host, all_entries, is_named}
use Rattle.api_types.specs.Live.{is_live, is_at}
use Rattle.api_types.specs.RowsWith.{network_with}
use Rattle.plane_types.specs.Meaning.{address_outcome, drop_fate, end_fate, from_live, from_port, from_sender, port_fate, lease_asked, life_of, may_begin, none_so_far, rows_fate, rows_passage, sent_on, sent_out, with_fresh}
use Rattle.plane_types.specs.Packets.{LeaseAsk, Packet, address_ask, ask_frame, dhcp_frame, ip_frame, is_unsupported, lease_ask, packet}
use Rattle.plane_types.specs.Passage.{Passage}
use Rattle.plane_types.specs.Places.{Bridge, Next, TapIn}
use Rattle.plane_types.specs.TableRows.{tag_of, tap_of, tap_row}
use Rattle.plane_types.specs.TableStep.{drops, plain, tap_at, tap_filtered, tap_in, tap_sends}
use Rattle.plane_types.specs.declared.entry.Entry.{Entry}
use Rattle.plane_types.specs.declared.event.Event.TheVariants.{FromPort}
use Rattle.plane_types.specs.declared.frame.Frame.{Frame}
use Rattle.plane_types.specs.declared.frame.Frame.TheVariants.{Dhcp, Ip, NeighbourAsk, Other}
use Rattle.plane_types.specs.declared.verdict.DropCause.TheVariants.{Dead, Egress as EgressFilter, Spoof, Unsupported}
use Rattle.plane_types.specs.declared.verdict.Outcome.TheVariants.{Dropped}
use Rattle.plane_laws.proofs.Facts.{AllOf, FrameFacts, HostFacts, SyncedFacts, has_id}

-- an ask for a lease on a bridge comes to what the rows say
abbrev pub LeaseLaw : RowLists → List Host → Type 0
LeaseLaw rows hosts = (steps : ℕ) (h : Host) (n : Ident) (net : NetworkRow) (tag : ℕ) (a : LeaseAsk) (run : Run) → 3 ≤ steps → find (is_named h.name) hosts ≡ Some h → network_with rows n ≡ Some net → tag_of h.tables.tags n ≡ Some tag → meant (walk hosts steps h (Bridge tag (dhcp_frame a)) run) ≡ end_fate (trace_of run) (lease_asked rows n h.name a)

module _ (rows : RowLists) (hosts : List Host) (good : FrameFacts rows) (synced : SyncedFacts rows hosts) (leases : LeaseLaw rows hosts) where
  module _ (h : Host) (test : PortRow → Bool) (q : PortRow) (found : find test rows.ports ≡ Some q) (live : is_live rows q ≡ true) (plain_port : is_router_port q.owner ≡ false) (named : find (is_named q.host) hosts ≡ Some h) where
    host_is : q.host ≡ h.name
    host_is = bytes_same q.host h.name (find-passes (is_named q.host) hosts h named)

    self : find (is_named h.name) hosts ≡ Some h
    self = ap (λ m. find (is_named m) hosts) (sym host_is) ∙ named

    net : (net : NetworkRow) × (network_with rows q.network ≡ Some net)
    net = some_of (network_with rows q.network) (find-each (λ (y : PortRow). is_some (network_with rows y.network) ≡ true) test rows.ports q good.networks_stand found)

    abbrev tag : (tag : ℕ) × (tag_of h.tables.tags q.network ≡ Some tag)
    tag = tag-here rows hosts good synced h test q found live plain_port named

    module _ (steps : ℕ) (run : Run) where
      packet-case : (frame : Frame) (x : Packet) → 3 * suc x.ttl + 4 ≤ steps → (y : Passage) → meant (fate_after hosts (walk hosts (steps - 1)) h (TapIn q.id frame) run (if y.passes then record { step = Next (Bridge (tag.0) (ip_frame x)); made = y.made } else plain (drops EgressFilter))) ≡ sent_out rows (port_fate rows (all_entries hosts) (suc x.ttl)) q x (trace_of run) y
      packet-case frame x enough y = go y.passes y.made
        where
          go : (b : Bool) (made : List Entry) → meant (fate_after hosts (walk hosts (steps - 1)) h (TapIn q.id frame) run (if b then record { step = Next (Bridge (tag.0) (ip_frame x)); made = made } else plain (drops EgressFilter))) ≡ (if b then sent_on rows (port_fate rows (all_entries hosts) (suc x.ttl)) q.network q.host x (with_fresh (trace_of run) made) else drop_fate (trace_of run) EgressFilter)
          go false made = ap (λ t. end_fate t (Dropped EgressFilter)) (trace-plain h (TapIn q.id frame) (drops EgressFilter) run refl)
          go true made =
              sent-law rows hosts good synced (suc x.ttl) (lands-law rows hosts good synced (suc x.ttl)) (steps - 1) h q.network net.0 tag.0 x (after_step h (TapIn q.id frame) (record { step = Next (Bridge (tag.0) (ip_frame x)); made = made }) run) (omega arith) self net.1 tag.1 (omega arith)
              ∙ ap (λ t. sent_on rows (port_fate rows (all_entries hosts) (suc x.ttl)) q.network h.name x t) (trace-step h (TapIn q.id frame) (record { step = Next (Bridge (tag.0) (ip_frame x)); made = made }) run [] refl ∙ no-path (with_fresh (trace_of run) made))
              ∙ ap (λ m. sent_on rows (port_fate rows (all_entries hosts) (suc x.ttl)) q.network m x (with_fresh (trace_of run) made)) (sym host_is)

      sends : (frame : Frame) → 3 * life_of frame + 4 ≤ steps → is_unsupported frame ≡ false → meant (fate_after hosts (walk hosts (steps - 1)) h (TapIn q.id frame) run (tap_sends h.tables (h.entries ++ run.fresh) (tap_of q (tag.0)) frame)) ≡ from_sender rows (all_entries hosts) (life_of frame) q (trace_of run) frame
      sends (Ip src dst ends ttl part) enough u =
          ap (λ y. meant (fate_after hosts (walk hosts (steps - 1)) h (TapIn q.id (ip_frame (packet src dst ends ttl part))) run (tap_filtered (ip_frame (packet src dst ends ttl part)) (tap_of q (tag.0)) y))) (passage-here rows hosts good synced h test q found live plain_port named Egress (packet src dst ends ttl part) run.fresh)
          ∙ packet-case (ip_frame (packet src dst ends ttl part)) (packet src dst ends ttl part) enough (rows_passage rows (all_entries hosts ++ run.fresh) q Egress (packet src dst ends ttl part))
      sends (NeighbourAsk src ends) enough u =
          arp-law rows hosts good synced (steps - 1) h q.network net.0 tag.0 (address_ask src ends) (after_step h (TapIn q.id (ask_frame (address_ask src ends))) (plain (Next (Bridge (tag.0) (ask_frame (address_ask src ends))))) run) (omega arith) self net.1 tag.1
          ∙ ap (λ t. end_fate t (address_outcome rows q.network h.name (address_ask src ends))) (trace-plain h (TapIn q.id (ask_frame (address_ask src ends))) (Next (Bridge (tag.0) (ask_frame (address_ask src ends)))) run refl)
          ∙ ap (λ m. end_fate (trace_of run) (address_outcome rows q.network m (address_ask src ends))) (sym host_is)
      sends (Dhcp src from) enough u =
          leases (steps - 1) h q.network net.0 tag.0 (lease_ask src from) (after_step h (TapIn q.id (dhcp_frame (lease_ask src from))) (plain (Next (Bridge (tag.0) (dhcp_frame (lease_ask src from))))) run) (omega arith) self net.1 tag.1
          ∙ ap (λ t. end_fate t (lease_asked rows q.network h.name (lease_ask src from))) (trace-plain h (TapIn q.id (dhcp_frame (lease_ask src from))) (Next (Bridge (tag.0) (dhcp_frame (lease_ask src from)))) run refl)
          ∙ ap (λ m. end_fate (trace_of run) (lease_asked rows q.network m (lease_ask src from))) (sym host_is)
      sends (Other s d y) enough u = cc

      pub tap-law : (frame : Frame) → 3 * life_of frame + 4 ≤ steps → meant (walk hosts steps h (TapIn q.id frame) run) ≡ from_live rows (all_entries hosts) (life_of frame) q (trace_of run) frame
      tap-law frame enough =
          ap meant (walk-on hosts steps h (TapIn q.id frame) run (omega arith))
          ∙ ap (λ o. meant (fate_after hosts (walk hosts (steps - 1)) h (TapIn q.id frame) run (tap_in h.tables (h.entries ++ run.fresh) frame o))) (tap-found rows hosts good synced h test q found live plain_port named)
          ∙ ap (λ g. meant (fate_after hosts (walk hosts (steps - 1)) h (TapIn q.id frame) run (if is_unsupported frame then plain (drops Unsupported) else if not (not q.secured || g) then plain (drops Spoof) else tap_sends h.tables (h.entries ++ run.fresh) (tap_of q (tag.0)) frame))) (guards-same q (tag.0) frame)
          ∙ go (is_unsupported frame) (passes_guard q frame) refl
        where
          go : (u g : Bool) → is_unsupported frame ≡ u → meant (fate_after hosts (walk hosts (steps - 1)) h (TapIn q.id frame) run (if u then plain (drops Unsupported) else if not g then plain (drops Spoof) else tap_sends h.tables (h.entries ++ run.fresh) (tap_of q (tag.0)) frame)) ≡ (if u then drop_fate (trace_of run) Unsupported else if not g then drop_fate (trace_of run) Spoof else from_sender rows (all_entries hosts) (life_of frame) q (trace_of run) frame)
          go true g e = ap (λ t. end_fate t (Dropped Unsupported)) (trace-plain h (TapIn q.id frame) (drops Unsupported) run refl)
          go false false e = ap (λ t. end_fate t (Dropped Spoof)) (trace-plain h (TapIn q.id frame) (drops Spoof) run refl)
          go false true e = sends frame enough e

  -- where a port's frame begins
  module _ (port : Ident) (frame : Frame) where
    tap-of-host : (o : Option PortRow) → find (has_id port) rows.ports ≡ o → (x : Host) → HostFacts rows x.name x.tables → tap_at x.tables port ≡ option_and_then (tap_row rows x.name x.tables.tags) o
    tap-of-host o e x r = tap-located rows x.name x.tables r good port ∙ ap (option_and_then (tap_row rows x.name x.tables.tags)) e

    begins : (p : PortRow) → find (has_id port) rows.ports ≡ Some p → (x : Host) → HostFacts rows x.name x.tables → is_some (tap_at x.tables port) ≡ (may_begin rows p && is_named p.host x)
    begins p e x r = ap is_some (tap-of-host (Some p) e x r) ∙ go (is_live rows p) (is_at x.name p) (is_router_port p.owner) refl refl
      where
        go : (l a b : Bool) → is_live rows p ≡ l → is_at x.name p ≡ a → is_some (if (l && a) && not b then option_map (tap_of p) (tag_of x.tables.tags p.network) else None) ≡ ((l && not b) && a)
        go false a b f g = refl
        go true false true f g = refl
        go true false false f g = refl
        go true true true f g = refl
        go true true false f g =
            let tag = tagged rows x.name x.tables r good (has_id port) p e (and_from (is_live rows p) (is_at x.name p) f g) in
            ap (λ o. is_some (option_map (tap_of p) o)) tag.1

    nobody : AllOf (λ (x : Host). is_some (tap_at x.tables port) ≡ false) hosts → meant (fabric_fate hosts (FromPort port frame)) ≡ drop_fate none_so_far Dead
    unfolding fabric_fate
    nobody h = ap (λ o. meant (from_tap hosts port frame o)) (find-none_each (λ (x : Host). is_some (tap_at x.tables port)) hosts h)

    somebody : (p : PortRow) → find (has_id port) rows.ports ≡ Some p → is_live rows p ≡ true → is_router_port p.owner ≡ false → meant (fabric_fate hosts (FromPort port frame)) ≡ from_live rows (all_entries hosts) (life_of frame) p (record { path = p.network ∷ []; fresh = [] }) frame
    unfolding fabric_fate steps_for
    somebody p e live plain_port =
        ap (λ o. meant (from_tap hosts port frame o)) first
        ∙ ap (λ i. meant (walk hosts (suc (3 * life_of frame + 3)) home.0 (TapIn i frame) (run_from (at_tap home.0 (tap_at (home.0).tables i))))) same
        ∙ ap (λ o. meant (walk hosts (suc (3 * life_of frame + 3)) home.0 (TapIn p.id frame) (run_from (at_tap home.0 o)))) (tap-found rows hosts good synced home.0 (has_id port) p e live plain_port home.1)
        ∙ ap (λ o. meant (walk hosts (suc (3 * life_of frame + 3)) home.0 (TapIn p.id frame) (run_from (network_at o)))) (tag-row rows (home.0).name (home.0).tables.tags real.tags p.network t.0 t.1)
        ∙ tap-law home.0 (has_id port) p e live plain_port home.1 (suc (3 * life_of frame + 3)) (run_from (p.network ∷ [])) frame (omega arith)
      where
        same : port ≡ p.id
        same = ident_same port p.id (find-passes (has_id port) rows.ports p e)

        home : (x : Host) × (find (is_named p.host) hosts ≡ Some x)
        home = some_of (find (is_named p.host) hosts) (find-each (λ (y : PortRow). is_live rows y ≡ true → is_some (find (λ (z : Host). bytes_eq y.host z.name) hosts) ≡ true) (has_id port) rows.ports p synced.complete e live)

        t : (tag : ℕ) × (tag_of (home.0).tables.tags p.network ≡ Some tag)
        t = tag-here rows hosts good synced home.0 (has_id port) p e live plain_port home.1

        real : HostFacts rows (home.0).name (home.0).tables
        real = real-at rows hosts good synced home.0 (has_id port) p e live plain_port home.1

        begin : may_begin rows p ≡ true
        begin = and_from (is_live rows p) (not (is_router_port p.owner)) live (ap not plain_port)

        first : find (λ (x : Host). is_some (tap_at x.tables port)) hosts ≡ Some home.0
        first = find-same_each (λ (x : Host). is_some (tap_at x.tables port)) (is_named p.host) hosts (AllOf-more (λ (y : Host). HostFacts rows y.name y.tables) (λ (x : Host). is_some (tap_at x.tables port) ≡ is_named p.host x) hosts (λ x r. begins p e x r ∙ ap (λ b. b && is_named p.host x) begin) synced.realise) ∙ home.1

    pub port-law : meant (fabric_fate hosts (FromPort port frame)) ≡ rows_fate rows (all_entries hosts) (FromPort port frame)
    unfolding rows_fate
    port-law = go (find (has_id port) rows.ports) refl
      where
        idle : (p : PortRow) → find (has_id port) rows.ports ≡ Some p → may_begin rows p ≡ false → AllOf (λ (x : Host). is_some (tap_at x.tables port) ≡ false) hosts
        idle p e off = AllOf-more (λ (y : Host). HostFacts rows y.name y.tables) (λ (x : Host). is_some (tap_at x.tables port) ≡ false) hosts (λ x r. begins p e x r ∙ ap (λ b. b && is_named p.host x) off) synced.realise

        by : (p : PortRow) → find (has_id port) rows.ports ≡ Some p → (l b : Bool) → is_live rows p ≡ l → is_router_port p.owner ≡ b → meant (fabric_fate hosts (FromPort port frame)) ≡ (if l && not b then from_live rows (all_entries hosts) (life_of frame) p (record { path = p.network ∷ []; fresh = [] }) frame else drop_fate none_so_far Dead)
        by p e false b f g = nobody (idle p e (ap (λ l. l && not (is_router_port p.owner)) f))
        by p e true true f g = nobody (idle p e (ap (λ b. is_live rows p && not b) g ∙ and_right (is_live rows p) false refl))
        by p e true false f g = somebody p e f g

        go : (o : Option PortRow) → find (has_id port) rows.ports ≡ o → meant (fabric_fate hosts (FromPort port frame)) ≡ from_port rows (all_entries hosts) (life_of frame) frame o
        go None e = nobody (AllOf-more (λ (y : Host). HostFacts rows y.name y.tables) (λ (x : Host). is_some (tap_at x.tables port) ≡ false) hosts (λ x r. ap is_some (tap-of-host None e x r)) synced.realise)
        go (Some p) e = by p e (is_live rows p) (is_router_port p.owner) refl refl

-- An event from a port comes to what the rows say, on the hosts that they say.
use Rattle.api_types.proofs.NameLemmas.{ident_same}
use Rattle.api_types.specs.Holders.{dhcp_port, port_at}
use Rattle.api_types.specs.Ident.{Ident}
use Rattle.api_types.specs.Live.{is_at, is_live, joined_with}
use Rattle.api_types.specs.Owners.{is_router_port}
use Rattle.api_types.specs.RowLists.{RowLists}
use Rattle.api_types.specs.RowsWith.{network_with}
use Rattle.api_types.specs.declared.group.Direction.TheVariants.{Egress}
use Rattle.api_types.specs.declared.network.NetworkRow.{NetworkRow}
use Rattle.api_types.specs.declared.port.PortRow.{PortRow}
use Rattle.dvr_laws.proofs.DvrParts.{DvrFacts, by-tables, every, home, host_of, looked, name-is, plain-found, real, self, tell}
use Rattle.dvr_laws.proofs.DvrRouter.{sent-law-dvr}
use Rattle.dvr_laws.proofs.HostsLaw.{AllOf-mapped}
use Rattle.dvr_types.specs.DvrFabric.{At, DvrHost, DvrRun, dvr_fate, dvr_walk, fate_after_tables, from_dvr_tap, is_dvr_named, run_at_first}
use Rattle.dvr_types.specs.DvrVerdicts.{DvrMeaning, dvr_meant, plain_hosts}
use Rattle.dvr_types.specs.Handlers.{after_host, host_of_port, hosts_after_sender, hosts_from, hosts_of_sender, hosts_sent, hosts_to, once_in_a_row}
use Rattle.plane_laws.proofs.AskLaw.{guards-same}
use Rattle.plane_laws.proofs.Facts.{AllOf, FrameFacts, HostFacts, has_id}
use Rattle.plane_laws.proofs.LandsLaw.{passage-here, tag-here, tap-found}
use Rattle.plane_laws.proofs.ListLemmas.{AllOf-more, find-each, find-none_each, find-passes, find-same_each, some_of}
use Rattle.plane_laws.proofs.Located.{tag-row}
use Rattle.plane_laws.proofs.RouterLaw.{no-path, trace-step}
use Rattle.plane_laws.proofs.Sent.{trace-plain, trace_of}
use Rattle.plane_laws.proofs.Tagged.{tagged, tap-located}
use Rattle.plane_types.specs.Fabric.{at_tap, network_at, steps_for}
use Rattle.plane_types.specs.Guard.{passes_guard}
use Rattle.plane_types.specs.Hosts.{Host, is_named}
use Rattle.plane_types.specs.Meaning.{Trace, address_outcome, drop_fate, end_fate, from_live, from_port, from_sender, lease_asked, life_of, may_begin, none_so_far, port_fate, rows_passage, sent_on, sent_out, with_fresh}
use Rattle.plane_types.specs.Packets.{AddressAsk, LeaseAsk, Packet, address_ask, ask_frame, dhcp_frame, ip_frame, is_unsupported, lease_ask, packet}
use Rattle.plane_types.specs.Passage.{Passage}
use Rattle.plane_types.specs.Places.{Bridge, Next, TapIn}
use Rattle.plane_types.specs.TableRows.{tag_of, tap_of, tap_row}
use Rattle.plane_types.specs.TableStep.{Stepped, drops, plain, tap_at, tap_filtered, tap_in, tap_sends}
use Rattle.plane_types.specs.declared.entry.Entry.{Entry}
use Rattle.plane_types.specs.declared.event.Event.TheVariants.{FromPort}
use Rattle.plane_types.specs.declared.frame.Frame.{Frame}
use Rattle.plane_types.specs.declared.frame.Frame.TheVariants.{Dhcp, Ip, NeighbourAsk, Other}
use Rattle.plane_types.specs.declared.verdict.DropCause.{DropCause}
use Rattle.plane_types.specs.declared.verdict.DropCause.TheVariants.{Dead, Egress as EgressFilter, Spoof, Unsupported}
use Rattle.plane_types.specs.declared.verdict.Outcome.TheVariants.{Dropped}
use Rattle.std.proofs.Common.{Bool, List, None, Option, Some, [], ap, arith, false, not, refl, suc, sym, true, ℕ, ◌*◌, ◌++◌, ◌+◌, ◌-◌, ◌<◌, ◌∙◌, ◌∷◌, ◌≡◌, ◌≤◌}
use Rattle.std.proofs.lemmas.Bool.{and_from, and_right}
use Rattle.std.proofs.lemmas.List.{append-nil}
use Rattle.std.specs.Prelude.{find, if◌then◌else◌, is_some, option_and_then, option_map, ◌&&◌, ◌||◌}

-- an ask for an address, and one for a lease, on a bridge
abbrev pub DvrAsks : RowLists → List DvrHost → Type 0
DvrAsks rows hosts = (steps : ℕ) (d : DvrHost) (n : Ident) (net : NetworkRow) (tag : ℕ) (a : AddressAsk) (run : DvrRun) → 0 < steps → find (is_dvr_named d.host.name) hosts ≡ Some d → network_with rows n ≡ Some net → tag_of d.host.tables.tags n ≡ Some tag → dvr_meant (dvr_walk hosts steps d (At (Bridge tag (ask_frame a))) run) ≡ tell (end_fate (trace_of run.run) (address_outcome rows n d.host.name a)) run.hosts

abbrev pub DvrLeases : RowLists → List DvrHost → Type 0
DvrLeases rows hosts = (steps : ℕ) (d : DvrHost) (n : Ident) (net : NetworkRow) (tag : ℕ) (a : LeaseAsk) (run : DvrRun) → 3 ≤ steps → find (is_dvr_named d.host.name) hosts ≡ Some d → network_with rows n ≡ Some net → tag_of d.host.tables.tags n ≡ Some tag → dvr_meant (dvr_walk hosts steps d (At (Bridge tag (dhcp_frame a))) run) ≡ tell (end_fate (trace_of run.run) (lease_asked rows n d.host.name a)) (run.hosts ++ after_host d.host.name (host_of_port (joined_with rows d.host.name (dhcp_port rows n))))

module _ (rows : RowLists) (hosts : List DvrHost) (good : FrameFacts rows) (facts : DvrFacts rows hosts) (asks : DvrAsks rows hosts) (leases : DvrLeases rows hosts) where
  module _ (d : DvrHost) (test : PortRow → Bool) (q : PortRow) (found : find test rows.ports ≡ Some q) (live : is_live rows q ≡ true) (plain_port : is_router_port q.owner ≡ false) (named : find (is_dvr_named q.host) hosts ≡ Some d) where
    at_plain : find (is_named q.host) (plain_hosts hosts) ≡ Some d.host
    at_plain = plain-found rows hosts good facts q.host d named

    host_is : q.host ≡ d.host.name
    host_is = name-is rows hosts good facts q.host d named

    self_named : find (is_dvr_named d.host.name) hosts ≡ Some d
    self_named = self rows hosts good facts q.host d named

    net : (net : NetworkRow) × (network_with rows q.network ≡ Some net)
    net = some_of (network_with rows q.network) (find-each (λ (y : PortRow). is_some (network_with rows y.network) ≡ true) test rows.ports q good.networks_stand found)

    abbrev tag : (tag : ℕ) × (tag_of d.host.tables.tags q.network ≡ Some tag)
    tag = tag-here rows (plain_hosts hosts) good facts.synced d.host test q found live plain_port at_plain

    module _ (steps : ℕ) (run : DvrRun) where
      abbrev t : Trace
      t = trace_of run.run

      abbrev moves : Frame → Stepped → DvrMeaning
      moves frame s = dvr_meant (fate_after_tables hosts (dvr_walk hosts (steps - 1)) d (TapIn q.id frame) run s)

      -- an end at the sender
      stopped : (frame : Frame) (c : DropCause) → moves frame (plain (drops c)) ≡ tell (drop_fate (trace_of run.run) c) (run.hosts ++ after_host d.host.name [])
      stopped frame c = ap (λ t. tell (end_fate t (Dropped c)) run.hosts) (trace-plain d.host (TapIn q.id frame) (drops c) run.run refl) ∙ ap (tell (drop_fate (trace_of run.run) c)) (sym (append-nil run.hosts))

      abbrev answer_sent : Packet → Passage → DvrMeaning
      answer_sent x y = tell (sent_out rows (port_fate rows (every hosts) (suc x.ttl)) q x (trace_of run.run) y) (run.hosts ++ after_host d.host.name (hosts_sent rows (hosts_from rows (every hosts) (suc x.ttl)) q x (trace_of run.run) y))

      packet-case : (frame : Frame) (x : Packet) → 3 * suc x.ttl + 4 ≤ steps → (y : Passage) → moves frame (if y.passes then record { step = Next (Bridge (tag.0) (ip_frame x)); made = y.made } else plain (drops EgressFilter)) ≡ answer_sent x y
      packet-case frame x enough y = go y.passes y.made
        where
          go : (b : Bool) (made : List Entry) → moves frame (if b then record { step = Next (Bridge (tag.0) (ip_frame x)); made = made } else plain (drops EgressFilter)) ≡ tell (if b then sent_on rows (port_fate rows (every hosts) (suc x.ttl)) q.network q.host x (with_fresh (trace_of run.run) made) else drop_fate (trace_of run.run) EgressFilter) (run.hosts ++ after_host d.host.name (if b then hosts_to (hosts_from rows (every hosts) (suc x.ttl)) x (with_fresh (trace_of run.run) made) (joined_with rows q.host (port_at rows q.network x.dst)) else []))
          go false made = stopped frame EgressFilter
          go true made =
              sent-law-dvr rows hosts good facts (suc x.ttl) (steps - 1) d q.network net.0 tag.0 x (looked d (TapIn q.id frame) (record { step = Next (Bridge (tag.0) (ip_frame x)); made = made }) run) (omega arith) self_named net.1 tag.1 (omega arith)
              ∙ ap (λ z. tell (sent_on rows (port_fate rows (every hosts) (suc x.ttl)) q.network d.host.name x z) (run.hosts ++ after_host d.host.name (hosts_to (hosts_from rows (every hosts) (suc x.ttl)) x z (joined_with rows d.host.name (port_at rows q.network x.dst))))) (trace-step d.host (TapIn q.id frame) (record { step = Next (Bridge (tag.0) (ip_frame x)); made = made }) run.run [] refl ∙ no-path (with_fresh (trace_of run.run) made))
              ∙ ap (λ m. tell (sent_on rows (port_fate rows (every hosts) (suc x.ttl)) q.network m x (with_fresh (trace_of run.run) made)) (run.hosts ++ after_host d.host.name (hosts_to (hosts_from rows (every hosts) (suc x.ttl)) x (with_fresh (trace_of run.run) made) (joined_with rows m (port_at rows q.network x.dst))))) (sym host_is)

      abbrev answer_sender : Frame → DvrMeaning
      answer_sender frame = tell (from_sender rows (every hosts) (life_of frame) q (trace_of run.run) frame) (run.hosts ++ after_host d.host.name (hosts_after_sender rows (every hosts) (life_of frame) q (trace_of run.run) frame))

      sends : (frame : Frame) → 3 * life_of frame + 4 ≤ steps → is_unsupported frame ≡ false → moves frame (tap_sends d.host.tables (d.host.entries ++ run.run.fresh) (tap_of q (tag.0)) frame) ≡ answer_sender frame
      sends (Ip src dst ends ttl part) enough u =
          ap (λ y. moves (ip_frame (packet src dst ends ttl part)) (tap_filtered (ip_frame (packet src dst ends ttl part)) (tap_of q (tag.0)) y)) (passage-here rows (plain_hosts hosts) good facts.synced d.host test q found live plain_port at_plain Egress (packet src dst ends ttl part) run.run.fresh)
          ∙ packet-case (ip_frame (packet src dst ends ttl part)) (packet src dst ends ttl part) enough (rows_passage rows (every hosts ++ run.run.fresh) q Egress (packet src dst ends ttl part))
      sends (NeighbourAsk src ends) enough u =
          asks (steps - 1) d q.network net.0 tag.0 (address_ask src ends) (looked d (TapIn q.id (ask_frame (address_ask src ends))) (plain (Next (Bridge (tag.0) (ask_frame (address_ask src ends))))) run) (omega arith) self_named net.1 tag.1
          ∙ ap (λ z. tell (end_fate z (address_outcome rows q.network d.host.name (address_ask src ends))) run.hosts) (trace-plain d.host (TapIn q.id (ask_frame (address_ask src ends))) (Next (Bridge (tag.0) (ask_frame (address_ask src ends)))) run.run refl)
          ∙ ap (λ m. tell (end_fate (trace_of run.run) (address_outcome rows q.network m (address_ask src ends))) run.hosts) (sym host_is)
          ∙ ap (tell (end_fate (trace_of run.run) (address_outcome rows q.network q.host (address_ask src ends)))) (sym (append-nil run.hosts))
      sends (Dhcp src from) enough u =
          leases (steps - 1) d q.network net.0 tag.0 (lease_ask src from) (looked d (TapIn q.id (dhcp_frame (lease_ask src from))) (plain (Next (Bridge (tag.0) (dhcp_frame (lease_ask src from))))) run) (omega arith) self_named net.1 tag.1
          ∙ ap (λ z. tell (end_fate z (lease_asked rows q.network d.host.name (lease_ask src from))) (run.hosts ++ after_host d.host.name (host_of_port (joined_with rows d.host.name (dhcp_port rows q.network))))) (trace-plain d.host (TapIn q.id (dhcp_frame (lease_ask src from))) (Next (Bridge (tag.0) (dhcp_frame (lease_ask src from)))) run.run refl)
          ∙ ap (λ m. tell (end_fate (trace_of run.run) (lease_asked rows q.network m (lease_ask src from))) (run.hosts ++ after_host d.host.name (host_of_port (joined_with rows m (dhcp_port rows q.network))))) (sym host_is)
      sends (Other s e y) enough u = cc

      abbrev answer_live : Bool → Bool → Frame → DvrMeaning
      answer_live u g frame = tell (if u then drop_fate (trace_of run.run) Unsupported else if not g then drop_fate (trace_of run.run) Spoof else from_sender rows (every hosts) (life_of frame) q (trace_of run.run) frame) (run.hosts ++ after_host d.host.name (if u || not g then [] else hosts_after_sender rows (every hosts) (life_of frame) q (trace_of run.run) frame))

      pub tap-law : (frame : Frame) → 3 * life_of frame + 4 ≤ steps → dvr_meant (dvr_walk hosts steps d (At (TapIn q.id frame)) run) ≡ answer_live (is_unsupported frame) (passes_guard q frame) frame
      tap-law frame enough =
          by-tables rows hosts good facts steps d (TapIn q.id frame) run (omega arith) refl (tap_in d.host.tables (d.host.entries ++ run.run.fresh) frame (Some (tap_of q (tag.0)))) (ap (tap_in d.host.tables (d.host.entries ++ run.run.fresh) frame) (tap-found rows (plain_hosts hosts) good facts.synced d.host test q found live plain_port at_plain))
          ∙ ap (λ g. moves frame (if is_unsupported frame then plain (drops Unsupported) else if not (not q.secured || g) then plain (drops Spoof) else tap_sends d.host.tables (d.host.entries ++ run.run.fresh) (tap_of q (tag.0)) frame)) (guards-same q (tag.0) frame)
          ∙ go (is_unsupported frame) (passes_guard q frame) refl
        where
          go : (u g : Bool) → is_unsupported frame ≡ u → moves frame (if u then plain (drops Unsupported) else if not g then plain (drops Spoof) else tap_sends d.host.tables (d.host.entries ++ run.run.fresh) (tap_of q (tag.0)) frame) ≡ answer_live u g frame
          go true g e = stopped frame Unsupported
          go false false e = stopped frame Spoof
          go false true e = sends frame enough e

  -- where a port's frame begins
  module _ (port : Ident) (frame : Frame) where
    realised : AllOf (λ (x : DvrHost). HostFacts rows x.host.name x.host.tables) hosts
    realised = AllOf-mapped (λ (y : Host). HostFacts rows y.name y.tables) host_of hosts facts.synced.realise

    tap-of-host : (o : Option PortRow) → find (has_id port) rows.ports ≡ o → (x : Host) → HostFacts rows x.name x.tables → tap_at x.tables port ≡ option_and_then (tap_row rows x.name x.tables.tags) o
    tap-of-host o e x r = tap-located rows x.name x.tables r good port ∙ ap (option_and_then (tap_row rows x.name x.tables.tags)) e

    begins : (p : PortRow) → find (has_id port) rows.ports ≡ Some p → (x : Host) → HostFacts rows x.name x.tables → is_some (tap_at x.tables port) ≡ (may_begin rows p && is_named p.host x)
    begins p e x r = ap is_some (tap-of-host (Some p) e x r) ∙ go (is_live rows p) (is_at x.name p) (is_router_port p.owner) refl refl
      where
        go : (l a b : Bool) → is_live rows p ≡ l → is_at x.name p ≡ a → is_some (if (l && a) && not b then option_map (tap_of p) (tag_of x.tables.tags p.network) else None) ≡ ((l && not b) && a)
        go false a b f g = refl
        go true false true f g = refl
        go true false false f g = refl
        go true true true f g = refl
        go true true false f g =
            let tag = tagged rows x.name x.tables r good (has_id port) p e (and_from (is_live rows p) (is_at x.name p) f g) in
            ap (λ o. is_some (option_map (tap_of p) o)) tag.1

    abbrev answer_port : Option PortRow → DvrMeaning
    answer_port o = tell (from_port rows (every hosts) (life_of frame) frame o) (once_in_a_row (hosts_of_sender rows (every hosts) (life_of frame) frame o))

    nobody : AllOf (λ (x : DvrHost). is_some (tap_at x.host.tables port) ≡ false) hosts → dvr_meant (dvr_fate hosts (FromPort port frame)) ≡ tell (drop_fate none_so_far Dead) []
    unfolding dvr_fate
    nobody h = ap (λ o. dvr_meant (from_dvr_tap hosts port frame o)) (find-none_each (λ (x : DvrHost). is_some (tap_at x.host.tables port)) hosts h)

    somebody : (p : PortRow) → find (has_id port) rows.ports ≡ Some p → is_live rows p ≡ true → is_router_port p.owner ≡ false → dvr_meant (dvr_fate hosts (FromPort port frame)) ≡ answer_port (Some p)
    unfolding dvr_fate steps_for
    somebody p e live plain_port =
        ap (λ o. dvr_meant (from_dvr_tap hosts port frame o)) first
        ∙ ap (λ i. dvr_meant (dvr_walk hosts (suc (3 * life_of frame + 3)) x.0 (At (TapIn i frame)) (run_at_first x.0 (at_tap x.0.host (tap_at x.0.host.tables i))))) same
        ∙ ap (λ o. dvr_meant (dvr_walk hosts (suc (3 * life_of frame + 3)) x.0 (At (TapIn p.id frame)) (run_at_first x.0 (at_tap x.0.host o)))) (tap-found rows (plain_hosts hosts) good facts.synced x.0.host (has_id port) p e live plain_port (plain-found rows hosts good facts p.host x.0 x.1))
        ∙ ap (λ o. dvr_meant (dvr_walk hosts (suc (3 * life_of frame + 3)) x.0 (At (TapIn p.id frame)) (run_at_first x.0 (network_at o)))) (tag-row rows x.0.host.name x.0.host.tables.tags (real rows hosts good facts p.host x.0 x.1).tags p.network z.0 z.1)
        ∙ tap-law x.0 (has_id port) p e live plain_port x.1 (suc (3 * life_of frame + 3)) (run_at_first x.0 (p.network ∷ [])) frame (omega arith)
        ∙ ap (λ h. tell (from_live rows (every hosts) (life_of frame) p (record { path = p.network ∷ []; fresh = [] }) frame) (h ∷ after_host h (behind))) (sym (name-is rows hosts good facts p.host x.0 x.1))
        ∙ sym (ap (λ b. tell (if b then from_live rows (every hosts) (life_of frame) p (record { path = p.network ∷ []; fresh = [] }) frame else drop_fate none_so_far Dead) (once_in_a_row (if not b then [] else p.host ∷ behind))) begin)
      where
        behind : List (List ℕ)
        behind = if is_unsupported frame || not (passes_guard p frame) then [] else hosts_after_sender rows (every hosts) (life_of frame) p (record { path = p.network ∷ []; fresh = [] }) frame

        same : port ≡ p.id
        same = ident_same port p.id (find-passes (has_id port) rows.ports p e)

        x : (x : DvrHost) × (find (is_dvr_named p.host) hosts ≡ Some x)
        x = home rows hosts good facts (has_id port) p e live

        z : (tag : ℕ) × (tag_of (x.0).host.tables.tags p.network ≡ Some tag)
        z = tag-here rows (plain_hosts hosts) good facts.synced x.0.host (has_id port) p e live plain_port (plain-found rows hosts good facts p.host x.0 x.1)

        begin : may_begin rows p ≡ true
        begin = and_from (is_live rows p) (not (is_router_port p.owner)) live (ap not plain_port)

        first : find (λ (d : DvrHost). is_some (tap_at d.host.tables port)) hosts ≡ Some x.0
        first = find-same_each (λ (d : DvrHost). is_some (tap_at d.host.tables port)) (is_dvr_named p.host) hosts (AllOf-more (λ (y : DvrHost). HostFacts rows y.host.name y.host.tables) (λ (y : DvrHost). is_some (tap_at y.host.tables port) ≡ is_dvr_named p.host y) hosts (λ y r. begins p e y.host r ∙ ap (λ b. b && is_named p.host y.host) begin) realised) ∙ x.1

    idle : (p : PortRow) → find (has_id port) rows.ports ≡ Some p → may_begin rows p ≡ false → AllOf (λ (x : DvrHost). is_some (tap_at x.host.tables port) ≡ false) hosts
    idle p e off = AllOf-more (λ (y : DvrHost). HostFacts rows y.host.name y.host.tables) (λ (x : DvrHost). is_some (tap_at x.host.tables port) ≡ false) hosts (λ x r. begins p e x.host r ∙ ap (λ b. b && is_named p.host x.host) off) realised

    dead : (p : PortRow) → may_begin rows p ≡ false → tell (drop_fate none_so_far Dead) [] ≡ answer_port (Some p)
    dead p off = sym (ap (λ b. tell (if b then from_live rows (every hosts) (life_of frame) p (record { path = p.network ∷ []; fresh = [] }) frame else drop_fate none_so_far Dead) (once_in_a_row (if not b then [] else p.host ∷ (if is_unsupported frame || not (passes_guard p frame) then [] else hosts_after_sender rows (every hosts) (life_of frame) p (record { path = p.network ∷ []; fresh = [] }) frame)))) off)

    pub port-dvr : dvr_meant (dvr_fate hosts (FromPort port frame)) ≡ answer_port (find (has_id port) rows.ports)
    port-dvr = go (find (has_id port) rows.ports) refl
      where
        by : (p : PortRow) → find (has_id port) rows.ports ≡ Some p → (l b : Bool) → is_live rows p ≡ l → is_router_port p.owner ≡ b → dvr_meant (dvr_fate hosts (FromPort port frame)) ≡ answer_port (Some p)
        by p e false b f g = let off : may_begin rows p ≡ false = ap (λ l. l && not (is_router_port p.owner)) f in nobody (idle p e off) ∙ dead p off
        by p e true true f g = let off : may_begin rows p ≡ false = ap (λ b. is_live rows p && not b) g ∙ and_right (is_live rows p) false refl in nobody (idle p e off) ∙ dead p off
        by p e true false f g = somebody p e f g

        go : (o : Option PortRow) → find (has_id port) rows.ports ≡ o → dvr_meant (dvr_fate hosts (FromPort port frame)) ≡ answer_port o
        go None e = nobody (AllOf-more (λ (y : DvrHost). HostFacts rows y.host.name y.host.tables) (λ (x : DvrHost). is_some (tap_at x.host.tables port) ≡ false) hosts (λ x r. ap is_some (tap-of-host None e x.host r)) realised)
        go (Some p) e = by p e (is_live rows p) (is_router_port p.owner) refl refl

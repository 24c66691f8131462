-- On a bridge, over all hosts: where the packet gets is where the rows say.
use Rattle.std.proofs.Common.{◌≡◌, ℕ, ◌+◌, ◌-◌, ◌*◌, ◌<◌, ◌≤◌, List, [], ◌++◌, Bool, true, false, not, Option, Some, None, refl, ap, sym, subst, ◌∙◌, arith}
use Rattle.std.specs.Prelude.{find, option_and_then, ◌&&◌, ◌||◌, ◌==◌, if◌then◌else◌, is_some}
use Rattle.std.specs.Str.{bytes_eq}
use Rattle.std.proofs.lemmas.Bool.{and_parts, eq-eqb, and_from, or_right, and_right}
use Rattle.api_types.proofs.NameLemmas.{ident_same, bytes_same, bytes_itself}
use Rattle.plane_laws.proofs.ListLemmas.{find-passes, find-each, some_of, AllOf-more, find-same_each, find-none_each}
use Rattle.plane_laws.proofs.Located.{tag-row, bridge-located}
use Rattle.plane_laws.proofs.Tagged.{tagged, inward-located, inward-none}
use Rattle.plane_laws.proofs.Sent.{trace_of, place_of, walk-on, trace-plain, end-here, live-found, network-found, row-located, step-located, step-unlocated, end-is, end-away, led-here, inner-step}
use Rattle.api_types.specs.Ident.{Ident}
use Rattle.api_types.specs.RowLists.{RowLists}
use Rattle.api_types.specs.Table.{ident_eq}
use Rattle.api_types.specs.declared.network.NetworkRow.{NetworkRow}
use Rattle.api_types.specs.declared.network.Segment.{Segment}
use Rattle.api_types.specs.declared.network.Segment.TheVariants.{Flat, Local, Vlan, Vxlan}
use Rattle.api_types.specs.declared.port.PortRow.{PortRow}
use Rattle.plane_types.specs.Fabric.{Run, after_step, fate_of_run, meant, next_position, step_path, fate_after, takes, takes_at, takes_to, over_tunnel, walk, over_wire}
use Rattle.api_types.specs.Holders.{has_mac, port_at}
use Rattle.plane_types.specs.Hosts.{Host, all_entries, is_named}
use Rattle.api_types.specs.Live.{is_joined, is_live, is_local, joined_with, segment, is_at}
use Rattle.api_types.specs.RowsWith.{network_with}
use Rattle.api_types.specs.Wires.{tag_eq, wire_eq, wire_of}
use Rattle.plane_types.specs.Meaning.{end_fate, port_fate, out_of, out_or, sent_on, sent_to}
use Rattle.plane_types.specs.Packets.{Packet, ip_frame}
use Rattle.plane_types.specs.Places.{Bridge, End, Next, Place, Step, ToTunnel, ToWire, TunnelIn, WireIn}
use Rattle.plane_types.specs.TableRows.{bridge_by, carrier_of, mac_row, tag_of, to_here, to_there}
use Rattle.plane_types.specs.TableStep.{bridge_at, bridge_at_tag, bridge_step, bridged_by, carrier_eq, inward_at, inward_step, plain, table_step, wire_or}
use Rattle.plane_types.specs.declared.table.BridgeKey.TheVariants.{Mac as AtMac}
use Rattle.plane_types.specs.declared.table.BridgeTo.{BridgeTo}
use Rattle.plane_types.specs.declared.table.BridgeTo.TheVariants.{Tunnel as ToHost, Router as ToRouter, Tap as ToTap}
use Rattle.plane_types.specs.declared.table.Carrier.{Carrier}
use Rattle.plane_types.specs.declared.table.Carrier.TheVariants.{Tunnel as ByTunnel, Wire as ByWire}
use Rattle.plane_types.specs.declared.table.TagRow.{TagRow}
use Rattle.api_types.specs.declared.wire.Wire.{Wire}
use Rattle.plane_types.specs.declared.verdict.DropCause.TheVariants.{Unknown}
use Rattle.plane_types.specs.declared.verdict.Outcome.{Outcome}
use Rattle.plane_types.specs.declared.verdict.Outcome.TheVariants.{Dropped, Out}
use Rattle.plane_types.specs.declared.verdict.Toward.TheVariants.{Mac as TowardMac}
use Rattle.plane_laws.proofs.Facts.{AllOf, FrameFacts, HostFacts, SyncedFacts}

abbrev pub at_opt : List ℕ → Option PortRow → Bool
at_opt name None = false
at_opt name (Some q) = is_at name q

pub wire_self : (w : Wire) → wire_eq w w ≡ true
wire_self w = ap (λ b. b && tag_eq w.tag w.tag) (bytes_itself w.physical) ∙ tags w.tag
  where
    tags : (o : Option ℕ) → tag_eq o o ≡ true
    tags None = refl
    tags (Some n) = eq-eqb n n refl

pub wire_carrier : (s : Segment) (w : Wire) → wire_of s ≡ Some w → carrier_of s ≡ Some (ByWire w)
wire_carrier Local w h = cc
wire_carrier (Flat p) w h = let e : record { physical = p; tag = None } ≡ w = cc in ap (λ x. Some (ByWire x)) e
wire_carrier (Vlan p t) w h = let e : record { physical = p; tag = Some t } ≡ w = cc in ap (λ x. Some (ByWire x)) e
wire_carrier (Vxlan m) w h = cc

pub wire_away : (s : Segment) (w : Wire) (q : PortRow) → wire_of s ≡ Some w → to_there s q ≡ None
wire_away Local w q h = refl
wire_away (Flat p) w q h = refl
wire_away (Vlan p t) w q h = refl
wire_away (Vxlan m) w q h = cc

takes_here : (p : Packet) (rows : RowLists) (q : PortRow) (to : BridgeTo) → to_here rows q ≡ Some to → (tag : ℕ) → takes_to (bridge_by (AtMac q.mac) (Some to) (Some tag)) ≡ true
takes_here p rows q (ToTap i) e tag = refl
takes_here p rows q (ToRouter r i) e tag = refl
takes_here p rows q (ToHost h m) e tag = let l = led-here rows q (ToHost h m) e true tag p in cc

-- a host takes a packet from a wire where the port with its MAC is there
module _ (rows : RowLists) (good : FrameFacts rows) (n : Ident) (net : NetworkRow) (there : network_with rows n ≡ Some net) (w : Wire) (wired_by : wire_of (segment rows n) ≡ Some w) (p : Packet) where
  pub takes-law : (x : Host) → HostFacts rows x.name x.tables → takes w (ip_frame p) x ≡ at_opt x.name (port_at rows n p.dst)
  takes-law x real = go (tag_of x.tables.tags n) refl
    where
      carrier : carrier_of (segment rows n) ≡ Some (ByWire w)
      carrier = wire_carrier (segment rows n) w wired_by

      -- no tag: no port there
      untagged : tag_of x.tables.tags n ≡ None → (o : Option PortRow) → port_at rows n p.dst ≡ o → false ≡ at_opt x.name o
      untagged none None e = refl
      untagged none (Some q) e = by (is_at x.name q) refl
        where
          by : (b : Bool) → is_at x.name q ≡ b → false ≡ b
          by false here = refl
          by true here =
              let hit = find-passes (has_mac rows n p.dst) rows.ports q e in
              let parts = and_parts (ident_eq n q.network && (q.mac == p.dst)) (is_live rows q) hit in
              let same : n ≡ q.network = ident_same n q.network (and_parts (ident_eq n q.network) (q.mac == p.dst) parts.0).0 in
              let tag = tagged rows x.name x.tables real good (has_mac rows n p.dst) q e (and_from (is_live rows q) (is_at x.name q) parts.1 here) in
              let bad : None ≡ Some tag.0 = sym none ∙ ap (tag_of x.tables.tags) same ∙ tag.1 in
              cc

      tagged_by : (tag : ℕ) → tag_of x.tables.tags n ≡ Some tag → (o : Option PortRow) → port_at rows n p.dst ≡ o → takes_to (bridge_at x.tables tag (AtMac p.dst)) ≡ at_opt x.name o
      tagged_by tag is None e = ap takes_to (bridge-located rows x.name x.tables real good n tag is p.dst ∙ ap (option_and_then (mac_row rows x.name x.tables.tags)) e)
      tagged_by tag is (Some q) e = by (is_at x.name q) refl
        where
          by : (b : Bool) → is_at x.name q ≡ b → takes_to (bridge_at x.tables tag (AtMac p.dst)) ≡ b
          by false away = ap takes_to (row-located rows good x.name x.tables real n tag is p q e None (end-away rows good x.name x.tables real n tag is p q e away ∙ wire_away (segment rows n) w q wired_by))
          by true here =
              let to = end-here rows good (has_mac rows n p.dst) q e (live-found rows good x.name x.tables real n tag is p q e) in
              ap takes_to (row-located rows good x.name x.tables real n tag is p q e (Some to.0) (end-is rows good x.name x.tables real n tag is p q e here to.0 to.1)) ∙ takes_here p rows q to.0 to.1 tag

      go : (o : Option ℕ) → tag_of x.tables.tags n ≡ o → takes w (ip_frame p) x ≡ at_opt x.name (port_at rows n p.dst)
      go None e = ap (takes_at x.tables (ip_frame p)) (inward-none rows x.name x.tables real good n net (ByWire w) there e carrier (wire_self w)) ∙ untagged e (port_at rows n p.dst) refl
      go (Some tag) e = ap (takes_at x.tables (ip_frame p)) (inward-located rows x.name x.tables real good n tag (ByWire w) e carrier (wire_self w)) ∙ tagged_by tag e (port_at rows n p.dst) refl

-- a packet that stands before a port and can still pass so many routers comes to what the rows say
abbrev pub Lands : RowLists → List Host → ℕ → Type 0
Lands rows hosts many = (steps : ℕ) (test : PortRow → Bool) (q : PortRow) (h : Host) (to : BridgeTo) (p : Packet) (run : Run) → 3 * many + 1 ≤ steps → find test rows.ports ≡ Some q → is_live rows q ≡ true → find (is_named q.host) hosts ≡ Some h → to_here rows q ≡ Some to → p.ttl < many → meant (walk hosts steps h (place_of to p) run) ≡ port_fate rows (all_entries hosts) many q p (trace_of run)

module _ (rows : RowLists) (hosts : List Host) (good : FrameFacts rows) (synced : SyncedFacts rows hosts) (many : ℕ) (lands : Lands rows hosts many) where
  -- what comes by a carrier to a host with the port gets to it
  pub carried : (steps : ℕ) (x : Host) (place : Place) (run : Run) (c : Carrier) (n : Ident) (p : Packet) (q : PortRow) → 3 * many + 2 ≤ steps → find (is_named q.host) hosts ≡ Some x → port_at rows n p.dst ≡ Some q → carrier_of (segment rows n) ≡ Some c → carrier_eq c c ≡ true → p.ttl < many
      → table_step x.tables (x.entries ++ run.fresh) place ≡ plain (inward_step x.tables (ip_frame p) (inward_at x.tables c)) → ((s : Step) → step_path x place s ≡ [])
      → meant (walk hosts steps x place run) ≡ port_fate rows (all_entries hosts) many q p (trace_of run)
  carried steps x place run c n p q enough named found segment_is self lives step quiet =
      let hit = find-passes (has_mac rows n p.dst) rows.ports q found in
      let live : is_live rows q ≡ true = (and_parts (ident_eq n q.network && (q.mac == p.dst)) (is_live rows q) hit).1 in
      let here : is_at x.name q ≡ true = find-passes (is_named q.host) hosts x named in
      let real : HostFacts rows x.name x.tables = find-each (λ (y : Host). HostFacts rows y.name y.tables) (is_named q.host) hosts x synced.realise named in
      let to = end-here rows good (has_mac rows n p.dst) q found live in
      let is : table_step x.tables (x.entries ++ run.fresh) place ≡ plain (Next (place_of to.0 p)) = step ∙ ap plain (inner-step rows good x.name x.tables real n p q found here c segment_is self to.0 to.1) in
      ap meant (walk-on hosts steps x place run (omega arith))
      ∙ ap (λ s. meant (fate_after hosts (walk hosts (steps - 1)) x place run s)) is
      ∙ lands (steps - 1) (has_mac rows n p.dst) q x to.0 p (after_step x place (plain (Next (place_of to.0 p))) run) (omega arith) found live named to.1 lives
      ∙ ap (port_fate rows (all_entries hosts) many q p) (trace-plain x place (Next (place_of to.0 p)) run (quiet (Next (place_of to.0 p))))

  module _ (steps : ℕ) (h : Host) (n : Ident) (net : NetworkRow) (tag : ℕ) (p : Packet) (run : Run) (enough : 3 * many + 3 ≤ steps) (named : find (is_named h.name) hosts ≡ Some h) (there : network_with rows n ≡ Some net) (is_tagged : tag_of h.tables.tags n ≡ Some tag) (lives : p.ttl < many) where
    real : HostFacts rows h.name h.tables
    real = find-each (λ (y : Host). HostFacts rows y.name y.tables) (is_named h.name) hosts h synced.realise named

    -- the walk goes on by the bridge's step
    by-step : (s : Step) → bridge_step h.tables false tag (ip_frame p) ≡ s → meant (walk hosts steps h (Bridge tag (ip_frame p)) run) ≡ meant (next_position hosts (walk hosts (steps - 1)) h (after_step h (Bridge tag (ip_frame p)) (plain s) run) s)
    by-step s e = ap meant (walk-on hosts steps h (Bridge tag (ip_frame p)) run (omega arith)) ∙ ap (λ x. meant (next_position hosts (walk hosts (steps - 1)) h (after_step h (Bridge tag (ip_frame p)) (plain x) run) x)) e

    ends : (o : Outcome) → meant (fate_of_run (after_step h (Bridge tag (ip_frame p)) (plain (End o None)) run) o) ≡ end_fate (trace_of run) o
    ends o = ap (λ t. end_fate t o) (trace-plain h (Bridge tag (ip_frame p)) (End o None) run refl)

    takers : (w : Wire) → wire_of (segment rows n) ≡ Some w → (o : Option PortRow) → port_at rows n p.dst ≡ o → AllOf (λ (x : Host). takes w (ip_frame p) x ≡ at_opt x.name o) hosts
    takers w e o f = AllOf-more (λ (y : Host). HostFacts rows y.name y.tables) (λ (x : Host). takes w (ip_frame p) x ≡ at_opt x.name o) hosts (λ x r. takes-law rows good n net there w e p x r ∙ ap (at_opt x.name) f) synced.realise

    nobody : port_at rows n p.dst ≡ None → meant (walk hosts steps h (Bridge tag (ip_frame p)) run) ≡ sent_on rows (port_fate rows (all_entries hosts) many) n h.name p (trace_of run)
    nobody e = by (wire_of (segment rows n)) refl
      where
        row : TagRow
        row = record { network = n; tag = tag; wire = wire_of (segment rows n) }

        step : bridge_step h.tables false tag (ip_frame p) ≡ wire_or false n (wire_of (segment rows n)) (TowardMac p.dst) (ip_frame p) Unknown
        step = ap (bridge_at_tag h.tables false (ip_frame p)) (tag-row rows h.name h.tables.tags real.tags n tag is_tagged)
            ∙ ap (bridged_by false (record { network = n; tag = tag; wire = wire_of (segment rows n) }) (TowardMac p.dst) (ip_frame p) Unknown) (bridge-located rows h.name h.tables real good n tag is_tagged p.dst ∙ ap (option_and_then (mac_row rows h.name h.tables.tags)) e)

        meaning : sent_on rows (port_fate rows (all_entries hosts) many) n h.name p (trace_of run) ≡ end_fate (trace_of run) (out_of rows n (TowardMac p.dst) (ip_frame p) Unknown)
        meaning = ap (λ o. sent_to rows (port_fate rows (all_entries hosts) many) n p (trace_of run) (joined_with rows h.name o)) e

        by : (o : Option Wire) → wire_of (segment rows n) ≡ o → meant (walk hosts steps h (Bridge tag (ip_frame p)) run) ≡ sent_on rows (port_fate rows (all_entries hosts) many) n h.name p (trace_of run)
        by None f = by-step (End (Dropped Unknown) None) (step ∙ ap (λ o. wire_or false n o (TowardMac p.dst) (ip_frame p) Unknown) f) ∙ ends (Dropped Unknown) ∙ sym (meaning ∙ ap (λ o. end_fate (trace_of run) (out_or o n (TowardMac p.dst) (ip_frame p) Unknown)) f)
        by (Some w) f =
            let none = find-none_each (λ (x : Host). not (bytes_eq x.name h.name) && takes w (ip_frame p) x) hosts (AllOf-more (λ (x : Host). takes w (ip_frame p) x ≡ false) (λ (x : Host). (not (bytes_eq x.name h.name) && takes w (ip_frame p) x) ≡ false) hosts (λ x k. and_right (not (bytes_eq x.name h.name)) (takes w (ip_frame p) x) k) (takers w f None e)) in
            by-step (ToWire w n (TowardMac p.dst) (ip_frame p)) (step ∙ ap (λ o. wire_or false n o (TowardMac p.dst) (ip_frame p) Unknown) f)
            ∙ ap (λ o. meant (over_wire (walk hosts (steps - 1)) w n (TowardMac p.dst) (ip_frame p) (after_step h (Bridge tag (ip_frame p)) (plain (ToWire w n (TowardMac p.dst) (ip_frame p))) run) o)) none
            ∙ ap (λ t. end_fate t (Out n (TowardMac p.dst) (ip_frame p))) (trace-plain h (Bridge tag (ip_frame p)) (ToWire w n (TowardMac p.dst) (ip_frame p)) run refl)
            ∙ sym (meaning ∙ ap (λ o. end_fate (trace_of run) (out_or o n (TowardMac p.dst) (ip_frame p) Unknown)) f)

    somebody : (q : PortRow) → port_at rows n p.dst ≡ Some q → meant (walk hosts steps h (Bridge tag (ip_frame p)) run) ≡ sent_on rows (port_fate rows (all_entries hosts) many) n h.name p (trace_of run)
    somebody q e = by (is_at h.name q) refl
      where
        live : is_live rows q ≡ true
        live = live-found rows good h.name h.tables real n tag is_tagged p q e

        same : n ≡ q.network
        same = network-found rows good h.name h.tables real n tag is_tagged p q e

        meaning : (b : Bool) → is_joined rows q h.name ≡ b → sent_on rows (port_fate rows (all_entries hosts) many) n h.name p (trace_of run) ≡ sent_to rows (port_fate rows (all_entries hosts) many) n p (trace_of run) (if b then Some q else None)
        meaning b j = ap (λ o. sent_to rows (port_fate rows (all_entries hosts) many) n p (trace_of run) (joined_with rows h.name o)) e ∙ ap (λ c. sent_to rows (port_fate rows (all_entries hosts) many) n p (trace_of run) (if c then Some q else None)) j

        joined-is : is_joined rows q h.name ≡ (not (is_local (segment rows n)) || is_at h.name q)
        joined-is = ap (λ i. not (is_local (segment rows i)) || is_at h.name q) (sym same)

        home : (x : Host) × (find (is_named q.host) hosts ≡ Some x)
        home = some_of (find (is_named q.host) hosts) (find-each (λ (y : PortRow). is_live rows y ≡ true → is_some (find (λ (z : Host). bytes_eq y.host z.name) hosts) ≡ true) (has_mac rows n p.dst) rows.ports q synced.complete e live)

        -- by a wire
        by_wire : is_at h.name q ≡ false → (w : Wire) → wire_of (segment rows n) ≡ Some w → meant (walk hosts steps h (Bridge tag (ip_frame p)) run) ≡ port_fate rows (all_entries hosts) many q p (trace_of run)
        by_wire away w f =
            let step : bridge_step h.tables false tag (ip_frame p) ≡ ToWire w n (TowardMac p.dst) (ip_frame p) =
            step-unlocated rows good h.name h.tables real n tag is_tagged p q e false (end-away rows good h.name h.tables real n tag is_tagged p q e away ∙ wire_away (segment rows n) w q f)
            ∙ ap (λ o. wire_or false n o (TowardMac p.dst) (ip_frame p) Unknown) f in
            let taker : find (λ (x : Host). not (bytes_eq x.name h.name) && takes w (ip_frame p) x) hosts ≡ Some home.0 =
            find-same_each (λ (x : Host). not (bytes_eq x.name h.name) && takes w (ip_frame p) x) (is_named q.host) hosts
            (AllOf-more (λ (x : Host). takes w (ip_frame p) x ≡ is_at x.name q) (λ (x : Host). (not (bytes_eq x.name h.name) && takes w (ip_frame p) x) ≡ is_named q.host x) hosts (λ x k. other_taker x k) (takers w f (Some q) e))
            ∙ home.1 in
            by-step (ToWire w n (TowardMac p.dst) (ip_frame p)) step
            ∙ ap (λ o. meant (over_wire (walk hosts (steps - 1)) w n (TowardMac p.dst) (ip_frame p) (after_step h (Bridge tag (ip_frame p)) (plain (ToWire w n (TowardMac p.dst) (ip_frame p))) run) o)) taker
            ∙ carried (steps - 1) home.0 (WireIn w (ip_frame p)) (after_step h (Bridge tag (ip_frame p)) (plain (ToWire w n (TowardMac p.dst) (ip_frame p))) run) (ByWire w) n p q (omega arith) home.1 e (wire_carrier (segment rows n) w f) (wire_self w) lives refl (λ s. refl)
            ∙ ap (port_fate rows (all_entries hosts) many q p) (trace-plain h (Bridge tag (ip_frame p)) (ToWire w n (TowardMac p.dst) (ip_frame p)) run refl)
          where
            other_taker : (x : Host) → takes w (ip_frame p) x ≡ is_at x.name q → (not (bytes_eq x.name h.name) && takes w (ip_frame p) x) ≡ bytes_eq q.host x.name
            other_taker x k = ap (λ b. not (bytes_eq x.name h.name) && b) k ∙ go (bytes_eq x.name h.name) (bytes_eq q.host x.name) refl refl
              where
                go : (b c : Bool) → bytes_eq x.name h.name ≡ b → bytes_eq q.host x.name ≡ c → (not b && c) ≡ c
                go true false k l = refl
                go false c k l = refl
                go true true k l = let bad : is_at h.name q ≡ true = subst (λ m. bytes_eq q.host m ≡ true) (bytes_same x.name h.name k) l in cc

        -- by a tunnel
        by_tunnel : is_at h.name q ≡ false → (m : ℕ) → segment rows n ≡ Vxlan m → meant (walk hosts steps h (Bridge tag (ip_frame p)) run) ≡ port_fate rows (all_entries hosts) many q p (trace_of run)
        by_tunnel away m f =
            let step : bridge_step h.tables false tag (ip_frame p) ≡ ToTunnel q.host m (ip_frame p) =
            step-located rows good h.name h.tables real n tag is_tagged p q e false (ToHost q.host m) (end-away rows good h.name h.tables real n tag is_tagged p q e away ∙ ap (λ s. to_there s q) f) in
            by-step (ToTunnel q.host m (ip_frame p)) step
            ∙ ap (λ o. meant (over_tunnel (walk hosts (steps - 1)) m (ip_frame p) (after_step h (Bridge tag (ip_frame p)) (plain (ToTunnel q.host m (ip_frame p))) run) o)) home.1
            ∙ carried (steps - 1) home.0 (TunnelIn m (ip_frame p)) (after_step h (Bridge tag (ip_frame p)) (plain (ToTunnel q.host m (ip_frame p))) run) (ByTunnel m) n p q (omega arith) home.1 e (ap carrier_of f) (eq-eqb m m refl) lives refl (λ s. refl)
            ∙ ap (port_fate rows (all_entries hosts) many q p) (trace-plain h (Bridge tag (ip_frame p)) (ToTunnel q.host m (ip_frame p)) run refl)

        joined_far : is_local (segment rows n) ≡ false → is_joined rows q h.name ≡ true
        joined_far k = joined-is ∙ ap (λ b. not b || is_at h.name q) k

        far : is_at h.name q ≡ false → (s : Segment) → segment rows n ≡ s → meant (walk hosts steps h (Bridge tag (ip_frame p)) run) ≡ sent_on rows (port_fate rows (all_entries hosts) many) n h.name p (trace_of run)
        far away Local f =
            let step : bridge_step h.tables false tag (ip_frame p) ≡ End (Dropped Unknown) None =
            step-unlocated rows good h.name h.tables real n tag is_tagged p q e false (end-away rows good h.name h.tables real n tag is_tagged p q e away ∙ ap (λ s. to_there s q) f)
            ∙ ap (λ s. wire_or false n (wire_of s) (TowardMac p.dst) (ip_frame p) Unknown) f in
            by-step (End (Dropped Unknown) None) step ∙ ends (Dropped Unknown)
            ∙ sym (meaning false (joined-is ∙ ap (λ s. not (is_local s) || is_at h.name q) f ∙ away) ∙ ap (λ s. end_fate (trace_of run) (out_or (wire_of s) n (TowardMac p.dst) (ip_frame p) Unknown)) f)
        far away (Flat x) f = by_wire away (record { physical = x; tag = None }) (ap wire_of f) ∙ sym (meaning true (joined_far (ap is_local f)))
        far away (Vlan x v) f = by_wire away (record { physical = x; tag = Some v }) (ap wire_of f) ∙ sym (meaning true (joined_far (ap is_local f)))
        far away (Vxlan m) f = by_tunnel away m f ∙ sym (meaning true (joined_far (ap is_local f)))

        by : (b : Bool) → is_at h.name q ≡ b → meant (walk hosts steps h (Bridge tag (ip_frame p)) run) ≡ sent_on rows (port_fate rows (all_entries hosts) many) n h.name p (trace_of run)
        by false away = far away (segment rows n) refl
        by true here =
            let to = end-here rows good (has_mac rows n p.dst) q e live in
            let step : bridge_step h.tables false tag (ip_frame p) ≡ Next (place_of to.0 p) =
            step-located rows good h.name h.tables real n tag is_tagged p q e false to.0 (end-is rows good h.name h.tables real n tag is_tagged p q e here to.0 to.1) ∙ led-here rows q to.0 to.1 false tag p in
            let mine : find (is_named q.host) hosts ≡ Some h = ap (λ m. find (is_named m) hosts) (bytes_same q.host h.name here) ∙ named in
            by-step (Next (place_of to.0 p)) step
            ∙ lands (steps - 1) (has_mac rows n p.dst) q h to.0 p (after_step h (Bridge tag (ip_frame p)) (plain (Next (place_of to.0 p))) run) (omega arith) e live mine to.1 lives
            ∙ ap (port_fate rows (all_entries hosts) many q p) (trace-plain h (Bridge tag (ip_frame p)) (Next (place_of to.0 p)) run refl)
            ∙ sym (meaning true (joined-is ∙ or_right (not (is_local (segment rows n))) (is_at h.name q) here))

    -- a packet on a bridge comes to what the rows say
    pub sent-law : meant (walk hosts steps h (Bridge tag (ip_frame p)) run) ≡ sent_on rows (port_fate rows (all_entries hosts) many) n h.name p (trace_of run)
    sent-law = by (port_at rows n p.dst) refl
      where
        by : (o : Option PortRow) → port_at rows n p.dst ≡ o → meant (walk hosts steps h (Bridge tag (ip_frame p)) run) ≡ sent_on rows (port_fate rows (all_entries hosts) many) n h.name p (trace_of run)
        by None e = nobody e
        by (Some q) e = somebody q e

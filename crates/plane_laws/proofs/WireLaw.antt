-- An event from a wire comes to what the rows say.
use Rattle.std.proofs.Common.{◌≡◌, ℕ, suc, ◌+◌, ◌*◌, List, [], ◌∷◌, map, Bool, true, false, not, Option, Some, None, refl, ap, sym, ◌∙◌, arith}
use Rattle.std.specs.Prelude.{find, option_and_then, option_map, ◌&&◌, ◌||◌, ◌==◌, if◌then◌else◌, is_some}
use Rattle.std.specs.List.{filter, list_any}
use Rattle.std.specs.Str.{bytes_eq}
use Rattle.std.proofs.lemmas.Bool.{and_parts, and_from, eqb-true}
use Rattle.api_types.proofs.NameLemmas.{ident_same, ident_itself, bytes_same}
use Rattle.plane_laws.proofs.ListLemmas.{find-passes, find-each, find-only, some_of, find-none_each, find-same_each, AllOf-more, find-filter_map, find-some, list_any-found, list_any-map, list_any-filter}
use Rattle.plane_laws.proofs.Located.{tag-row}
use Rattle.plane_laws.proofs.Tagged.{tagged, inward-located, inward-none, inward_hit, one-carrier}
use Rattle.plane_laws.proofs.Sent.{walk-on}
use Rattle.plane_laws.proofs.SentLaw.{at_opt, wire_self, wire_carrier, takes-law, carried}
use Rattle.plane_laws.proofs.LandsLaw.{lands-law}
use Rattle.plane_laws.proofs.Neighbours.{row_at, neighbour-located, holder-at}
use Rattle.plane_laws.proofs.Leases.{lease-takes, lease-carried}
use Rattle.api_types.specs.Owners.{is_dhcp}
use Rattle.api_types.specs.RowLists.{RowLists}
use Rattle.api_types.specs.Table.{ident_eq}
use Rattle.api_types.specs.declared.network.NetworkRow.{NetworkRow}
use Rattle.api_types.specs.declared.network.Segment.{Segment}
use Rattle.api_types.specs.declared.network.Segment.TheVariants.{Flat, Local, Vlan, Vxlan}
use Rattle.api_types.specs.declared.port.PortRow.{PortRow}
use Rattle.plane_types.specs.Ends.{destination}
use Rattle.plane_types.specs.Fabric.{at_inward, run_from, fabric_fate, fate_of_run, from_outside, meant, network_at, steps_for, fate_after, takes, takes_at, walk}
use Rattle.api_types.specs.Holders.{dhcp_port, has_mac, holder, is_live_dhcp_of, port_at}
use Rattle.plane_types.specs.Hosts.{Host, all_entries, is_named}
use Rattle.api_types.specs.Live.{is_live, is_local, joined_with, segment, segment_of, is_at}
use Rattle.api_types.specs.RowsWith.{network_with}
use Rattle.api_types.specs.Wires.{tag_eq, wire_eq, wire_of, is_wire, network_on}
use Rattle.plane_types.specs.Meaning.{drop_fate, end_fate, from_network, from_wire, life_of, none_so_far, on_path, rows_fate, wire_ask, wire_lease, wire_packet}
use Rattle.plane_types.specs.Packets.{AddressAsk, LeaseAsk, Packet, address_ask, ask_frame, dhcp_frame, ip_frame, is_unsupported, lease_ask, packet}
use Rattle.plane_types.specs.Places.{WireIn}
use Rattle.plane_types.specs.TableRows.{carrier_of, inward_row, inward_rows, is_tagged, tag_of}
use Rattle.plane_types.specs.TableStep.{asked_at, bridge_at_tag, carrier_eq, inward_at, inward_step, plain}
use Rattle.plane_types.specs.declared.event.Event.TheVariants.{FromWire}
use Rattle.plane_types.specs.declared.frame.Frame.{Frame}
use Rattle.plane_types.specs.declared.frame.Frame.TheVariants.{Dhcp, Ip, NeighbourAsk, Other}
use Rattle.plane_types.specs.declared.table.Carrier.TheVariants.{Wire as ByWire}
use Rattle.plane_types.specs.declared.table.InwardRow.{InwardRow}
use Rattle.plane_types.specs.declared.table.TagRow.{TagRow}
use Rattle.api_types.specs.declared.wire.Wire.{Wire}
use Rattle.plane_types.specs.declared.verdict.AskAnswer.TheVariants.{Arp as ArpAnswer}
use Rattle.plane_types.specs.declared.verdict.DropCause.TheVariants.{Unknown, Unsupported}
use Rattle.plane_types.specs.declared.verdict.Outcome.TheVariants.{Answered, Dropped}
use Rattle.plane_laws.proofs.Facts.{AllOf, FrameFacts, HostFacts, SyncedFacts, carried_by, is_carrier}

wire_same : (v w : Wire) → wire_eq v w ≡ true → v ≡ w
wire_same v w h = let p = and_parts (bytes_eq v.physical w.physical) (tag_eq v.tag w.tag) h in ap (λ x. record { physical = x; tag = v.tag }) (bytes_same v.physical w.physical p.0) ∙ ap (λ x. record { physical = w.physical; tag = x }) (tags v.tag w.tag p.1)
  where
    tags : (a b : Option ℕ) → tag_eq a b ≡ true → a ≡ b
    tags None None e = refl
    tags (Some a) (Some b) e = ap Some (eqb-true a b e)
    tags None (Some b) e = cc
    tags (Some a) None e = cc

is_wire_some : (w : Wire) (o : Option Wire) → is_wire w o ≡ true → o ≡ Some w
is_wire_some w None e = cc
is_wire_some w (Some v) e = ap Some (sym (wire_same w v e))

carrier_wire : (s : Segment) (w : Wire) → is_carrier (ByWire w) (carrier_of s) ≡ is_wire w (wire_of s)
carrier_wire Local w = refl
carrier_wire (Flat p) w = refl
carrier_wire (Vlan p t) w = refl
carrier_wire (Vxlan m) w = refl

module _ (rows : RowLists) (hosts : List Host) (good : FrameFacts rows) (synced : SyncedFacts rows hosts) (w : Wire) where
  segment-own : (test : NetworkRow → Bool) (net : NetworkRow) → find test rows.networks ≡ Some net → (network_with rows net.id ≡ Some net) × (segment rows net.id ≡ net.segment)
  unfolding segment
  segment-own test net e =
      let own : network_with rows net.id ≡ Some net = find-only test (λ (m : NetworkRow). ident_eq net.id m.id) rows.networks net (good.network_ids net.id) e (ident_itself net.id) in
      (own, ap segment_of own)

  -- no network on the wire: no host takes
  pub nothing : network_on rows w ≡ None → (x : Host) → HostFacts rows x.name x.tables → inward_at x.tables (ByWire w) ≡ None
  unfolding inward_rows
  nothing none x real =
      ap (find (λ (r : InwardRow). carrier_eq (ByWire w) r.carrier)) real.inward
      ∙ find-filter_map (λ (t : TagRow). carried_by rows (ByWire w) t.network) (λ (r : InwardRow). carrier_eq (ByWire w) r.carrier) (inward_row rows) x.tables.tags (inward_hit rows x.name x.tables real good (ByWire w)) (one-carrier rows x.name x.tables real good (ByWire w))
      ∙ go (find (λ (t : TagRow). carried_by rows (ByWire w) t.network) x.tables.tags) refl
    where
      go : (o : Option TagRow) → find (λ (t : TagRow). carried_by rows (ByWire w) t.network) x.tables.tags ≡ o → option_and_then (inward_row rows) o ≡ None
      go None e = refl
      go (Some row) e =
          let carried : carried_by rows (ByWire w) row.network ≡ true = find-passes (λ (t : TagRow). carried_by rows (ByWire w) t.network) x.tables.tags row e in
          let any : list_any (ident_eq row.network) (map (λ (t : TagRow). t.network) x.tables.tags) ≡ true = list_any-map (ident_eq row.network) (λ (t : TagRow). t.network) x.tables.tags ∙ list_any-found (λ (t : TagRow). carried_by rows (ByWire w) t.network) (λ (t : TagRow). ident_eq row.network t.network) x.tables.tags row e (ident_itself row.network) in
          let any2 : list_any (λ (m : NetworkRow). ident_eq row.network m.id) (filter (is_tagged rows x.name) rows.networks) ≡ true = sym (list_any-map (ident_eq row.network) (λ (m : NetworkRow). m.id) (filter (is_tagged rows x.name) rows.networks)) ∙ ap (list_any (ident_eq row.network)) (sym real.tags.networks) ∙ any in
          let other = some_of (find (λ (m : NetworkRow). ident_eq row.network m.id) rows.networks) (find-some (λ (m : NetworkRow). ident_eq row.network m.id) rows.networks ∙ list_any-filter (λ (m : NetworkRow). ident_eq row.network m.id) (is_tagged rows x.name) rows.networks any2) in
          let its : row.network ≡ (other.0).id = ident_same row.network (other.0).id (find-passes (λ (m : NetworkRow). ident_eq row.network m.id) rows.networks other.0 other.1) in
          let seg = (segment-own (λ (m : NetworkRow). ident_eq row.network m.id) other.0 other.1).1 in
          let on : is_wire w (wire_of (other.0).segment) ≡ true = ap (λ s. is_wire w (wire_of s)) (sym seg) ∙ sym (carrier_wire (segment rows (other.0).id) w) ∙ ap (λ i. carried_by rows (ByWire w) i) (sym its) ∙ carried in
          let some : list_any (λ (m : NetworkRow). is_wire w (wire_of m.segment)) rows.networks ≡ true = list_any-found (λ (m : NetworkRow). ident_eq row.network m.id) (λ (m : NetworkRow). is_wire w (wire_of m.segment)) rows.networks other.0 other.1 on in
          let bad : true ≡ false = sym some ∙ sym (find-some (λ (m : NetworkRow). is_wire w (wire_of m.segment)) rows.networks) ∙ ap is_some none in
          cc

  pub takes-nothing : (frame : Frame) (x : Host) → inward_at x.tables (ByWire w) ≡ None → takes w frame x ≡ false
  takes-nothing frame x e = ap (takes_at x.tables frame) e

  module _ (net : NetworkRow) (on : network_on rows w ≡ Some net) where
    pub own : (network_with rows net.id ≡ Some net) × (segment rows net.id ≡ net.segment)
    own = segment-own (λ (m : NetworkRow). is_wire w (wire_of m.segment)) net on

    pub wire-is : wire_of (segment rows net.id) ≡ Some w
    wire-is = ap wire_of own.1 ∙ is_wire_some w (wire_of net.segment) (find-passes (λ (m : NetworkRow). is_wire w (wire_of m.segment)) rows.networks net on)

    pub carrier : carrier_of (segment rows net.id) ≡ Some (ByWire w)
    carrier = wire_carrier (segment rows net.id) w wire-is

    -- the path begins with the network
    pub path-begins : (x : Host) (real : HostFacts rows x.name x.tables) (tag : ℕ) → tag_of x.tables.tags net.id ≡ Some tag → at_inward x (inward_at x.tables (ByWire w)) ≡ net.id ∷ []
    path-begins x real tag is = ap (at_inward x) (inward-located rows x.name x.tables real good net.id tag (ByWire w) is carrier (wire_self w)) ∙ ap network_at (tag-row rows x.name x.tables.tags real.tags net.id tag is)

    untaken : (frame : Frame) → AllOf (λ (x : Host). takes w frame x ≡ false) hosts → meant (from_outside hosts w frame (find (takes w frame) hosts)) ≡ drop_fate none_so_far Unknown
    untaken frame h = ap (λ o. meant (from_outside hosts w frame o)) (find-none_each (takes w frame) hosts h)

    module _ (q : PortRow) (test : PortRow → Bool) (found : find test rows.ports ≡ Some q) (live : is_live rows q ≡ true) (network : net.id ≡ q.network) where
      home : (x : Host) × (find (is_named q.host) hosts ≡ Some x)
      home = some_of (find (is_named q.host) hosts) (find-each (λ (y : PortRow). is_live rows y ≡ true → is_some (find (λ (z : Host). bytes_eq y.host z.name) hosts) ≡ true) test rows.ports q synced.complete found live)

      home_at : is_at (home.0).name q ≡ true
      home_at = find-passes (is_named q.host) hosts home.0 home.1

      home_real : HostFacts rows (home.0).name (home.0).tables
      home_real = find-each (λ (y : Host). HostFacts rows y.name y.tables) (is_named q.host) hosts home.0 synced.realise home.1

      home_tag : (tag : ℕ) × (tag_of (home.0).tables.tags net.id ≡ Some tag)
      home_tag =
          let tag = tagged rows (home.0).name (home.0).tables home_real good test q found (and_from (is_live rows q) (is_at (home.0).name q) live home_at) in
          (tag.0, ap (tag_of (home.0).tables.tags) network ∙ tag.1)

    packet-case : (x : Packet) (o : Option PortRow) → port_at rows net.id x.dst ≡ o → meant (from_outside hosts w (ip_frame x) (find (takes w (ip_frame x)) hosts)) ≡ wire_packet rows (all_entries hosts) (suc x.ttl) net x o
    unfolding steps_for
    packet-case x None e = untaken (ip_frame x) (AllOf-more (λ (y : Host). HostFacts rows y.name y.tables) (λ (y : Host). takes w (ip_frame x) y ≡ false) hosts (λ y r. takes-law rows good net.id net own.0 w wire-is x y r ∙ ap (at_opt y.name) e) synced.realise)
    packet-case x (Some q) e =
        let hit = and_parts (ident_eq net.id q.network && (q.mac == x.dst)) (is_live rows q) (find-passes (has_mac rows net.id x.dst) rows.ports q e) in
        let network : net.id ≡ q.network = ident_same net.id q.network (and_parts (ident_eq net.id q.network) (q.mac == x.dst) hit.0).0 in
        let x0 = home q (has_mac rows net.id x.dst) e hit.1 network in
        let taker : find (takes w (ip_frame x)) hosts ≡ Some x0.0 = find-same_each (takes w (ip_frame x)) (is_named q.host) hosts (AllOf-more (λ (y : Host). HostFacts rows y.name y.tables) (λ (y : Host). takes w (ip_frame x) y ≡ is_named q.host y) hosts (λ y r. takes-law rows good net.id net own.0 w wire-is x y r ∙ ap (at_opt y.name) e) synced.realise) ∙ x0.1 in
        let tag = home_tag q (has_mac rows net.id x.dst) e hit.1 network in
        ap (λ o. meant (from_outside hosts w (ip_frame x) o)) taker
        ∙ ap (λ p. meant (walk hosts (3 * suc x.ttl + 3) x0.0 (WireIn w (ip_frame x)) (run_from p))) (path-begins x0.0 (home_real q (has_mac rows net.id x.dst) e hit.1 network) tag.0 tag.1)
        ∙ carried rows hosts good synced (suc x.ttl) (lands-law rows hosts good synced (suc x.ttl)) (3 * suc x.ttl + 3) x0.0 (WireIn w (ip_frame x)) (run_from (net.id ∷ [])) (ByWire w) net.id x q (omega arith) x0.1 e carrier (wire_self w) (omega arith) refl (λ s. refl)

    lease : (a : LeaseAsk) (o : Option PortRow) → dhcp_port rows net.id ≡ o → meant (from_outside hosts w (dhcp_frame a) (find (takes w (dhcp_frame a)) hosts)) ≡ wire_lease rows net a o
    unfolding steps_for
    lease a None e = untaken (dhcp_frame a) (AllOf-more (λ (y : Host). HostFacts rows y.name y.tables) (λ (y : Host). takes w (dhcp_frame a) y ≡ false) hosts (λ y r. lease-takes rows hosts good synced net.id net own.0 w wire-is a y r ∙ ap (at_opt y.name) e) synced.realise)
    lease a (Some d) e =
        let hit = and_parts (ident_eq net.id d.network && is_dhcp d.owner) (is_live rows d) (find-passes (is_live_dhcp_of rows net.id) rows.ports d e) in
        let network : net.id ≡ d.network = ident_same net.id d.network (and_parts (ident_eq net.id d.network) (is_dhcp d.owner) hit.0).0 in
        let x0 = home d (is_live_dhcp_of rows net.id) e hit.1 network in
        let taker : find (takes w (dhcp_frame a)) hosts ≡ Some x0.0 = find-same_each (takes w (dhcp_frame a)) (is_named d.host) hosts (AllOf-more (λ (y : Host). HostFacts rows y.name y.tables) (λ (y : Host). takes w (dhcp_frame a) y ≡ is_named d.host y) hosts (λ y r. lease-takes rows hosts good synced net.id net own.0 w wire-is a y r ∙ ap (at_opt y.name) e) synced.realise) ∙ x0.1 in
        let tag = home_tag d (is_live_dhcp_of rows net.id) e hit.1 network in
        ap (λ o. meant (from_outside hosts w (dhcp_frame a) o)) taker
        ∙ ap (λ p. meant (walk hosts 3 x0.0 (WireIn w (dhcp_frame a)) (run_from p))) (path-begins x0.0 (home_real d (is_live_dhcp_of rows net.id) e hit.1 network) tag.0 tag.1)
        ∙ lease-carried rows hosts good synced x0.0 (home_real d (is_live_dhcp_of rows net.id) e hit.1 network) net.id d e (home_at d (is_live_dhcp_of rows net.id) e hit.1 network) a 3 (WireIn w (dhcp_frame a)) (run_from (net.id ∷ [])) (ByWire w) (omega arith) carrier (wire_self w) refl (λ s. refl)

    wire_far : (s : Segment) → wire_of s ≡ Some w → is_local s ≡ false
    wire_far Local e = cc
    wire_far (Flat p) e = refl
    wire_far (Vlan p t) e = refl
    wire_far (Vxlan m) e = refl

    module _ (a : AddressAsk) (q : PortRow) (held : holder rows net.id (destination a.ends) ≡ Some q) where
      parts : ((ident_eq net.id q.network && (q.mac == q.mac)) ≡ true) × (is_live rows q ≡ true)
      parts = and_parts (ident_eq net.id q.network && (q.mac == q.mac)) (is_live rows q) (find-passes (has_mac rows net.id q.mac) rows.ports q (holder-at rows good net.id (destination a.ends) q held))

      same : net.id ≡ q.network
      same = ident_same net.id q.network (and_parts (ident_eq net.id q.network) (q.mac == q.mac) parts.0).0

      joined : (name : List ℕ) → joined_with rows name (holder rows net.id (destination a.ends)) ≡ Some q
      joined name = ap (joined_with rows name) held ∙ ap (λ b. if b then Some q else None) (ap (λ i. not (is_local (segment rows i)) || bytes_eq q.host name) (sym same) ∙ ap (λ b. not b || bytes_eq q.host name) (wire_far (segment rows net.id) wire-is))

      takes-tagged : (x : Host) (real : HostFacts rows x.name x.tables) (tag : ℕ) → tag_of x.tables.tags net.id ≡ Some tag → takes w (ask_frame a) x ≡ true
      takes-tagged x real tag is =
          ap (takes_at x.tables (ask_frame a)) (inward-located rows x.name x.tables real good net.id tag (ByWire w) is carrier (wire_self w))
          ∙ ap is_some (neighbour-located rows x.name x.tables real good net.id tag is (destination a.ends) ∙ ap (option_map (row_at tag (destination a.ends))) (joined x.name))

      taker : (x : Host) × (find (takes w (ask_frame a)) hosts ≡ Some x)
      taker =
          let e = holder-at rows good net.id (destination a.ends) q held in
          let x0 = home q (has_mac rows net.id q.mac) e parts.1 same in
          let tag = home_tag q (has_mac rows net.id q.mac) e parts.1 same in
          some_of (find (takes w (ask_frame a)) hosts) (find-some (takes w (ask_frame a)) hosts ∙ list_any-found (is_named q.host) (takes w (ask_frame a)) hosts x0.0 x0.1 (takes-tagged x0.0 (home_real q (has_mac rows net.id q.mac) e parts.1 same) tag.0 tag.1))

      answered-at : (x : Host) (real : HostFacts rows x.name x.tables) (tag : ℕ) → tag_of x.tables.tags net.id ≡ Some tag → meant (walk hosts 3 x (WireIn w (ask_frame a)) (run_from (at_inward x (inward_at x.tables (ByWire w))))) ≡ end_fate (on_path net) (Answered (ArpAnswer (destination a.ends) q.mac))
      answered-at x real tag is =
          ap (λ p. meant (walk hosts 3 x (WireIn w (ask_frame a)) (run_from p))) (path-begins x real tag is)
          ∙ ap meant (walk-on hosts 3 x (WireIn w (ask_frame a)) (run_from (net.id ∷ [])) (omega arith))
          ∙ ap (λ s. meant (fate_after hosts (walk hosts 2) x (WireIn w (ask_frame a)) (run_from (net.id ∷ [])) (plain s)))
          (ap (inward_step x.tables (ask_frame a)) (inward-located rows x.name x.tables real good net.id tag (ByWire w) is carrier (wire_self w))
          ∙ ap (bridge_at_tag x.tables true (ask_frame a)) (tag-row rows x.name x.tables.tags real.tags net.id tag is)
          ∙ ap (asked_at true (record { network = net.id; tag = tag; wire = wire_of (segment rows net.id) }) a) (neighbour-located rows x.name x.tables real good net.id tag is (destination a.ends) ∙ ap (option_map (row_at tag (destination a.ends))) (joined x.name)))

      asked-some : meant (from_outside hosts w (ask_frame a) (find (takes w (ask_frame a)) hosts)) ≡ end_fate (on_path net) (Answered (ArpAnswer (destination a.ends) q.mac))
      unfolding steps_for
      asked-some =
          let real : HostFacts rows (taker.0).name (taker.0).tables = find-each (λ (y : Host). HostFacts rows y.name y.tables) (takes w (ask_frame a)) hosts taker.0 synced.realise taker.1 in
          ap (λ o. meant (from_outside hosts w (ask_frame a) o)) taker.1 ∙ go real (tag_of (taker.0).tables.tags net.id) refl
        where
          go : (real : HostFacts rows (taker.0).name (taker.0).tables) (o : Option ℕ) → tag_of (taker.0).tables.tags net.id ≡ o → meant (walk hosts 3 taker.0 (WireIn w (ask_frame a)) (run_from (at_inward taker.0 (inward_at (taker.0).tables (ByWire w))))) ≡ end_fate (on_path net) (Answered (ArpAnswer (destination a.ends) q.mac))
          go real None e =
              let off : takes w (ask_frame a) taker.0 ≡ false = ap (takes_at (taker.0).tables (ask_frame a)) (inward-none rows (taker.0).name (taker.0).tables real good net.id net (ByWire w) own.0 e carrier (wire_self w)) in
              let on : takes w (ask_frame a) taker.0 ≡ true = find-passes (takes w (ask_frame a)) hosts taker.0 taker.1 in
              cc
          go real (Some tag) e = answered-at taker.0 real tag e

    ask : (a : AddressAsk) (o : Option PortRow) → holder rows net.id (destination a.ends) ≡ o → meant (from_outside hosts w (ask_frame a) (find (takes w (ask_frame a)) hosts)) ≡ wire_ask net a o
    ask a None e = untaken (ask_frame a) (AllOf-more (λ (y : Host). HostFacts rows y.name y.tables) (λ (y : Host). takes w (ask_frame a) y ≡ false) hosts (λ y r. by y r (tag_of y.tables.tags net.id) refl) synced.realise)
      where
        by : (y : Host) → HostFacts rows y.name y.tables → (o : Option ℕ) → tag_of y.tables.tags net.id ≡ o → takes w (ask_frame a) y ≡ false
        by y r None f = ap (takes_at y.tables (ask_frame a)) (inward-none rows y.name y.tables r good net.id net (ByWire w) own.0 f carrier (wire_self w))
        by y r (Some tag) f = ap (takes_at y.tables (ask_frame a)) (inward-located rows y.name y.tables r good net.id tag (ByWire w) f carrier (wire_self w)) ∙ ap is_some (neighbour-located rows y.name y.tables r good net.id tag f (destination a.ends) ∙ ap (λ o. option_map (row_at tag (destination a.ends)) (joined_with rows y.name o)) e)
    ask a (Some q) e = asked-some a q e

    by-network : (frame : Frame) → is_unsupported frame ≡ false → meant (from_outside hosts w frame (find (takes w frame) hosts)) ≡ from_network rows (all_entries hosts) (life_of frame) net frame
    by-network (Ip src dst ends ttl part) u = packet-case (packet src dst ends ttl part) (port_at rows net.id (packet src dst ends ttl part).dst) refl
    by-network (NeighbourAsk src ends) u = ask (address_ask src ends) (holder rows net.id (destination (address_ask src ends).ends)) refl
    by-network (Dhcp src from) u = lease (lease_ask src from) (dhcp_port rows net.id) refl
    by-network (Other s d y) u = cc

  pub wire-law : (frame : Frame) → meant (fabric_fate hosts (FromWire w.physical w.tag frame)) ≡ rows_fate rows (all_entries hosts) (FromWire w.physical w.tag frame)
  unfolding fabric_fate rows_fate
  wire-law frame = go (is_unsupported frame) refl
    where
      on : is_unsupported frame ≡ false → (o : Option NetworkRow) → network_on rows w ≡ o → meant (from_outside hosts w frame (find (takes w frame) hosts)) ≡ from_wire rows (all_entries hosts) (life_of frame) frame o
      on u None e = ap (λ o. meant (from_outside hosts w frame o)) (find-none_each (takes w frame) hosts (AllOf-more (λ (y : Host). HostFacts rows y.name y.tables) (λ (y : Host). takes w frame y ≡ false) hosts (λ y r. takes-nothing frame y (nothing e y r)) synced.realise))
      on u (Some net) e = by-network net e frame u

      go : (u : Bool) → is_unsupported frame ≡ u → meant (if u then fate_of_run (run_from []) (Dropped Unsupported) else from_outside hosts w frame (find (takes w frame) hosts)) ≡ (if u then drop_fate none_so_far Unsupported else from_wire rows (all_entries hosts) (life_of frame) frame (network_on rows w))
      go true e = refl
      go false e = on e (network_on rows w) refl

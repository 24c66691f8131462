-- An event from a wire comes to what the rows say, on the hosts that they say.
use Rattle.api_types.proofs.NameLemmas.{and_fails, bytes_itself, ident_itself, ident_same}
use Rattle.api_types.specs.Holders.{dhcp_port, has_mac, holder, is_live_dhcp_of, port_at}
use Rattle.api_types.specs.Live.{is_at, is_here, is_live, is_local, joined_with, segment}
use Rattle.api_types.specs.Owners.{is_dhcp, is_interface}
use Rattle.api_types.specs.RowLists.{RowLists}
use Rattle.api_types.specs.RowsWith.{network_with}
use Rattle.api_types.specs.Table.{ident_eq}
use Rattle.api_types.specs.Wires.{network_on, wire_of}
use Rattle.api_types.specs.declared.network.NetworkRow.{NetworkRow}
use Rattle.api_types.specs.declared.network.Segment.{Segment}
use Rattle.api_types.specs.declared.network.Segment.TheVariants.{Flat, Local, Vlan, Vxlan}
use Rattle.api_types.specs.declared.port.PortRow.{PortRow}
use Rattle.api_types.specs.declared.wire.Wire.{Wire}
use Rattle.dvr_laws.proofs.DvrLease.{lease-carried}
use Rattle.dvr_laws.proofs.DvrParts.{DvrFacts, IsFar, by-tables, every, head, home, host_of, name-is, real, tell}
use Rattle.dvr_laws.proofs.DvrRouter.{both-dvr}
use Rattle.dvr_laws.proofs.DvrSent.{carried, far-other}
use Rattle.dvr_laws.proofs.HostsLaw.{AllOf-mapped, after-here}
use Rattle.dvr_types.specs.Copies.{is_vxlan_interface, is_vxlan_segment}
use Rattle.dvr_types.specs.DvrFabric.{At, DvrHost, dvr_fate, dvr_walk, fate_of_dvr, from_dvr_wire, is_dvr_named, run_at_first, run_nowhere}
use Rattle.dvr_types.specs.DvrVerdicts.{DvrMeaning, dvr_meant, names_of_hosts, plain_hosts}
use Rattle.dvr_types.specs.Handlers.{after_host, first_with_port, has_live_port, host_of_port, hosts_from, hosts_of_wire, hosts_on_network, hosts_to, once_in_a_row}
use Rattle.plane_laws.proofs.Facts.{AllOf, FrameFacts, HostFacts}
use Rattle.plane_laws.proofs.Leases.{lease-takes}
use Rattle.plane_laws.proofs.ListLemmas.{AllOf-more, any-at, find-each, find-map, find-none_each, find-passes, find-same_each, find-some, list_any-found, list_any-map, some_of}
use Rattle.plane_laws.proofs.Located.{tag-row}
use Rattle.plane_laws.proofs.Neighbours.{holder-at, neighbour-located, row_at}
use Rattle.plane_laws.proofs.SentLaw.{at_opt, takes-law, wire_self}
use Rattle.plane_laws.proofs.WireLaw.{carrier as network-carrier, nothing, own as network-own, path-begins as network-path, takes-nothing, wire-is as network-wire}
use Rattle.plane_laws.proofs.Tagged.{inward-located, inward-none, tagged}
use Rattle.plane_types.specs.Ends.{destination}
use Rattle.plane_types.specs.Fabric.{at_inward, run_from, steps_for, takes, takes_at}
use Rattle.plane_types.specs.Hosts.{Host}
use Rattle.plane_types.specs.Meaning.{dhcp_outcome, drop_fate, end_fate, from_network, from_wire, life_of, none_so_far, on_path, port_fate, wire_ask, wire_lease, wire_packet}
use Rattle.plane_types.specs.Packets.{AddressAsk, LeaseAsk, Packet, address_ask, ask_frame, dhcp_frame, ip_frame, is_unsupported, lease_ask, packet}
use Rattle.plane_types.specs.Places.{WireIn}
use Rattle.plane_types.specs.TableRows.{carrier_of, is_tagged, tag_of}
use Rattle.plane_types.specs.TableStep.{asked_at, bridge_at_tag, inward_at, inward_step, plain, stops}
use Rattle.plane_types.specs.declared.event.Event.TheVariants.{FromWire}
use Rattle.plane_types.specs.declared.frame.Frame.{Frame}
use Rattle.plane_types.specs.declared.frame.Frame.TheVariants.{Dhcp, Ip, NeighbourAsk, Other}
use Rattle.plane_types.specs.declared.table.Carrier.TheVariants.{Wire as ByWire}
use Rattle.plane_types.specs.declared.table.TagRow.{TagRow}
use Rattle.plane_types.specs.declared.verdict.AskAnswer.TheVariants.{Arp as ArpAnswer}
use Rattle.plane_types.specs.declared.verdict.DropCause.TheVariants.{Unknown, Unsupported}
use Rattle.plane_types.specs.declared.verdict.Outcome.TheVariants.{Answered, Dropped}
use Rattle.std.proofs.Common.{Bool, List, None, Option, Some, [], ap, arith, cond, false, not, refl, suc, sym, true, ℕ, ◌*◌, ◌+◌, ◌∙◌, ◌∷◌, ◌≡◌}
use Rattle.std.proofs.lemmas.Bool.{and_from, and_parts}
use Rattle.std.specs.List.{filter, list_any}
use Rattle.std.specs.Prelude.{find, if◌then◌else◌, is_some, option_map, option_to_list, ◌&&◌, ◌==◌, ◌||◌}
use Rattle.std.specs.Str.{bytes_eq}

any-filtered : {X : Type 0} (p r : X → Bool) (xs : List X) → list_any p (filter r xs) ≡ list_any (λ x. p x && r x) xs
any-filtered p r [] = refl
any-filtered {X} p r (x ∷ xs) = go (r x) (p x) refl (any-filtered p r xs)
  where
    go : (b c : Bool) → p x ≡ c → list_any p (filter r xs) ≡ list_any (λ x. p x && r x) xs → list_any p (cond b (x ∷ filter r xs) (filter r xs)) ≡ (c && b) || list_any (λ x. p x && r x) xs
    go true true e rest = ap (λ c. c || list_any p (filter r xs)) e
    go true false e rest = ap (λ c. c || list_any p (filter r xs)) e ∙ rest
    go false true e rest = rest
    go false false e rest = rest

module _ (rows : RowLists) (hosts : List DvrHost) (good : FrameFacts rows) (facts : DvrFacts rows hosts) (w : Wire) where
  realised : AllOf (λ (x : DvrHost). HostFacts rows x.host.name x.host.tables) hosts
  realised = AllOf-mapped (λ (y : Host). HostFacts rows y.name y.tables) host_of hosts facts.synced.realise

  abbrev taken_by : Frame → Option DvrHost
  taken_by frame = find (λ (x : DvrHost). takes w frame x.host) hosts

  module _ (net : NetworkRow) (on : network_on rows w ≡ Some net) where
    own : (network_with rows net.id ≡ Some net) × (segment rows net.id ≡ net.segment)
    own = network-own rows (plain_hosts hosts) good facts.synced w net on

    wire-is : wire_of (segment rows net.id) ≡ Some w
    wire-is = network-wire rows (plain_hosts hosts) good facts.synced w net on

    carrier : carrier_of (segment rows net.id) ≡ Some (ByWire w)
    carrier = network-carrier rows (plain_hosts hosts) good facts.synced w net on

    path-begins : (x : Host) (r : HostFacts rows x.name x.tables) (tag : ℕ) → tag_of x.tables.tags net.id ≡ Some tag → at_inward x (inward_at x.tables (ByWire w)) ≡ net.id ∷ []
    path-begins = network-path rows (plain_hosts hosts) good facts.synced w net on

    untaken : (frame : Frame) → AllOf (λ (x : DvrHost). takes w frame x.host ≡ false) hosts → dvr_meant (from_dvr_wire hosts w frame (taken_by frame)) ≡ tell (drop_fate none_so_far Unknown) []
    untaken frame h = ap (λ o. dvr_meant (from_dvr_wire hosts w frame o)) (find-none_each (λ (x : DvrHost). takes w frame x.host) hosts h)

    module _ (q : PortRow) (test : PortRow → Bool) (found : find test rows.ports ≡ Some q) (live : is_live rows q ≡ true) (network : net.id ≡ q.network) where
      x_home : (x : DvrHost) × (find (is_dvr_named q.host) hosts ≡ Some x)
      x_home = home rows hosts good facts test q found live

      x_at : is_at (x_home.0).host.name q ≡ true
      x_at = find-passes (is_dvr_named q.host) hosts x_home.0 x_home.1

      x_real : HostFacts rows (x_home.0).host.name (x_home.0).host.tables
      x_real = real rows hosts good facts q.host x_home.0 x_home.1

      x_tag : (tag : ℕ) × (tag_of (x_home.0).host.tables.tags net.id ≡ Some tag)
      x_tag =
          let tag = tagged rows (x_home.0).host.name (x_home.0).host.tables x_real good test q found (and_from (is_live rows q) (is_at (x_home.0).host.name q) live x_at) in
          (tag.0, ap (tag_of (x_home.0).host.tables.tags) network ∙ tag.1)

    abbrev packet_answer : Packet → Option PortRow → DvrMeaning
    packet_answer x o = tell (wire_packet rows (every hosts) (suc x.ttl) net x o) (once_in_a_row (hosts_to (hosts_from rows (every hosts) (suc x.ttl)) x (on_path net) o))

    -- no router's port of a network with a wire is near
    wire_narrow : (s : Segment) → wire_of s ≡ Some w → is_vxlan_segment s ≡ false
    wire_narrow Local e = cc
    wire_narrow (Flat p) e = refl
    wire_narrow (Vlan p t) e = refl
    wire_narrow (Vxlan m) e = cc

    packet-case : (x : Packet) (o : Option PortRow) → port_at rows net.id x.dst ≡ o → dvr_meant (from_dvr_wire hosts w (ip_frame x) (taken_by (ip_frame x))) ≡ packet_answer x o
    unfolding steps_for
    packet-case x None e = untaken (ip_frame x) (AllOf-more (λ (y : DvrHost). HostFacts rows y.host.name y.host.tables) (λ (y : DvrHost). takes w (ip_frame x) y.host ≡ false) hosts (λ y r. takes-law rows good net.id net own.0 w wire-is x y.host r ∙ ap (at_opt y.host.name) e) realised)
    packet-case x (Some q) e =
        let hit = and_parts (ident_eq net.id q.network && (q.mac == x.dst)) (is_live rows q) (find-passes (has_mac rows net.id x.dst) rows.ports q e) in
        let network : net.id ≡ q.network = ident_same net.id q.network (and_parts (ident_eq net.id q.network) (q.mac == x.dst) hit.0).0 in
        let x0 = x_home q (has_mac rows net.id x.dst) e hit.1 network in
        let taker : taken_by (ip_frame x) ≡ Some x0.0 = find-same_each (λ (y : DvrHost). takes w (ip_frame x) y.host) (is_dvr_named q.host) hosts (AllOf-more (λ (y : DvrHost). HostFacts rows y.host.name y.host.tables) (λ (y : DvrHost). takes w (ip_frame x) y.host ≡ is_dvr_named q.host y) hosts (λ y r. takes-law rows good net.id net own.0 w wire-is x y.host r ∙ ap (at_opt y.host.name) e) realised) ∙ x0.1 in
        let tag = x_tag q (has_mac rows net.id x.dst) e hit.1 network in
        let narrow : is_vxlan_interface rows q ≡ false = ap (λ i. is_interface q.owner && is_vxlan_segment (segment rows i)) (sym network) ∙ ap (λ b. is_interface q.owner && b) (wire_narrow (segment rows net.id) wire-is) ∙ and_fails (is_interface q.owner) false refl in
        let far : IsFar rows hosts q x (on_path net) = far-other rows hosts good facts q x (on_path net) narrow in
        let first = head rows hosts good facts x.ttl (has_mac rows net.id x.dst) q x (on_path net) e hit.1 far in
        let name : q.host ≡ (x0.0).host.name = name-is rows hosts good facts q.host x0.0 x0.1 in
        ap (λ o. dvr_meant (from_dvr_wire hosts w (ip_frame x) o)) taker
        ∙ ap (λ p. dvr_meant (dvr_walk hosts (3 * suc x.ttl + 3) x0.0 (At (WireIn w (ip_frame x))) (run_at_first x0.0 p))) (path-begins x0.0.host (x_real q (has_mac rows net.id x.dst) e hit.1 network) tag.0 tag.1)
        ∙ ap (λ l. dvr_meant (dvr_walk hosts (3 * suc x.ttl + 3) x0.0 (At (WireIn w (ip_frame x))) (record { run = run_from (net.id ∷ []); hosts = l }))) (sym (ap (λ b. (x0.0).host.name ∷ (if b then [] else (x0.0).host.name ∷ [])) (bytes_itself (x0.0).host.name)))
        ∙ carried rows hosts good facts (suc x.ttl) (both-dvr rows hosts good facts (suc x.ttl)).0 (3 * suc x.ttl + 3) x0.0 x0.0 (WireIn w (ip_frame x)) (run_at_first x0.0 (net.id ∷ [])) (ByWire w) net.id x q (omega arith) x0.1 e carrier (wire_self w) (omega arith) far refl refl (λ s. refl)
        ∙ ap (λ l. tell (port_fate rows (every hosts) (suc x.ttl) q x (on_path net)) ((x0.0).host.name ∷ after_host (x0.0).host.name l)) (first.1 ∙ ap (λ h. h ∷ first.0) name)
        ∙ ap (λ l. tell (port_fate rows (every hosts) (suc x.ttl) q x (on_path net)) ((x0.0).host.name ∷ l)) (after-here (x0.0).host.name first.0)
        ∙ sym (ap (λ l. tell (port_fate rows (every hosts) (suc x.ttl) q x (on_path net)) (once_in_a_row l)) (first.1 ∙ ap (λ h. h ∷ first.0) name))

    abbrev lease_answer_of : LeaseAsk → Option PortRow → DvrMeaning
    lease_answer_of a o = tell (wire_lease rows net a o) (once_in_a_row (host_of_port o))

    lease : (a : LeaseAsk) (o : Option PortRow) → dhcp_port rows net.id ≡ o → dvr_meant (from_dvr_wire hosts w (dhcp_frame a) (taken_by (dhcp_frame a))) ≡ lease_answer_of a o
    unfolding steps_for
    lease a None e = untaken (dhcp_frame a) (AllOf-more (λ (y : DvrHost). HostFacts rows y.host.name y.host.tables) (λ (y : DvrHost). takes w (dhcp_frame a) y.host ≡ false) hosts (λ y r. lease-takes rows (plain_hosts hosts) good facts.synced net.id net own.0 w wire-is a y.host r ∙ ap (at_opt y.host.name) e) realised)
    lease a (Some s) e =
        let hit = and_parts (ident_eq net.id s.network && is_dhcp s.owner) (is_live rows s) (find-passes (is_live_dhcp_of rows net.id) rows.ports s e) in
        let network : net.id ≡ s.network = ident_same net.id s.network (and_parts (ident_eq net.id s.network) (is_dhcp s.owner) hit.0).0 in
        let x0 = x_home s (is_live_dhcp_of rows net.id) e hit.1 network in
        let taker : taken_by (dhcp_frame a) ≡ Some x0.0 = find-same_each (λ (y : DvrHost). takes w (dhcp_frame a) y.host) (is_dvr_named s.host) hosts (AllOf-more (λ (y : DvrHost). HostFacts rows y.host.name y.host.tables) (λ (y : DvrHost). takes w (dhcp_frame a) y.host ≡ is_dvr_named s.host y) hosts (λ y r. lease-takes rows (plain_hosts hosts) good facts.synced net.id net own.0 w wire-is a y.host r ∙ ap (at_opt y.host.name) e) realised) ∙ x0.1 in
        let tag = x_tag s (is_live_dhcp_of rows net.id) e hit.1 network in
        ap (λ o. dvr_meant (from_dvr_wire hosts w (dhcp_frame a) o)) taker
        ∙ ap (λ p. dvr_meant (dvr_walk hosts 3 x0.0 (At (WireIn w (dhcp_frame a))) (run_at_first x0.0 p))) (path-begins x0.0.host (x_real s (is_live_dhcp_of rows net.id) e hit.1 network) tag.0 tag.1)
        ∙ lease-carried rows hosts good facts x0.0 s.host x0.1 net.id s e (x_at s (is_live_dhcp_of rows net.id) e hit.1 network) a 3 (WireIn w (dhcp_frame a)) (run_at_first x0.0 (net.id ∷ [])) (ByWire w) (omega arith) carrier (wire_self w) refl refl (λ s. refl)
        ∙ ap (λ h. tell (end_fate (on_path net) (dhcp_outcome rows net.id a s)) (h ∷ [])) (sym (name-is rows hosts good facts s.host x0.0 x0.1))

    wire_far : (s : Segment) → wire_of s ≡ Some w → is_local s ≡ false
    wire_far Local e = cc
    wire_far (Flat p) e = refl
    wire_far (Vlan p t) e = refl
    wire_far (Vxlan m) e = refl

    -- a host has a tag of the network exactly where it has a live port of it
    tagged-live : (x : Host) → HostFacts rows x.name x.tables → is_some (tag_of x.tables.tags net.id) ≡ has_live_port rows net.id x.name
    tagged-live x r =
        mapped (find (λ (t : TagRow). ident_eq net.id t.network) x.tables.tags)
        ∙ find-some (λ (t : TagRow). ident_eq net.id t.network) x.tables.tags
        ∙ sym (list_any-map (ident_eq net.id) (λ (t : TagRow). t.network) x.tables.tags)
        ∙ ap (list_any (ident_eq net.id)) r.tags.networks
        ∙ list_any-map (ident_eq net.id) (λ (m : NetworkRow). m.id) (filter (is_tagged rows x.name) rows.networks)
        ∙ any-filtered (λ (m : NetworkRow). ident_eq net.id m.id) (is_tagged rows x.name) rows.networks
        ∙ any-at (λ (m : NetworkRow). ident_eq net.id m.id) (λ (m : NetworkRow). ident_eq net.id m.id && is_tagged rows x.name m) rows.networks net (good.network_ids net.id) own.0 (λ m miss. ap (λ b. b && is_tagged rows x.name m) miss)
        ∙ ap (λ b. b && is_tagged rows x.name net) (ident_itself net.id)
      where
        mapped : (o : Option TagRow) → is_some (option_map (λ (t : TagRow). t.tag) o) ≡ is_some o
        mapped None = refl
        mapped (Some t) = refl

    module _ (a : AddressAsk) (q : PortRow) (held : holder rows net.id (destination a.ends) ≡ Some q) where
      parts : ((ident_eq net.id q.network && (q.mac == q.mac)) ≡ true) × (is_live rows q ≡ true)
      parts = and_parts (ident_eq net.id q.network && (q.mac == q.mac)) (is_live rows q) (find-passes (has_mac rows net.id q.mac) rows.ports q (holder-at rows good net.id (destination a.ends) q held))

      same : net.id ≡ q.network
      same = ident_same net.id q.network (and_parts (ident_eq net.id q.network) (q.mac == q.mac) parts.0).0

      joined : (name : List ℕ) → joined_with rows name (holder rows net.id (destination a.ends)) ≡ Some q
      joined name = ap (joined_with rows name) held ∙ ap (λ b. if b then Some q else None) (ap (λ i. not (is_local (segment rows i)) || bytes_eq q.host name) (sym same) ∙ ap (λ b. not b || bytes_eq q.host name) (wire_far (segment rows net.id) wire-is))

      takes-live : (x : Host) → HostFacts rows x.name x.tables → takes w (ask_frame a) x ≡ has_live_port rows net.id x.name
      takes-live x r = go (tag_of x.tables.tags net.id) refl ∙ tagged-live x r
        where
          go : (o : Option ℕ) → tag_of x.tables.tags net.id ≡ o → takes w (ask_frame a) x ≡ is_some (tag_of x.tables.tags net.id)
          go None e = ap (takes_at x.tables (ask_frame a)) (inward-none rows x.name x.tables r good net.id net (ByWire w) own.0 e carrier (wire_self w)) ∙ sym (ap is_some e)
          go (Some tag) e =
              ap (takes_at x.tables (ask_frame a)) (inward-located rows x.name x.tables r good net.id tag (ByWire w) e carrier (wire_self w))
              ∙ ap is_some (neighbour-located rows x.name x.tables r good net.id tag e (destination a.ends) ∙ ap (option_map (row_at tag (destination a.ends))) (joined x.name))
              ∙ sym (ap is_some e)

      abbrev first : Option DvrHost
      first = find (λ (x : DvrHost). has_live_port rows net.id x.host.name) hosts

      taker-is : taken_by (ask_frame a) ≡ first
      taker-is = find-same_each (λ (x : DvrHost). takes w (ask_frame a) x.host) (λ (x : DvrHost). has_live_port rows net.id x.host.name) hosts (AllOf-more (λ (y : DvrHost). HostFacts rows y.host.name y.host.tables) (λ (x : DvrHost). takes w (ask_frame a) x.host ≡ has_live_port rows net.id x.host.name) hosts (λ x r. takes-live x.host r) realised)

      names-first : find (has_live_port rows net.id) (names_of_hosts hosts) ≡ option_map (λ (x : DvrHost). x.host.name) first
      names-first = find-map (has_live_port rows net.id) (λ (x : DvrHost). x.host.name) hosts

      there : is_some first ≡ true
      there =
          let e = holder-at rows good net.id (destination a.ends) q held in
          let x0 = x_home q (has_mac rows net.id q.mac) e parts.1 same in
          let here : has_live_port rows net.id (x0.0).host.name ≡ true = list_any-found (has_mac rows net.id q.mac) (λ (p : PortRow). ident_eq net.id p.network && is_here rows (x0.0).host.name p) rows.ports q e (and_from (ident_eq net.id q.network) (is_here rows (x0.0).host.name q) (and_parts (ident_eq net.id q.network) (q.mac == q.mac) parts.0).0 (and_from (is_live rows q) (is_at (x0.0).host.name q) parts.1 (x_at q (has_mac rows net.id q.mac) e parts.1 same))) in
          find-some (λ (x : DvrHost). has_live_port rows net.id x.host.name) hosts ∙ list_any-found (is_dvr_named q.host) (λ (x : DvrHost). has_live_port rows net.id x.host.name) hosts x0.0 x0.1 here

      answered-at : (x : DvrHost) → HostFacts rows x.host.name x.host.tables → (tag : ℕ) → tag_of x.host.tables.tags net.id ≡ Some tag → dvr_meant (dvr_walk hosts 3 x (At (WireIn w (ask_frame a))) (run_at_first x (at_inward x.host (inward_at x.host.tables (ByWire w))))) ≡ tell (end_fate (on_path net) (Answered (ArpAnswer (destination a.ends) q.mac))) (x.host.name ∷ [])
      answered-at x r tag is =
          ap (λ p. dvr_meant (dvr_walk hosts 3 x (At (WireIn w (ask_frame a))) (run_at_first x p))) (path-begins x.host r tag is)
          ∙ by-tables rows hosts good facts 3 x (WireIn w (ask_frame a)) (run_at_first x (net.id ∷ [])) (omega arith) refl (plain (stops (Answered (ArpAnswer (destination a.ends) q.mac))))
          (ap plain (ap (inward_step x.host.tables (ask_frame a)) (inward-located rows x.host.name x.host.tables r good net.id tag (ByWire w) is carrier (wire_self w))
          ∙ ap (bridge_at_tag x.host.tables true (ask_frame a)) (tag-row rows x.host.name x.host.tables.tags r.tags net.id tag is)
          ∙ ap (asked_at true (record { network = net.id; tag = tag; wire = wire_of (segment rows net.id) }) a) (neighbour-located rows x.host.name x.host.tables r good net.id tag is (destination a.ends) ∙ ap (option_map (row_at tag (destination a.ends))) (joined x.host.name))))

      asked-some : dvr_meant (from_dvr_wire hosts w (ask_frame a) (taken_by (ask_frame a))) ≡ tell (end_fate (on_path net) (Answered (ArpAnswer (destination a.ends) q.mac))) (once_in_a_row (option_to_list (find (has_live_port rows net.id) (names_of_hosts hosts))))
      unfolding steps_for
      asked-some =
          let x1 = some_of first there in
          let r : HostFacts rows (x1.0).host.name (x1.0).host.tables = find-each (λ (x : DvrHost). HostFacts rows x.host.name x.host.tables) (λ (x : DvrHost). has_live_port rows net.id x.host.name) hosts x1.0 realised x1.1 in
          let live : has_live_port rows net.id (x1.0).host.name ≡ true = find-passes (λ (x : DvrHost). has_live_port rows net.id x.host.name) hosts x1.0 x1.1 in
          let tag = some_of (tag_of (x1.0).host.tables.tags net.id) (tagged-live (x1.0).host r ∙ live) in
          ap (λ o. dvr_meant (from_dvr_wire hosts w (ask_frame a) o)) (taker-is ∙ x1.1)
          ∙ answered-one x1.0 r tag.0 tag.1
          ∙ sym (ap (λ o. tell (end_fate (on_path net) (Answered (ArpAnswer (destination a.ends) q.mac))) (once_in_a_row (option_to_list o))) (names-first ∙ ap (option_map (λ (x : DvrHost). x.host.name)) x1.1))
        where
          answered-one : (x : DvrHost) → HostFacts rows x.host.name x.host.tables → (tag : ℕ) → tag_of x.host.tables.tags net.id ≡ Some tag → dvr_meant (dvr_walk hosts 3 x (At (WireIn w (ask_frame a))) (run_at_first x (at_inward x.host (inward_at x.host.tables (ByWire w))))) ≡ tell (end_fate (on_path net) (Answered (ArpAnswer (destination a.ends) q.mac))) (x.host.name ∷ [])
          answered-one x r tag is = answered-at x r tag is

    ask : (a : AddressAsk) (o : Option PortRow) → holder rows net.id (destination a.ends) ≡ o → dvr_meant (from_dvr_wire hosts w (ask_frame a) (taken_by (ask_frame a))) ≡ tell (wire_ask net a o) (once_in_a_row (first_with_port rows (names_of_hosts hosts) net.id o))
    ask a None e = untaken (ask_frame a) (AllOf-more (λ (y : DvrHost). HostFacts rows y.host.name y.host.tables) (λ (y : DvrHost). takes w (ask_frame a) y.host ≡ false) hosts (λ y r. by y.host r (tag_of y.host.tables.tags net.id) refl) realised)
      where
        by : (y : Host) → HostFacts rows y.name y.tables → (o : Option ℕ) → tag_of y.tables.tags net.id ≡ o → takes w (ask_frame a) y ≡ false
        by y r None f = ap (takes_at y.tables (ask_frame a)) (inward-none rows y.name y.tables r good net.id net (ByWire w) own.0 f carrier (wire_self w))
        by y r (Some tag) f = ap (takes_at y.tables (ask_frame a)) (inward-located rows y.name y.tables r good net.id tag (ByWire w) f carrier (wire_self w)) ∙ ap is_some (neighbour-located rows y.name y.tables r good net.id tag f (destination a.ends) ∙ ap (λ o. option_map (row_at tag (destination a.ends)) (joined_with rows y.name o)) e)
    ask a (Some q) e = asked-some a q e

    abbrev network_answer : Frame → DvrMeaning
    network_answer frame = tell (from_network rows (every hosts) (life_of frame) net frame) (once_in_a_row (hosts_on_network rows (every hosts) (names_of_hosts hosts) (life_of frame) net frame))

    by-network : (frame : Frame) → is_unsupported frame ≡ false → dvr_meant (from_dvr_wire hosts w frame (taken_by frame)) ≡ network_answer frame
    by-network (Ip src dst ends ttl part) u = packet-case (packet src dst ends ttl part) (port_at rows net.id (packet src dst ends ttl part).dst) refl
    by-network (NeighbourAsk src ends) u = ask (address_ask src ends) (holder rows net.id (destination (address_ask src ends).ends)) refl
    by-network (Dhcp src from) u = lease (lease_ask src from) (dhcp_port rows net.id) refl
    by-network (Other s d y) u = cc

  abbrev wire_answer : Frame → DvrMeaning
  wire_answer frame = tell (if is_unsupported frame then drop_fate none_so_far Unsupported else from_wire rows (every hosts) (life_of frame) frame (network_on rows w)) (once_in_a_row (hosts_of_wire rows (every hosts) (names_of_hosts hosts) (life_of frame) frame (network_on rows w)))

  pub wire-dvr : (frame : Frame) → dvr_meant (dvr_fate hosts (FromWire w.physical w.tag frame)) ≡ wire_answer frame
  unfolding dvr_fate
  wire-dvr frame = go (is_unsupported frame) refl
    where
      on : is_unsupported frame ≡ false → (o : Option NetworkRow) → network_on rows w ≡ o → dvr_meant (from_dvr_wire hosts w frame (taken_by frame)) ≡ tell (from_wire rows (every hosts) (life_of frame) frame o) (once_in_a_row (hosts_of_wire rows (every hosts) (names_of_hosts hosts) (life_of frame) frame o))
      on u None e = ap (λ o. dvr_meant (from_dvr_wire hosts w frame o)) (find-none_each (λ (x : DvrHost). takes w frame x.host) hosts (AllOf-more (λ (y : DvrHost). HostFacts rows y.host.name y.host.tables) (λ (y : DvrHost). takes w frame y.host ≡ false) hosts (λ y r. takes-nothing rows (plain_hosts hosts) good facts.synced w frame y.host (nothing rows (plain_hosts hosts) good facts.synced w e y.host r)) realised))
      on u (Some net) e = by-network net e frame u ∙ sym (ap (λ b. tell (from_network rows (every hosts) (life_of frame) net frame) (once_in_a_row (if b then [] else hosts_on_network rows (every hosts) (names_of_hosts hosts) (life_of frame) net frame))) u)

      unsupported_hosts : (o : Option NetworkRow) → is_unsupported frame ≡ true → hosts_of_wire rows (every hosts) (names_of_hosts hosts) (life_of frame) frame o ≡ []
      unsupported_hosts None u = refl
      unsupported_hosts (Some net) u = ap (λ b. if b then [] else hosts_on_network rows (every hosts) (names_of_hosts hosts) (life_of frame) net frame) u

      go : (u : Bool) → is_unsupported frame ≡ u → dvr_meant (if u then fate_of_dvr run_nowhere (Dropped Unsupported) else from_dvr_wire hosts w frame (taken_by frame)) ≡ tell (if u then drop_fate none_so_far Unsupported else from_wire rows (every hosts) (life_of frame) frame (network_on rows w)) (once_in_a_row (hosts_of_wire rows (every hosts) (names_of_hosts hosts) (life_of frame) frame (network_on rows w)))
      go true e = ap (λ l. tell (drop_fate none_so_far Unsupported) (once_in_a_row l)) (sym (unsupported_hosts (network_on rows w) e))
      go false e = on e (network_on rows w) refl

-- On a bridge, over all hosts: a packet is handled here if it is near, and otherwise gets to the port's host.
use Rattle.api_types.proofs.NameLemmas.{bytes_same}
use Rattle.api_types.specs.Holders.{has_mac, port_at, router_of}
use Rattle.api_types.specs.Ident.{Ident}
use Rattle.api_types.specs.Live.{is_at, is_joined, is_live, is_local, joined_with, segment}
use Rattle.api_types.specs.Owners.{is_gateway, is_interface}
use Rattle.api_types.specs.RouterRows.{leg_of, router_view}
use Rattle.api_types.specs.RowLists.{RowLists}
use Rattle.api_types.specs.RowsWith.{network_with}
use Rattle.api_types.specs.Wires.{wire_of}
use Rattle.api_types.specs.declared.network.NetworkRow.{NetworkRow}
use Rattle.api_types.specs.declared.network.Segment.{Segment}
use Rattle.api_types.specs.declared.network.Segment.TheVariants.{Flat, Local, Vlan, Vxlan}
use Rattle.api_types.specs.declared.port.PortRow.{PortRow}
use Rattle.api_types.specs.declared.router.RouterRow.{RouterRow}
use Rattle.api_types.specs.declared.wire.Wire.{Wire}
use Rattle.dvr_laws.proofs.DvrParts.{DvrFacts, IsFar, answer, by-tables, every, handled-bridge, home, host_of, looked, real, router-there, tell, walk-at}
use Rattle.dvr_laws.proofs.DvrSent.{DvrLands, DvrNear, carried, far-by, far-other, sent_answer}
use Rattle.dvr_laws.proofs.HandledLaw.{handled-is, handled-none, handled-other, handled_so, near_step}
use Rattle.dvr_laws.proofs.HostsLaw.{AllOf-mapped}
use Rattle.dvr_types.specs.Copies.{copies_for, is_vxlan_interface, is_vxlan_segment}
use Rattle.dvr_types.specs.CopySteps.{handled_here}
use Rattle.dvr_types.specs.DvrFabric.{At, DvrHost, DvrRun, dvr_walk, fate_at_place, handled_at, is_dvr_named, next_of_tables, over_dvr_tunnel, over_dvr_wire}
use Rattle.dvr_types.specs.DvrVerdicts.{DvrMeaning, dvr_meant}
use Rattle.dvr_types.specs.Handlers.{after_host, hosts_from, hosts_to}
use Rattle.dvr_types.specs.Near.{is_near}
use Rattle.plane_laws.proofs.Facts.{AllOf, FrameFacts, HostFacts}
use Rattle.plane_laws.proofs.ListLemmas.{AllOf-more, find-none_each, find-same_each}
use Rattle.plane_laws.proofs.Located.{bridge-located, tag-row}
use Rattle.plane_laws.proofs.Sent.{end-away, end-here, end-is, led-here, live-found, network-found, place_of, step-located, step-unlocated, trace-plain, trace_of}
use Rattle.plane_laws.proofs.SentLaw.{at_opt, takes-law, wire_away, wire_carrier, wire_self}
use Rattle.plane_types.specs.Fabric.{takes}
use Rattle.plane_types.specs.Hosts.{Host}
use Rattle.plane_types.specs.Meaning.{Trace, end_fate, out_of, out_or, port_fate, sent_to}
use Rattle.plane_types.specs.Packets.{Packet, ip_frame}
use Rattle.plane_types.specs.Places.{Bridge, End, Next, Step, ToTunnel, ToWire, TunnelIn, WireIn}
use Rattle.plane_types.specs.Routing.{routing_of}
use Rattle.plane_types.specs.TableRows.{carrier_of, is_tagged, mac_row, tag_of, to_there}
use Rattle.plane_types.specs.TableStep.{bridge_at_tag, bridge_step, bridged_by, plain, wire_or}
use Rattle.plane_types.specs.declared.table.BridgeTo.TheVariants.{Tunnel as ToHost}
use Rattle.plane_types.specs.declared.table.Carrier.TheVariants.{Tunnel as ByTunnel, Wire as ByWire}
use Rattle.plane_types.specs.declared.verdict.DropCause.TheVariants.{Unknown}
use Rattle.plane_types.specs.declared.verdict.Outcome.TheVariants.{Dropped, Out}
use Rattle.plane_types.specs.declared.verdict.Toward.TheVariants.{Mac as TowardMac}
use Rattle.std.proofs.Common.{Bool, List, None, Option, Some, ap, arith, false, not, refl, subst, sym, true, ℕ, ◌*◌, ◌++◌, ◌+◌, ◌-◌, ◌<◌, ◌∙◌, ◌≡◌, ◌≤◌}
use Rattle.std.proofs.lemmas.Bool.{and_parts, and_right, eq-eqb, or_right}
use Rattle.std.proofs.lemmas.List.{append-nil}
use Rattle.std.specs.Prelude.{find, if◌then◌else◌, option_and_then, ◌&&◌, ◌||◌}
use Rattle.std.specs.Str.{bytes_eq}

abbrev pub before_port : RowLists → List DvrHost → ℕ → PortRow → Packet → DvrHost → DvrRun → Trace → DvrMeaning
before_port rows hosts many q p d run t = tell (port_fate rows (every hosts) many q p t) (run.hosts ++ after_host d.host.name (hosts_from rows (every hosts) many q p t))

pub vxlan-of : (s : Segment) → is_vxlan_segment s ≡ true → (m : ℕ) × (s ≡ Vxlan m)
vxlan-of Local e = cc
vxlan-of (Flat x) e = cc
vxlan-of (Vlan x v) e = cc
vxlan-of (Vxlan m) e = (m, refl)

module _ (rows : RowLists) (hosts : List DvrHost) (good : FrameFacts rows) (facts : DvrFacts rows hosts) (many : ℕ) (lands : DvrLands rows hosts many) (near : DvrNear rows hosts many) where
  module _ (steps : ℕ) (d : DvrHost) (n : Ident) (net : NetworkRow) (tag : ℕ) (p : Packet) (run : DvrRun) (enough : 3 * many + 3 ≤ steps) (named : find (is_dvr_named d.host.name) hosts ≡ Some d) (there : network_with rows n ≡ Some net) (is_tagged : tag_of d.host.tables.tags n ≡ Some tag) (lives : p.ttl < many) where
    real_here : HostFacts rows d.host.name d.host.tables
    real_here = real rows hosts good facts d.host.name d named

    left : handled_at d.copies d.host.tables (Bridge tag (ip_frame p)) ≡ handled_here (copies_for rows d.host.name) n p
    left = handled-bridge rows hosts good facts d.host.name d named n tag is_tagged p

    abbrev stepped : Step → DvrRun
    stepped s = looked d (Bridge tag (ip_frame p)) (plain s) run

    abbrev goal : Type 0
    goal = dvr_meant (dvr_walk hosts steps d (At (Bridge tag (ip_frame p))) run) ≡ sent_answer rows hosts many n p d run

    by-step : handled_here (copies_for rows d.host.name) n p ≡ None → (s : Step) → bridge_step d.host.tables false tag (ip_frame p) ≡ s → dvr_meant (dvr_walk hosts steps d (At (Bridge tag (ip_frame p))) run) ≡ dvr_meant (next_of_tables hosts (dvr_walk hosts (steps - 1)) d (stepped s) s)
    by-step none s e = by-tables rows hosts good facts steps d (Bridge tag (ip_frame p)) run (omega arith) (left ∙ none) (plain s) (ap plain e)

    trace_is : (s : Step) → trace_of (stepped s).run ≡ trace_of run.run
    trace_is s = trace-plain d.host (Bridge tag (ip_frame p)) s run.run refl

    lost : joined_with rows d.host.name (port_at rows n p.dst) ≡ None → sent_answer rows hosts many n p d run ≡ tell (end_fate (trace_of run.run) (out_of rows n (TowardMac p.dst) (ip_frame p) Unknown)) run.hosts
    lost e =
        ap (λ o. tell (sent_to rows (port_fate rows (every hosts) many) n p (trace_of run.run) o) (run.hosts ++ after_host d.host.name (hosts_to (hosts_from rows (every hosts) many) p (trace_of run.run) o))) e
        ∙ ap (tell (end_fate (trace_of run.run) (out_of rows n (TowardMac p.dst) (ip_frame p) Unknown))) (append-nil run.hosts)

    reached : (q : PortRow) → joined_with rows d.host.name (port_at rows n p.dst) ≡ Some q → sent_answer rows hosts many n p d run ≡ answer rows hosts many q p d run
    reached q e = ap (λ o. tell (sent_to rows (port_fate rows (every hosts) many) n p (trace_of run.run) o) (run.hosts ++ after_host d.host.name (hosts_to (hosts_from rows (every hosts) many) p (trace_of run.run) o))) e

    takers : (w : Wire) → wire_of (segment rows n) ≡ Some w → (o : Option PortRow) → port_at rows n p.dst ≡ o → AllOf (λ (x : DvrHost). takes w (ip_frame p) x.host ≡ at_opt x.host.name o) hosts
    takers w e o f = AllOf-more (λ (x : DvrHost). HostFacts rows x.host.name x.host.tables) (λ (x : DvrHost). takes w (ip_frame p) x.host ≡ at_opt x.host.name o) hosts (λ x r. takes-law rows good n net there w e p x.host r ∙ ap (at_opt x.host.name) f) (AllOf-mapped (λ (y : Host). HostFacts rows y.name y.tables) host_of hosts facts.synced.realise)

    nobody : port_at rows n p.dst ≡ None → goal
    nobody e = by (wire_of (segment rows n)) refl
      where
        none : handled_here (copies_for rows d.host.name) n p ≡ None
        none = handled-none rows good d.host.name n p e

        step : bridge_step d.host.tables false tag (ip_frame p) ≡ wire_or false n (wire_of (segment rows n)) (TowardMac p.dst) (ip_frame p) Unknown
        step = ap (bridge_at_tag d.host.tables false (ip_frame p)) (tag-row rows d.host.name d.host.tables.tags real_here.tags n tag is_tagged)
            ∙ ap (bridged_by false (record { network = n; tag = tag; wire = wire_of (segment rows n) }) (TowardMac p.dst) (ip_frame p) Unknown) (bridge-located rows d.host.name d.host.tables real_here good n tag is_tagged p.dst ∙ ap (option_and_then (mac_row rows d.host.name d.host.tables.tags)) e)

        is_lost : sent_answer rows hosts many n p d run ≡ tell (end_fate (trace_of run.run) (out_of rows n (TowardMac p.dst) (ip_frame p) Unknown)) run.hosts
        is_lost = lost (ap (joined_with rows d.host.name) e)

        by : (o : Option Wire) → wire_of (segment rows n) ≡ o → goal
        by None f =
            by-step none (End (Dropped Unknown) None) (step ∙ ap (λ o. wire_or false n o (TowardMac p.dst) (ip_frame p) Unknown) f)
            ∙ ap (λ t. tell (end_fate t (Dropped Unknown)) run.hosts) (trace_is (End (Dropped Unknown) None))
            ∙ sym (is_lost ∙ ap (λ o. tell (end_fate (trace_of run.run) (out_or o n (TowardMac p.dst) (ip_frame p) Unknown)) run.hosts) f)
        by (Some w) f =
            let nowhere_taken = find-none_each (λ (x : DvrHost). not (bytes_eq x.host.name d.host.name) && takes w (ip_frame p) x.host) hosts (AllOf-more (λ (x : DvrHost). takes w (ip_frame p) x.host ≡ false) (λ (x : DvrHost). (not (bytes_eq x.host.name d.host.name) && takes w (ip_frame p) x.host) ≡ false) hosts (λ x k. and_right (not (bytes_eq x.host.name d.host.name)) (takes w (ip_frame p) x.host) k) (takers w f None e)) in
            by-step none (ToWire w n (TowardMac p.dst) (ip_frame p)) (step ∙ ap (λ o. wire_or false n o (TowardMac p.dst) (ip_frame p) Unknown) f)
            ∙ ap (λ o. dvr_meant (over_dvr_wire (dvr_walk hosts (steps - 1)) d w n (TowardMac p.dst) (ip_frame p) (stepped (ToWire w n (TowardMac p.dst) (ip_frame p))) o)) nowhere_taken
            ∙ ap (λ t. tell (end_fate t (Out n (TowardMac p.dst) (ip_frame p))) run.hosts) (trace_is (ToWire w n (TowardMac p.dst) (ip_frame p)))
            ∙ sym (is_lost ∙ ap (λ o. tell (end_fate (trace_of run.run) (out_or o n (TowardMac p.dst) (ip_frame p) Unknown)) run.hosts) f)

    module _ (q : PortRow) (e : port_at rows n p.dst ≡ Some q) where
      live : is_live rows q ≡ true
      live = live-found rows good d.host.name d.host.tables real_here n tag is_tagged p q e

      same : n ≡ q.network
      same = network-found rows good d.host.name d.host.tables real_here n tag is_tagged p q e

      joined-is : is_joined rows q d.host.name ≡ (not (is_local (segment rows n)) || is_at d.host.name q)
      joined-is = ap (λ i. not (is_local (segment rows i)) || is_at d.host.name q) (sym same)

      is_joined_so : (b : Bool) → is_joined rows q d.host.name ≡ b → joined_with rows d.host.name (port_at rows n p.dst) ≡ (if b then Some q else None)
      is_joined_so b j = ap (joined_with rows d.host.name) e ∙ ap (λ c. if c then Some q else None) j

      x : (x : DvrHost) × (find (is_dvr_named q.host) hosts ≡ Some x)
      x = home rows hosts good facts (has_mac rows n p.dst) q e live

      joined_far : is_local (segment rows n) ≡ false → is_joined rows q d.host.name ≡ true
      joined_far k = joined-is ∙ ap (λ b. not b || is_at d.host.name q) k

      -- by the tables, where it isn't near
      module _ (none : handled_here (copies_for rows d.host.name) n p ≡ None) (far : IsFar rows hosts q p (trace_of run.run)) where
        far_then : (s : Step) → IsFar rows hosts q p (trace_of (stepped s).run)
        far_then s = subst (IsFar rows hosts q p) (sym (trace_is s)) far

        wires : is_at d.host.name q ≡ false → (w : Wire) → wire_of (segment rows n) ≡ Some w → dvr_meant (dvr_walk hosts steps d (At (Bridge tag (ip_frame p))) run) ≡ answer rows hosts many q p d run
        wires away w f =
            let step : bridge_step d.host.tables false tag (ip_frame p) ≡ ToWire w n (TowardMac p.dst) (ip_frame p) =
            step-unlocated rows good d.host.name d.host.tables real_here n tag is_tagged p q e false (end-away rows good d.host.name d.host.tables real_here n tag is_tagged p q e away ∙ wire_away (segment rows n) w q f)
            ∙ ap (λ o. wire_or false n o (TowardMac p.dst) (ip_frame p) Unknown) f in
            let taker : find (λ (y : DvrHost). not (bytes_eq y.host.name d.host.name) && takes w (ip_frame p) y.host) hosts ≡ Some x.0 =
            find-same_each (λ (y : DvrHost). not (bytes_eq y.host.name d.host.name) && takes w (ip_frame p) y.host) (is_dvr_named q.host) hosts
            (AllOf-more (λ (y : DvrHost). takes w (ip_frame p) y.host ≡ is_at y.host.name q) (λ (y : DvrHost). (not (bytes_eq y.host.name d.host.name) && takes w (ip_frame p) y.host) ≡ is_dvr_named q.host y) hosts (λ y k. other_taker y k) (takers w f (Some q) e))
            ∙ x.1 in
            by-step none (ToWire w n (TowardMac p.dst) (ip_frame p)) step
            ∙ ap (λ o. dvr_meant (over_dvr_wire (dvr_walk hosts (steps - 1)) d w n (TowardMac p.dst) (ip_frame p) (stepped (ToWire w n (TowardMac p.dst) (ip_frame p))) o)) taker
            ∙ carried rows hosts good facts many lands (steps - 1) d x.0 (WireIn w (ip_frame p)) (stepped (ToWire w n (TowardMac p.dst) (ip_frame p))) (ByWire w) n p q (omega arith) x.1 e (wire_carrier (segment rows n) w f) (wire_self w) lives (far_then (ToWire w n (TowardMac p.dst) (ip_frame p))) refl refl (λ s. refl)
            ∙ ap (before_port rows hosts many q p d run) (trace_is (ToWire w n (TowardMac p.dst) (ip_frame p)))
          where
            other_taker : (y : DvrHost) → takes w (ip_frame p) y.host ≡ is_at y.host.name q → (not (bytes_eq y.host.name d.host.name) && takes w (ip_frame p) y.host) ≡ bytes_eq q.host y.host.name
            other_taker y k = ap (λ b. not (bytes_eq y.host.name d.host.name) && b) k ∙ go (bytes_eq y.host.name d.host.name) (bytes_eq q.host y.host.name) refl refl
              where
                go : (b c : Bool) → bytes_eq y.host.name d.host.name ≡ b → bytes_eq q.host y.host.name ≡ c → (not b && c) ≡ c
                go true false k l = refl
                go false c k l = refl
                go true true k l = let bad : is_at d.host.name q ≡ true = subst (λ m. bytes_eq q.host m ≡ true) (bytes_same y.host.name d.host.name k) l in cc

        tunnels : is_at d.host.name q ≡ false → (m : ℕ) → segment rows n ≡ Vxlan m → dvr_meant (dvr_walk hosts steps d (At (Bridge tag (ip_frame p))) run) ≡ answer rows hosts many q p d run
        tunnels away m f =
            let step : bridge_step d.host.tables false tag (ip_frame p) ≡ ToTunnel q.host m (ip_frame p) =
            step-located rows good d.host.name d.host.tables real_here n tag is_tagged p q e false (ToHost q.host m) (end-away rows good d.host.name d.host.tables real_here n tag is_tagged p q e away ∙ ap (λ s. to_there s q) f) in
            by-step none (ToTunnel q.host m (ip_frame p)) step
            ∙ ap (λ o. dvr_meant (over_dvr_tunnel (dvr_walk hosts (steps - 1)) d m (ip_frame p) (stepped (ToTunnel q.host m (ip_frame p))) o)) x.1
            ∙ carried rows hosts good facts many lands (steps - 1) d x.0 (TunnelIn m (ip_frame p)) (stepped (ToTunnel q.host m (ip_frame p))) (ByTunnel m) n p q (omega arith) x.1 e (ap carrier_of f) (eq-eqb m m refl) lives (far_then (ToTunnel q.host m (ip_frame p))) refl refl (λ s. refl)
            ∙ ap (before_port rows hosts many q p d run) (trace_is (ToTunnel q.host m (ip_frame p)))

        away_by : is_at d.host.name q ≡ false → (s : Segment) → segment rows n ≡ s → goal
        away_by away Local f =
            let step : bridge_step d.host.tables false tag (ip_frame p) ≡ End (Dropped Unknown) None =
            step-unlocated rows good d.host.name d.host.tables real_here n tag is_tagged p q e false (end-away rows good d.host.name d.host.tables real_here n tag is_tagged p q e away ∙ ap (λ s. to_there s q) f)
            ∙ ap (λ s. wire_or false n (wire_of s) (TowardMac p.dst) (ip_frame p) Unknown) f in
            by-step none (End (Dropped Unknown) None) step
            ∙ ap (λ t. tell (end_fate t (Dropped Unknown)) run.hosts) (trace_is (End (Dropped Unknown) None))
            ∙ sym (lost (is_joined_so false (joined-is ∙ ap (λ s. not (is_local s) || is_at d.host.name q) f ∙ away)) ∙ ap (λ s. tell (end_fate (trace_of run.run) (out_or (wire_of s) n (TowardMac p.dst) (ip_frame p) Unknown)) run.hosts) f)
        away_by away (Flat y) f = wires away (record { physical = y; tag = None }) (ap wire_of f) ∙ sym (reached q (is_joined_so true (joined_far (ap is_local f))))
        away_by away (Vlan y v) f = wires away (record { physical = y; tag = Some v }) (ap wire_of f) ∙ sym (reached q (is_joined_so true (joined_far (ap is_local f))))
        away_by away (Vxlan m) f = tunnels away m f ∙ sym (reached q (is_joined_so true (joined_far (ap is_local f))))

        plainly : goal
        plainly = by (is_at d.host.name q) refl
          where
            by : (b : Bool) → is_at d.host.name q ≡ b → goal
            by false away = away_by away (segment rows n) refl
            by true here =
                let to = end-here rows good (has_mac rows n p.dst) q e live in
                let step : bridge_step d.host.tables false tag (ip_frame p) ≡ Next (place_of to.0 p) =
                step-located rows good d.host.name d.host.tables real_here n tag is_tagged p q e false to.0 (end-is rows good d.host.name d.host.tables real_here n tag is_tagged p q e here to.0 to.1) ∙ led-here rows q to.0 to.1 false tag p in
                let mine : find (is_dvr_named q.host) hosts ≡ Some d = ap (λ m. find (is_dvr_named m) hosts) (bytes_same q.host d.host.name here) ∙ named in
                by-step none (Next (place_of to.0 p)) step
                ∙ lands (steps - 1) (has_mac rows n p.dst) q d to.0 p (stepped (Next (place_of to.0 p))) (omega arith) e live mine to.1 lives
                ∙ ap (before_port rows hosts many q p d run) (trace_is (Next (place_of to.0 p)))
                ∙ sym (reached q (is_joined_so true (joined-is ∙ or_right (not (is_local (segment rows n))) (is_at d.host.name q) here)))

      -- by a copy, where it is
      nearly : is_vxlan_interface rows q ≡ true → (r : RouterRow) → router_of rows q ≡ Some r → is_near rows (every hosts ++ run.run.fresh) r q p ≡ true → goal
      nearly wide r k f =
          let seg = vxlan-of (segment rows q.network) (and_parts (is_interface q.owner) (is_vxlan_segment (segment rows q.network)) wide).1 in
          ap dvr_meant (walk-at rows hosts good facts steps d (Bridge tag (ip_frame p)) run (omega arith))
          ∙ ap (λ o. dvr_meant (fate_at_place hosts (dvr_walk hosts (steps - 1)) d (Bridge tag (ip_frame p)) run o)) (left ∙ handled-is rows good d.host.name n p q e wide r k (every hosts ++ run.run.fresh) ∙ ap (λ b. if b then Some (handled_so r (near_step rows d.host.name r (routing_of (router_view rows r) (every hosts ++ run.run.fresh) (leg_of q) p))) else None) f)
          ∙ near (steps - 1) d n q r p run (omega arith) named e wide k f lives
          ∙ sym (reached q (is_joined_so true (joined_far (ap (λ i. is_local (segment rows i)) same ∙ ap is_local seg.1))))

      somebody : goal
      somebody = by (is_vxlan_interface rows q) refl
        where
          vxlan_case : is_vxlan_interface rows q ≡ true → goal
          vxlan_case w =
              let inside = (and_parts (is_interface q.owner) (is_vxlan_segment (segment rows q.network)) w).0 in
              let r = router-there rows hosts good facts (has_mac rows n p.dst) q e live (ap (λ b. b || is_gateway q.owner) inside) in
              choose r.0 r.1 (is_near rows (every hosts ++ run.run.fresh) r.0 q p) refl
            where
              choose : (r : RouterRow) → router_of rows q ≡ Some r → (b : Bool) → is_near rows (every hosts ++ run.run.fresh) r q p ≡ b → goal
              choose r k true f = nearly w r k f
              choose r k false f = plainly (handled-is rows good d.host.name n p q e w r k (every hosts ++ run.run.fresh) ∙ ap (λ b. if b then Some (handled_so r (near_step rows d.host.name r (routing_of (router_view rows r) (every hosts ++ run.run.fresh) (leg_of q) p))) else None) f) (far-by rows hosts good facts q p (trace_of run.run) r k f)

          by : (b : Bool) → is_vxlan_interface rows q ≡ b → goal
          by true w = vxlan_case w
          by false w = plainly (handled-other rows good d.host.name n p q e w) (far-other rows hosts good facts q p (trace_of run.run) w)

    pub sent-dvr : goal
    sent-dvr = by (port_at rows n p.dst) refl
      where
        by : (o : Option PortRow) → port_at rows n p.dst ≡ o → goal
        by None e = nobody e
        by (Some q) e = somebody q e

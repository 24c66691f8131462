-- A copy sends a near packet on as the rows say.
use Rattle.api_types.proofs.NameLemmas.{ident_itself, ident_same}
use Rattle.api_types.specs.Holders.{has_mac, holder, port_at, router_of}
use Rattle.api_types.specs.Ident.{Ident}
use Rattle.api_types.specs.Live.{is_joined, is_live, is_local, joined_with, segment}
use Rattle.api_types.specs.Owners.{device_is, is_gateway, is_interface, is_router_port}
use Rattle.api_types.specs.RouterRows.{is_leg_of, leg_of, legs_of, router_view}
use Rattle.api_types.specs.RouterViews.{Leg}
use Rattle.api_types.specs.RowLists.{RowLists}
use Rattle.api_types.specs.Table.{ident_eq}
use Rattle.api_types.specs.Wires.{wire_of}
use Rattle.api_types.specs.declared.network.Segment.TheVariants.{Vxlan}
use Rattle.api_types.specs.declared.port.PortRow.{PortRow}
use Rattle.api_types.specs.declared.router.RouterRow.{RouterRow}
use Rattle.dvr_laws.proofs.DvrBridge.{vxlan-of}
use Rattle.dvr_laws.proofs.DvrParts.{DvrFacts, answer, every, tell}
use Rattle.dvr_laws.proofs.DvrSent.{DvrOn}
use Rattle.dvr_laws.proofs.HandledLaw.{handled_so, near-made, near_out, near_step}
use Rattle.dvr_laws.proofs.NearLaw.{NoneMade}
use Rattle.dvr_types.specs.Copies.{is_live_interface, is_near_network, is_vxlan_interface, is_vxlan_segment, near_row, near_row_by, near_target, vxlan_number}
use Rattle.dvr_types.specs.CopySteps.{step_toward}
use Rattle.dvr_types.specs.DvrFabric.{DvrHost, DvrRun, dvr_walk, fate_after_copy, is_dvr_named, with_passed}
use Rattle.dvr_types.specs.DvrVerdicts.{DvrMeaning, dvr_meant}
use Rattle.dvr_types.specs.Handlers.{after_host, arrival, arrival_by, hosts_after_router, hosts_from, router_hosts}
use Rattle.dvr_types.specs.Near.{is_near, is_vxlan_leg, stays_near}
use Rattle.dvr_types.specs.declared.copies.NearRow.{NearRow}
use Rattle.net_addr.specs.declared.address.Addr.{Addr}
use Rattle.plane_laws.proofs.Facts.{FrameFacts, has_id}
use Rattle.plane_laws.proofs.ListLemmas.{find-passes, list_any-found}
use Rattle.plane_laws.proofs.Neighbours.{holder-at}
use Rattle.plane_laws.proofs.RouterLaw.{from-filter, passes-filter}
use Rattle.plane_laws.proofs.RouterTables.{Lower, routed-lower}
use Rattle.plane_laws.proofs.Sent.{trace_of}
use Rattle.plane_types.specs.Meaning.{Trace, after_router, at_receiver, at_router, end_fate, handed_out, handed_to, out_of, out_or, port_fate, with_fresh, with_path}
use Rattle.plane_types.specs.Packets.{Packet, ip_frame, packet}
use Rattle.plane_types.specs.Routing.{RouteEnds, RouteSends, Routed, routing_of}
use Rattle.plane_types.specs.declared.verdict.DropCause.TheVariants.{NoHolder}
use Rattle.plane_types.specs.declared.verdict.Outcome.TheVariants.{Dropped}
use Rattle.plane_types.specs.declared.verdict.Toward.TheVariants.{Address as TowardAddress}
use Rattle.std.proofs.Common.{List, None, Option, Some, [], ap, arith, not, refl, suc, sym, true, ℕ, ◌*◌, ◌++◌, ◌<◌, ◌∙◌, ◌∷◌, ◌≡◌, ◌≤◌}
use Rattle.std.proofs.lemmas.Bool.{and_from, and_parts}
use Rattle.std.proofs.lemmas.List.{append-nil}
use Rattle.std.specs.List.{list_any}
use Rattle.std.specs.Prelude.{find, if◌then◌else◌, option_and_then, option_map, option_to_list, ◌&&◌, ◌==◌, ◌||◌}
use Rattle.std.specs.Str.{bytes_eq}

module _ (rows : RowLists) (hosts : List DvrHost) (good : FrameFacts rows) (facts : DvrFacts rows hosts) (many : ℕ) (on : DvrOn rows hosts many) where
  module _ (steps : ℕ) (d : DvrHost) (n : Ident) (q : PortRow) (r : RouterRow) (p : Packet) (run : DvrRun) (enough : 3 * suc many ≤ steps) (named : find (is_dvr_named d.host.name) hosts ≡ Some d) (found : port_at rows n p.dst ≡ Some q) (wide : is_vxlan_interface rows q ≡ true) (router_is : router_of rows q ≡ Some r) (is : is_near rows (every hosts ++ run.run.fresh) r q p ≡ true) (lives : p.ttl < suc many) where
    abbrev t : Trace
    t = trace_of run.run

    abbrev result : Routed → DvrMeaning
    result x = tell (after_router rows (port_fate rows (every hosts) many) r (trace_of run.run) x) (run.hosts ++ after_host d.host.name (hosts_after_router (hosts_from rows (every hosts) many) (arrival rows r (trace_of run.run) x)))

    abbrev moves : Routed → DvrMeaning
    moves x = dvr_meant (fate_after_copy (dvr_walk hosts steps) d run (handled_so r (near_step rows d.host.name r x)))

    abbrev x : Routed
    x = routing_of (router_view rows r) (every hosts ++ run.run.fresh) (leg_of q) p

    router : is_router_port q.owner ≡ true
    router = ap (λ b. b || is_gateway q.owner) (and_parts (is_interface q.owner) (is_vxlan_segment (segment rows q.network)) wide).0

    -- what the rows say of a packet that is near
    answer-is : answer rows hosts (suc many) q p d run ≡ result (routing_of (router_view rows r) (every hosts ++ run.run.fresh) (leg_of q) p)
    unfolding port_fate hosts_from
    answer-is =
        ap (λ b. tell (if b then at_router rows (every hosts) (port_fate rows (every hosts) many) q p (trace_of run.run) (router_of rows q) else at_receiver rows (every hosts) q p (trace_of run.run)) (run.hosts ++ after_host d.host.name (if b then router_hosts rows (every hosts) (hosts_from rows (every hosts) many) q p (trace_of run.run) (router_of rows q) else q.host ∷ []))) router
        ∙ ap (λ o. tell (at_router rows (every hosts) (port_fate rows (every hosts) many) q p (trace_of run.run) o) (run.hosts ++ after_host d.host.name (router_hosts rows (every hosts) (hosts_from rows (every hosts) many) q p (trace_of run.run) o))) router_is
        ∙ ap (λ b. tell (after_router rows (port_fate rows (every hosts) many) r (trace_of run.run) (routing_of (router_view rows r) (every hosts ++ run.run.fresh) (leg_of q) p)) (run.hosts ++ after_host d.host.name ((if b then [] else option_to_list r.host) ++ hosts_after_router (hosts_from rows (every hosts) many) (arrival rows r (trace_of run.run) (routing_of (router_view rows r) (every hosts ++ run.run.fresh) (leg_of q) p))))) is

    module _ (out : Leg) (hop : Addr) (p2 : Packet) (lower : p2.ttl < p.ttl) (o : PortRow) (leg : find (has_id out.port) (legs_of rows r) ≡ Some o) (m : ℕ) (segment_is : segment rows o.network ≡ Vxlan m) (inside : is_interface o.owner ≡ true) where
      abbrev run2 : DvrRun
      run2 = with_passed run (r.id ∷ o.network ∷ [])

      abbrev t2 : Trace
      t2 = with_path (with_fresh (trace_of run.run) []) (r.id ∷ o.network ∷ [])

      traces : trace_of run2.run ≡ with_path (with_fresh (trace_of run.run) []) (r.id ∷ o.network ∷ [])
      traces = ap (λ f. record { path = run.run.path ++ (r.id ∷ o.network ∷ []); fresh = f }) (sym (append-nil run.run.fresh))

      abbrev by_holder : Option PortRow → DvrMeaning
      by_holder j = tell (handed_to rows (port_fate rows (every hosts) many) o.network hop p2 (with_path (with_fresh (trace_of run.run) []) (r.id ∷ o.network ∷ [])) (joined_with rows o.host j)) (run.hosts ++ after_host d.host.name (hosts_after_router (hosts_from rows (every hosts) many) (option_map (λ (q : PortRow). record { port = q; packet = record p2 { dst = q.mac }; trace = with_path (with_fresh (trace_of run.run) []) (r.id ∷ o.network ∷ []) }) (joined_with rows o.host j))))

      result-is : result (RouteSends [] out hop p2) ≡ by_holder (holder rows o.network hop)
      result-is = ap (λ z. tell (handed_out rows (port_fate rows (every hosts) many) r hop p2 (with_fresh (trace_of run.run) []) z) (run.hosts ++ after_host d.host.name (hosts_after_router (hosts_from rows (every hosts) many) (arrival_by rows r hop p2 (with_fresh (trace_of run.run) []) z)))) leg

      abbrev by_row : Option NearRow → DvrMeaning
      by_row z = dvr_meant (fate_after_copy (dvr_walk hosts steps) d run (handled_so r (step_toward o.network p2 z)))

      moves-is : moves (RouteSends [] out hop p2) ≡ by_row (option_and_then (near_row rows d.host.name hop) (holder rows o.network hop))
      moves-is = ap (λ z. dvr_meant (fate_after_copy (dvr_walk hosts steps) d run (handled_so r (near_out rows d.host.name hop p2 z)))) leg

      leg_of_r : is_leg_of rows r o ≡ true
      unfolding legs_of
      leg_of_r = passes-filter (has_id out.port) (is_leg_of rows r) rows.ports o leg

      by_id : find (has_id o.id) rows.ports ≡ Some o
      unfolding legs_of
      by_id = from-filter (has_id out.port) (is_leg_of rows r) (has_id o.id) rows.ports o leg (ident_itself o.id) (good.port_ids o.id)

      joint : is_near_network rows o.network ≡ true
      joint = and_from (is_vxlan_segment (segment rows o.network)) (list_any (is_live_interface rows o.network) rows.ports) (ap is_vxlan_segment segment_is)
          (list_any-found (has_id o.id) (is_live_interface rows o.network) rows.ports o by_id (and_from (ident_eq o.network o.network && is_interface o.owner) (is_live rows o) (and_from (ident_eq o.network o.network) (is_interface o.owner) (ident_itself o.network) inside) (and_parts (is_router_port o.owner && device_is o.device r.id) (is_live rows o) leg_of_r).1))

      none-held : by_row None ≡ by_holder None
      none-held =
          ap (λ y. tell (end_fate y (Dropped NoHolder)) run.hosts) traces
          ∙ ap (λ s. tell (end_fate (with_path (with_fresh (trace_of run.run) []) (r.id ∷ o.network ∷ [])) (out_or (wire_of s) o.network (TowardAddress hop) (ip_frame (record p2 { dst = 0 })) NoHolder)) run.hosts) (sym segment_is)
          ∙ ap (tell (end_fate (with_path (with_fresh (trace_of run.run) []) (r.id ∷ o.network ∷ [])) (out_of rows o.network (TowardAddress hop) (ip_frame (record p2 { dst = 0 })) NoHolder))) (sym (append-nil run.hosts))

      held : (q2 : PortRow) → holder rows o.network hop ≡ Some q2 → by_row (near_row rows d.host.name hop q2) ≡ by_holder (Some q2)
      held q2 e =
          let at : port_at rows o.network q2.mac ≡ Some q2 = holder-at rows good o.network hop q2 e in
          let hit = find-passes (has_mac rows o.network q2.mac) rows.ports q2 at in
          let same : o.network ≡ q2.network = ident_same o.network q2.network (and_parts (ident_eq o.network q2.network) (q2.mac == q2.mac) (and_parts (ident_eq o.network q2.network && (q2.mac == q2.mac)) (is_live rows q2) hit).0).0 in
          let seg : segment rows q2.network ≡ Vxlan m = ap (segment rows) (sym same) ∙ segment_is in
          let row : near_row rows d.host.name hop q2 ≡ Some (record { network = q2.network; address = hop; mac = q2.mac; to = near_target rows d.host.name q2 m }) =
          ap (λ b. if b then near_row_by rows d.host.name q2 hop (vxlan_number (segment rows q2.network)) else None) (ap (is_near_network rows) (sym same) ∙ joint) ∙ ap (λ s. near_row_by rows d.host.name q2 hop (vxlan_number s)) seg in
          let joined : is_joined rows q2 o.host ≡ true = ap (λ s. not (is_local s) || bytes_eq q2.host o.host) seg in
          ap by_row row
          ∙ on steps d o.network m q2 (record p2 { dst = q2.mac }) (with_passed run (r.id ∷ o.network ∷ [])) (omega arith) named at segment_is (omega arith)
          ∙ ap (λ y. tell (port_fate rows (every hosts) many q2 (record p2 { dst = q2.mac }) y) (run.hosts ++ after_host d.host.name (hosts_from rows (every hosts) many q2 (record p2 { dst = q2.mac }) y))) traces
          ∙ sym (ap (λ b. tell (handed_to rows (port_fate rows (every hosts) many) o.network hop p2 (with_path (with_fresh (trace_of run.run) []) (r.id ∷ o.network ∷ [])) (if b then Some q2 else None)) (run.hosts ++ after_host d.host.name (hosts_after_router (hosts_from rows (every hosts) many) (option_map (λ (q : PortRow). record { port = q; packet = record p2 { dst = q.mac }; trace = with_path (with_fresh (trace_of run.run) []) (r.id ∷ o.network ∷ []) }) (if b then Some q2 else None))))) joined)

      sends : moves (RouteSends [] out hop p2) ≡ result (RouteSends [] out hop p2)
      sends = moves-is ∙ go (holder rows o.network hop) refl ∙ sym result-is
        where
          go : (j : Option PortRow) → holder rows o.network hop ≡ j → by_row (option_and_then (near_row rows d.host.name hop) j) ≡ by_holder j
          go None e = none-held
          go (Some q2) e = held q2 e

    by-routed : (x : Routed) → stays_near rows r x ≡ true → NoneMade x → Lower (router_view rows r).id p.ttl x → moves x ≡ result x
    by-routed (RouteEnds o) near none low =
        ap (λ y. tell (record { outcome = o; path = y; fresh = run.run.fresh }) run.hosts) (append-nil run.run.path)
        ∙ ap (tell (end_fate (trace_of run.run) o)) (sym (append-nil run.hosts))
    by-routed (RouteSends made out hop p2) near none low =
        let both = and_parts out.inside (is_vxlan_leg rows (find (has_id out.port) (legs_of rows r))) near in
        ap (λ l. moves (RouteSends l out hop p2)) none
        ∙ by (find (has_id out.port) (legs_of rows r)) refl both.1
        ∙ sym (ap (λ l. result (RouteSends l out hop p2)) none)
      where
        by : (z : Option PortRow) → find (has_id out.port) (legs_of rows r) ≡ z → is_vxlan_leg rows z ≡ true → moves (RouteSends [] out hop p2) ≡ result (RouteSends [] out hop p2)
        by None e k = cc
        by (Some o) e k =
            let vxlan_leg = and_parts (is_interface o.owner) (is_vxlan_segment (segment rows o.network)) k in
            let seg = vxlan-of (segment rows o.network) vxlan_leg.1 in
            sends out hop p2 low o e seg.0 seg.1 vxlan_leg.0

    pub near-law : dvr_meant (fate_after_copy (dvr_walk hosts steps) d run (handled_so r (near_step rows d.host.name r (routing_of (router_view rows r) (every hosts ++ run.run.fresh) (leg_of q) p)))) ≡ answer rows hosts (suc many) q p d run
    near-law =
        let made = near-made rows good d.host.name n p q found wide r router_is (every hosts ++ run.run.fresh) is in
        by-routed (routing_of (router_view rows r) (every hosts ++ run.run.fresh) (leg_of q) p) made.0 made.1 (routed-lower (router_view rows r) (every hosts ++ run.run.fresh) (leg_of q) p) ∙ sym answer-is

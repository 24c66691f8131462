-- A packet at a port of its host, router's or not, comes to what the rows say, on the hosts that they say.
use Rattle.api_types.proofs.ListLemmas.{some_equal}
use Rattle.api_types.proofs.NameLemmas.{bytes_itself, ident_itself}
use Rattle.api_types.specs.Holders.{holder, port_at, router_of}
use Rattle.api_types.specs.Ident.{Ident}
use Rattle.api_types.specs.Live.{is_live, joined_with, segment}
use Rattle.api_types.specs.Owners.{device_is, is_router_port}
use Rattle.api_types.specs.RouterRows.{gateway_address, has_snat, is_leg_of, leg_of, legs_of, router_view}
use Rattle.api_types.specs.RouterViews.{Leg}
use Rattle.api_types.specs.RowLists.{RowLists}
use Rattle.api_types.specs.RowsWith.{network_with}
use Rattle.api_types.specs.Wires.{wire_of}
use Rattle.api_types.specs.declared.group.Direction.TheVariants.{Ingress}
use Rattle.api_types.specs.declared.network.NetworkRow.{NetworkRow}
use Rattle.api_types.specs.declared.port.PortRow.{PortRow}
use Rattle.api_types.specs.declared.router.RouterRow.{RouterRow}
use Rattle.api_types.specs.declared.wire.Wire.{Wire}
use Rattle.dvr_laws.proofs.DvrBridge.{sent-dvr}
use Rattle.dvr_laws.proofs.DvrCopy.{near-law}
use Rattle.dvr_laws.proofs.DvrParts.{DvrFacts, answer, by-tables, every, look, looked, name-is, plain-found, real, router-there, self, tell}
use Rattle.dvr_laws.proofs.DvrSent.{DvrLands, DvrNear, DvrSent, on-law}
use Rattle.dvr_laws.proofs.HostsLaw.{after-here, router-at}
use Rattle.dvr_types.specs.DvrFabric.{At, DvrHost, DvrRun, dvr_walk, fate_after_tables, is_dvr_named}
use Rattle.dvr_types.specs.DvrVerdicts.{DvrMeaning, dvr_meant, plain_hosts}
use Rattle.dvr_types.specs.Handlers.{after_host, arrival, arrival_by, hosts_after_router, hosts_from, hosts_to, router_hosts}
use Rattle.dvr_types.specs.Near.{is_near}
use Rattle.net_addr.specs.declared.address.Addr.{Addr}
use Rattle.plane_laws.proofs.EntriesLaw.{uses-located}
use Rattle.plane_laws.proofs.Facts.{FrameFacts, HostFacts, has_id}
use Rattle.plane_laws.proofs.LandsLaw.{passage-here, tap-found}
use Rattle.plane_laws.proofs.ListLemmas.{find-each, find-filter, find-only, find-passes, some_of}
use Rattle.plane_laws.proofs.Located.{tag-row}
use Rattle.plane_laws.proofs.Neighbours.{holder-at, neighbour-located, row_at}
use Rattle.plane_laws.proofs.RouterLaw.{from-filter, joined-found, no-path, passes-filter, trace-step}
use Rattle.plane_laws.proofs.RouterTables.{Lower, routed-lower, routed-same}
use Rattle.plane_laws.proofs.RouterView.{leg-here, leg-located, leg-tagged, router-located, view-located}
use Rattle.plane_laws.proofs.Sent.{place_of, trace-plain, trace_of}
use Rattle.plane_types.specs.Fabric.{network_at, step_path}
use Rattle.plane_types.specs.Hosts.{is_named}
use Rattle.plane_types.specs.Meaning.{after_router, at_receiver, at_router, delivered_by, end_fate, handed_out, handed_to, out_of, out_or, port_fate, rows_passage, sent_to, with_fresh, with_path}
use Rattle.plane_types.specs.Packets.{Packet, ip_frame, packet}
use Rattle.plane_types.specs.Passage.{Passage}
use Rattle.plane_types.specs.Places.{Bridge, End, Next, Place, RouterIn, TapOut}
use Rattle.plane_types.specs.Routing.{RouteEnds, RouteSends, Routed, routing_of, uses_by}
use Rattle.plane_types.specs.TableRows.{is_host_of, is_on_host, router_port, router_row, tag_of, tagged_by, to_router}
use Rattle.plane_types.specs.TableStep.{Stepped, drops, plain, router_by_leg, router_by_row, sent_at, sent_by, stops, table_routed, tag_row, tap_delivers, tap_out, unheld}
use Rattle.plane_types.specs.declared.entry.Entry.{Entry}
use Rattle.plane_types.specs.declared.table.BridgeTo.TheVariants.{Router as ToRouter, Tap as ToTap}
use Rattle.plane_types.specs.declared.verdict.DropCause.TheVariants.{Ingress as IngressFilter, NoHolder, Unknown}
use Rattle.plane_types.specs.declared.verdict.Outcome.{Outcome}
use Rattle.plane_types.specs.declared.verdict.Outcome.TheVariants.{Delivered, Dropped, Out}
use Rattle.plane_types.specs.declared.verdict.Toward.TheVariants.{Address as TowardAddress}
use Rattle.std.proofs.Common.{Bool, List, None, Option, Some, [], ap, arith, false, refl, subst, suc, sym, true, zero, ℕ, ◌*◌, ◌++◌, ◌+◌, ◌-◌, ◌<◌, ◌∙◌, ◌∷◌, ◌≡◌, ◌≤◌}
use Rattle.std.proofs.lemmas.Bool.{and_from}
use Rattle.std.proofs.lemmas.List.{append-nil}
use Rattle.std.specs.Prelude.{find, if◌then◌else◌, is_some, option_and_then, option_map, ◌&&◌}

module _ (rows : RowLists) (hosts : List DvrHost) (good : FrameFacts rows) (facts : DvrFacts rows hosts) where
  -- an instance's or DHCP port
  module _ (d : DvrHost) (test : PortRow → Bool) (q : PortRow) (found : find test rows.ports ≡ Some q) (live : is_live rows q ≡ true) (plain_port : is_router_port q.owner ≡ false) (named : find (is_dvr_named q.host) hosts ≡ Some d) where
    at_plain : find (is_named q.host) (plain_hosts hosts) ≡ Some d.host
    at_plain = plain-found rows hosts good facts q.host d named

    received-dvr : (steps : ℕ) (p : Packet) (run : DvrRun) → 0 < steps → dvr_meant (dvr_walk hosts steps d (At (TapOut q.id (ip_frame p))) run) ≡ tell (at_receiver rows (every hosts) q p (trace_of run.run)) run.hosts
    received-dvr steps p run more =
        by-tables rows hosts good facts steps d (TapOut q.id (ip_frame p)) run more refl (tap_delivers q.id (ip_frame p) (rows_passage rows (every hosts ++ run.run.fresh) q Ingress p))
        (ap (tap_out d.host.tables (d.host.entries ++ run.run.fresh) (ip_frame p)) (tap-found rows (plain_hosts hosts) good facts.synced d.host test q found live plain_port at_plain) ∙ ap (tap_delivers q.id (ip_frame p)) (passage-here rows (plain_hosts hosts) good facts.synced d.host test q found live plain_port at_plain Ingress p run.run.fresh))
        ∙ by (rows_passage rows (every hosts ++ run.run.fresh) q Ingress p)
      where
        go : (b : Bool) (made : List Entry) → dvr_meant (fate_after_tables hosts (dvr_walk hosts (steps - 1)) d (TapOut q.id (ip_frame p)) run (if b then record { step = stops (Delivered q.id (ip_frame p)); made = made } else plain (drops IngressFilter))) ≡ tell (if b then end_fate (with_fresh (trace_of run.run) made) (Delivered q.id (ip_frame p)) else end_fate (trace_of run.run) (Dropped IngressFilter)) run.hosts
        go true made = ap (λ t. tell (end_fate t (Delivered q.id (ip_frame p))) run.hosts) (trace-step d.host (TapOut q.id (ip_frame p)) (record { step = stops (Delivered q.id (ip_frame p)); made = made }) run.run [] refl ∙ no-path (with_fresh (trace_of run.run) made))
        go false made = ap (λ t. tell (end_fate t (Dropped IngressFilter)) run.hosts) (trace-plain d.host (TapOut q.id (ip_frame p)) (drops IngressFilter) run.run refl)

        by : (y : Passage) → dvr_meant (fate_after_tables hosts (dvr_walk hosts (steps - 1)) d (TapOut q.id (ip_frame p)) run (tap_delivers q.id (ip_frame p) y)) ≡ tell (delivered_by q p (trace_of run.run) y) run.hosts
        by y = go y.passes y.made

    pub tap-answer : (many steps : ℕ) (p : Packet) (run : DvrRun) → 0 < steps → dvr_meant (dvr_walk hosts steps d (At (TapOut q.id (ip_frame p))) run) ≡ answer rows hosts (suc many) q p d run
    unfolding port_fate hosts_from
    tap-answer many steps p run more =
        received-dvr steps p run more
        ∙ ap (tell (at_receiver rows (every hosts) q p (trace_of run.run))) (sym (append-nil run.hosts))
        ∙ ap (λ l. tell (at_receiver rows (every hosts) q p (trace_of run.run)) (run.hosts ++ l)) (sym (after-here d.host.name []))
        ∙ ap (λ h. tell (at_receiver rows (every hosts) q p (trace_of run.run)) (run.hosts ++ after_host d.host.name (h ∷ []))) (sym (name-is rows hosts good facts q.host d named))
        ∙ sym (ap (λ b. tell (if b then at_router rows (every hosts) (port_fate rows (every hosts) many) q p (trace_of run.run) (router_of rows q) else at_receiver rows (every hosts) q p (trace_of run.run)) (run.hosts ++ after_host d.host.name (if b then router_hosts rows (every hosts) (hosts_from rows (every hosts) many) q p (trace_of run.run) (router_of rows q) else q.host ∷ []))) plain_port)

  -- a router's port
  module _ (many : ℕ) (bridged : DvrSent rows hosts many) where
    module _ (steps : ℕ) (enough : 3 * many + 4 ≤ steps) (d : DvrHost) (test : PortRow → Bool) (q : PortRow) (found : find test rows.ports ≡ Some q) (live : is_live rows q ≡ true) (router : is_router_port q.owner ≡ true) (named : find (is_dvr_named q.host) hosts ≡ Some d) (r : RouterRow) (router_is : router_of rows q ≡ Some r) (p : Packet) (lives : p.ttl < suc many) (run : DvrRun) where
      real_here : HostFacts rows d.host.name d.host.tables
      real_here = real rows hosts good facts q.host d named

      abbrev of_device : RouterRow → Bool
      of_device z = device_is q.device z.id

      host_is : q.host ≡ d.host.name
      host_is = name-is rows hosts good facts q.host d named

      self_named : find (is_dvr_named d.host.name) hosts ≡ Some d
      self_named = self rows hosts good facts q.host d named

      self_plain : find (is_named d.host.name) (plain_hosts hosts) ≡ Some d.host
      self_plain = plain-found rows hosts good facts d.host.name d self_named

      router_host : r.host ≡ Some d.host.name
      router_host = by (router-there rows hosts good facts test q found live router)
        where
          by : (z : RouterRow) × (router_of rows q ≡ Some z) × (z.host ≡ Some q.host) → r.host ≡ Some d.host.name
          by z = let same : z.0 ≡ r = some_equal z.0 r (sym z.1 ∙ router_is) in subst (λ (y : RouterRow). y.host ≡ Some d.host.name) same (z.2 ∙ ap Some host_is)

      here : is_on_host d.host.name r ≡ true
      here = ap (is_host_of d.host.name) router_host ∙ bytes_itself d.host.name

      by_id : find (has_id q.id) rows.ports ≡ Some q
      by_id = find-only test (has_id q.id) rows.ports q (good.port_ids q.id) found (ident_itself q.id)

      is_leg : is_leg_of rows r q ≡ true
      is_leg = and_from (is_router_port q.owner && device_is q.device r.id) (is_live rows q) (and_from (is_router_port q.owner) (device_is q.device r.id) router (find-passes (λ (z : RouterRow). device_is q.device z.id) rows.routers r router_is)) live

      leg_found : find (has_id q.id) (legs_of rows r) ≡ Some q
      unfolding legs_of
      leg_found = find-filter (has_id q.id) (is_leg_of rows r) rows.ports q (good.port_ids q.id) by_id is_leg

      view-uses : uses_by (router_view rows r).snat (router_view rows r).gateway (router_view rows r).id (d.host.entries ++ run.run.fresh) ≡ uses_by (router_view rows r).snat (router_view rows r).gateway (router_view rows r).id (every hosts ++ run.run.fresh)
      unfolding router_view
      view-uses = uses-located rows (plain_hosts hosts) good facts.synced of_device r router_is d.host.name here d.host self_plain (has_snat r.gateway) (gateway_address rows r) run.run.fresh

      abbrev place : Place
      place = RouterIn q.id r.id (ip_frame p)

      abbrev routed_x : Routed
      routed_x = routing_of (router_view rows r) (every hosts ++ run.run.fresh) (leg_of q) p

      step-is : look d (RouterIn q.id r.id (ip_frame p)) run ≡ table_routed d.host.tables (router_row rows d.host.tables.tags r) (routing_of (router_view rows r) (every hosts ++ run.run.fresh) (leg_of q) p)
      step-is =
          let tag = some_of (tag_of d.host.tables.tags q.network) (leg-tagged rows d.host.name d.host.tables real_here good of_device r router_is here q by_id is_leg) in
          ap (router_by_row d.host.tables (d.host.entries ++ run.run.fresh) q.id p) (router-located rows d.host.name d.host.tables real_here good of_device r router_is here)
          ∙ ap (router_by_leg d.host.tables (d.host.entries ++ run.run.fresh) (router_row rows d.host.tables.tags r) p) (leg-located rows d.host.name d.host.tables real_here good of_device r router_is here q.id ∙ ap (option_and_then (tagged_by rows d.host.tables.tags)) leg_found ∙ ap (option_map (λ tag. router_port rows q tag)) tag.1)
          ∙ ap (λ v. table_routed d.host.tables (router_row rows d.host.tables.tags r) (routing_of v (d.host.entries ++ run.run.fresh) (leg_of q) p)) (view-located rows d.host.name d.host.tables real_here good of_device r router_is here)
          ∙ ap (table_routed d.host.tables (router_row rows d.host.tables.tags r)) (routed-same (router_view rows r) (d.host.entries ++ run.run.fresh) (every hosts ++ run.run.fresh) (leg_of q) p view-uses)

      abbrev result : Routed → DvrMeaning
      result x = tell (after_router rows (port_fate rows (every hosts) many) r (trace_of run.run) x) (run.hosts ++ after_host d.host.name (hosts_after_router (hosts_from rows (every hosts) many) (arrival rows r (trace_of run.run) x)))

      abbrev moves : Stepped → DvrMeaning
      moves s = dvr_meant (fate_after_tables hosts (dvr_walk hosts (steps - 1)) d (RouterIn q.id r.id (ip_frame p)) run s)

      abbrev tabled : Routed → Stepped
      tabled x = table_routed d.host.tables (router_row rows d.host.tables.tags r) x

      -- what the rows say
      answer-is : answer rows hosts (suc many) q p d run ≡ result (routing_of (router_view rows r) (every hosts ++ run.run.fresh) (leg_of q) p)
      unfolding port_fate hosts_from
      answer-is =
          ap (λ b. tell (if b then at_router rows (every hosts) (port_fate rows (every hosts) many) q p (trace_of run.run) (router_of rows q) else at_receiver rows (every hosts) q p (trace_of run.run)) (run.hosts ++ after_host d.host.name (if b then router_hosts rows (every hosts) (hosts_from rows (every hosts) many) q p (trace_of run.run) (router_of rows q) else q.host ∷ []))) router
          ∙ ap (λ o. tell (at_router rows (every hosts) (port_fate rows (every hosts) many) q p (trace_of run.run) o) (run.hosts ++ after_host d.host.name (router_hosts rows (every hosts) (hosts_from rows (every hosts) many) q p (trace_of run.run) o))) router_is
          ∙ ap (λ l. tell (after_router rows (port_fate rows (every hosts) many) r (trace_of run.run) (routing_of (router_view rows r) (every hosts ++ run.run.fresh) (leg_of q) p)) (run.hosts ++ l)) (router-at d.host.name (is_near rows (every hosts ++ run.run.fresh) r q p) r.host (hosts_after_router (hosts_from rows (every hosts) many) (arrival rows r (trace_of run.run) (routing_of (router_view rows r) (every hosts ++ run.run.fresh) (leg_of q) p))) router_host)

      ended-by : (made : List Entry) (o : Outcome) (way : Option Ident) (ids : List Ident) → step_path d.host (RouterIn q.id r.id (ip_frame p)) (End o way) ≡ ids → moves (record { step = End o way; made = made }) ≡ tell (end_fate (with_path (with_fresh (trace_of run.run) made) ids) o) run.hosts
      ended-by made o way ids e = ap (λ t. tell (end_fate t o) run.hosts) (trace-step d.host (RouterIn q.id r.id (ip_frame p)) (record { step = End o way; made = made }) run.run ids e)

      module _ (made : List Entry) (out : Leg) (hop : Addr) (p2 : Packet) (lower : p2.ttl < p.ttl) where
        abbrev at_leg : Option PortRow → DvrMeaning
        at_leg z = tell (handed_out rows (port_fate rows (every hosts) many) r hop p2 (with_fresh (trace_of run.run) made) z) (run.hosts ++ after_host d.host.name (hosts_after_router (hosts_from rows (every hosts) many) (arrival_by rows r hop p2 (with_fresh (trace_of run.run) made) z)))

        no-leg : find (has_id out.port) (legs_of rows r) ≡ None → moves (tabled (RouteSends made out hop p2)) ≡ result (RouteSends made out hop p2)
        no-leg e =
            ap (λ o. moves (record { step = sent_at d.host.tables hop p2 o; made = made })) (leg-located rows d.host.name d.host.tables real_here good of_device r router_is here out.port ∙ ap (option_and_then (tagged_by rows d.host.tables.tags)) e)
            ∙ ended-by made (Dropped Unknown) None [] refl
            ∙ ap (λ t. tell (end_fate t (Dropped Unknown)) run.hosts) (no-path (with_fresh (trace_of run.run) made))
            ∙ ap (tell (end_fate (with_fresh (trace_of run.run) made) (Dropped Unknown))) (sym (append-nil run.hosts))
            ∙ sym (ap at_leg e)

        module _ (o : PortRow) (leg : find (has_id out.port) (legs_of rows r) ≡ Some o) where
          is_leg2 : is_leg_of rows r o ≡ true
          unfolding legs_of
          is_leg2 = passes-filter (has_id out.port) (is_leg_of rows r) rows.ports o leg

          by_id2 : find (has_id o.id) rows.ports ≡ Some o
          unfolding legs_of
          by_id2 = from-filter (has_id out.port) (is_leg_of rows r) (has_id o.id) rows.ports o leg (ident_itself o.id) (good.port_ids o.id)

          tag2 : (tag : ℕ) × (tag_of d.host.tables.tags o.network ≡ Some tag)
          tag2 = some_of (tag_of d.host.tables.tags o.network) (leg-tagged rows d.host.name d.host.tables real_here good of_device r router_is here o by_id2 is_leg2)

          host2 : o.host ≡ d.host.name
          host2 = leg-here rows d.host.name d.host.tables real_here good of_device r router_is here o by_id2 is_leg2

          net2 : (net : NetworkRow) × (network_with rows o.network ≡ Some net)
          net2 = some_of (network_with rows o.network) (find-each (λ (y : PortRow). is_some (network_with rows y.network) ≡ true) (has_id o.id) rows.ports o good.networks_stand by_id2)

          row2 : tag_row d.host.tables tag2.0 ≡ Some (record { network = o.network; tag = tag2.0; wire = wire_of (segment rows o.network) })
          row2 = tag-row rows d.host.name d.host.tables.tags real_here.tags o.network tag2.0 tag2.1

          abbrev by_joined : Option PortRow → DvrMeaning
          by_joined j = tell (handed_to rows (port_fate rows (every hosts) many) o.network hop p2 (with_path (with_fresh (trace_of run.run) made) (r.id ∷ o.network ∷ [])) j) (run.hosts ++ after_host d.host.name (hosts_after_router (hosts_from rows (every hosts) many) (option_map (λ (q : PortRow). record { port = q; packet = record p2 { dst = q.mac }; trace = with_path (with_fresh (trace_of run.run) made) (r.id ∷ o.network ∷ []) }) j)))

          result-is : (j : Option PortRow) → joined_with rows d.host.name (holder rows o.network hop) ≡ j → result (RouteSends made out hop p2) ≡ by_joined j
          result-is j e = ap at_leg leg ∙ ap (λ m. by_joined (joined_with rows m (holder rows o.network hop))) host2 ∙ ap by_joined e

          stepped : (j : Option PortRow) → joined_with rows d.host.name (holder rows o.network hop) ≡ j → tabled (RouteSends made out hop p2) ≡ record { step = sent_by d.host.tables tag2.0 hop p2 (option_map (row_at tag2.0 hop) j); made = made }
          stepped j e =
              ap (λ x. record { step = sent_at d.host.tables hop p2 x; made = made }) (leg-located rows d.host.name d.host.tables real_here good of_device r router_is here out.port ∙ ap (option_and_then (tagged_by rows d.host.tables.tags)) leg ∙ ap (option_map (λ tag. router_port rows o tag)) tag2.1)
              ∙ ap (λ x. record { step = sent_by d.host.tables tag2.0 hop p2 x; made = made }) (neighbour-located rows d.host.name d.host.tables real_here good o.network tag2.0 tag2.1 hop ∙ ap (option_map (row_at tag2.0 hop)) e)

          unheld_step : joined_with rows d.host.name (holder rows o.network hop) ≡ None → (w : Option Wire) → wire_of (segment rows o.network) ≡ w → tabled (RouteSends made out hop p2) ≡ record { step = unheld hop p2 (Some (record { network = o.network; tag = tag2.0; wire = w })); made = made }
          unheld_step e w f = stepped None e ∙ ap (λ x. record { step = unheld hop p2 x; made = made }) (row2 ∙ ap (λ w. Some (record { network = o.network; tag = tag2.0; wire = w })) f)

          unheld_result : joined_with rows d.host.name (holder rows o.network hop) ≡ None → (w : Option Wire) → wire_of (segment rows o.network) ≡ w → result (RouteSends made out hop p2) ≡ tell (end_fate (with_path (with_fresh (trace_of run.run) made) (r.id ∷ o.network ∷ [])) (out_or w o.network (TowardAddress hop) (ip_frame (record p2 { dst = 0 })) NoHolder)) run.hosts
          unheld_result e w f =
              result-is None e
              ∙ ap (tell (end_fate (with_path (with_fresh (trace_of run.run) made) (r.id ∷ o.network ∷ [])) (out_of rows o.network (TowardAddress hop) (ip_frame (record p2 { dst = 0 })) NoHolder))) (append-nil run.hosts)
              ∙ ap (λ w. tell (end_fate (with_path (with_fresh (trace_of run.run) made) (r.id ∷ o.network ∷ [])) (out_or w o.network (TowardAddress hop) (ip_frame (record p2 { dst = 0 })) NoHolder)) run.hosts) f

          unheld-by : joined_with rows d.host.name (holder rows o.network hop) ≡ None → (w : Option Wire) → wire_of (segment rows o.network) ≡ w → moves (tabled (RouteSends made out hop p2)) ≡ result (RouteSends made out hop p2)
          unheld-by e None f = ap moves (unheld_step e None f) ∙ ended-by made (Dropped NoHolder) (Some o.network) (r.id ∷ o.network ∷ []) refl ∙ sym (unheld_result e None f)
          unheld-by e (Some w) f = ap moves (unheld_step e (Some w) f) ∙ ended-by made (Out o.network (TowardAddress hop) (ip_frame (record p2 { dst = 0 }))) (Some o.network) (r.id ∷ o.network ∷ []) refl ∙ sym (unheld_result e (Some w) f)

          held-by : (q2 : PortRow) → joined_with rows d.host.name (holder rows o.network hop) ≡ Some q2 → moves (tabled (RouteSends made out hop p2)) ≡ result (RouteSends made out hop p2)
          held-by q2 e =
              let both = joined-found rows d.host.name (holder rows o.network hop) q2 e in
              let at : port_at rows o.network q2.mac ≡ Some q2 = holder-at rows good o.network hop q2 both.0 in
              let joined : joined_with rows d.host.name (port_at rows o.network q2.mac) ≡ Some q2 = ap (joined_with rows d.host.name) at ∙ ap (λ b. if b then Some q2 else None) both.1 in
              ap moves (stepped (Some q2) e)
              ∙ bridged (steps - 1) d o.network net2.0 tag2.0 (record p2 { dst = q2.mac }) (looked d (RouterIn q.id r.id (ip_frame p)) (record { step = Next (Bridge tag2.0 (ip_frame (record p2 { dst = q2.mac }))); made = made }) run) (omega arith) self_named net2.1 tag2.1 (omega arith)
              ∙ ap (λ t. tell (sent_to rows (port_fate rows (every hosts) many) o.network (record p2 { dst = q2.mac }) t (joined_with rows d.host.name (port_at rows o.network q2.mac))) (run.hosts ++ after_host d.host.name (hosts_to (hosts_from rows (every hosts) many) (record p2 { dst = q2.mac }) t (joined_with rows d.host.name (port_at rows o.network q2.mac))))) (trace-step d.host (RouterIn q.id r.id (ip_frame p)) (record { step = Next (Bridge tag2.0 (ip_frame (record p2 { dst = q2.mac }))); made = made }) run.run (r.id ∷ o.network ∷ []) (ap (λ x. r.id ∷ network_at x) row2))
              ∙ ap (λ z. tell (sent_to rows (port_fate rows (every hosts) many) o.network (record p2 { dst = q2.mac }) (with_path (with_fresh (trace_of run.run) made) (r.id ∷ o.network ∷ [])) z) (run.hosts ++ after_host d.host.name (hosts_to (hosts_from rows (every hosts) many) (record p2 { dst = q2.mac }) (with_path (with_fresh (trace_of run.run) made) (r.id ∷ o.network ∷ [])) z))) joined
              ∙ sym (result-is (Some q2) e)

          with-leg : moves (tabled (RouteSends made out hop p2)) ≡ result (RouteSends made out hop p2)
          with-leg = by (joined_with rows d.host.name (holder rows o.network hop)) refl
            where
              by : (j : Option PortRow) → joined_with rows d.host.name (holder rows o.network hop) ≡ j → moves (tabled (RouteSends made out hop p2)) ≡ result (RouteSends made out hop p2)
              by None e = unheld-by e (wire_of (segment rows o.network)) refl
              by (Some q2) e = held-by q2 e

        sends : moves (tabled (RouteSends made out hop p2)) ≡ result (RouteSends made out hop p2)
        sends = by (find (has_id out.port) (legs_of rows r)) refl
          where
            by : (o : Option PortRow) → find (has_id out.port) (legs_of rows r) ≡ o → moves (tabled (RouteSends made out hop p2)) ≡ result (RouteSends made out hop p2)
            by None e = no-leg e
            by (Some o) e = with-leg o e

      by-routed : (x : Routed) → Lower (router_view rows r).id p.ttl x → moves (tabled x) ≡ result x
      by-routed (RouteEnds o) low = ap (λ t. tell (end_fate t o) run.hosts) (trace-plain d.host (RouterIn q.id r.id (ip_frame p)) (End o None) run.run refl) ∙ ap (tell (end_fate (trace_of run.run) o)) (sym (append-nil run.hosts))
      by-routed (RouteSends made out hop p2) low = sends made out hop p2 low

      pub router-dvr : dvr_meant (dvr_walk hosts steps d (At (RouterIn q.id r.id (ip_frame p))) run) ≡ answer rows hosts (suc many) q p d run
      router-dvr =
          by-tables rows hosts good facts steps d (RouterIn q.id r.id (ip_frame p)) run (omega arith) refl (tabled (routing_of (router_view rows r) (every hosts ++ run.run.fresh) (leg_of q) p)) step-is
          ∙ by-routed (routing_of (router_view rows r) (every hosts ++ run.run.fresh) (leg_of q) p) (routed-lower (router_view rows r) (every hosts ++ run.run.fresh) (leg_of q) p)
          ∙ sym answer-is

    -- whatever port
    pub lands-dvr : DvrLands rows hosts (suc many)
    lands-dvr steps test q d to p run enough found live named is lives = by (is_router_port q.owner) refl is
      where
        routed_by : is_router_port q.owner ≡ true → (o : Option RouterRow) → router_of rows q ≡ o → to_router q o ≡ Some to → dvr_meant (dvr_walk hosts steps d (At (place_of to p)) run) ≡ answer rows hosts (suc many) q p d run
        routed_by router None e f = cc
        routed_by router (Some r) e f =
            let same : to ≡ ToRouter r.id q.id = cc in
            ap (λ x. dvr_meant (dvr_walk hosts steps d (At (place_of x p)) run)) same
            ∙ router-dvr steps (omega arith) d test q found live router named r e p lives run

        by : (b : Bool) → is_router_port q.owner ≡ b → (if b then to_router q (router_of rows q) else Some (ToTap q.id)) ≡ Some to → dvr_meant (dvr_walk hosts steps d (At (place_of to p)) run) ≡ answer rows hosts (suc many) q p d run
        by true e f = routed_by e (router_of rows q) refl f
        by false e f =
            let same : to ≡ ToTap q.id = cc in
            ap (λ x. dvr_meant (dvr_walk hosts steps d (At (place_of x p)) run)) same ∙ tap-answer d test q found live e named many steps p run (omega arith)

  -- the induction over the time to live
  pub both-dvr : (many : ℕ) → DvrLands rows hosts many × DvrNear rows hosts many
  both-dvr zero = (λ steps test q d to p run enough found live named is lives. absurd (omega arith), λ steps d n q r p run enough named found wide router_is is lives. absurd (omega arith))
  both-dvr (suc many) =
      let rest = both-dvr many in (
        lands-dvr many (λ steps d n net tag p run enough named there is_tagged lives. sent-dvr rows hosts good facts many rest.0 rest.1 steps d n net tag p run enough named there is_tagged lives),
        λ steps d n q r p run enough named found wide router_is is lives. near-law rows hosts good facts many (on-law rows hosts good facts many rest.0 rest.1) steps d n q r p run enough named found wide router_is is lives,
      )

  pub sent-law-dvr : (many : ℕ) → DvrSent rows hosts many
  sent-law-dvr many steps d n net tag p run enough named there is_tagged lives =
      let b = both-dvr many in
      sent-dvr rows hosts good facts many b.0 b.1 steps d n net tag p run enough named there is_tagged lives

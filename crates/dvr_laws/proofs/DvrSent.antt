-- A packet on a bridge, or after a copy, gets to the port that the rows say, on the hosts that the rows say.
use Rattle.api_types.proofs.ListLemmas.{some_equal}
use Rattle.api_types.proofs.NameLemmas.{bytes_same, ident_same}
use Rattle.api_types.specs.Holders.{has_mac, port_at, router_of}
use Rattle.api_types.specs.Ident.{Ident}
use Rattle.api_types.specs.Live.{is_at, is_live, joined_with, segment}
use Rattle.api_types.specs.Owners.{is_gateway, is_interface, is_router_port}
use Rattle.api_types.specs.RouterRows.{leg_of, router_view}
use Rattle.api_types.specs.RowLists.{RowLists}
use Rattle.api_types.specs.RowsWith.{network_with}
use Rattle.api_types.specs.Table.{ident_eq}
use Rattle.api_types.specs.declared.network.NetworkRow.{NetworkRow}
use Rattle.api_types.specs.declared.network.Segment.TheVariants.{Vxlan}
use Rattle.api_types.specs.declared.port.PortRow.{PortRow}
use Rattle.api_types.specs.declared.router.RouterRow.{RouterRow}
use Rattle.dvr_laws.proofs.DvrParts.{DvrFacts, IsFar, answer, by-tables, copies-are, every, head, home, look, looked, name-is, real, router-there, tell, walk-to}
use Rattle.dvr_laws.proofs.HandledLaw.{handled-is, handled_so, near_step}
use Rattle.dvr_laws.proofs.HostsLaw.{goes-on}
use Rattle.dvr_types.specs.Copies.{is_vxlan_interface, is_vxlan_segment, near_target, to_interface}
use Rattle.dvr_types.specs.CopySteps.{handled_here}
use Rattle.dvr_types.specs.DvrFabric.{At, DvrHost, DvrRun, On, dvr_walk, fate_after_copy, fate_at_router, fate_toward, handled_at, is_dvr_named, name_elsewhere, over_dvr_tunnel, run_at}
use Rattle.dvr_types.specs.DvrVerdicts.{DvrMeaning, dvr_meant}
use Rattle.dvr_types.specs.Handlers.{after_host, hosts_from, hosts_to}
use Rattle.dvr_types.specs.Near.{is_for_outer_address, is_near, stays_near}
use Rattle.dvr_types.specs.declared.copies.NearTo.TheVariants.{Tap as NearTap, Tunnel as NearTunnel}
use Rattle.plane_laws.proofs.Facts.{FrameFacts}
use Rattle.plane_laws.proofs.ListLemmas.{find-passes}
use Rattle.plane_laws.proofs.Sent.{end-here, inner-step, place_of, trace-plain, trace_of}
use Rattle.plane_types.specs.Fabric.{step_path}
use Rattle.plane_types.specs.Meaning.{Trace, port_fate, sent_on}
use Rattle.plane_types.specs.Packets.{Packet, ip_frame}
use Rattle.plane_types.specs.Places.{Bridge, Next, Place, Step, TapOut, TunnelIn}
use Rattle.plane_types.specs.Routing.{routing_of}
use Rattle.plane_types.specs.TableRows.{carrier_of, tag_of, to_here, to_router}
use Rattle.plane_types.specs.TableStep.{carrier_eq, inward_at, inward_step, plain}
use Rattle.plane_types.specs.declared.table.BridgeTo.{BridgeTo}
use Rattle.plane_types.specs.declared.table.BridgeTo.TheVariants.{Tap as ToTap}
use Rattle.plane_types.specs.declared.table.Carrier.{Carrier}
use Rattle.plane_types.specs.declared.table.Carrier.TheVariants.{Tunnel as ByTunnel}
use Rattle.std.proofs.Common.{Bool, List, None, Some, [], ap, arith, false, not, refl, subst, suc, sym, true, zero, ℕ, ◌*◌, ◌++◌, ◌+◌, ◌-◌, ◌<◌, ◌∙◌, ◌∷◌, ◌≡◌, ◌≤◌}
use Rattle.std.proofs.lemmas.Bool.{and_parts, eq-eqb}
use Rattle.std.specs.Prelude.{find, if◌then◌else◌, ◌&&◌, ◌==◌, ◌||◌}

-- a packet that stands before a port at the port's host and can still pass so many routers
abbrev pub DvrLands : RowLists → List DvrHost → ℕ → Type 0
DvrLands rows hosts many = (steps : ℕ) (test : PortRow → Bool) (q : PortRow) (d : DvrHost) (to : BridgeTo) (p : Packet) (run : DvrRun) → 3 * many + 1 ≤ steps → find test rows.ports ≡ Some q → is_live rows q ≡ true → find (is_dvr_named q.host) hosts ≡ Some d → to_here rows q ≡ Some to → p.ttl < many → dvr_meant (dvr_walk hosts steps d (At (place_of to p)) run) ≡ answer rows hosts many q p d run

-- a packet that is near, at any host
abbrev pub DvrNear : RowLists → List DvrHost → ℕ → Type 0
DvrNear rows hosts many = (steps : ℕ) (d : DvrHost) (n : Ident) (q : PortRow) (r : RouterRow) (p : Packet) (run : DvrRun) → 3 * many ≤ steps → find (is_dvr_named d.host.name) hosts ≡ Some d → port_at rows n p.dst ≡ Some q → is_vxlan_interface rows q ≡ true → router_of rows q ≡ Some r → is_near rows (every hosts ++ run.run.fresh) r q p ≡ true → p.ttl < many → dvr_meant (fate_after_copy (dvr_walk hosts steps) d run (handled_so r (near_step rows d.host.name r (routing_of (router_view rows r) (every hosts ++ run.run.fresh) (leg_of q) p)))) ≡ answer rows hosts many q p d run

-- a packet after a copy, on its way to a port of a vxlan network
abbrev pub DvrOn : RowLists → List DvrHost → ℕ → Type 0
DvrOn rows hosts many = (steps : ℕ) (d : DvrHost) (n : Ident) (m : ℕ) (q : PortRow) (p : Packet) (run : DvrRun) → 3 * many + 3 ≤ steps → find (is_dvr_named d.host.name) hosts ≡ Some d → port_at rows n p.dst ≡ Some q → segment rows n ≡ Vxlan m → p.ttl < many → dvr_meant (dvr_walk hosts steps d (On n (near_target rows d.host.name q m) p) run) ≡ answer rows hosts many q p d run

abbrev pub sent_answer : RowLists → List DvrHost → ℕ → Ident → Packet → DvrHost → DvrRun → DvrMeaning
sent_answer rows hosts many n p d run = tell (sent_on rows (port_fate rows (every hosts) many) n d.host.name p (trace_of run.run)) (run.hosts ++ after_host d.host.name (hosts_to (hosts_from rows (every hosts) many) p (trace_of run.run) (joined_with rows d.host.name (port_at rows n p.dst))))

abbrev pub DvrSent : RowLists → List DvrHost → ℕ → Type 0
DvrSent rows hosts many = (steps : ℕ) (d : DvrHost) (n : Ident) (net : NetworkRow) (tag : ℕ) (p : Packet) (run : DvrRun) → 3 * many + 3 ≤ steps → find (is_dvr_named d.host.name) hosts ≡ Some d → network_with rows n ≡ Some net → tag_of d.host.tables.tags n ≡ Some tag → p.ttl < many → dvr_meant (dvr_walk hosts steps d (At (Bridge tag (ip_frame p))) run) ≡ sent_answer rows hosts many n p d run

module _ (rows : RowLists) (hosts : List DvrHost) (good : FrameFacts rows) (facts : DvrFacts rows hosts) where
  abbrev before : ℕ → PortRow → Packet → DvrHost → DvrRun → Trace → DvrMeaning
  before many q p d run t = tell (port_fate rows (every hosts) many q p t) (run.hosts ++ after_host d.host.name (hosts_from rows (every hosts) many q p t))

  parts_at : (n : Ident) (p : Packet) (q : PortRow) → port_at rows n p.dst ≡ Some q → (n ≡ q.network) × (is_live rows q ≡ true)
  parts_at n p q e =
      let hit = find-passes (has_mac rows n p.dst) rows.ports q e in
      let parts = and_parts (ident_eq n q.network && (q.mac == p.dst)) (is_live rows q) hit in
      (ident_same n q.network (and_parts (ident_eq n q.network) (q.mac == p.dst) parts.0).0, parts.1)

  -- what comes by a carrier to the port's host gets to the port
  pub carried : (many : ℕ) → DvrLands rows hosts many → (steps : ℕ) (d x : DvrHost) (place : Place) (run : DvrRun) (c : Carrier) (n : Ident) (p : Packet) (q : PortRow) → 3 * many + 2 ≤ steps → find (is_dvr_named q.host) hosts ≡ Some x → port_at rows n p.dst ≡ Some q → carrier_of (segment rows n) ≡ Some c → carrier_eq c c ≡ true → p.ttl < many → IsFar rows hosts q p (trace_of run.run)
      → look x place (run_at d x run) ≡ plain (inward_step x.host.tables (ip_frame p) (inward_at x.host.tables c)) → handled_at x.copies x.host.tables place ≡ None → ((s : Step) → step_path x.host place s ≡ [])
      → dvr_meant (dvr_walk hosts steps x (At place) (run_at d x run)) ≡ answer rows hosts many q p d run
  carried zero lands steps d x place run c n p q enough named found segment_is itself lives far step none quiet = absurd (omega arith)
  carried (suc many) lands steps d x place run c n p q enough named found segment_is itself lives far step none quiet =
      let both = parts_at n p q found in
      let here : is_at x.host.name q ≡ true = find-passes (is_dvr_named q.host) hosts x named in
      let host_is : q.host ≡ x.host.name = name-is rows hosts good facts q.host x named in
      let to = end-here rows good (has_mac rows n p.dst) q found both.1 in
      let is : look x place (run_at d x run) ≡ plain (Next (place_of to.0 p)) = step ∙ ap plain (inner-step rows good x.host.name x.host.tables (real rows hosts good facts q.host x named) n p q found here c segment_is itself to.0 to.1) in
      let first = head rows hosts good facts many (has_mac rows n p.dst) q p (trace_of run.run) found both.1 far in
      let whole : hosts_from rows (every hosts) (suc many) q p (trace_of run.run) ≡ x.host.name ∷ first.0 = first.1 ∙ ap (λ h. h ∷ first.0) host_is in
      by-tables rows hosts good facts steps x place (run_at d x run) (omega arith) none (plain (Next (place_of to.0 p))) is
      ∙ lands (steps - 1) (has_mac rows n p.dst) q x to.0 p (looked x place (plain (Next (place_of to.0 p))) (run_at d x run)) (omega arith) found both.1 named to.1 lives
      ∙ ap (before (suc many) q p x (run_at d x run)) (trace-plain x.host place (Next (place_of to.0 p)) run.run (quiet (Next (place_of to.0 p))))
      ∙ ap (λ l. tell (port_fate rows (every hosts) (suc many) q p (trace_of run.run)) ((run.hosts ++ name_elsewhere d.host.name x.host.name) ++ after_host x.host.name l)) whole
      ∙ ap (tell (port_fate rows (every hosts) (suc many) q p (trace_of run.run))) (goes-on d.host.name x.host.name run.hosts first.0)
      ∙ ap (λ l. tell (port_fate rows (every hosts) (suc many) q p (trace_of run.run)) (run.hosts ++ after_host d.host.name l)) (sym whole)

  -- a port that is no interface on a vxlan network is never near
  pub far-other : (q : PortRow) (p : Packet) (t : Trace) → is_vxlan_interface rows q ≡ false → IsFar rows hosts q p t
  unfolding is_near
  far-other q p t e r router k = ap (λ b. b && not (is_for_outer_address (router_view rows r) p) && stays_near rows r (routing_of (router_view rows r) (every hosts ++ t.fresh) (leg_of q) p)) e

  pub far-by : (q : PortRow) (p : Packet) (t : Trace) (r : RouterRow) → router_of rows q ≡ Some r → is_near rows (every hosts ++ t.fresh) r q p ≡ false → IsFar rows hosts q p t
  far-by q p t r k e z router l = let same : r ≡ z = some_equal r z (sym k ∙ l) in subst (λ (y : RouterRow). is_near rows (every hosts ++ t.fresh) y q p ≡ false) same e

  module _ (many : ℕ) (lands : DvrLands rows hosts many) (near : DvrNear rows hosts many) where
    -- after a copy
    tunnelled_to : (steps : ℕ) (d : DvrHost) (n : Ident) (m : ℕ) (q : PortRow) (p : Packet) (run : DvrRun) → 3 * many + 2 ≤ steps → port_at rows n p.dst ≡ Some q → segment rows n ≡ Vxlan m → p.ttl < many → IsFar rows hosts q p (trace_of run.run) → dvr_meant (over_dvr_tunnel (dvr_walk hosts steps) d m (ip_frame p) run (find (is_dvr_named q.host) hosts)) ≡ answer rows hosts many q p d run
    tunnelled_to steps d n m q p run enough found segment_is lives far =
        let x = home rows hosts good facts (has_mac rows n p.dst) q found (parts_at n p q found).1 in
        ap (λ o. dvr_meant (over_dvr_tunnel (dvr_walk hosts steps) d m (ip_frame p) run o)) x.1
        ∙ carried many lands steps d x.0 (TunnelIn m (ip_frame p)) run (ByTunnel m) n p q enough x.1 found (ap carrier_of segment_is) (eq-eqb m m refl) lives far refl refl (λ s. refl)

    pub on-law : DvrOn rows hosts many
    on-law steps d n m q p run enough named found segment_is lives =
        ap dvr_meant (walk-to rows hosts good facts steps d n (near_target rows d.host.name q m) p run (omega arith))
        ∙ go (is_interface q.owner) refl
      where
        both : (n ≡ q.network) × (is_live rows q ≡ true)
        both = parts_at n p q found

        dvr_by : (b : Bool) → is_interface q.owner ≡ b → is_vxlan_interface rows q ≡ b
        dvr_by b e = ap (λ i. i && is_vxlan_segment (segment rows q.network)) e ∙ ap (λ i. b && is_vxlan_segment (segment rows i)) (sym both.0) ∙ ap (λ s. b && is_vxlan_segment s) segment_is ∙ last b
          where
            last : (b : Bool) → (b && true) ≡ b
            last true = refl
            last false = refl

        by_router : is_interface q.owner ≡ true → dvr_meant (fate_toward hosts (dvr_walk hosts (steps - 1)) d n p run (to_interface q m (router_of rows q))) ≡ answer rows hosts many q p d run
        by_router e =
            let wide = dvr_by true e in
            let r = router-there rows hosts good facts (has_mac rows n p.dst) q found both.1 (ap (λ b. b || is_gateway q.owner) e) in
            ap (λ o. dvr_meant (fate_toward hosts (dvr_walk hosts (steps - 1)) d n p run (to_interface q m o))) r.1
            ∙ ap (λ c. dvr_meant (fate_at_router hosts (dvr_walk hosts (steps - 1)) d q.host m p run (handled_here c n p))) (copies-are rows hosts good facts d.host.name d named)
            ∙ ap (λ o. dvr_meant (fate_at_router hosts (dvr_walk hosts (steps - 1)) d q.host m p run o)) (handled-is rows good d.host.name n p q found wide r.0 r.1 (every hosts ++ run.run.fresh))
            ∙ by (is_near rows (every hosts ++ run.run.fresh) r.0 q p) refl r.0 r.1 wide
          where
            by : (b : Bool) → (c : is_near rows (every hosts ++ run.run.fresh) (router-there rows hosts good facts (has_mac rows n p.dst) q found both.1 (ap (λ b. b || is_gateway q.owner) e)).0 q p ≡ b) → (r : RouterRow) → router_of rows q ≡ Some r → is_vxlan_interface rows q ≡ true → dvr_meant (fate_at_router hosts (dvr_walk hosts (steps - 1)) d q.host m p run (if is_near rows (every hosts ++ run.run.fresh) r q p then Some (handled_so r (near_step rows d.host.name r (routing_of (router_view rows r) (every hosts ++ run.run.fresh) (leg_of q) p))) else None)) ≡ answer rows hosts many q p d run
            by b c r k wide = choose (is_near rows (every hosts ++ run.run.fresh) r q p) refl
              where
                choose : (b : Bool) → is_near rows (every hosts ++ run.run.fresh) r q p ≡ b → dvr_meant (fate_at_router hosts (dvr_walk hosts (steps - 1)) d q.host m p run (if b then Some (handled_so r (near_step rows d.host.name r (routing_of (router_view rows r) (every hosts ++ run.run.fresh) (leg_of q) p))) else None)) ≡ answer rows hosts many q p d run
                choose true f = near (steps - 1) d n q r p run (omega arith) named found wide k f lives
                choose false f = tunnelled_to (steps - 1) d n m q p run (omega arith) found segment_is lives (far-by q p (trace_of run.run) r k f)

        by_tap : is_interface q.owner ≡ false → is_router_port q.owner ≡ false → is_at d.host.name q ≡ true → dvr_meant (dvr_walk hosts (steps - 1) d (At (TapOut q.id (ip_frame p))) run) ≡ answer rows hosts many q p d run
        by_tap e plain_port here =
            let mine : find (is_dvr_named q.host) hosts ≡ Some d = ap (λ h. find (is_dvr_named h) hosts) (bytes_same q.host d.host.name here) ∙ named in
            lands (steps - 1) (has_mac rows n p.dst) q d (ToTap q.id) p run (omega arith) found both.1 mine (ap (λ b. if b then to_router q (router_of rows q) else Some (ToTap q.id)) plain_port) lives

        others : is_interface q.owner ≡ false → (b c : Bool) → is_router_port q.owner ≡ b → is_at d.host.name q ≡ c → dvr_meant (fate_toward hosts (dvr_walk hosts (steps - 1)) d n p run (if not b && c then NearTap q.id else NearTunnel q.host m)) ≡ answer rows hosts many q p d run
        others e true c f g = tunnelled_to (steps - 1) d n m q p run (omega arith) found segment_is lives (far-other q p (trace_of run.run) (dvr_by false e))
        others e false false f g = tunnelled_to (steps - 1) d n m q p run (omega arith) found segment_is lives (far-other q p (trace_of run.run) (dvr_by false e))
        others e false true f g = by_tap e f g

        go : (b : Bool) → is_interface q.owner ≡ b → dvr_meant (fate_toward hosts (dvr_walk hosts (steps - 1)) d n p run (if b then to_interface q m (router_of rows q) else if not (is_router_port q.owner) && is_at d.host.name q then NearTap q.id else NearTunnel q.host m)) ≡ answer rows hosts many q p d run
        go true e = by_router e
        go false e = others e (is_router_port q.owner) (is_at d.host.name q) refl refl

-- An ask for a lease on a bridge gets to the host of the DHCP port.
use Rattle.api_types.proofs.NameLemmas.{bytes_same, ident_same}
use Rattle.api_types.specs.Holders.{dhcp_port, is_live_dhcp_of, port_at}
use Rattle.api_types.specs.Ident.{Ident}
use Rattle.api_types.specs.Leases.{lease_for}
use Rattle.api_types.specs.Live.{is_at, is_joined, is_live, is_local, joined_with, segment}
use Rattle.api_types.specs.Owners.{is_dhcp}
use Rattle.api_types.specs.RowLists.{RowLists}
use Rattle.api_types.specs.RowsWith.{network_with}
use Rattle.api_types.specs.Table.{ident_eq}
use Rattle.api_types.specs.Wires.{wire_of}
use Rattle.api_types.specs.declared.lease.Lease.{Lease}
use Rattle.api_types.specs.declared.network.NetworkRow.{NetworkRow}
use Rattle.api_types.specs.declared.network.Segment.{Segment}
use Rattle.api_types.specs.declared.network.Segment.TheVariants.{Flat, Local, Vlan, Vxlan}
use Rattle.api_types.specs.declared.port.PortRow.{PortRow}
use Rattle.api_types.specs.declared.wire.Wire.{Wire}
use Rattle.dvr_laws.proofs.DvrParts.{DvrFacts, by-tables, home, host_of, look, looked, name-is, real, tell}
use Rattle.dvr_laws.proofs.DvrPort.{DvrLeases}
use Rattle.dvr_laws.proofs.HostsLaw.{AllOf-mapped, after-after, after-here}
use Rattle.dvr_types.specs.DvrFabric.{At, DvrHost, DvrRun, dvr_walk, fate_after_tables, handled_at, is_dvr_named, name_elsewhere, next_of_tables, over_dvr_tunnel, over_dvr_wire, run_at}
use Rattle.dvr_types.specs.DvrVerdicts.{DvrMeaning, dvr_meant, plain_hosts}
use Rattle.dvr_types.specs.Handlers.{after_host, host_of_port}
use Rattle.plane_laws.proofs.Facts.{AllOf, FrameFacts, HostFacts}
use Rattle.plane_laws.proofs.Leases.{dhcp-located, lease-located, lease-step, lease-takes, row-located}
use Rattle.plane_laws.proofs.ListLemmas.{AllOf-more, find-none_each, find-passes, find-same_each}
use Rattle.plane_laws.proofs.Located.{tag-row}
use Rattle.plane_laws.proofs.Sent.{trace-plain, trace_of}
use Rattle.plane_laws.proofs.SentLaw.{at_opt, wire_away, wire_carrier, wire_self}
use Rattle.plane_laws.proofs.Tagged.{inward-located, tagged}
use Rattle.plane_types.specs.Fabric.{step_path, takes}
use Rattle.plane_types.specs.Hosts.{Host}
use Rattle.plane_types.specs.Meaning.{dhcp_outcome, end_fate, lease_asked_by, lease_outcome, out_of, out_or}
use Rattle.plane_types.specs.Packets.{LeaseAsk, dhcp_frame}
use Rattle.plane_types.specs.Places.{Bridge, DhcpIn, Next, Place, Step, ToTunnel, ToWire, TunnelIn, WireIn}
use Rattle.plane_types.specs.TableRows.{carrier_of, dhcp_row, tag_of, to_here, to_there}
use Rattle.plane_types.specs.TableStep.{bridge_at, bridge_at_tag, bridge_step, bridged_by, carrier_eq, drops, inward_at, inward_step, lease_answer, plain, stops, wire_or}
use Rattle.plane_types.specs.declared.table.BridgeKey.TheVariants.{Dhcp as AtDhcp}
use Rattle.plane_types.specs.declared.table.BridgeTo.TheVariants.{Tunnel as ToHost}
use Rattle.plane_types.specs.declared.table.Carrier.{Carrier}
use Rattle.plane_types.specs.declared.table.Carrier.TheVariants.{Tunnel as ByTunnel, Wire as ByWire}
use Rattle.plane_types.specs.declared.table.LeaseRow.{LeaseRow}
use Rattle.plane_types.specs.declared.verdict.AskAnswer.TheVariants.{Lease as LeaseAnswer}
use Rattle.plane_types.specs.declared.verdict.DropCause.TheVariants.{NoLease}
use Rattle.plane_types.specs.declared.verdict.Outcome.TheVariants.{Answered, Dropped, Out}
use Rattle.plane_types.specs.declared.verdict.Toward.TheVariants.{Dhcp as TowardDhcp}
use Rattle.std.proofs.Common.{Bool, List, None, Option, Some, [], ap, arith, false, not, refl, subst, sym, true, ℕ, ◌++◌, ◌-◌, ◌<◌, ◌∙◌, ◌∷◌, ◌≡◌, ◌≤◌}
use Rattle.std.proofs.lemmas.Bool.{and_from, and_parts, and_right, eq-eqb, or_right}
use Rattle.std.proofs.lemmas.List.{append-nil}
use Rattle.std.specs.Prelude.{find, if◌then◌else◌, option_and_then, option_map, ◌&&◌, ◌||◌}
use Rattle.std.specs.Str.{bytes_eq}

-- the row by which a port with a tag and a MAC gets a lease
abbrev given_lease : ℕ → ℕ → PortRow → Option Lease → Option LeaseRow
given_lease tag mac q o = option_map (λ lease. record { port = q.id; tag = tag; mac = mac; lease = lease }) o

module _ (rows : RowLists) (hosts : List DvrHost) (good : FrameFacts rows) (facts : DvrFacts rows hosts) where
  -- at the host of the DHCP port
  module _ (x : DvrHost) (name : List ℕ) (at : find (is_dvr_named name) hosts ≡ Some x) (n : Ident) (s : PortRow) (found : dhcp_port rows n ≡ Some s) (here : is_at x.host.name s ≡ true) (a : LeaseAsk) where
    real_x : HostFacts rows x.host.name x.host.tables
    real_x = real rows hosts good facts name x at

    at-leases : (steps : ℕ) (tag : ℕ) (run : DvrRun) → tag_of x.host.tables.tags n ≡ Some tag → 0 < steps → dvr_meant (dvr_walk hosts steps x (At (DhcpIn tag (dhcp_frame a))) run) ≡ tell (end_fate (trace_of run.run) (dhcp_outcome rows n a s)) run.hosts
    at-leases steps tag run is more =
        by-tables rows hosts good facts steps x (DhcpIn tag (dhcp_frame a)) run more refl (plain (lease_answer (option_and_then (λ q. given_lease tag a.src q (lease_for rows s q)) (port_at rows n a.src)))) (ap (λ o. plain (lease_answer o)) (lease-located rows x.host.name x.host.tables real_x good n tag is s found here a.src))
        ∙ go (port_at rows n a.src)
      where
        by : (q : PortRow) (o : Option Lease) → dvr_meant (fate_after_tables hosts (dvr_walk hosts (steps - 1)) x (DhcpIn tag (dhcp_frame a)) run (plain (lease_answer (given_lease tag a.src q o)))) ≡ tell (end_fate (trace_of run.run) (lease_outcome o)) run.hosts
        by q None = ap (λ t. tell (end_fate t (Dropped NoLease)) run.hosts) (trace-plain x.host (DhcpIn tag (dhcp_frame a)) (drops NoLease) run.run refl)
        by q (Some l) = ap (λ t. tell (end_fate t (Answered (LeaseAnswer l))) run.hosts) (trace-plain x.host (DhcpIn tag (dhcp_frame a)) (stops (Answered (LeaseAnswer l))) run.run refl)

        go : (o : Option PortRow) → dvr_meant (fate_after_tables hosts (dvr_walk hosts (steps - 1)) x (DhcpIn tag (dhcp_frame a)) run (plain (lease_answer (option_and_then (λ q. given_lease tag a.src q (lease_for rows s q)) o)))) ≡ tell (end_fate (trace_of run.run) (lease_outcome (option_and_then (lease_for rows s) o))) run.hosts
        go None = ap (λ t. tell (end_fate t (Dropped NoLease)) run.hosts) (trace-plain x.host (DhcpIn tag (dhcp_frame a)) (drops NoLease) run.run refl)
        go (Some q) = by q (lease_for rows s q)

    parts : ((ident_eq n s.network && is_dhcp s.owner) ≡ true) × (is_live rows s ≡ true)
    parts = and_parts (ident_eq n s.network && is_dhcp s.owner) (is_live rows s) (find-passes (is_live_dhcp_of rows n) rows.ports s found)

    pub tag-there : (tag : ℕ) × (tag_of x.host.tables.tags n ≡ Some tag)
    tag-there =
        let tag = tagged rows x.host.name x.host.tables real_x good (is_live_dhcp_of rows n) s found (and_from (is_live rows s) (is_at x.host.name s) parts.1 here) in
        (tag.0, ap (tag_of x.host.tables.tags) (ident_same n s.network (and_parts (ident_eq n s.network) (is_dhcp s.owner) parts.0).0) ∙ tag.1)

    pub lease-carried : (steps : ℕ) (place : Place) (run : DvrRun) (c : Carrier) → 2 ≤ steps → carrier_of (segment rows n) ≡ Some c → carrier_eq c c ≡ true
        → look x place run ≡ plain (inward_step x.host.tables (dhcp_frame a) (inward_at x.host.tables c)) → handled_at x.copies x.host.tables place ≡ None → ((s : Step) → step_path x.host place s ≡ [])
        → dvr_meant (dvr_walk hosts steps x (At place) run) ≡ tell (end_fate (trace_of run.run) (dhcp_outcome rows n a s)) run.hosts
    lease-carried steps place run c enough segment_is itself step none quiet =
        by-tables rows hosts good facts steps x place run (omega arith) none (plain (Next (DhcpIn tag-there.0 (dhcp_frame a)))) (step ∙ ap plain (ap (inward_step x.host.tables (dhcp_frame a)) (inward-located rows x.host.name x.host.tables real_x good n tag-there.0 c tag-there.1 segment_is itself) ∙ lease-step rows (plain_hosts hosts) good facts.synced x.host real_x n s found here a true tag-there.0 tag-there.1))
        ∙ at-leases (steps - 1) tag-there.0 (looked x place (plain (Next (DhcpIn tag-there.0 (dhcp_frame a)))) run) tag-there.1 (omega arith)
        ∙ ap (λ t. tell (end_fate t (dhcp_outcome rows n a s)) run.hosts) (trace-plain x.host place (Next (DhcpIn tag-there.0 (dhcp_frame a))) run.run (quiet (Next (DhcpIn tag-there.0 (dhcp_frame a)))))

  module _ (steps : ℕ) (d : DvrHost) (n : Ident) (net : NetworkRow) (tag : ℕ) (a : LeaseAsk) (run : DvrRun) (enough : 3 ≤ steps) (named : find (is_dvr_named d.host.name) hosts ≡ Some d) (there : network_with rows n ≡ Some net) (is_tagged : tag_of d.host.tables.tags n ≡ Some tag) where
    real_here : HostFacts rows d.host.name d.host.tables
    real_here = real rows hosts good facts d.host.name d named

    abbrev stepped : Step → DvrRun
    stepped s = looked d (Bridge tag (dhcp_frame a)) (plain s) run

    by-step : (s : Step) → bridge_step d.host.tables false tag (dhcp_frame a) ≡ s → dvr_meant (dvr_walk hosts steps d (At (Bridge tag (dhcp_frame a))) run) ≡ dvr_meant (next_of_tables hosts (dvr_walk hosts (steps - 1)) d (stepped s) s)
    by-step s e = by-tables rows hosts good facts steps d (Bridge tag (dhcp_frame a)) run (omega arith) refl (plain s) (ap plain e)

    trace_is : (s : Step) → trace_of (stepped s).run ≡ trace_of run.run
    trace_is s = trace-plain d.host (Bridge tag (dhcp_frame a)) s run.run refl

    abbrev of_port : Option PortRow → DvrMeaning
    of_port o = tell (end_fate (trace_of run.run) (lease_asked_by rows n a o)) (run.hosts ++ after_host d.host.name (host_of_port o))

    abbrev Goal : Type 0
    Goal = dvr_meant (dvr_walk hosts steps d (At (Bridge tag (dhcp_frame a))) run) ≡ of_port (joined_with rows d.host.name (dhcp_port rows n))

    nobody_is : of_port None ≡ tell (end_fate (trace_of run.run) (out_of rows n TowardDhcp (dhcp_frame a) NoLease)) run.hosts
    nobody_is = ap (tell (end_fate (trace_of run.run) (out_of rows n TowardDhcp (dhcp_frame a) NoLease))) (append-nil run.hosts)

    missing : bridge_at d.host.tables tag AtDhcp ≡ None → bridge_step d.host.tables false tag (dhcp_frame a) ≡ wire_or false n (wire_of (segment rows n)) TowardDhcp (dhcp_frame a) NoLease
    missing e = ap (bridge_at_tag d.host.tables false (dhcp_frame a)) (tag-row rows d.host.name d.host.tables.tags real_here.tags n tag is_tagged) ∙ ap (bridged_by false (record { network = n; tag = tag; wire = wire_of (segment rows n) }) TowardDhcp (dhcp_frame a) NoLease) e

    takers : (w : Wire) → wire_of (segment rows n) ≡ Some w → (o : Option PortRow) → dhcp_port rows n ≡ o → AllOf (λ (x : DvrHost). takes w (dhcp_frame a) x.host ≡ at_opt x.host.name o) hosts
    takers w f o e = AllOf-more (λ (y : DvrHost). HostFacts rows y.host.name y.host.tables) (λ (x : DvrHost). takes w (dhcp_frame a) x.host ≡ at_opt x.host.name o) hosts (λ x r. lease-takes rows (plain_hosts hosts) good facts.synced n net there w f a x.host r ∙ ap (at_opt x.host.name) e) (AllOf-mapped (λ (y : Host). HostFacts rows y.name y.tables) host_of hosts facts.synced.realise)

    nobody : dhcp_port rows n ≡ None → Goal
    nobody e = by (wire_of (segment rows n)) refl
      where
        none : bridge_at d.host.tables tag AtDhcp ≡ None
        none = dhcp-located rows d.host.name d.host.tables real_here good n tag is_tagged ∙ ap (option_and_then (dhcp_row rows d.host.name d.host.tables.tags)) e

        meaning : of_port (joined_with rows d.host.name (dhcp_port rows n)) ≡ tell (end_fate (trace_of run.run) (out_of rows n TowardDhcp (dhcp_frame a) NoLease)) run.hosts
        meaning = ap (λ o. of_port (joined_with rows d.host.name o)) e ∙ nobody_is

        by : (o : Option Wire) → wire_of (segment rows n) ≡ o → Goal
        by None f = by-step (drops NoLease) (missing none ∙ ap (λ w. wire_or false n w TowardDhcp (dhcp_frame a) NoLease) f) ∙ ap (λ t. tell (end_fate t (Dropped NoLease)) run.hosts) (trace_is (drops NoLease)) ∙ sym (meaning ∙ ap (λ w. tell (end_fate (trace_of run.run) (out_or w n TowardDhcp (dhcp_frame a) NoLease)) run.hosts) f)
        by (Some w) f =
            let untaken = find-none_each (λ (x : DvrHost). not (bytes_eq x.host.name d.host.name) && takes w (dhcp_frame a) x.host) hosts (AllOf-more (λ (x : DvrHost). takes w (dhcp_frame a) x.host ≡ false) (λ (x : DvrHost). (not (bytes_eq x.host.name d.host.name) && takes w (dhcp_frame a) x.host) ≡ false) hosts (λ x k. and_right (not (bytes_eq x.host.name d.host.name)) (takes w (dhcp_frame a) x.host) k) (takers w f None e)) in
            by-step (ToWire w n TowardDhcp (dhcp_frame a)) (missing none ∙ ap (λ w. wire_or false n w TowardDhcp (dhcp_frame a) NoLease) f)
            ∙ ap (λ o. dvr_meant (over_dvr_wire (dvr_walk hosts (steps - 1)) d w n TowardDhcp (dhcp_frame a) (stepped (ToWire w n TowardDhcp (dhcp_frame a))) o)) untaken
            ∙ ap (λ t. tell (end_fate t (Out n TowardDhcp (dhcp_frame a))) run.hosts) (trace_is (ToWire w n TowardDhcp (dhcp_frame a)))
            ∙ sym (meaning ∙ ap (λ w. tell (end_fate (trace_of run.run) (out_or w n TowardDhcp (dhcp_frame a) NoLease)) run.hosts) f)

    somebody : (s : PortRow) → dhcp_port rows n ≡ Some s → Goal
    somebody s e = by (is_at d.host.name s) refl
      where
        parts : ((ident_eq n s.network && is_dhcp s.owner) ≡ true) × (is_live rows s ≡ true)
        parts = and_parts (ident_eq n s.network && is_dhcp s.owner) (is_live rows s) (find-passes (is_live_dhcp_of rows n) rows.ports s e)

        same : n ≡ s.network
        same = ident_same n s.network (and_parts (ident_eq n s.network) (is_dhcp s.owner) parts.0).0

        x : (x : DvrHost) × (find (is_dvr_named s.host) hosts ≡ Some x)
        x = home rows hosts good facts (is_live_dhcp_of rows n) s e parts.1

        x_at : is_at (x.0).host.name s ≡ true
        x_at = find-passes (is_dvr_named s.host) hosts x.0 x.1

        x_is : s.host ≡ (x.0).host.name
        x_is = name-is rows hosts good facts s.host x.0 x.1

        joined-is : is_joined rows s d.host.name ≡ (not (is_local (segment rows n)) || is_at d.host.name s)
        joined-is = ap (λ i. not (is_local (segment rows i)) || is_at d.host.name s) (sym same)

        meaning : (b : Bool) → is_joined rows s d.host.name ≡ b → of_port (joined_with rows d.host.name (dhcp_port rows n)) ≡ of_port (if b then Some s else None)
        meaning b j = ap (λ o. of_port (joined_with rows d.host.name o)) e ∙ ap (λ c. of_port (if c then Some s else None)) j

        -- the DHCP port's host is the next one
        goes : tell (end_fate (trace_of run.run) (dhcp_outcome rows n a s)) (run.hosts ++ name_elsewhere d.host.name (x.0).host.name) ≡ of_port (Some s)
        goes =
            ap (λ l. tell (end_fate (trace_of run.run) (dhcp_outcome rows n a s)) (run.hosts ++ l)) (sym (append-nil (name_elsewhere d.host.name (x.0).host.name)) ∙ after-after d.host.name (x.0).host.name [])
            ∙ ap (λ h. tell (end_fate (trace_of run.run) (dhcp_outcome rows n a s)) (run.hosts ++ after_host d.host.name (h ∷ []))) (sym x_is)

        away-none : is_at d.host.name s ≡ false → to_there (segment rows n) s ≡ None → bridge_at d.host.tables tag AtDhcp ≡ None
        away-none away k = row-located rows d.host.name d.host.tables real_here good n tag is_tagged s e None (ap (λ b. if b then to_here rows s else to_there (segment rows s.network) s) away ∙ ap (λ i. to_there (segment rows i) s) (sym same) ∙ k)

        wires : is_at d.host.name s ≡ false → (w : Wire) → wire_of (segment rows n) ≡ Some w → dvr_meant (dvr_walk hosts steps d (At (Bridge tag (dhcp_frame a))) run) ≡ of_port (Some s)
        wires away w f =
            let taker : find (λ (y : DvrHost). not (bytes_eq y.host.name d.host.name) && takes w (dhcp_frame a) y.host) hosts ≡ Some x.0 =
            find-same_each (λ (y : DvrHost). not (bytes_eq y.host.name d.host.name) && takes w (dhcp_frame a) y.host) (is_dvr_named s.host) hosts
            (AllOf-more (λ (y : DvrHost). takes w (dhcp_frame a) y.host ≡ is_at y.host.name s) (λ (y : DvrHost). (not (bytes_eq y.host.name d.host.name) && takes w (dhcp_frame a) y.host) ≡ is_dvr_named s.host y) hosts (λ y k. other_taker y k) (takers w f (Some s) e))
            ∙ x.1 in
            by-step (ToWire w n TowardDhcp (dhcp_frame a)) (missing (away-none away (wire_away (segment rows n) w s f)) ∙ ap (λ w. wire_or false n w TowardDhcp (dhcp_frame a) NoLease) f)
            ∙ ap (λ o. dvr_meant (over_dvr_wire (dvr_walk hosts (steps - 1)) d w n TowardDhcp (dhcp_frame a) (stepped (ToWire w n TowardDhcp (dhcp_frame a))) o)) taker
            ∙ lease-carried x.0 s.host x.1 n s e x_at a (steps - 1) (WireIn w (dhcp_frame a)) (run_at d x.0 (stepped (ToWire w n TowardDhcp (dhcp_frame a)))) (ByWire w) (omega arith) (wire_carrier (segment rows n) w f) (wire_self w) refl refl (λ s. refl)
            ∙ ap (λ t. tell (end_fate t (dhcp_outcome rows n a s)) (run.hosts ++ name_elsewhere d.host.name (x.0).host.name)) (trace_is (ToWire w n TowardDhcp (dhcp_frame a)))
            ∙ goes
          where
            other_taker : (y : DvrHost) → takes w (dhcp_frame a) y.host ≡ is_at y.host.name s → (not (bytes_eq y.host.name d.host.name) && takes w (dhcp_frame a) y.host) ≡ bytes_eq s.host y.host.name
            other_taker y k = ap (λ b. not (bytes_eq y.host.name d.host.name) && b) k ∙ go (bytes_eq y.host.name d.host.name) (bytes_eq s.host y.host.name) refl refl
              where
                go : (b c : Bool) → bytes_eq y.host.name d.host.name ≡ b → bytes_eq s.host y.host.name ≡ c → (not b && c) ≡ c
                go true false k l = refl
                go false c k l = refl
                go true true k l = let bad : is_at d.host.name s ≡ true = subst (λ m. bytes_eq s.host m ≡ true) (bytes_same y.host.name d.host.name k) l in cc

        tunnels : is_at d.host.name s ≡ false → (m : ℕ) → segment rows n ≡ Vxlan m → dvr_meant (dvr_walk hosts steps d (At (Bridge tag (dhcp_frame a))) run) ≡ of_port (Some s)
        tunnels away m f =
            let row = row-located rows d.host.name d.host.tables real_here good n tag is_tagged s e (Some (ToHost s.host m)) (ap (λ b. if b then to_here rows s else to_there (segment rows s.network) s) away ∙ ap (λ i. to_there (segment rows i) s) (sym same) ∙ ap (λ z. to_there z s) f) in
            by-step (ToTunnel s.host m (dhcp_frame a)) (ap (bridge_at_tag d.host.tables false (dhcp_frame a)) (tag-row rows d.host.name d.host.tables.tags real_here.tags n tag is_tagged) ∙ ap (bridged_by false (record { network = n; tag = tag; wire = wire_of (segment rows n) }) TowardDhcp (dhcp_frame a) NoLease) row)
            ∙ ap (λ o. dvr_meant (over_dvr_tunnel (dvr_walk hosts (steps - 1)) d m (dhcp_frame a) (stepped (ToTunnel s.host m (dhcp_frame a))) o)) x.1
            ∙ lease-carried x.0 s.host x.1 n s e x_at a (steps - 1) (TunnelIn m (dhcp_frame a)) (run_at d x.0 (stepped (ToTunnel s.host m (dhcp_frame a)))) (ByTunnel m) (omega arith) (ap carrier_of f) (eq-eqb m m refl) refl refl (λ s. refl)
            ∙ ap (λ t. tell (end_fate t (dhcp_outcome rows n a s)) (run.hosts ++ name_elsewhere d.host.name (x.0).host.name)) (trace_is (ToTunnel s.host m (dhcp_frame a)))
            ∙ goes

        joined_far : is_local (segment rows n) ≡ false → is_joined rows s d.host.name ≡ true
        joined_far k = joined-is ∙ ap (λ b. not b || is_at d.host.name s) k

        far : is_at d.host.name s ≡ false → (z : Segment) → segment rows n ≡ z → Goal
        far away Local f =
            by-step (drops NoLease) (missing (away-none away (ap (λ z. to_there z s) f)) ∙ ap (λ z. wire_or false n (wire_of z) TowardDhcp (dhcp_frame a) NoLease) f)
            ∙ ap (λ t. tell (end_fate t (Dropped NoLease)) run.hosts) (trace_is (drops NoLease))
            ∙ sym (meaning false (joined-is ∙ ap (λ z. not (is_local z) || is_at d.host.name s) f ∙ away) ∙ nobody_is ∙ ap (λ z. tell (end_fate (trace_of run.run) (out_or (wire_of z) n TowardDhcp (dhcp_frame a) NoLease)) run.hosts) f)
        far away (Flat y) f = wires away (record { physical = y; tag = None }) (ap wire_of f) ∙ sym (meaning true (joined_far (ap is_local f)))
        far away (Vlan y v) f = wires away (record { physical = y; tag = Some v }) (ap wire_of f) ∙ sym (meaning true (joined_far (ap is_local f)))
        far away (Vxlan m) f = tunnels away m f ∙ sym (meaning true (joined_far (ap is_local f)))

        by : (b : Bool) → is_at d.host.name s ≡ b → Goal
        by false away = far away (segment rows n) refl
        by true here =
            by-step (Next (DhcpIn tag (dhcp_frame a))) (lease-step rows (plain_hosts hosts) good facts.synced d.host real_here n s e here a false tag is_tagged)
            ∙ at-leases d d.host.name named n s e here a (steps - 1) tag (stepped (Next (DhcpIn tag (dhcp_frame a)))) is_tagged (omega arith)
            ∙ ap (λ t. tell (end_fate t (dhcp_outcome rows n a s)) run.hosts) (trace_is (Next (DhcpIn tag (dhcp_frame a))))
            ∙ ap (tell (end_fate (trace_of run.run) (dhcp_outcome rows n a s))) (sym (append-nil run.hosts))
            ∙ ap (λ l. tell (end_fate (trace_of run.run) (dhcp_outcome rows n a s)) (run.hosts ++ l)) (sym (after-here d.host.name []))
            ∙ ap (λ h. tell (end_fate (trace_of run.run) (dhcp_outcome rows n a s)) (run.hosts ++ after_host d.host.name (h ∷ []))) (sym (bytes_same s.host d.host.name here))
            ∙ sym (meaning true (joined-is ∙ or_right (not (is_local (segment rows n))) (is_at d.host.name s) here))

    leases-at : Goal
    leases-at = go (dhcp_port rows n) refl
      where
        go : (o : Option PortRow) → dhcp_port rows n ≡ o → Goal
        go None e = nobody e
        go (Some s) e = somebody s e

  pub leases-dvr : DvrLeases rows hosts
  leases-dvr steps d n net tag a run enough named there is_tagged = leases-at steps d n net tag a run enough named there is_tagged

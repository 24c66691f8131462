-- A question for an address on a bridge is answered on the asker's host, or by nobody.
use Rattle.api_types.proofs.NameLemmas.{ident_same}
use Rattle.api_types.specs.Holders.{has_mac, holder}
use Rattle.api_types.specs.Ident.{Ident}
use Rattle.api_types.specs.Live.{is_joined, is_live, is_local, joined_with, segment}
use Rattle.api_types.specs.RowLists.{RowLists}
use Rattle.api_types.specs.RowsWith.{network_with}
use Rattle.api_types.specs.Table.{ident_eq}
use Rattle.api_types.specs.Wires.{wire_of}
use Rattle.api_types.specs.declared.network.NetworkRow.{NetworkRow}
use Rattle.api_types.specs.declared.network.Segment.{Segment}
use Rattle.api_types.specs.declared.network.Segment.TheVariants.{Flat, Local, Vlan, Vxlan}
use Rattle.api_types.specs.declared.port.PortRow.{PortRow}
use Rattle.api_types.specs.declared.wire.Wire.{Wire}
use Rattle.dvr_laws.proofs.DvrParts.{DvrFacts, by-tables, host_of, looked, real, tell}
use Rattle.dvr_laws.proofs.DvrPort.{DvrAsks}
use Rattle.dvr_laws.proofs.HostsLaw.{AllOf-mapped}
use Rattle.dvr_types.specs.DvrFabric.{At, DvrHost, DvrRun, dvr_walk, is_dvr_named, next_of_tables, over_dvr_wire}
use Rattle.dvr_types.specs.DvrVerdicts.{dvr_meant}
use Rattle.plane_laws.proofs.Facts.{FrameFacts, HostFacts}
use Rattle.plane_laws.proofs.ListLemmas.{AllOf-more, find-none_each, find-passes}
use Rattle.plane_laws.proofs.Located.{tag-row}
use Rattle.plane_laws.proofs.Neighbours.{holder-at, neighbour-located, row_at}
use Rattle.plane_laws.proofs.Sent.{trace-plain, trace_of}
use Rattle.plane_laws.proofs.SentLaw.{wire_carrier, wire_self}
use Rattle.plane_laws.proofs.Tagged.{inward-located, inward-none}
use Rattle.plane_types.specs.Ends.{destination}
use Rattle.plane_types.specs.Fabric.{takes, takes_at}
use Rattle.plane_types.specs.Hosts.{Host}
use Rattle.plane_types.specs.Meaning.{address_outcome, asked_by, end_fate, out_or}
use Rattle.plane_types.specs.Packets.{AddressAsk, ask_frame}
use Rattle.plane_types.specs.Places.{Bridge, Step, ToWire}
use Rattle.plane_types.specs.TableRows.{tag_of}
use Rattle.plane_types.specs.TableStep.{asked_at, bridge_at_tag, bridge_step, drops, plain, stops, wire_or}
use Rattle.plane_types.specs.declared.table.Carrier.TheVariants.{Wire as ByWire}
use Rattle.plane_types.specs.declared.verdict.AskAnswer.TheVariants.{Arp as ArpAnswer}
use Rattle.plane_types.specs.declared.verdict.DropCause.TheVariants.{NoHolder}
use Rattle.plane_types.specs.declared.verdict.Outcome.TheVariants.{Answered, Dropped, Out}
use Rattle.plane_types.specs.declared.verdict.Toward.TheVariants.{Address as TowardAddress}
use Rattle.std.proofs.Common.{List, None, Option, Some, ap, false, not, refl, sym, true, ℕ, ◌-◌, ◌<◌, ◌∙◌, ◌≡◌}
use Rattle.std.proofs.lemmas.Bool.{and_parts, and_right}
use Rattle.std.specs.Prelude.{find, if◌then◌else◌, is_some, option_map, ◌&&◌, ◌==◌, ◌||◌}
use Rattle.std.specs.Str.{bytes_eq}

module _ (rows : RowLists) (hosts : List DvrHost) (good : FrameFacts rows) (facts : DvrFacts rows hosts) where
  module _ (steps : ℕ) (d : DvrHost) (n : Ident) (net : NetworkRow) (tag : ℕ) (a : AddressAsk) (run : DvrRun) (enough : 0 < steps) (named : find (is_dvr_named d.host.name) hosts ≡ Some d) (there : network_with rows n ≡ Some net) (is_tagged : tag_of d.host.tables.tags n ≡ Some tag) where
    real_here : HostFacts rows d.host.name d.host.tables
    real_here = real rows hosts good facts d.host.name d named

    no-taker : (w : Wire) → wire_of (segment rows n) ≡ Some w → holder rows n (destination a.ends) ≡ None → (x : Host) → HostFacts rows x.name x.tables → takes w (ask_frame a) x ≡ false
    no-taker w f none x r = go (tag_of x.tables.tags n) refl
      where
        go : (o : Option ℕ) → tag_of x.tables.tags n ≡ o → takes w (ask_frame a) x ≡ false
        go None e = ap (takes_at x.tables (ask_frame a)) (inward-none rows x.name x.tables r good n net (ByWire w) there e (wire_carrier (segment rows n) w f) (wire_self w))
        go (Some other) e = ap (takes_at x.tables (ask_frame a)) (inward-located rows x.name x.tables r good n other (ByWire w) e (wire_carrier (segment rows n) w f) (wire_self w)) ∙ ap is_some (neighbour-located rows x.name x.tables r good n other e (destination a.ends) ∙ ap (λ o. option_map (row_at other (destination a.ends)) (joined_with rows x.name o)) none)

    far_wire : (s : Segment) (w : Wire) → wire_of s ≡ Some w → is_local s ≡ false
    far_wire Local w e = cc
    far_wire (Flat p) w e = refl
    far_wire (Vlan p t) w e = refl
    far_wire (Vxlan m) w e = refl

    nobody-asked : (w : Wire) → wire_of (segment rows n) ≡ Some w → (o : Option PortRow) → holder rows n (destination a.ends) ≡ o → joined_with rows d.host.name o ≡ None → o ≡ None
    nobody-asked w f None e j = refl
    nobody-asked w f (Some q) e j =
        let at = holder-at rows good n (destination a.ends) q e in
        let hit = find-passes (has_mac rows n q.mac) rows.ports q at in
        let same : n ≡ q.network = ident_same n q.network (and_parts (ident_eq n q.network) (q.mac == q.mac) (and_parts (ident_eq n q.network && (q.mac == q.mac)) (is_live rows q) hit).0).0 in
        let joined : is_joined rows q d.host.name ≡ true = ap (λ i. not (is_local (segment rows i)) || bytes_eq q.host d.host.name) (sym same) ∙ ap (λ b. not b || bytes_eq q.host d.host.name) (far_wire (segment rows n) w f) in
        let bad : Some q ≡ None = sym (ap (λ b. if b then Some q else None) joined) ∙ j in
        cc

    step-is : (o : Option PortRow) → joined_with rows d.host.name (holder rows n (destination a.ends)) ≡ o → bridge_step d.host.tables false tag (ask_frame a) ≡ asked_at false (record { network = n; tag = tag; wire = wire_of (segment rows n) }) a (option_map (row_at tag (destination a.ends)) o)
    step-is o e = ap (bridge_at_tag d.host.tables false (ask_frame a)) (tag-row rows d.host.name d.host.tables.tags real_here.tags n tag is_tagged) ∙ ap (asked_at false (record { network = n; tag = tag; wire = wire_of (segment rows n) }) a) (neighbour-located rows d.host.name d.host.tables real_here good n tag is_tagged (destination a.ends) ∙ ap (option_map (row_at tag (destination a.ends))) e)

    abbrev stepped : Step → DvrRun
    stepped s = looked d (Bridge tag (ask_frame a)) (plain s) run

    by-step : (s : Step) → bridge_step d.host.tables false tag (ask_frame a) ≡ s → dvr_meant (dvr_walk hosts steps d (At (Bridge tag (ask_frame a))) run) ≡ dvr_meant (next_of_tables hosts (dvr_walk hosts (steps - 1)) d (stepped s) s)
    by-step s e = by-tables rows hosts good facts steps d (Bridge tag (ask_frame a)) run enough refl (plain s) (ap plain e)

    trace_is : (s : Step) → trace_of (stepped s).run ≡ trace_of run.run
    trace_is s = trace-plain d.host (Bridge tag (ask_frame a)) s run.run refl

    asked-dvr : dvr_meant (dvr_walk hosts steps d (At (Bridge tag (ask_frame a))) run) ≡ tell (end_fate (trace_of run.run) (address_outcome rows n d.host.name a)) run.hosts
    asked-dvr = go (joined_with rows d.host.name (holder rows n (destination a.ends))) refl (wire_of (segment rows n)) refl
      where
        go : (o : Option PortRow) → joined_with rows d.host.name (holder rows n (destination a.ends)) ≡ o → (w : Option Wire) → wire_of (segment rows n) ≡ w → dvr_meant (dvr_walk hosts steps d (At (Bridge tag (ask_frame a))) run) ≡ tell (end_fate (trace_of run.run) (address_outcome rows n d.host.name a)) run.hosts
        go (Some q) e w f =
            by-step (stops (Answered (ArpAnswer (destination a.ends) q.mac))) (step-is (Some q) e)
            ∙ ap (λ t. tell (end_fate t (Answered (ArpAnswer (destination a.ends) q.mac))) run.hosts) (trace_is (stops (Answered (ArpAnswer (destination a.ends) q.mac))))
            ∙ sym (ap (λ o. tell (end_fate (trace_of run.run) (asked_by rows n a o)) run.hosts) e)
        go None e None f =
            by-step (drops NoHolder) (step-is None e ∙ ap (λ w. wire_or false n w (TowardAddress (destination a.ends)) (ask_frame a) NoHolder) f)
            ∙ ap (λ t. tell (end_fate t (Dropped NoHolder)) run.hosts) (trace_is (drops NoHolder))
            ∙ sym (ap (λ o. tell (end_fate (trace_of run.run) (asked_by rows n a o)) run.hosts) e ∙ ap (λ w. tell (end_fate (trace_of run.run) (out_or w n (TowardAddress (destination a.ends)) (ask_frame a) NoHolder)) run.hosts) f)
        go None e (Some w) f =
            let none = nobody-asked w f (holder rows n (destination a.ends)) refl e in
            let nobody = find-none_each (λ (x : DvrHost). not (bytes_eq x.host.name d.host.name) && takes w (ask_frame a) x.host) hosts (AllOf-more (λ (y : DvrHost). HostFacts rows y.host.name y.host.tables) (λ (x : DvrHost). (not (bytes_eq x.host.name d.host.name) && takes w (ask_frame a) x.host) ≡ false) hosts (λ x r. and_right (not (bytes_eq x.host.name d.host.name)) (takes w (ask_frame a) x.host) (no-taker w f none x.host r)) (AllOf-mapped (λ (y : Host). HostFacts rows y.name y.tables) host_of hosts facts.synced.realise)) in
            by-step (ToWire w n (TowardAddress (destination a.ends)) (ask_frame a)) (step-is None e ∙ ap (λ w. wire_or false n w (TowardAddress (destination a.ends)) (ask_frame a) NoHolder) f)
            ∙ ap (λ o. dvr_meant (over_dvr_wire (dvr_walk hosts (steps - 1)) d w n (TowardAddress (destination a.ends)) (ask_frame a) (stepped (ToWire w n (TowardAddress (destination a.ends)) (ask_frame a))) o)) nobody
            ∙ ap (λ t. tell (end_fate t (Out n (TowardAddress (destination a.ends)) (ask_frame a))) run.hosts) (trace_is (ToWire w n (TowardAddress (destination a.ends)) (ask_frame a)))
            ∙ sym (ap (λ o. tell (end_fate (trace_of run.run) (asked_by rows n a o)) run.hosts) e ∙ ap (λ w. tell (end_fate (trace_of run.run) (out_or w n (TowardAddress (destination a.ends)) (ask_frame a) NoHolder)) run.hosts) f)

  pub asks-dvr : DvrAsks rows hosts
  asks-dvr steps d n net tag a run enough named there is_tagged = asked-dvr steps d n net tag a run enough named there is_tagged

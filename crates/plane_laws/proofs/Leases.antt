-- Asks for a lease, over all hosts.
use Rattle.std.proofs.Common.{◌≡◌, ℕ, ◌-◌, ◌<◌, ◌≤◌, List, [], ◌++◌, Bool, true, false, not, Option, Some, None, refl, ap, sym, subst, ◌∙◌, arith}
use Rattle.std.specs.Prelude.{codes, find, option_and_then, option_map, ◌&&◌, ◌||◌, ◌==◌, if◌then◌else◌, is_some}
use Rattle.std.specs.List.{filter_map}
use Rattle.std.specs.Option.{option_or}
use Rattle.std.specs.Str.{bytes_eq}
use Rattle.std.proofs.lemmas.Bool.{and_parts, and_from, eqb-true, eq-eqb, or_right, and_right}
use Rattle.std.proofs.lemmas.List.Folds.{find-append}
use Rattle.api_types.proofs.NameLemmas.{ident_same, bytes_same}
use Rattle.plane_laws.proofs.ListLemmas.{find-passes, find-each, some_of, AtMostOne-less, find-filter_map, find-none_filter_map, find-ascending, AllOf-more, find-same_each, find-none_each}
use Rattle.plane_laws.proofs.Located.{and_true, tag-row, tag-apart, bridge_apart}
use Rattle.plane_laws.proofs.Tagged.{tagged, inward-located, inward-none}
use Rattle.plane_laws.proofs.Sent.{trace_of, walk-on, trace-plain}
use Rattle.plane_laws.proofs.SentLaw.{at_opt, wire_self, wire_carrier, wire_away}
use Rattle.plane_laws.proofs.PortLaw.{LeaseLaw}
use Rattle.api_types.specs.Ident.{Ident}
use Rattle.api_types.specs.Owners.{is_dhcp, is_gateway, is_interface, is_router_port}
use Rattle.api_types.specs.RowLists.{RowLists}
use Rattle.api_types.specs.Table.{ident_eq}
use Rattle.api_types.specs.declared.network.NetworkRow.{NetworkRow}
use Rattle.api_types.specs.declared.network.Segment.{Segment}
use Rattle.api_types.specs.declared.network.Segment.TheVariants.{Flat, Local, Vlan, Vxlan}
use Rattle.api_types.specs.declared.port.PortRow.{PortRow}
use Rattle.plane_types.specs.Fabric.{Run, after_step, meant, next_position, step_path, fate_after, takes, takes_at, takes_to, over_tunnel, walk, over_wire}
use Rattle.api_types.specs.Holders.{dhcp_port, has_mac, is_live_dhcp_of, port_at, router_of}
use Rattle.plane_types.specs.Hosts.{Host, bridge_before, bridge_key_eq, is_named}
use Rattle.api_types.specs.Live.{is_joined, is_live, is_local, joined_with, segment, is_at}
use Rattle.api_types.specs.RowsWith.{network_with}
use Rattle.api_types.specs.Wires.{wire_of}
use Rattle.plane_types.specs.Meaning.{lease_outcome, end_fate, lease_asked, lease_asked_by, dhcp_outcome, out_of, out_or}
use Rattle.api_types.specs.Leases.{lease_for}
use Rattle.plane_types.specs.Packets.{LeaseAsk, dhcp_frame}
use Rattle.plane_types.specs.Places.{Bridge, DhcpIn, Next, Place, Step, ToTunnel, ToWire, TunnelIn, WireIn}
use Rattle.plane_types.specs.TableRows.{bridge_by, bridge_row, bridge_rows, carrier_of, dhcp_row, end_of, is_tagged, lease_row, lease_row_by, lease_rows, mac_row, tag_of, to_here, to_router, to_there}
use Rattle.plane_types.specs.TableStep.{bridge_at, bridge_at_tag, bridge_step, bridged_by, carrier_eq, drops, inward_at, inward_step, lease_answer, lease_at, plain, stops, table_step, wire_or}
use Rattle.plane_types.specs.declared.table.BridgeKey.TheVariants.{Dhcp as AtDhcp, Mac as AtMac}
use Rattle.plane_types.specs.declared.table.BridgeRow.{BridgeRow}
use Rattle.plane_types.specs.declared.table.BridgeTo.{BridgeTo}
use Rattle.plane_types.specs.declared.table.BridgeTo.TheVariants.{Tunnel as ToHost, Tap as ToTap}
use Rattle.plane_types.specs.declared.table.Carrier.{Carrier}
use Rattle.plane_types.specs.declared.table.Carrier.TheVariants.{Tunnel as ByTunnel, Wire as ByWire}
use Rattle.plane_types.specs.declared.table.LeaseRow.{LeaseRow}
use Rattle.api_types.specs.declared.wire.Wire.{Wire}
use Rattle.plane_types.specs.declared.lists.TableLists.{TableLists}
use Rattle.plane_types.specs.declared.verdict.AskAnswer.TheVariants.{Lease as LeaseAnswer}
use Rattle.plane_types.specs.declared.verdict.DropCause.TheVariants.{NoLease}
use Rattle.api_types.specs.declared.lease.Lease.{Lease}
use Rattle.plane_types.specs.declared.verdict.Outcome.TheVariants.{Answered, Dropped, Out}
use Rattle.plane_types.specs.declared.verdict.Toward.TheVariants.{Dhcp as TowardDhcp}
use Rattle.plane_laws.proofs.Facts.{AllOf, FrameFacts, HostFacts, SyncedFacts}

-- the row by which a port with a tag and a MAC gets a lease
abbrev given_lease : ℕ → ℕ → PortRow → Option Lease → Option LeaseRow
given_lease tag mac q o =
    option_map (λ lease. record { port = q.id; tag = tag; mac = mac; lease = lease }) o

module _ (rows : RowLists) (host : List ℕ) (t : TableLists) (real : HostFacts rows host t) (good : FrameFacts rows) (n : Ident) (tag : ℕ) (tagged_by : tag_of t.tags n ≡ Some tag) where
  dhcp_hit : (q : PortRow) (row : BridgeRow) → dhcp_row rows host t.tags q ≡ Some row → ((row.tag == tag) && bridge_key_eq row.key AtDhcp) ≡ is_live_dhcp_of rows n q
  dhcp_hit q row h = go (is_dhcp q.owner) (is_live rows q) (end_of rows host q) (tag_of t.tags q.network) refl refl refl h
    where
      go : (dhcp live : Bool) (to : Option BridgeTo) (o : Option ℕ) → is_dhcp q.owner ≡ dhcp → is_live rows q ≡ live → tag_of t.tags q.network ≡ o → (if dhcp then (if live then bridge_by AtDhcp to o else None) else None) ≡ Some row → ((row.tag == tag) && bridge_key_eq row.key AtDhcp) ≡ is_live_dhcp_of rows n q
      go false live to o d e f h = cc
      go true false to o d e f h = cc
      go true true None o d e f h = cc
      go true true (Some x) None d e f h = cc
      go true true (Some x) (Some other) d e f h =
          let is : record { tag = other; key = AtDhcp; to = x } ≡ row = cc in
          let same = tag-apart rows host t.tags real.tags n q.network tag other tagged_by f in
          subst (λ (r : BridgeRow). ((r.tag == tag) && bridge_key_eq r.key AtDhcp) ≡ is_live_dhcp_of rows n q) is
          (ap (λ b. b && true) same ∙ ap (λ b. ident_eq n q.network && b) (sym d) ∙ sym (and_true (ident_eq n q.network && is_dhcp q.owner)) ∙ ap (λ b. (ident_eq n q.network && is_dhcp q.owner) && b) (sym e))

  mac_miss : (q : PortRow) (row : BridgeRow) → mac_row rows host t.tags q ≡ Some row → bridge_key_eq row.key AtDhcp ≡ false
  mac_miss q row h = go (is_live rows q) (end_of rows host q) (tag_of t.tags q.network) h
    where
      go : (live : Bool) (to : Option BridgeTo) (o : Option ℕ) → (if live then bridge_by (AtMac q.mac) to o else None) ≡ Some row → bridge_key_eq row.key AtDhcp ≡ false
      go false to o h = cc
      go true None o h = cc
      go true (Some x) None h = cc
      go true (Some x) (Some other) h = let is : record { tag = other; key = AtMac q.mac; to = x } ≡ row = cc in subst (λ (r : BridgeRow). bridge_key_eq r.key AtDhcp ≡ false) is refl

  pub dhcp-located : bridge_at t tag AtDhcp ≡ option_and_then (dhcp_row rows host t.tags) (dhcp_port rows n)
  unfolding bridge_rows
  dhcp-located =
      let test = λ (r : BridgeRow). (r.tag == tag) && bridge_key_eq r.key AtDhcp in
      ap (find test) real.bridge
      ∙ find-ascending bridge_before test (filter_map (mac_row rows host t.tags) rows.ports ++ filter_map (dhcp_row rows host t.tags) rows.ports) (bridge_apart tag AtDhcp)
      ∙ find-append test (filter_map (mac_row rows host t.tags) rows.ports) (filter_map (dhcp_row rows host t.tags) rows.ports)
      ∙ ap (λ o. option_or o (find test (filter_map (dhcp_row rows host t.tags) rows.ports))) (find-none_filter_map test (mac_row rows host t.tags) rows.ports (λ q row e. and_right (row.tag == tag) (bridge_key_eq row.key AtDhcp) (mac_miss q row e)))
      ∙ find-filter_map (is_live_dhcp_of rows n) test (dhcp_row rows host t.tags) rows.ports dhcp_hit
      (AtMostOne-less (λ (p : PortRow). ident_eq n p.network && is_dhcp p.owner) (is_live_dhcp_of rows n) rows.ports (λ q e. (and_parts (ident_eq n q.network && is_dhcp q.owner) (is_live rows q) e).0) (good.dhcp_ports n))

  module _ (d : PortRow) (found : dhcp_port rows n ≡ Some d) where
    hit : is_live_dhcp_of rows n d ≡ true
    hit = find-passes (is_live_dhcp_of rows n) rows.ports d found

    d-live : is_live rows d ≡ true
    d-live = (and_parts (ident_eq n d.network && is_dhcp d.owner) (is_live rows d) hit).1

    d-dhcp : is_dhcp d.owner ≡ true
    d-dhcp = (and_parts (ident_eq n d.network) (is_dhcp d.owner) (and_parts (ident_eq n d.network && is_dhcp d.owner) (is_live rows d) hit).0).1

    d-network : n ≡ d.network
    d-network = ident_same n d.network (and_parts (ident_eq n d.network) (is_dhcp d.owner) (and_parts (ident_eq n d.network && is_dhcp d.owner) (is_live rows d) hit).0).0

    pub row-located : (to : Option BridgeTo) → end_of rows host d ≡ to → bridge_at t tag AtDhcp ≡ bridge_by AtDhcp to (Some tag)
    row-located to e =
        dhcp-located ∙ ap (option_and_then (dhcp_row rows host t.tags)) found
        ∙ ap (λ b. if b then bridge_row rows host t.tags AtDhcp d else None) d-dhcp
        ∙ ap (λ b. if b then bridge_by AtDhcp (end_of rows host d) (tag_of t.tags d.network) else None) d-live
        ∙ ap (λ x. bridge_by AtDhcp x (tag_of t.tags d.network)) e
        ∙ ap (bridge_by AtDhcp to) (ap (tag_of t.tags) (sym d-network) ∙ tagged_by)

    -- leases
    module _ (here : is_at host d ≡ true) (mac : ℕ) where
      lease_hit : (q : PortRow) (row : LeaseRow) → lease_row rows host t.tags q ≡ Some row → ((row.tag == tag) && (row.mac == mac)) ≡ has_mac rows n mac q
      lease_hit q row h = go (is_live rows q) (dhcp_port rows q.network) refl h
        where
          inner : is_live rows q ≡ true → (l : Option Lease) (o : Option ℕ) → tag_of t.tags q.network ≡ o → option_and_then (λ lease. option_map (λ tag. record { port = q.id; tag = tag; mac = q.mac; lease = lease }) o) l ≡ Some row → ((row.tag == tag) && (row.mac == mac)) ≡ has_mac rows n mac q
          inner e None o f h = cc
          inner e (Some l) None f h = cc
          inner e (Some l) (Some other) f h =
              let is : record { port = q.id; tag = other; mac = q.mac; lease = l } ≡ row = cc in
              let same = tag-apart rows host t.tags real.tags n q.network tag other tagged_by f in
              subst (λ (r : LeaseRow). ((r.tag == tag) && (r.mac == mac)) ≡ has_mac rows n mac q) is
              (ap (λ b. b && (q.mac == mac)) same ∙ sym (and_true (ident_eq n q.network && (q.mac == mac))) ∙ ap (λ b. (ident_eq n q.network && (q.mac == mac)) && b) (sym e))

          at : is_live rows q ≡ true → (x : PortRow) (b : Bool) → (if b then option_and_then (λ lease. option_map (λ tag. record { port = q.id; tag = tag; mac = q.mac; lease = lease }) (tag_of t.tags q.network)) (lease_for rows x q) else None) ≡ Some row → ((row.tag == tag) && (row.mac == mac)) ≡ has_mac rows n mac q
          at e x false h = cc
          at e x true h = inner e (lease_for rows x q) (tag_of t.tags q.network) refl h

          go : (live : Bool) (o : Option PortRow) → is_live rows q ≡ live → (if live then lease_row_by rows host t.tags q o else None) ≡ Some row → ((row.tag == tag) && (row.mac == mac)) ≡ has_mac rows n mac q
          go false o e h = cc
          go true None e h = cc
          go true (Some x) e h = at e x (is_at host x) h

      pub lease-located : lease_at t tag mac
          ≡ option_and_then (λ q. given_lease tag mac q (lease_for rows d q)) (port_at rows n mac)
      unfolding lease_rows
      lease-located =
          ap (find (λ (r : LeaseRow). (r.tag == tag) && (r.mac == mac))) real.leases
          ∙ find-filter_map (has_mac rows n mac) (λ (r : LeaseRow). (r.tag == tag) && (r.mac == mac)) (lease_row rows host t.tags) rows.ports lease_hit
          (AtMostOne-less (λ (p : PortRow). ident_eq n p.network && (p.mac == mac)) (has_mac rows n mac) rows.ports (λ q e. (and_parts (ident_eq n q.network && (q.mac == mac)) (is_live rows q) e).0) (good.macs n mac))
          ∙ go (port_at rows n mac) refl
        where
          value : (q : PortRow) (l : Option Lease) → q.mac ≡ mac → option_and_then {U = LeaseRow} (λ lease. option_map (λ tag. record { port = q.id; tag = tag; mac = q.mac; lease = lease }) (Some tag)) l ≡ given_lease tag mac q l
          value q None e = refl
          value q (Some l) e = ap (λ m. Some (record { port = q.id; tag = tag; mac = m; lease = l })) e

          go : (o : Option PortRow) → port_at rows n mac ≡ o → option_and_then (lease_row rows host t.tags) o ≡ option_and_then (λ q. given_lease tag mac q (lease_for rows d q)) o
          go None e = refl
          go (Some q) e =
              let parts = and_parts (ident_eq n q.network && (q.mac == mac)) (is_live rows q) (find-passes (has_mac rows n mac) rows.ports q e) in
              let names = and_parts (ident_eq n q.network) (q.mac == mac) parts.0 in
              let same : n ≡ q.network = ident_same n q.network names.0 in
              ap (λ b. if b then lease_row_by rows host t.tags q (dhcp_port rows q.network) else None) parts.1
              ∙ ap (lease_row_by rows host t.tags q) (ap (dhcp_port rows) (sym same) ∙ found)
              ∙ ap (λ b. if b then option_and_then {U = LeaseRow} (λ lease. option_map (λ tag. record { port = q.id; tag = tag; mac = q.mac; lease = lease }) (tag_of t.tags q.network)) (lease_for rows d q) else None) here
              ∙ ap (λ o. option_and_then {U = LeaseRow} (λ lease. option_map (λ tag. record { port = q.id; tag = tag; mac = q.mac; lease = lease }) o) (lease_for rows d q)) (ap (tag_of t.tags) (sym same) ∙ tagged_by)
              ∙ value q (lease_for rows d q) (eqb-true q.mac mac names.1)

-- a DHCP port is no router's
pub dhcp-plain : (d : PortRow) → is_dhcp d.owner ≡ true → is_router_port d.owner ≡ false
unfolding is_dhcp is_interface is_gateway
dhcp-plain d e = ap is_router_port (bytes_same d.owner (codes "network:dhcp") e)

pub dhcp-end : (rows : RowLists) (host : List ℕ) (d : PortRow) → is_dhcp d.owner ≡ true → is_at host d ≡ true → end_of rows host d ≡ Some (ToTap d.id)
dhcp-end rows host d e here = ap (λ b. if b then to_here rows d else to_there (segment rows d.network) d) here ∙ ap (λ b. if b then to_router d (router_of rows d) else Some (ToTap d.id)) (dhcp-plain d e)

module _ (rows : RowLists) (hosts : List Host) (good : FrameFacts rows) (synced : SyncedFacts rows hosts) where
  -- at the lease place
  module _ (x : Host) (real : HostFacts rows x.name x.tables) (n : Ident) (d : PortRow) (found : dhcp_port rows n ≡ Some d) (here : is_at x.name d ≡ true) (a : LeaseAsk) where
    pub at-leases : (steps : ℕ) (tag : ℕ) (run : Run) → tag_of x.tables.tags n ≡ Some tag → 0 < steps → meant (walk hosts steps x (DhcpIn tag (dhcp_frame a)) run) ≡ end_fate (trace_of run) (dhcp_outcome rows n a d)
    at-leases steps tag run is more =
        ap meant (walk-on hosts steps x (DhcpIn tag (dhcp_frame a)) run more)
        ∙ ap (λ o. meant (fate_after hosts (walk hosts (steps - 1)) x (DhcpIn tag (dhcp_frame a)) run (plain (lease_answer o)))) (lease-located rows x.name x.tables real good n tag is d found here a.src)
        ∙ go (port_at rows n a.src)
      where
        by : (q : PortRow) (o : Option Lease)
            → meant (fate_after hosts (walk hosts (steps - 1)) x (DhcpIn tag (dhcp_frame a)) run
            (plain (lease_answer (given_lease tag a.src q o))))
            ≡ end_fate (trace_of run) (lease_outcome o)
        by q None = ap (λ t. end_fate t (Dropped NoLease)) (trace-plain x (DhcpIn tag (dhcp_frame a)) (drops NoLease) run refl)
        by q (Some l) = ap (λ t. end_fate t (Answered (LeaseAnswer l))) (trace-plain x (DhcpIn tag (dhcp_frame a)) (stops (Answered (LeaseAnswer l))) run refl)

        go : (o : Option PortRow)
            → meant (fate_after hosts (walk hosts (steps - 1)) x (DhcpIn tag (dhcp_frame a)) run
            (plain (lease_answer (option_and_then (λ q. given_lease tag a.src q (lease_for rows d q)) o))))
            ≡ end_fate (trace_of run) (lease_outcome (option_and_then (lease_for rows d) o))
        go None = ap (λ t. end_fate t (Dropped NoLease)) (trace-plain x (DhcpIn tag (dhcp_frame a)) (drops NoLease) run refl)
        go (Some q) = by q (lease_for rows d q)

    tag_there : (tag : ℕ) × (tag_of x.tables.tags n ≡ Some tag)
    tag_there =
        let hit = find-passes (is_live_dhcp_of rows n) rows.ports d found in
        let parts = and_parts (ident_eq n d.network && is_dhcp d.owner) (is_live rows d) hit in
        let tag = tagged rows x.name x.tables real good (is_live_dhcp_of rows n) d found (and_from (is_live rows d) (is_at x.name d) parts.1 here) in
        (tag.0, ap (tag_of x.tables.tags) (ident_same n d.network (and_parts (ident_eq n d.network) (is_dhcp d.owner) parts.0).0) ∙ tag.1)

    dhcp_is : is_dhcp d.owner ≡ true
    dhcp_is = (and_parts (ident_eq n d.network) (is_dhcp d.owner) (and_parts (ident_eq n d.network && is_dhcp d.owner) (is_live rows d) (find-passes (is_live_dhcp_of rows n) rows.ports d found)).0).1

    pub lease-step : (inner : Bool) (tag : ℕ) → tag_of x.tables.tags n ≡ Some tag → bridge_step x.tables inner tag (dhcp_frame a) ≡ Next (DhcpIn tag (dhcp_frame a))
    lease-step inner tag is =
        ap (bridge_at_tag x.tables inner (dhcp_frame a)) (tag-row rows x.name x.tables.tags real.tags n tag is)
        ∙ ap (bridged_by inner (record { network = n; tag = tag; wire = wire_of (segment rows n) }) TowardDhcp (dhcp_frame a) NoLease) (row-located rows x.name x.tables real good n tag is d found (Some (ToTap d.id)) (dhcp-end rows x.name d dhcp_is here))

    -- by a carrier
    pub lease-carried : (steps : ℕ) (place : Place) (run : Run) (c : Carrier) → 2 ≤ steps → carrier_of (segment rows n) ≡ Some c → carrier_eq c c ≡ true
        → table_step x.tables (x.entries ++ run.fresh) place ≡ plain (inward_step x.tables (dhcp_frame a) (inward_at x.tables c)) → ((s : Step) → step_path x place s ≡ [])
        → meant (walk hosts steps x place run) ≡ end_fate (trace_of run) (dhcp_outcome rows n a d)
    lease-carried steps place run c enough segment_is self step quiet =
        ap meant (walk-on hosts steps x place run (omega arith))
        ∙ ap (λ s. meant (fate_after hosts (walk hosts (steps - 1)) x place run s)) (step ∙ ap plain (ap (inward_step x.tables (dhcp_frame a)) (inward-located rows x.name x.tables real good n tag_there.0 c tag_there.1 segment_is self) ∙ lease-step true tag_there.0 tag_there.1))
        ∙ at-leases (steps - 1) tag_there.0 (after_step x place (plain (Next (DhcpIn tag_there.0 (dhcp_frame a)))) run) tag_there.1 (omega arith)
        ∙ ap (λ t. end_fate t (dhcp_outcome rows n a d)) (trace-plain x place (Next (DhcpIn tag_there.0 (dhcp_frame a))) run (quiet (Next (DhcpIn tag_there.0 (dhcp_frame a)))))

  -- a host takes the ask from a wire where the DHCP port is there
  pub lease-takes : (n : Ident) (net : NetworkRow) → network_with rows n ≡ Some net → (w : Wire) → wire_of (segment rows n) ≡ Some w → (a : LeaseAsk) (x : Host) → HostFacts rows x.name x.tables → takes w (dhcp_frame a) x ≡ at_opt x.name (dhcp_port rows n)
  lease-takes n net there w f a x real = go (tag_of x.tables.tags n) refl
    where
      carrier : carrier_of (segment rows n) ≡ Some (ByWire w)
      carrier = wire_carrier (segment rows n) w f

      untagged : tag_of x.tables.tags n ≡ None → (o : Option PortRow) → dhcp_port rows n ≡ o → false ≡ at_opt x.name o
      untagged none None e = refl
      untagged none (Some d) e = by (is_at x.name d) refl
        where
          by : (b : Bool) → is_at x.name d ≡ b → false ≡ b
          by false here = refl
          by true here = let tag = tag_there x real n d e here a in let bad : None ≡ Some tag.0 = sym none ∙ tag.1 in cc

      with_tag : (tag : ℕ) → tag_of x.tables.tags n ≡ Some tag → (o : Option PortRow) → dhcp_port rows n ≡ o → takes_to (bridge_at x.tables tag AtDhcp) ≡ at_opt x.name o
      with_tag tag is None e = ap takes_to (dhcp-located rows x.name x.tables real good n tag is ∙ ap (option_and_then (dhcp_row rows x.name x.tables.tags)) e)
      with_tag tag is (Some d) e = by (is_at x.name d) refl
        where
          network : n ≡ d.network
          network = ident_same n d.network (and_parts (ident_eq n d.network) (is_dhcp d.owner) (and_parts (ident_eq n d.network && is_dhcp d.owner) (is_live rows d) (find-passes (is_live_dhcp_of rows n) rows.ports d e)).0).0

          by : (b : Bool) → is_at x.name d ≡ b → takes_to (bridge_at x.tables tag AtDhcp) ≡ b
          by true here = ap takes_to (row-located rows x.name x.tables real good n tag is d e (Some (ToTap d.id)) (dhcp-end rows x.name d (dhcp_is x real n d e here a) here))
          by false away = ap takes_to (row-located rows x.name x.tables real good n tag is d e None (ap (λ b. if b then to_here rows d else to_there (segment rows d.network) d) away ∙ ap (λ i. to_there (segment rows i) d) (sym network) ∙ wire_away (segment rows n) w d f))

      go : (o : Option ℕ) → tag_of x.tables.tags n ≡ o → takes w (dhcp_frame a) x ≡ at_opt x.name (dhcp_port rows n)
      go None e = ap (takes_at x.tables (dhcp_frame a)) (inward-none rows x.name x.tables real good n net (ByWire w) there e carrier (wire_self w)) ∙ untagged e (dhcp_port rows n) refl
      go (Some tag) e = ap (takes_at x.tables (dhcp_frame a)) (inward-located rows x.name x.tables real good n tag (ByWire w) e carrier (wire_self w)) ∙ with_tag tag e (dhcp_port rows n) refl

  module _ (steps : ℕ) (h : Host) (n : Ident) (net : NetworkRow) (tag : ℕ) (a : LeaseAsk) (run : Run) (enough : 3 ≤ steps) (named : find (is_named h.name) hosts ≡ Some h) (there : network_with rows n ≡ Some net) (is_tagged : tag_of h.tables.tags n ≡ Some tag) where
    real : HostFacts rows h.name h.tables
    real = find-each (λ (y : Host). HostFacts rows y.name y.tables) (is_named h.name) hosts h synced.realise named

    by-step : (s : Step) → bridge_step h.tables false tag (dhcp_frame a) ≡ s → meant (walk hosts steps h (Bridge tag (dhcp_frame a)) run) ≡ meant (next_position hosts (walk hosts (steps - 1)) h (after_step h (Bridge tag (dhcp_frame a)) (plain s) run) s)
    by-step s e = ap meant (walk-on hosts steps h (Bridge tag (dhcp_frame a)) run (omega arith)) ∙ ap (λ x. meant (next_position hosts (walk hosts (steps - 1)) h (after_step h (Bridge tag (dhcp_frame a)) (plain x) run) x)) e

    abbrev Goal : Type 0
    Goal = meant (walk hosts steps h (Bridge tag (dhcp_frame a)) run) ≡ end_fate (trace_of run) (lease_asked rows n h.name a)

    missing : bridge_at h.tables tag AtDhcp ≡ None → bridge_step h.tables false tag (dhcp_frame a) ≡ wire_or false n (wire_of (segment rows n)) TowardDhcp (dhcp_frame a) NoLease
    missing e = ap (bridge_at_tag h.tables false (dhcp_frame a)) (tag-row rows h.name h.tables.tags real.tags n tag is_tagged) ∙ ap (bridged_by false (record { network = n; tag = tag; wire = wire_of (segment rows n) }) TowardDhcp (dhcp_frame a) NoLease) e

    takers : (w : Wire) → wire_of (segment rows n) ≡ Some w → (o : Option PortRow) → dhcp_port rows n ≡ o → AllOf (λ (x : Host). takes w (dhcp_frame a) x ≡ at_opt x.name o) hosts
    takers w f o e = AllOf-more (λ (y : Host). HostFacts rows y.name y.tables) (λ (x : Host). takes w (dhcp_frame a) x ≡ at_opt x.name o) hosts (λ x r. lease-takes n net there w f a x r ∙ ap (at_opt x.name) e) synced.realise

    nobody : dhcp_port rows n ≡ None → Goal
    nobody e = by (wire_of (segment rows n)) refl
      where
        none : bridge_at h.tables tag AtDhcp ≡ None
        none = dhcp-located rows h.name h.tables real good n tag is_tagged ∙ ap (option_and_then (dhcp_row rows h.name h.tables.tags)) e

        meaning : end_fate (trace_of run) (lease_asked rows n h.name a) ≡ end_fate (trace_of run) (out_of rows n TowardDhcp (dhcp_frame a) NoLease)
        meaning = ap (λ o. end_fate (trace_of run) (lease_asked_by rows n a (joined_with rows h.name o))) e

        by : (o : Option Wire) → wire_of (segment rows n) ≡ o → Goal
        by None f = by-step (drops NoLease) (missing none ∙ ap (λ w. wire_or false n w TowardDhcp (dhcp_frame a) NoLease) f) ∙ ap (λ t. end_fate t (Dropped NoLease)) (trace-plain h (Bridge tag (dhcp_frame a)) (drops NoLease) run refl) ∙ sym (meaning ∙ ap (λ w. end_fate (trace_of run) (out_or w n TowardDhcp (dhcp_frame a) NoLease)) f)
        by (Some w) f =
            let nobody = find-none_each (λ (x : Host). not (bytes_eq x.name h.name) && takes w (dhcp_frame a) x) hosts (AllOf-more (λ (x : Host). takes w (dhcp_frame a) x ≡ false) (λ (x : Host). (not (bytes_eq x.name h.name) && takes w (dhcp_frame a) x) ≡ false) hosts (λ x k. and_right (not (bytes_eq x.name h.name)) (takes w (dhcp_frame a) x) k) (takers w f None e)) in
            by-step (ToWire w n TowardDhcp (dhcp_frame a)) (missing none ∙ ap (λ w. wire_or false n w TowardDhcp (dhcp_frame a) NoLease) f)
            ∙ ap (λ o. meant (over_wire (walk hosts (steps - 1)) w n TowardDhcp (dhcp_frame a) (after_step h (Bridge tag (dhcp_frame a)) (plain (ToWire w n TowardDhcp (dhcp_frame a))) run) o)) nobody
            ∙ ap (λ t. end_fate t (Out n TowardDhcp (dhcp_frame a))) (trace-plain h (Bridge tag (dhcp_frame a)) (ToWire w n TowardDhcp (dhcp_frame a)) run refl)
            ∙ sym (meaning ∙ ap (λ w. end_fate (trace_of run) (out_or w n TowardDhcp (dhcp_frame a) NoLease)) f)

    somebody : (d : PortRow) → dhcp_port rows n ≡ Some d → Goal
    somebody d e = by (is_at h.name d) refl
      where
        parts : ((ident_eq n d.network && is_dhcp d.owner) ≡ true) × (is_live rows d ≡ true)
        parts = and_parts (ident_eq n d.network && is_dhcp d.owner) (is_live rows d) (find-passes (is_live_dhcp_of rows n) rows.ports d e)

        same : n ≡ d.network
        same = ident_same n d.network (and_parts (ident_eq n d.network) (is_dhcp d.owner) parts.0).0

        home : (x : Host) × (find (is_named d.host) hosts ≡ Some x)
        home = some_of (find (is_named d.host) hosts) (find-each (λ (y : PortRow). is_live rows y ≡ true → is_some (find (λ (z : Host). bytes_eq y.host z.name) hosts) ≡ true) (is_live_dhcp_of rows n) rows.ports d synced.complete e parts.1)

        home_at : is_at (home.0).name d ≡ true
        home_at = find-passes (is_named d.host) hosts home.0 home.1

        home_real : HostFacts rows (home.0).name (home.0).tables
        home_real = find-each (λ (y : Host). HostFacts rows y.name y.tables) (is_named d.host) hosts home.0 synced.realise home.1

        joined-is : is_joined rows d h.name ≡ (not (is_local (segment rows n)) || is_at h.name d)
        joined-is = ap (λ i. not (is_local (segment rows i)) || is_at h.name d) (sym same)

        meaning : (b : Bool) → is_joined rows d h.name ≡ b → end_fate (trace_of run) (lease_asked rows n h.name a) ≡ end_fate (trace_of run) (lease_asked_by rows n a (if b then Some d else None))
        meaning b j = ap (λ o. end_fate (trace_of run) (lease_asked_by rows n a (joined_with rows h.name o))) e ∙ ap (λ c. end_fate (trace_of run) (lease_asked_by rows n a (if c then Some d else None))) j

        away-none : is_at h.name d ≡ false → to_there (segment rows n) d ≡ None → bridge_at h.tables tag AtDhcp ≡ None
        away-none away k = row-located rows h.name h.tables real good n tag is_tagged d e None (ap (λ b. if b then to_here rows d else to_there (segment rows d.network) d) away ∙ ap (λ i. to_there (segment rows i) d) (sym same) ∙ k)

        by_wire : is_at h.name d ≡ false → (w : Wire) → wire_of (segment rows n) ≡ Some w → meant (walk hosts steps h (Bridge tag (dhcp_frame a)) run) ≡ end_fate (trace_of run) (dhcp_outcome rows n a d)
        by_wire away w f =
            let taker : find (λ (x : Host). not (bytes_eq x.name h.name) && takes w (dhcp_frame a) x) hosts ≡ Some home.0 =
            find-same_each (λ (x : Host). not (bytes_eq x.name h.name) && takes w (dhcp_frame a) x) (is_named d.host) hosts
            (AllOf-more (λ (x : Host). takes w (dhcp_frame a) x ≡ is_at x.name d) (λ (x : Host). (not (bytes_eq x.name h.name) && takes w (dhcp_frame a) x) ≡ is_named d.host x) hosts (λ x k. other_taker x k) (takers w f (Some d) e))
            ∙ home.1 in
            by-step (ToWire w n TowardDhcp (dhcp_frame a)) (missing (away-none away (wire_away (segment rows n) w d f)) ∙ ap (λ w. wire_or false n w TowardDhcp (dhcp_frame a) NoLease) f)
            ∙ ap (λ o. meant (over_wire (walk hosts (steps - 1)) w n TowardDhcp (dhcp_frame a) (after_step h (Bridge tag (dhcp_frame a)) (plain (ToWire w n TowardDhcp (dhcp_frame a))) run) o)) taker
            ∙ lease-carried home.0 home_real n d e home_at a (steps - 1) (WireIn w (dhcp_frame a)) (after_step h (Bridge tag (dhcp_frame a)) (plain (ToWire w n TowardDhcp (dhcp_frame a))) run) (ByWire w) (omega arith) (wire_carrier (segment rows n) w f) (wire_self w) refl (λ s. refl)
            ∙ ap (λ t. end_fate t (dhcp_outcome rows n a d)) (trace-plain h (Bridge tag (dhcp_frame a)) (ToWire w n TowardDhcp (dhcp_frame a)) run refl)
          where
            other_taker : (x : Host) → takes w (dhcp_frame a) x ≡ is_at x.name d → (not (bytes_eq x.name h.name) && takes w (dhcp_frame a) x) ≡ bytes_eq d.host x.name
            other_taker x k = ap (λ b. not (bytes_eq x.name h.name) && b) k ∙ go (bytes_eq x.name h.name) (bytes_eq d.host x.name) refl refl
              where
                go : (b c : Bool) → bytes_eq x.name h.name ≡ b → bytes_eq d.host x.name ≡ c → (not b && c) ≡ c
                go true false k l = refl
                go false c k l = refl
                go true true k l = let bad : is_at h.name d ≡ true = subst (λ m. bytes_eq d.host m ≡ true) (bytes_same x.name h.name k) l in cc

        by_tunnel : is_at h.name d ≡ false → (m : ℕ) → segment rows n ≡ Vxlan m → meant (walk hosts steps h (Bridge tag (dhcp_frame a)) run) ≡ end_fate (trace_of run) (dhcp_outcome rows n a d)
        by_tunnel away m f =
            let row = row-located rows h.name h.tables real good n tag is_tagged d e (Some (ToHost d.host m)) (ap (λ b. if b then to_here rows d else to_there (segment rows d.network) d) away ∙ ap (λ i. to_there (segment rows i) d) (sym same) ∙ ap (λ s. to_there s d) f) in
            by-step (ToTunnel d.host m (dhcp_frame a)) (ap (bridge_at_tag h.tables false (dhcp_frame a)) (tag-row rows h.name h.tables.tags real.tags n tag is_tagged) ∙ ap (bridged_by false (record { network = n; tag = tag; wire = wire_of (segment rows n) }) TowardDhcp (dhcp_frame a) NoLease) row)
            ∙ ap (λ o. meant (over_tunnel (walk hosts (steps - 1)) m (dhcp_frame a) (after_step h (Bridge tag (dhcp_frame a)) (plain (ToTunnel d.host m (dhcp_frame a))) run) o)) home.1
            ∙ lease-carried home.0 home_real n d e home_at a (steps - 1) (TunnelIn m (dhcp_frame a)) (after_step h (Bridge tag (dhcp_frame a)) (plain (ToTunnel d.host m (dhcp_frame a))) run) (ByTunnel m) (omega arith) (ap carrier_of f) (eq-eqb m m refl) refl (λ s. refl)
            ∙ ap (λ t. end_fate t (dhcp_outcome rows n a d)) (trace-plain h (Bridge tag (dhcp_frame a)) (ToTunnel d.host m (dhcp_frame a)) run refl)

        joined_far : is_local (segment rows n) ≡ false → is_joined rows d h.name ≡ true
        joined_far k = joined-is ∙ ap (λ b. not b || is_at h.name d) k

        far : is_at h.name d ≡ false → (s : Segment) → segment rows n ≡ s → Goal
        far away Local f =
            by-step (drops NoLease) (missing (away-none away (ap (λ s. to_there s d) f)) ∙ ap (λ s. wire_or false n (wire_of s) TowardDhcp (dhcp_frame a) NoLease) f)
            ∙ ap (λ t. end_fate t (Dropped NoLease)) (trace-plain h (Bridge tag (dhcp_frame a)) (drops NoLease) run refl)
            ∙ sym (meaning false (joined-is ∙ ap (λ s. not (is_local s) || is_at h.name d) f ∙ away) ∙ ap (λ s. end_fate (trace_of run) (out_or (wire_of s) n TowardDhcp (dhcp_frame a) NoLease)) f)
        far away (Flat x) f = by_wire away (record { physical = x; tag = None }) (ap wire_of f) ∙ sym (meaning true (joined_far (ap is_local f)))
        far away (Vlan x v) f = by_wire away (record { physical = x; tag = Some v }) (ap wire_of f) ∙ sym (meaning true (joined_far (ap is_local f)))
        far away (Vxlan m) f = by_tunnel away m f ∙ sym (meaning true (joined_far (ap is_local f)))

        by : (b : Bool) → is_at h.name d ≡ b → Goal
        by false away = far away (segment rows n) refl
        by true here =
            by-step (Next (DhcpIn tag (dhcp_frame a))) (lease-step h real n d e here a false tag is_tagged)
            ∙ at-leases h real n d e here a (steps - 1) tag (after_step h (Bridge tag (dhcp_frame a)) (plain (Next (DhcpIn tag (dhcp_frame a)))) run) is_tagged (omega arith)
            ∙ ap (λ t. end_fate t (dhcp_outcome rows n a d)) (trace-plain h (Bridge tag (dhcp_frame a)) (Next (DhcpIn tag (dhcp_frame a))) run refl)
            ∙ sym (meaning true (joined-is ∙ or_right (not (is_local (segment rows n))) (is_at h.name d) here))

    lease-law-at : Goal
    lease-law-at = go (dhcp_port rows n) refl
      where
        go : (o : Option PortRow) → dhcp_port rows n ≡ o → Goal
        go None e = nobody e
        go (Some d) e = somebody d e

  pub lease-law : LeaseLaw rows hosts
  lease-law steps h n net tag a run enough named there is_tagged = lease-law-at steps h n net tag a run enough named there is_tagged

-- A packet on a network's bridge gets to the port that the rows say.
use Rattle.std.proofs.Common.{◌≡◌, ℕ, zero, suc, ◌-◌, ◌<◌, List, [], ◌++◌, Bool, true, false, Option, Some, None, refl, ap, sym, ◌∙◌, arith}
use Rattle.std.specs.Prelude.{find, option_and_then, ◌&&◌, ◌==◌, if◌then◌else◌}
use Rattle.std.proofs.lemmas.Bool.{and_parts, eqb-true, and_from}
use Rattle.std.proofs.lemmas.List.{append-nil}
use Rattle.api_types.proofs.NameLemmas.{ident_same}
use Rattle.plane_laws.proofs.ListLemmas.{find-passes, find-each}
use Rattle.plane_laws.proofs.Located.{tag-row, bridge-located}
use Rattle.plane_laws.proofs.Tagged.{tagged, inward-located}
use Rattle.api_types.specs.Ident.{Ident}
use Rattle.api_types.specs.Owners.{is_router_port}
use Rattle.api_types.specs.RowLists.{RowLists}
use Rattle.api_types.specs.Table.{ident_eq}
use Rattle.api_types.specs.declared.port.PortRow.{PortRow}
use Rattle.api_types.specs.declared.router.RouterRow.{RouterRow}
use Rattle.plane_types.specs.Fabric.{Run, after_step, step_path, fate_after, walk}
use Rattle.api_types.specs.Holders.{has_mac, port_at, router_of}
use Rattle.plane_types.specs.Hosts.{Host}
use Rattle.api_types.specs.Live.{is_live, segment, is_at}
use Rattle.api_types.specs.Wires.{wire_of}
use Rattle.plane_types.specs.Meaning.{Trace}
use Rattle.plane_types.specs.Packets.{Packet, ip_frame}
use Rattle.plane_types.specs.Places.{Next, Place, RouterIn, Step, TapOut, TunnelIn}
use Rattle.plane_types.specs.TableRows.{bridge_by, carrier_of, end_of, is_hosted, mac_row, tag_of, to_here, to_router, to_there}
use Rattle.plane_types.specs.TableStep.{bridge_at, bridge_at_tag, bridge_step, bridged_by, carrier_eq, inward_at, inward_step, target_step, plain, table_step}
use Rattle.plane_types.specs.declared.table.BridgeKey.TheVariants.{Mac as AtMac}
use Rattle.plane_types.specs.declared.table.BridgeTo.{BridgeTo}
use Rattle.plane_types.specs.declared.table.BridgeTo.TheVariants.{Tunnel as ToHost, Router as ToRouter, Tap as ToTap}
use Rattle.plane_types.specs.declared.table.Carrier.{Carrier}
use Rattle.plane_types.specs.declared.lists.TableLists.{TableLists}
use Rattle.plane_types.specs.declared.verdict.DropCause.TheVariants.{Unknown}
use Rattle.plane_types.specs.declared.verdict.Toward.TheVariants.{Mac as TowardMac}
use Rattle.plane_laws.proofs.Facts.{FrameFacts, HostFacts, RouterPortStands}

abbrev pub trace_of : Run → Trace
trace_of run = record { path = run.path; fresh = run.fresh }

abbrev pub place_of : BridgeTo → Packet → Place
place_of (ToTap i) p = TapOut i (ip_frame p)
place_of (ToRouter r i) p = RouterIn i r (ip_frame p)
place_of (ToHost h n) p = TunnelIn n (ip_frame p)

pub walk-on : (hosts : List Host) (n : ℕ) (h : Host) (place : Place) (run : Run) → 0 < n → walk hosts n h place run ≡ fate_after hosts (walk hosts (n - 1)) h place run (table_step h.tables (h.entries ++ run.fresh) place)
unfolding walk
walk-on hosts zero h place run more = absurd (omega arith)
walk-on hosts (suc n) h place run more = let e : n ≡ suc n - 1 = omega arith in ap (λ m. fate_after hosts (walk hosts m) h place run (table_step h.tables (h.entries ++ run.fresh) place)) e

-- a step that makes no entry and adds nothing to the path
pub trace-plain : (h : Host) (place : Place) (s : Step) (run : Run) → step_path h place s ≡ [] → trace_of (after_step h place (plain s) run) ≡ trace_of run
trace-plain h place s run e = ap (λ x. record { path = x; fresh = run.fresh ++ [] }) (ap (λ x. run.path ++ x) e ∙ append-nil run.path) ∙ ap (λ x. record { path = run.path; fresh = x }) (append-nil run.fresh)

-- a port that is here has an end here
pub end-here : (rows : RowLists) → FrameFacts rows → (test : PortRow → Bool) (q : PortRow) → find test rows.ports ≡ Some q → is_live rows q ≡ true → (to : BridgeTo) × (to_here rows q ≡ Some to)
end-here rows good test q found live = go (is_router_port q.owner) refl
  where
    stands : RouterPortStands rows q
    stands = find-each (RouterPortStands rows) test rows.ports q good.router_ports found

    by : (o : Option RouterRow) → is_hosted q.host o ≡ true → (to : BridgeTo) × (to_router q o ≡ Some to)
    by None h = absurd (bad h)
      where
        bad : false ≡ true → ⊥
        bad h = cc
    by (Some r) h = (ToRouter r.id q.id, refl)

    go : (b : Bool) → is_router_port q.owner ≡ b → (to : BridgeTo) × ((if b then to_router q (router_of rows q) else Some (ToTap q.id)) ≡ Some to)
    go true e = by (router_of rows q) (stands e live)
    go false e = (ToTap q.id, refl)

-- at a host with the port, its network's bridge leads to it
module _ (rows : RowLists) (good : FrameFacts rows) (host : List ℕ) (t : TableLists) (real : HostFacts rows host t) (n : Ident) (tag : ℕ) (is_tagged : tag_of t.tags n ≡ Some tag) (p : Packet) (q : PortRow) (found : port_at rows n p.dst ≡ Some q) where
  hit : has_mac rows n p.dst q ≡ true
  hit = find-passes (has_mac rows n p.dst) rows.ports q found

  pub live-found : is_live rows q ≡ true
  live-found = (and_parts (ident_eq n q.network && (q.mac == p.dst)) (is_live rows q) hit).1

  pub network-found : n ≡ q.network
  network-found = ident_same n q.network (and_parts (ident_eq n q.network) (q.mac == p.dst) (and_parts (ident_eq n q.network && (q.mac == p.dst)) (is_live rows q) hit).0).0

  pub mac-found : q.mac ≡ p.dst
  mac-found = eqb-true q.mac p.dst (and_parts (ident_eq n q.network) (q.mac == p.dst) (and_parts (ident_eq n q.network && (q.mac == p.dst)) (is_live rows q) hit).0).1

  row-is : (to : Option BridgeTo) → end_of rows host q ≡ to → mac_row rows host t.tags q ≡ bridge_by (AtMac q.mac) to (Some tag)
  row-is to e =
      ap (λ b. if b then bridge_by (AtMac q.mac) (end_of rows host q) (tag_of t.tags q.network) else None) live-found
      ∙ ap (λ x. bridge_by (AtMac q.mac) x (tag_of t.tags q.network)) e
      ∙ ap (bridge_by (AtMac q.mac) to) (ap (tag_of t.tags) (sym network-found) ∙ is_tagged)

  pub row-located : (to : Option BridgeTo) → end_of rows host q ≡ to → bridge_at t tag (AtMac p.dst) ≡ bridge_by (AtMac q.mac) to (Some tag)
  row-located to e = bridge-located rows host t real good n tag is_tagged p.dst ∙ ap (option_and_then (mac_row rows host t.tags)) found ∙ row-is to e

  pub step-located : (inner : Bool) (to : BridgeTo) → end_of rows host q ≡ Some to → bridge_step t inner tag (ip_frame p) ≡ target_step inner tag (ip_frame p) to
  step-located inner to e =
      ap (bridge_at_tag t inner (ip_frame p)) (tag-row rows host t.tags real.tags n tag is_tagged)
      ∙ ap (bridged_by inner (record { network = n; tag = tag; wire = wire_of (segment rows n) }) (TowardMac p.dst) (ip_frame p) Unknown) (row-located (Some to) e)

  pub step-unlocated : (inner : Bool) → end_of rows host q ≡ None → bridge_step t inner tag (ip_frame p) ≡ bridged_by inner (record { network = n; tag = tag; wire = wire_of (segment rows n) }) (TowardMac p.dst) (ip_frame p) Unknown None
  step-unlocated inner e =
      ap (bridge_at_tag t inner (ip_frame p)) (tag-row rows host t.tags real.tags n tag is_tagged)
      ∙ ap (bridged_by inner (record { network = n; tag = tag; wire = wire_of (segment rows n) }) (TowardMac p.dst) (ip_frame p) Unknown) (row-located None e)

  pub end-is : is_at host q ≡ true → (to : BridgeTo) → to_here rows q ≡ Some to → end_of rows host q ≡ Some to
  end-is here to e = ap (λ b. if b then to_here rows q else to_there (segment rows q.network) q) here ∙ e

  pub end-away : is_at host q ≡ false → end_of rows host q ≡ to_there (segment rows n) q
  end-away away = ap (λ b. if b then to_here rows q else to_there (segment rows q.network) q) away ∙ ap (λ i. to_there (segment rows i) q) (sym network-found)

pub led-here : (rows : RowLists) (q : PortRow) (to : BridgeTo) → to_here rows q ≡ Some to → (inner : Bool) (tag : ℕ) (p : Packet) → target_step inner tag (ip_frame p) to ≡ Next (place_of to p)
led-here rows q (ToTap i) e inner tag p = refl
led-here rows q (ToRouter r i) e inner tag p = refl
led-here rows q (ToHost h m) e inner tag p = absurd (go (is_router_port q.owner) (router_of rows q) e)
  where
    go : (b : Bool) (o : Option RouterRow) → (if b then to_router q o else Some (ToTap q.id)) ≡ Some (ToHost h m) → ⊥
    go true None e = cc
    go true (Some r) e = cc
    go false o e = cc

-- by its carrier a host with the port leads to it
pub inner-step : (rows : RowLists) → FrameFacts rows → (host : List ℕ) (t : TableLists) → HostFacts rows host t → (n : Ident) (p : Packet) (q : PortRow) → port_at rows n p.dst ≡ Some q → is_at host q ≡ true → (c : Carrier) → carrier_of (segment rows n) ≡ Some c → carrier_eq c c ≡ true → (to : BridgeTo) → to_here rows q ≡ Some to → inward_step t (ip_frame p) (inward_at t c) ≡ Next (place_of to p)
inner-step rows good host t real n p q found here c segment_is self to e =
    let live = live-found-of in
    let tag = tagged rows host t real good (has_mac rows n p.dst) q found (and_from (is_live rows q) (is_at host q) live here) in
    let tag_is : tag_of t.tags n ≡ Some tag.0 = ap (tag_of t.tags) network-of ∙ tag.1 in
    ap (inward_step t (ip_frame p)) (inward-located rows host t real good n tag.0 c tag_is segment_is self)
    ∙ step-located rows good host t real n tag.0 tag_is p q found true to (end-is rows good host t real n tag.0 tag_is p q found here to e)
    ∙ led-here rows q to e true tag.0 p
  where
    hit2 : has_mac rows n p.dst q ≡ true
    hit2 = find-passes (has_mac rows n p.dst) rows.ports q found

    live-found-of : is_live rows q ≡ true
    live-found-of = (and_parts (ident_eq n q.network && (q.mac == p.dst)) (is_live rows q) hit2).1

    network-of : n ≡ q.network
    network-of = ident_same n q.network (and_parts (ident_eq n q.network) (q.mac == p.dst) (and_parts (ident_eq n q.network && (q.mac == p.dst)) (is_live rows q) hit2).0).0

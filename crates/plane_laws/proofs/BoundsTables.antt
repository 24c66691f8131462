-- How many routers a packet passes, and how many entries it makes, by any tables.
use Rattle.std.proofs.Common.{◌≡◌, ℕ, zero, suc, ◌+◌, ◌-◌, ◌*◌, ◌<◌, ◌≤◌, List, [], ◌∷◌, ◌++◌, Bool, true, false, not, Option, Some, None, refl, ap, ◌∙◌, arith}
use Rattle.std.specs.Prelude.{length, find, ◌&&◌, ◌||◌, if◌then◌else◌, is_some, ⊤}
use Rattle.std.specs.Str.{bytes_eq}
use Rattle.std.proofs.lemmas.List.{length-append}
use Rattle.plane_laws.proofs.RouterTables.{Lives, routed-lives}
use Rattle.plane_laws.proofs.MadeLaw.{of_step, step-admits, admits-one}
use Rattle.net_addr.specs.declared.address.Addr.{Addr}
use Rattle.api_types.specs.Ident.{Ident}
use Rattle.api_types.specs.declared.group.Direction.TheVariants.{Egress, Ingress}
use Rattle.plane_types.specs.Ends.{destination}
use Rattle.plane_types.specs.Fabric.{FabricFate, Run, after_step, at_inward, at_tap, run_from, fabric_fate, fate_of_run, from_outside, from_tap, next_position, network_at, outside, path_at, step_path, steps_for, fate_after, takes, over_tunnel, walk, over_wire}
use Rattle.plane_types.specs.Hosts.{Host, is_named}
use Rattle.plane_types.specs.Meaning.{life_of}
use Rattle.plane_types.specs.Packets.{Packet, address_ask, ip_frame, is_unsupported, packet}
use Rattle.plane_types.specs.Places.{Bridge, DhcpIn, End, Next, Place, RouterIn, Step, TapIn, TapOut, ToTunnel, ToWire, TunnelIn, WireIn}
use Rattle.plane_types.specs.Routing.{RouteEnds, RouteSends, Routed, routing_of}
use Rattle.plane_types.specs.TableStep.{Stepped, asked_at, bridge_at, bridge_at_tag, bridge_step, bridged_by, drops, inward_at, inward_step, lease_answer, lease_at, target_step, leg_at, neighbour_at, plain, router_at, router_by_leg, router_by_row, sent_at, sent_by, source_of, stops, table_routed, table_step, table_view, tag_row, tagged_leg, tap_at, tap_guards, tap_in, tap_out, tap_passage, tap_sends, unheld, wire_or}
use Rattle.plane_types.specs.Verdicts.{fabric_verdict, made_entries}
use Rattle.plane_types.specs.declared.entry.Entry.{Entry}
use Rattle.plane_types.specs.declared.event.Event.{Event}
use Rattle.plane_types.specs.declared.event.Event.TheVariants.{FromPort, FromWire}
use Rattle.plane_types.specs.declared.frame.Frame.{Frame}
use Rattle.plane_types.specs.declared.frame.Frame.TheVariants.{Dhcp, Ip, NeighbourAsk, Other}
use Rattle.plane_types.specs.declared.table.BridgeKey.TheVariants.{Dhcp as AtDhcp, Mac as AtMac}
use Rattle.plane_types.specs.declared.table.BridgeRow.{BridgeRow}
use Rattle.plane_types.specs.declared.table.BridgeTo.{BridgeTo}
use Rattle.plane_types.specs.declared.table.BridgeTo.TheVariants.{Tunnel as ToHost, Router as ToRouter, Tap as ToTap}
use Rattle.plane_types.specs.declared.table.Carrier.TheVariants.{Tunnel as ByTunnel, Wire as ByWire}
use Rattle.plane_types.specs.declared.table.InwardRow.{InwardRow}
use Rattle.plane_types.specs.declared.table.LeaseRow.{LeaseRow}
use Rattle.plane_types.specs.declared.table.NeighbourRow.{NeighbourRow}
use Rattle.plane_types.specs.declared.table.RouterPort.{RouterPort}
use Rattle.plane_types.specs.declared.table.RouterTable.{RouterTable}
use Rattle.plane_types.specs.declared.table.TagRow.{TagRow}
use Rattle.plane_types.specs.declared.table.TapRow.{TapRow}
use Rattle.api_types.specs.declared.wire.Wire.{Wire}
use Rattle.plane_types.specs.declared.lists.TableLists.{TableLists}
use Rattle.plane_types.specs.declared.verdict.DropCause.{DropCause}
use Rattle.plane_types.specs.declared.verdict.DropCause.TheVariants.{Egress as EgressFilter, Ingress as IngressFilter, NoHolder, NoLease, Spoof, Unknown, Unsupported}
use Rattle.plane_types.specs.declared.verdict.Outcome.{Outcome}
use Rattle.plane_types.specs.declared.verdict.Outcome.TheVariants.{Delivered, Dropped, Out}
use Rattle.plane_types.specs.declared.verdict.Toward.{Toward}
use Rattle.plane_types.specs.declared.verdict.Toward.TheVariants.{Address as TowardAddress, Dhcp as TowardDhcp, Mac as TowardMac}
use Rattle.plane_laws.specs.Bounds.{HasEightBits, IsBounded}

abbrev ttl_of : Frame → ℕ
ttl_of (Ip src dst ends ttl part) = ttl
ttl_of (NeighbourAsk src ends) = 0
ttl_of (Dhcp src from) = 0
ttl_of (Other src dst ethertype) = 0

abbrev frame_at : Place → Frame
frame_at (TapIn port frame) = frame
frame_at (Bridge tag frame) = frame
frame_at (TunnelIn number frame) = frame
frame_at (WireIn wire frame) = frame
frame_at (RouterIn port router frame) = frame
frame_at (DhcpIn tag frame) = frame
frame_at (TapOut port frame) = frame

abbrev extra_at : Place → ℕ
extra_at (TapIn port frame) = 1
extra_at (Bridge tag frame) = 0
extra_at (TunnelIn number frame) = 0
extra_at (WireIn wire frame) = 0
extra_at (RouterIn port router frame) = 0
extra_at (DhcpIn tag frame) = 0
extra_at (TapOut port frame) = 0

-- how many ids and entries a frame can still add
abbrev ids_of : Frame → ℕ
ids_of f = 2 * (ttl_of f - 1)

abbrev entries_of : Frame → ℕ
entries_of f = 1 + (ttl_of f - 1)

abbrev ids_at : Place → ℕ
ids_at p = ids_of (frame_at p)

abbrev entries_at : Place → ℕ
entries_at p = extra_at p + entries_of (frame_at p)

-- what a step adds is made good by what the frame can add behind it
abbrev Fine : Host → Place → Step → ℕ → Type 0
Fine h place (Next p) made = (length (step_path h place (Next p)) + ids_at p ≤ ids_at place) × (made + entries_at p ≤ entries_at place)
Fine h place (End o way) made = (length (step_path h place (End o way)) ≤ ids_at place) × (made ≤ entries_at place)
Fine h place (ToTunnel name number f) made = (length (step_path h place (ToTunnel name number f)) + ids_of f ≤ ids_at place) × (made + entries_of f ≤ entries_at place)
Fine h place (ToWire w n toward f) made = (length (step_path h place (ToWire w n toward f)) + ids_of f ≤ ids_at place) × (made + entries_of f ≤ entries_at place)

-- the bridge hands the frame on as it is, and to no tap that sends
abbrev Carries : Frame → Step → Type 0
Carries f (Next p) = (ids_at p ≤ ids_of f) × (entries_at p ≤ entries_of f)
Carries f (End o way) = ⊤
Carries f (ToTunnel name number g) = (ids_of g ≤ ids_of f) × (entries_of g ≤ entries_of f)
Carries f (ToWire w n toward g) = (ids_of g ≤ ids_of f) × (entries_of g ≤ entries_of f)

module _ (t : TableLists) (inner : Bool) where
  wire-carries : (n : Ident) (w : Option Wire) (toward : Toward) (f : Frame) (c : DropCause) → Carries f (wire_or inner n w toward f c)
  wire-carries n w toward f c = go inner w
    where
      go : (b : Bool) (o : Option Wire) → Carries f (wire_or b n o toward f c)
      go true o = tt
      go false None = tt
      go false (Some x) = (omega arith, omega arith)

  led-carries : (b : Bool) (tag : ℕ) (f : Frame) (to : BridgeTo) → Carries f (target_step b tag f to)
  led-carries b tag (Ip src dst ends ttl part) (ToTap port) = (omega arith, omega arith)
  led-carries b tag (NeighbourAsk src ends) (ToTap port) = (omega arith, omega arith)
  led-carries b tag (Dhcp src from) (ToTap port) = (omega arith, omega arith)
  led-carries b tag (Other src dst ethertype) (ToTap port) = (omega arith, omega arith)
  led-carries b tag (Ip src dst ends ttl part) (ToRouter router port) = (omega arith, omega arith)
  led-carries b tag (NeighbourAsk src ends) (ToRouter router port) = tt
  led-carries b tag (Dhcp src from) (ToRouter router port) = tt
  led-carries b tag (Other src dst ethertype) (ToRouter router port) = tt
  led-carries true tag f (ToHost host number) = tt
  led-carries false tag f (ToHost host number) = (omega arith, omega arith)

  bridged-carries : (row : TagRow) (toward : Toward) (f : Frame) (c : DropCause) (o : Option BridgeRow) → Carries f (bridged_by inner row toward f c o)
  bridged-carries row toward f c (Some r) = led-carries inner row.tag f r.to
  bridged-carries row toward f c None = wire-carries row.network row.wire toward f c

  bridge-carries : (f : Frame) (o : Option TagRow) → Carries f (bridge_at_tag t inner f o)
  bridge-carries f None = tt
  bridge-carries (Ip src dst ends ttl part) (Some row) = bridged-carries row (TowardMac dst) (Ip src dst ends ttl part) Unknown (bridge_at t row.tag (AtMac dst))
  bridge-carries (NeighbourAsk src ends) (Some row) = go (neighbour_at t row.tag (destination ends))
    where
      go : (o : Option NeighbourRow) → Carries (NeighbourAsk src ends) (asked_at inner row (address_ask src ends) o)
      go (Some r) = tt
      go None = wire-carries row.network row.wire (TowardAddress (destination ends)) (NeighbourAsk src ends) NoHolder
  bridge-carries (Dhcp src from) (Some row) = bridged-carries row TowardDhcp (Dhcp src from) NoLease (bridge_at t row.tag AtDhcp)
  bridge-carries (Other src dst ethertype) (Some row) = wire-carries row.network row.wire (TowardMac dst) (Other src dst ethertype) Unknown

inward-carries : (t : TableLists) (f : Frame) (o : Option InwardRow) → Carries f (inward_step t f o)
inward-carries t f None = tt
inward-carries t f (Some r) = bridge-carries t true f (tag_row t r.tag)

-- a place that is no router's adds nothing to the path
quiet-fine : (h : Host) (place : Place) → ((s : Step) → step_path h place s ≡ []) → (s : Step) → Carries (frame_at place) s → Fine h place s 0
quiet-fine h place quiet (Next p) c = (omega (arith, ap length (quiet (Next p)), c.0), omega (arith, c.1))
quiet-fine h place quiet (End o way) c = (omega (arith, ap length (quiet (End o way))), omega arith)
quiet-fine h place quiet (ToTunnel name number f) c = (omega (arith, ap length (quiet (ToTunnel name number f)), c.0), omega (arith, c.1))
quiet-fine h place quiet (ToWire w n toward f) c = (omega (arith, ap length (quiet (ToWire w n toward f)), c.0), omega (arith, c.1))

module _ (h : Host) (entries : List Entry) where
  abbrev FineStep : Place → Stepped → Type 0
  FineStep place s = Fine h place s.step (length s.made)

  -- from a tap the frame goes on as it is
  sends-fine : (port : Ident) (frame : Frame) (tap : TapRow) → length (tap_sends h.tables entries tap frame).made ≤ 1 → FineStep (TapIn port frame) (tap_sends h.tables entries tap frame)
  sends-fine port (Ip src dst ends ttl part) tap one = go (tap_passage h.tables entries tap Egress (packet src dst ends ttl part)).passes (tap_passage h.tables entries tap Egress (packet src dst ends ttl part)).made one
    where
      go : (b : Bool) (made : List Entry) → length (of_step (if b then record { step = Next (Bridge tap.tag (Ip src dst ends ttl part)); made = made } else plain (drops EgressFilter))) ≤ 1
          → FineStep (TapIn port (Ip src dst ends ttl part)) (if b then record { step = Next (Bridge tap.tag (Ip src dst ends ttl part)); made = made } else plain (drops EgressFilter))
      go true made k = (omega arith, omega (arith, k))
      go false made k = (omega arith, omega arith)
  sends-fine port (NeighbourAsk src ends) tap one = (omega arith, omega arith)
  sends-fine port (Dhcp src from) tap one = (omega arith, omega arith)
  sends-fine port (Other src dst ethertype) tap one = (omega arith, omega arith)

  tap-in-fine : (port : Ident) (frame : Frame) (o : Option TapRow) → length (tap_in h.tables entries frame o).made ≤ 1 → FineStep (TapIn port frame) (tap_in h.tables entries frame o)
  tap-in-fine port frame None one = (omega arith, omega arith)
  tap-in-fine port frame (Some tap) one = go (is_unsupported frame) (not (not tap.secured || tap_guards tap frame)) one
    where
      go : (u g : Bool) → length (of_step (if u then plain (drops Unsupported) else if g then plain (drops Spoof) else tap_sends h.tables entries tap frame)) ≤ 1
          → FineStep (TapIn port frame) (if u then plain (drops Unsupported) else if g then plain (drops Spoof) else tap_sends h.tables entries tap frame)
      go true g k = (omega arith, omega arith)
      go false true k = (omega arith, omega arith)
      go false false k = sends-fine port frame tap k

  tap-out-fine : (port : Ident) (frame : Frame) (o : Option TapRow) → length (tap_out h.tables entries frame o).made ≤ 1 → FineStep (TapOut port frame) (tap_out h.tables entries frame o)
  tap-out-fine port frame None one = (omega arith, omega arith)
  tap-out-fine port (Ip src dst ends ttl part) (Some tap) one = go (tap_passage h.tables entries tap Ingress (packet src dst ends ttl part)).passes (tap_passage h.tables entries tap Ingress (packet src dst ends ttl part)).made one
    where
      go : (b : Bool) (made : List Entry) → length (of_step (if b then record { step = stops (Delivered tap.port (Ip src dst ends ttl part)); made = made } else plain (drops IngressFilter))) ≤ 1
          → FineStep (TapOut port (Ip src dst ends ttl part)) (if b then record { step = stops (Delivered tap.port (Ip src dst ends ttl part)); made = made } else plain (drops IngressFilter))
      go true made k = (omega arith, omega (arith, k))
      go false made k = (omega arith, omega arith)
  tap-out-fine port (NeighbourAsk src ends) (Some tap) one = (omega arith, omega arith)
  tap-out-fine port (Dhcp src from) (Some tap) one = (omega arith, omega arith)
  tap-out-fine port (Other src dst ethertype) (Some tap) one = (omega arith, omega arith)

  one-network : (o : Option TagRow) → length (network_at o) ≤ 1
  one-network None = omega arith
  one-network (Some r) = omega arith

  router-fine : (port router : Ident) (frame : Frame) (p : Packet) → ttl_of frame ≡ p.ttl → (o : Option RouterTable) → length (router_by_row h.tables entries port p o).made ≤ 1 → FineStep (RouterIn port router frame) (router_by_row h.tables entries port p o)
  router-fine port router frame p same None one = (omega arith, omega arith)
  router-fine port router frame p same (Some r) one = leg (tagged_leg r port) one
    where
      unheld-fine : (made : List Entry) → length made ≤ 1 → (hop : Addr) (p2 : Packet) → suc p2.ttl ≡ p.ttl → 0 < p2.ttl → (o : Option TagRow) → Fine h (RouterIn port router frame) (unheld hop p2 o) (length made)
      unheld-fine made k hop p2 e more None = (omega arith, omega (arith, k))
      unheld-fine made k hop p2 e more (Some row) = by row.wire
        where
          by : (w : Option Wire) → Fine h (RouterIn port router frame) (elim w [ None ↦ End (Dropped NoHolder) (Some row.network) | Some w ↦ End (Out row.network (TowardAddress hop) (ip_frame (record p2 { dst = 0 }))) (Some row.network) ]) (length made)
          by None = (omega (arith, e, more, same), omega (arith, k))
          by (Some w) = (omega (arith, e, more, same), omega (arith, k))

      held-fine : (made : List Entry) → length made ≤ 1 → (tag : ℕ) (hop : Addr) (p2 : Packet) → suc p2.ttl ≡ p.ttl → 0 < p2.ttl → (o : Option NeighbourRow) → Fine h (RouterIn port router frame) (sent_by h.tables tag hop p2 o) (length made)
      held-fine made k tag hop p2 e more None = unheld-fine made k hop p2 e more (tag_row h.tables tag)
      held-fine made k tag hop p2 e more (Some n) = (omega (arith, e, more, same, one-network (tag_row h.tables tag)), omega (arith, k, e, more, same))

      at-fine : (made : List Entry) → length made ≤ 1 → (hop : Addr) (p2 : Packet) → suc p2.ttl ≡ p.ttl → 0 < p2.ttl → (o : Option RouterPort) → Fine h (RouterIn port router frame) (sent_at h.tables hop p2 o) (length made)
      at-fine made k hop p2 e more None = (omega arith, omega (arith, k))
      at-fine made k hop p2 e more (Some x) = held-fine made k x.tag hop p2 e more (neighbour_at h.tables x.tag hop)

      by : (x : Routed) → Lives p.ttl x → length (table_routed h.tables r x).made ≤ 1 → FineStep (RouterIn port router frame) (table_routed h.tables r x)
      by (RouteEnds o) l k = (omega arith, omega arith)
      by (RouteSends made out hop p2) l k = at-fine made k hop p2 l.0 l.1 (tagged_leg r out.port)

      leg : (o : Option RouterPort) → length (router_by_leg h.tables entries r p o).made ≤ 1 → FineStep (RouterIn port router frame) (router_by_leg h.tables entries r p o)
      leg None k = (omega arith, omega arith)
      leg (Some x) k = by (routing_of (table_view h.tables r) entries (leg_at x) p) (routed-lives (table_view h.tables r) entries (leg_at x) p) k

  lease-fine : (tag : ℕ) (frame : Frame) (o : Option LeaseRow) → FineStep (DhcpIn tag frame) (plain (lease_answer o))
  lease-fine tag frame None = (omega arith, omega arith)
  lease-fine tag frame (Some r) = (omega arith, omega arith)

  step-fine : (place : Place) → FineStep place (table_step h.tables entries place)
  step-fine (TapIn port frame) = tap-in-fine port frame (tap_at h.tables port) (admits-one h.tables entries (table_step h.tables entries (TapIn port frame)).made (step-admits h.tables entries (TapIn port frame)))
  step-fine (Bridge tag frame) = quiet-fine h (Bridge tag frame) (λ s. refl) (bridge_step h.tables false tag frame) (bridge-carries h.tables false frame (tag_row h.tables tag))
  step-fine (TunnelIn number frame) = quiet-fine h (TunnelIn number frame) (λ s. refl) (inward_step h.tables frame (inward_at h.tables (ByTunnel number))) (inward-carries h.tables frame (inward_at h.tables (ByTunnel number)))
  step-fine (WireIn wire frame) = quiet-fine h (WireIn wire frame) (λ s. refl) (inward_step h.tables frame (inward_at h.tables (ByWire wire))) (inward-carries h.tables frame (inward_at h.tables (ByWire wire)))
  step-fine (RouterIn port router (Ip src dst ends ttl part)) = router-fine port router (Ip src dst ends ttl part) (packet src dst ends ttl part) refl (router_at h.tables router) (admits-one h.tables entries (table_step h.tables entries (RouterIn port router (Ip src dst ends ttl part))).made (step-admits h.tables entries (RouterIn port router (Ip src dst ends ttl part))))
  step-fine (RouterIn port router (NeighbourAsk src ends)) = (omega arith, omega arith)
  step-fine (RouterIn port router (Dhcp src from)) = (omega arith, omega arith)
  step-fine (RouterIn port router (Other src dst ethertype)) = (omega arith, omega arith)
  step-fine (DhcpIn tag frame) = lease-fine tag frame (lease_at h.tables tag (source_of frame))
  step-fine (TapOut port frame) = tap-out-fine port frame (tap_at h.tables port) (admits-one h.tables entries (table_step h.tables entries (TapOut port frame)).made (step-admits h.tables entries (TapOut port frame)))

-- so many ids and entries more at most
pub record RunWithin (ids made : ℕ) (run : Run) (v : FabricFate) : Type 0 where
  pub path : length v.run.path ≤ length run.path + ids
  pub fresh : length v.run.fresh ≤ length run.fresh + made

module _ (hosts : List Host) where
  walk-within : (many : ℕ) (h : Host) (place : Place) (run : Run) → RunWithin (ids_at place) (entries_at place) run (walk hosts many h place run)
  unfolding walk
  walk-within zero h place run = record { path = omega arith; fresh = omega arith }
  walk-within (suc many) h place run = go (table_step h.tables (h.entries ++ run.fresh) place) (step-fine h (h.entries ++ run.fresh) place) (walk-within many)
    where
      go : (s : Stepped) → Fine h place s.step (length s.made) → ((x : Host) (p : Place) (r : Run) → RunWithin (ids_at p) (entries_at p) r (walk hosts many x p r)) → RunWithin (ids_at place) (entries_at place) run (fate_after hosts (walk hosts many) h place run s)
      go s fine rest = by s.step fine (length-append run.path (step_path h place s.step)) (length-append run.fresh s.made) refl
        where
          ends : (r : Run) (o : Outcome) (path made : ℕ) → length r.path ≡ length run.path + path → length r.fresh ≡ length run.fresh + made → path ≤ ids_at place → made ≤ entries_at place → RunWithin (ids_at place) (entries_at place) run (fate_of_run r o)
          ends r o path made p m a b = record { path = omega (arith, p, a); fresh = omega (arith, m, b) }

          goes : (r : Run) (v : FabricFate) (path made ids es : ℕ) → length r.path ≡ length run.path + path → length r.fresh ≡ length run.fresh + made → path + ids ≤ ids_at place → made + es ≤ entries_at place → RunWithin ids es r v → RunWithin (ids_at place) (entries_at place) run v
          goes r v path made ids es p m a b w = record { path = omega (arith, p, a, w.path); fresh = omega (arith, m, b, w.fresh) }

          tunnel : (n : ℕ) (f : Frame) (r : Run) (path made : ℕ) → length r.path ≡ length run.path + path → length r.fresh ≡ length run.fresh + made → path + ids_of f ≤ ids_at place → made + entries_of f ≤ entries_at place → (o : Option Host) → RunWithin (ids_at place) (entries_at place) run (over_tunnel (walk hosts many) n f r o)
          tunnel n f r path made p m a b None = ends r (Dropped Unknown) path made p m (omega (arith, a)) (omega (arith, b))
          tunnel n f r path made p m a b (Some x) = goes r (walk hosts many x (TunnelIn n f) r) path made (ids_of f) (entries_at (TunnelIn n f)) p m a (omega (arith, b)) (rest x (TunnelIn n f) r)

          wire : (w : Wire) (n : Ident) (t : Toward) (f : Frame) (r : Run) (path made : ℕ) → length r.path ≡ length run.path + path → length r.fresh ≡ length run.fresh + made → path + ids_of f ≤ ids_at place → made + entries_of f ≤ entries_at place → (o : Option Host) → RunWithin (ids_at place) (entries_at place) run (over_wire (walk hosts many) w n t f r o)
          wire w n t f r path made p m a b None = ends r (Out n t f) path made p m (omega (arith, a)) (omega (arith, b))
          wire w n t f r path made p m a b (Some x) = goes r (walk hosts many x (WireIn w f) r) path made (ids_of f) (entries_at (WireIn w f)) p m a (omega (arith, b)) (rest x (WireIn w f) r)

          by : (step : Step) → Fine h place step (length s.made) → length (after_step h place s run).path ≡ length run.path + length (step_path h place s.step) → length (after_step h place s run).fresh ≡ length run.fresh + length s.made → s.step ≡ step → RunWithin (ids_at place) (entries_at place) run (next_position hosts (walk hosts many) h (after_step h place s run) step)
          by (Next p) f path fresh e = goes (after_step h place s run) (walk hosts many h p (after_step h place s run)) (length (step_path h place (Next p))) (length s.made) (ids_at p) (entries_at p) (path ∙ ap (λ x. length run.path + length (step_path h place x)) e) fresh f.0 f.1 (rest h p (after_step h place s run))
          by (End o way) f path fresh e = ends (after_step h place s run) o (length (step_path h place (End o way))) (length s.made) (path ∙ ap (λ x. length run.path + length (step_path h place x)) e) fresh f.0 f.1
          by (ToTunnel name number g) f path fresh e = tunnel number g (after_step h place s run) (length (step_path h place (ToTunnel name number g))) (length s.made) (path ∙ ap (λ x. length run.path + length (step_path h place x)) e) fresh f.0 f.1 (find (is_named name) hosts)
          by (ToWire w n t g) f path fresh e = wire w n t g (after_step h place s run) (length (step_path h place (ToWire w n t g))) (length s.made) (path ∙ ap (λ x. length run.path + length (step_path h place x)) e) fresh f.0 f.1 (find (λ (x : Host). not (bytes_eq x.name h.name) && takes w g x) hosts)

  fits-ttl : (frame : Frame) → life_of frame ≤ 256 → ttl_of frame ≤ 255
  fits-ttl (Ip src dst ends ttl part) fits = omega (arith, fits)
  fits-ttl (NeighbourAsk src ends) fits = omega arith
  fits-ttl (Dhcp src from) fits = omega arith
  fits-ttl (Other src dst ethertype) fits = omega arith

  one-at : (h : Host) (tag : ℕ) → length (path_at h tag) ≤ 1
  one-at h tag = go (tag_row h.tables tag)
    where
      go : (o : Option TagRow) → length (network_at o) ≤ 1
      go None = omega arith
      go (Some r) = omega arith

  abbrev SmallFate : FabricFate → Type 0
  SmallFate v = (length v.run.path ≤ 509) × (length v.run.fresh ≤ 256)

  small-from : (many : ℕ) (h : Host) (place : Place) (path : List Ident) → length path ≤ 1 → ttl_of (frame_at place) ≤ 255 → extra_at place ≤ 1 → SmallFate (walk hosts many h place (run_from path))
  small-from many h place path one fits extra = let w = walk-within many h place (run_from path) in (omega (arith, w.path, one, fits), omega (arith, w.fresh, fits, extra))

  tables-small : (event : Event) → HasEightBits event → SmallFate (fabric_fate hosts event)
  unfolding fabric_fate
  tables-small (FromPort port frame) fits = go (find (λ (h : Host). is_some (tap_at h.tables port)) hosts)
    where
      begins : (h : Host) (o : Option TapRow) → length (at_tap h o) ≤ 1
      begins h None = omega arith
      begins h (Some tap) = one-at h tap.tag

      go : (o : Option Host) → SmallFate (from_tap hosts port frame o)
      go None = (omega arith, omega arith)
      go (Some h) = small-from (suc (steps_for (life_of frame))) h (TapIn port frame) (at_tap h (tap_at h.tables port)) (begins h (tap_at h.tables port)) (fits-ttl frame fits) (omega arith)
  tables-small (FromWire physical tag frame) fits = start (is_unsupported frame)
    where
      begins : (h : Host) (o : Option InwardRow) → length (at_inward h o) ≤ 1
      begins h None = omega arith
      begins h (Some r) = one-at h r.tag

      go : (o : Option Host) → SmallFate (from_outside hosts (record { physical = physical; tag = tag }) frame o)
      go None = (omega arith, omega arith)
      go (Some h) = small-from (steps_for (life_of frame)) h (WireIn (record { physical = physical; tag = tag }) frame) (at_inward h (inward_at h.tables (ByWire (record { physical = physical; tag = tag })))) (begins h (inward_at h.tables (ByWire (record { physical = physical; tag = tag })))) (fits-ttl frame fits) (omega arith)

      start : (b : Bool) → SmallFate (if b then fate_of_run (run_from []) (Dropped Unsupported) else outside hosts (record { physical = physical; tag = tag }) frame)
      start true = (omega arith, omega arith)
      start false = go (find (takes (record { physical = physical; tag = tag }) frame) hosts)

told-long : (hosts : List Host) (es : List Entry) (names : List (List ℕ)) → length (made_entries hosts es names) ≡ length es
told-long hosts [] names = refl
told-long hosts (e ∷ es) [] = ap suc (told-long hosts es [])
told-long hosts (e ∷ es) (name ∷ names) = ap suc (told-long hosts es names)

pub bounded-by_tables : (hosts : List Host) (event : Event) → HasEightBits event → IsBounded (fabric_verdict hosts event)
bounded-by_tables hosts event fits =
    let small = tables-small hosts event fits in
    record { routers = omega (arith, small.0); ids = small.0; fresh = omega (arith, small.1, told-long hosts (fabric_fate hosts event).run.fresh (fabric_fate hosts event).run.makers) }

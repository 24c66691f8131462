-- How many routers a packet passes, and how many entries it makes, by the rows.
use Rattle.std.proofs.Common.{◌≡◌, ℕ, zero, suc, ◌+◌, ◌-◌, ◌*◌, ◌≤◌, List, [], ◌∷◌, ◌++◌, map, Bool, true, false, not, Option, Some, None, refl, ap, arith}
use Rattle.std.specs.Prelude.{length, find, if◌then◌else◌}
use Rattle.std.proofs.lemmas.List.{length-append}
use Rattle.plane_laws.proofs.RouterTables.{Lives, routed-lives}
use Rattle.plane_laws.proofs.MadeLaw.{GivesRouted, routed-gives, gives-one, passage-one}
use Rattle.api_types.specs.Ident.{Ident}
use Rattle.api_types.specs.RowsWith.{port_with}
use Rattle.api_types.specs.Owners.{is_router_port}
use Rattle.api_types.specs.RowLists.{RowLists}
use Rattle.api_types.specs.Table.{ident_eq}
use Rattle.api_types.specs.declared.group.Direction.TheVariants.{Egress, Ingress}
use Rattle.api_types.specs.declared.network.NetworkRow.{NetworkRow}
use Rattle.api_types.specs.declared.port.PortRow.{PortRow}
use Rattle.api_types.specs.declared.router.RouterRow.{RouterRow}
use Rattle.plane_types.specs.Ends.{destination}
use Rattle.plane_types.specs.Filter.{rules_allow}
use Rattle.plane_types.specs.Guard.{passes_guard}
use Rattle.api_types.specs.Holders.{dhcp_port, holder, port_at, router_of}
use Rattle.api_types.specs.Live.{joined_with}
use Rattle.plane_types.specs.Meaning.{Fate, Trace, fate_at_port, address_outcome, at_router, delivered_by, drop_fate, end_fate, from_port, from_sender, from_wire, port_fate, after_router, handed_out, handed_to, lease_asked, life_of, may_begin, none_so_far, on_path, at_receiver, rows_fate, rows_passage, sent_on, sent_out, sent_to, wire_ask, wire_lease, wire_packet, with_fresh, with_path}
use Rattle.api_types.specs.Wires.{network_on}
use Rattle.plane_types.specs.Packets.{Packet, address_ask, ip_frame, is_unsupported, key_of, lease_ask, packet}
use Rattle.plane_types.specs.Passage.{Passage}
use Rattle.api_types.specs.RouterRows.{leg_of, legs_of, router_view}
use Rattle.plane_types.specs.Routing.{RouteEnds, RouteSends, Routed, Use, routing_of, uses_by}
use Rattle.api_types.specs.RouterViews.{RouterView}
use Rattle.plane_types.specs.Verdicts.{of_nobody, rows_verdict}
use Rattle.plane_types.specs.declared.entry.Entry.{Entry}
use Rattle.plane_types.specs.declared.event.Event.{Event}
use Rattle.plane_types.specs.declared.event.Event.TheVariants.{FromPort, FromWire}
use Rattle.plane_types.specs.declared.frame.Frame.{Frame}
use Rattle.plane_types.specs.declared.frame.Frame.TheVariants.{Dhcp, Ip, NeighbourAsk, Other}
use Rattle.plane_types.specs.declared.verdict.DropCause.TheVariants.{Dead, Egress as EgressFilter, Ingress as IngressFilter, Spoof, Unknown, Unsupported}
use Rattle.plane_types.specs.declared.verdict.Outcome.{Outcome}
use Rattle.plane_types.specs.declared.verdict.Outcome.TheVariants.{Delivered, Dropped}
use Rattle.plane_laws.specs.Bounds.{HasEightBits, IsBounded}

-- so many ids and entries more at most
pub record Within (ids made : ℕ) (t : Trace) (v : Fate) : Type 0 where
  pub path : length v.path ≤ length t.path + ids
  pub fresh : length v.fresh ≤ length t.fresh + made

within : (more some : ℕ) (t : Trace) (o : Outcome) → Within more some t (end_fate t o)
within more some t o = record { path = omega arith; fresh = omega arith }

abbrev ids_by : ℕ → ℕ
ids_by ttl = 2 * (ttl - 1)

abbrev entries_by : ℕ → ℕ
entries_by ttl = 1 + (ttl - 1)

module _ (rows : RowLists) (entries : List Entry) where
  module _ (many : ℕ) (rest : (q : PortRow) (p : Packet) (t : Trace) → Within (ids_by p.ttl) (entries_by p.ttl) t (port_fate rows entries many q p t)) where
    received-within : (q : PortRow) (p : Packet) (t : Trace) (n : ℕ) → Within n (entries_by p.ttl) t (at_receiver rows entries q p t)
    received-within q p t n = go (rows_passage rows (entries ++ t.fresh) q Ingress p) (passage-one q.secured (rules_allow rows q) (entries ++ t.fresh) q.id Ingress (key_of p))
      where
        by : (made : List Entry) (b : Bool) → length made ≤ 1 → Within n (entries_by p.ttl) t (if b then end_fate (with_fresh t made) (Delivered q.id (ip_frame p)) else drop_fate t IngressFilter)
        by made true one = record { path = omega arith; fresh = omega (arith, one, length-append t.fresh made) }
        by made false one = within n (entries_by p.ttl) t (Dropped IngressFilter)

        go : (x : Passage) → length x.made ≤ 1 → Within n (entries_by p.ttl) t (delivered_by q p t x)
        go x one = by x.made x.passes one

    handed-within : (r : RouterRow) (t : Trace) (ttl : ℕ) (x : Routed) → Lives ttl x → (v : RouterView) (uses : List Use) → GivesRouted v uses x → Within (ids_by ttl) (entries_by ttl) t (after_router rows (port_fate rows entries many) r t x)
    handed-within r t ttl (RouteEnds o) l v uses g = within (ids_by ttl) (entries_by ttl) t o
    handed-within r t ttl (RouteSends made out hop p) l v uses g = go (find (λ (x : PortRow). ident_eq out.port x.id) (legs_of rows r))
      where
        one : length made ≤ 1
        one = gives-one v uses made g

        grown : length (t.fresh ++ made) ≡ length t.fresh + length made
        grown = length-append t.fresh made

        to : (o : PortRow) (j : Option PortRow) → Within (ids_by ttl) (entries_by ttl) t (handed_to rows (port_fate rows entries many) o.network hop p (with_path (with_fresh t made) (r.id ∷ o.network ∷ [])) j)
        to o None = record { path = omega (arith, l.0, l.1, length-append t.path (r.id ∷ o.network ∷ [])); fresh = omega (arith, one, grown, l.0, l.1) }
        to o (Some q) =
            let w = rest q (record p { dst = q.mac }) (with_path (with_fresh t made) (r.id ∷ o.network ∷ [])) in
            record { path = omega (arith, w.path, l.0, l.1, length-append t.path (r.id ∷ o.network ∷ [])); fresh = omega (arith, w.fresh, one, grown, l.0, l.1) }

        go : (o : Option PortRow) → Within (ids_by ttl) (entries_by ttl) t (handed_out rows (port_fate rows entries many) r hop p (with_fresh t made) o)
        go None = record { path = omega arith; fresh = omega (arith, one, grown) }
        go (Some o) = to o (joined_with rows o.host (holder rows o.network hop))

    arrived-within : (q : PortRow) (p : Packet) (t : Trace) → Within (ids_by p.ttl) (entries_by p.ttl) t (fate_at_port rows entries (port_fate rows entries many) q p t)
    arrived-within q p t = go (is_router_port q.owner) (router_of rows q)
      where
        at : (o : Option RouterRow) → Within (ids_by p.ttl) (entries_by p.ttl) t (at_router rows entries (port_fate rows entries many) q p t o)
        at None = within (ids_by p.ttl) (entries_by p.ttl) t (Dropped Unknown)
        at (Some r) = handed-within r t p.ttl (routing_of (router_view rows r) (entries ++ t.fresh) (leg_of q) p) (routed-lives (router_view rows r) (entries ++ t.fresh) (leg_of q) p)
            (router_view rows r) (uses_by (router_view rows r).snat (router_view rows r).gateway (router_view rows r).id (entries ++ t.fresh)) (routed-gives (router_view rows r) (entries ++ t.fresh) (leg_of q) p)

        go : (b : Bool) (o : Option RouterRow) → Within (ids_by p.ttl) (entries_by p.ttl) t (if b then at_router rows entries (port_fate rows entries many) q p t o else at_receiver rows entries q p t)
        go true o = at o
        go false o = received-within q p t (ids_by p.ttl)

  got-within : (many : ℕ) (q : PortRow) (p : Packet) (t : Trace) → Within (ids_by p.ttl) (entries_by p.ttl) t (port_fate rows entries many q p t)
  unfolding port_fate
  got-within zero q p t = within (ids_by p.ttl) (entries_by p.ttl) t (Dropped Unknown)
  got-within (suc many) q p t = arrived-within many (got-within many) q p t

  -- what an event comes to
  abbrev Small : Fate → Type 0
  Small v = (length v.path ≤ 509) × (length v.fresh ≤ 256)

  small-at : (n : Ident) (o : Outcome) → Small (end_fate (record { path = n ∷ []; fresh = [] }) o)
  small-at n o = (omega arith, omega arith)

  sends-small : (p : PortRow) (many : ℕ) (made : List Entry) → length made ≤ 1 → (x : Packet) → x.ttl ≤ 255 → Small (sent_on rows (port_fate rows entries many) p.network p.host x (record { path = p.network ∷ []; fresh = made }))
  sends-small p many made one x fits = go (joined_with rows p.host (port_at rows p.network x.dst))
    where
      go : (o : Option PortRow) → Small (sent_to rows (port_fate rows entries many) p.network x (record { path = p.network ∷ []; fresh = made }) o)
      go None = (omega arith, omega (arith, one))
      go (Some q) = let w = got-within many q x (record { path = p.network ∷ []; fresh = made }) in (omega (arith, w.path, fits), omega (arith, w.fresh, one, fits))

  sender-small : (p : PortRow) (frame : Frame) → life_of frame ≤ 256 → Small (from_sender rows entries (life_of frame) p (record { path = p.network ∷ []; fresh = [] }) frame)
  sender-small p (Ip src dst ends ttl part) fits =
      go (rows_passage rows (entries ++ []) p Egress (packet src dst ends ttl part)) (passage-one p.secured (rules_allow rows p) (entries ++ []) p.id Egress (key_of (packet src dst ends ttl part)))
    where
      by : (made : List Entry) (b : Bool) → length made ≤ 1 → Small (if b then sent_on rows (port_fate rows entries (suc ttl)) p.network p.host (packet src dst ends ttl part) (record { path = p.network ∷ []; fresh = made }) else drop_fate (record { path = p.network ∷ []; fresh = [] }) EgressFilter)
      by made true one = sends-small p (suc ttl) made one (packet src dst ends ttl part) (omega (arith, fits))
      by made false one = small-at p.network (Dropped EgressFilter)

      go : (y : Passage) → length y.made ≤ 1 → Small (sent_out rows (port_fate rows entries (suc ttl)) p (packet src dst ends ttl part) (record { path = p.network ∷ []; fresh = [] }) y)
      go y one = by y.made y.passes one
  sender-small p (NeighbourAsk src ends) fits = small-at p.network (address_outcome rows p.network p.host (address_ask src ends))
  sender-small p (Dhcp src from) fits = small-at p.network (lease_asked rows p.network p.host (lease_ask src from))
  sender-small p (Other src dst ethertype) fits = small-at p.network (Dropped Unsupported)

  nothing-small : (o : Outcome) → Small (end_fate none_so_far o)
  nothing-small o = (omega arith, omega arith)

  port-small : (frame : Frame) → life_of frame ≤ 256 → (o : Option PortRow) → Small (from_port rows entries (life_of frame) frame o)
  port-small frame fits None = nothing-small (Dropped Dead)
  port-small frame fits (Some p) = go (may_begin rows p) (is_unsupported frame) (passes_guard p frame)
    where
      go : (b u g : Bool) → Small (if b then (if u then drop_fate (record { path = p.network ∷ []; fresh = [] }) Unsupported else if not g then drop_fate (record { path = p.network ∷ []; fresh = [] }) Spoof else from_sender rows entries (life_of frame) p (record { path = p.network ∷ []; fresh = [] }) frame) else drop_fate none_so_far Dead)
      go false u g = nothing-small (Dropped Dead)
      go true true g = small-at p.network (Dropped Unsupported)
      go true false false = small-at p.network (Dropped Spoof)
      go true false true = sender-small p frame fits

  wire-small : (frame : Frame) → life_of frame ≤ 256 → (o : Option NetworkRow) → Small (from_wire rows entries (life_of frame) frame o)
  wire-small frame fits None = nothing-small (Dropped Unknown)
  wire-small (Ip src dst ends ttl part) fits (Some n) = go (port_at rows n.id dst)
    where
      go : (o : Option PortRow) → Small (wire_packet rows entries (suc ttl) n (packet src dst ends ttl part) o)
      go None = nothing-small (Dropped Unknown)
      go (Some q) = let w = got-within (suc ttl) q (packet src dst ends ttl part) (on_path n) in (omega (arith, w.path, fits), omega (arith, w.fresh, fits))
  wire-small (NeighbourAsk src ends) fits (Some n) = go (holder rows n.id (destination ends))
    where
      go : (o : Option PortRow) → Small (wire_ask n (address_ask src ends) o)
      go None = nothing-small (Dropped Unknown)
      go (Some q) = (omega arith, omega arith)
  wire-small (Dhcp src from) fits (Some n) = go (dhcp_port rows n.id)
    where
      go : (o : Option PortRow) → Small (wire_lease rows n (lease_ask src from) o)
      go None = nothing-small (Dropped Unknown)
      go (Some d) = (omega arith, omega arith)
  wire-small (Other src dst ethertype) fits (Some n) = nothing-small (Dropped Unsupported)

  pub rows-small : (event : Event) → HasEightBits event → (length (rows_fate rows entries event).path ≤ 509) × (length (rows_fate rows entries event).fresh ≤ 256)
  unfolding rows_fate
  rows-small (FromPort port frame) fits = port-small frame fits (port_with rows port)
  rows-small (FromWire physical tag frame) fits = go (is_unsupported frame)
    where
      go : (b : Bool) → Small (if b then drop_fate none_so_far Unsupported else from_wire rows entries (life_of frame) frame (network_on rows (record { physical = physical; tag = tag })))
      go true = nothing-small (Dropped Unsupported)
      go false = wire-small frame fits (network_on rows (record { physical = physical; tag = tag }))

length-map : {X Y : Type 0} (f : X → Y) (xs : List X) → length (map f xs) ≡ length xs
length-map f [] = refl
length-map f (x ∷ xs) = ap suc (length-map f xs)

pub bounded-by_rows : (rows : RowLists) (entries : List Entry) (event : Event) → HasEightBits event → IsBounded (rows_verdict rows entries event)
bounded-by_rows rows entries event fits =
    let small = rows-small rows entries event fits in
    record { routers = omega (arith, small.0); ids = small.0; fresh = omega (arith, small.1, length-map of_nobody (rows_fate rows entries event).fresh) }

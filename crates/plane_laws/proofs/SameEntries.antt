-- The rows' verdict depends on the entries of each port and router alone, so not on how those of several hosts are joined.
use Rattle.std.proofs.Common.{◌≡◌, ℕ, zero, suc, List, [], ◌∷◌, ◌++◌, Bool, true, false, not, Option, Some, None, refl, ap, sym, ◌∙◌}
use Rattle.std.specs.Prelude.{◌||◌, if◌then◌else◌}
use Rattle.std.specs.List.{list_any}
use Rattle.std.proofs.lemmas.List.Folds.{list_any-append}
use Rattle.plane_laws.proofs.EntriesLaw.{uses-append}
use Rattle.plane_laws.proofs.LandsLaw.{passage-same}
use Rattle.plane_laws.proofs.RouterTables.{routed-same}
use Rattle.api_types.specs.Ident.{Ident}
use Rattle.api_types.specs.RowsWith.{port_with}
use Rattle.api_types.specs.Owners.{is_router_port}
use Rattle.api_types.specs.RowLists.{RowLists}
use Rattle.api_types.specs.declared.group.Direction.{Direction}
use Rattle.api_types.specs.declared.group.Direction.TheVariants.{Egress, Ingress}
use Rattle.api_types.specs.declared.network.NetworkRow.{NetworkRow}
use Rattle.api_types.specs.declared.port.PortRow.{PortRow}
use Rattle.api_types.specs.declared.router.RouterRow.{RouterRow}
use Rattle.plane_types.specs.Entries.{has_flow, is_flow}
use Rattle.plane_types.specs.Filter.{rules_allow}
use Rattle.plane_types.specs.Guard.{passes_guard}
use Rattle.api_types.specs.Holders.{port_at, router_of}
use Rattle.plane_types.specs.Meaning.{Onward, Trace, fate_at_port, at_router, delivered_by, drop_fate, from_port, from_sender, from_wire, port_fate, after_router, life_of, may_begin, none_so_far, on_path, at_receiver, rows_fate, rows_passage, sent_out, wire_packet}
use Rattle.api_types.specs.Wires.{network_on}
use Rattle.plane_types.specs.Packets.{Packet, is_unsupported, key_of, packet}
use Rattle.api_types.specs.RouterRows.{leg_of, router_view}
use Rattle.plane_types.specs.Routing.{uses_at, uses_by}
use Rattle.plane_types.specs.declared.entry.Entry.{Entry}
use Rattle.plane_types.specs.declared.event.Event.{Event}
use Rattle.plane_types.specs.declared.event.Event.TheVariants.{FromPort, FromWire}
use Rattle.plane_types.specs.declared.frame.Frame.{Frame}
use Rattle.plane_types.specs.declared.frame.Frame.TheVariants.{Dhcp, Ip, NeighbourAsk, Other}
use Rattle.plane_types.specs.declared.frame.Key.{Key}
use Rattle.plane_types.specs.declared.verdict.DropCause.TheVariants.{Dead, Spoof, Unsupported}

pub record SameEntries (a b : List Entry) : Type 0 where
  pub flows : (p : Ident) (d : Direction) (k : Key) → has_flow a p d k ≡ has_flow b p d k
  pub uses : (r : Ident) (o : ℕ) → uses_at r o a ≡ uses_at r o b

module _ (rows : RowLists) (a b : List Entry) (same : SameEntries a b) where
  flows-more : (c : List Entry) (p : Ident) (d : Direction) (k : Key) → has_flow (a ++ c) p d k ≡ has_flow (b ++ c) p d k
  flows-more c p d k = list_any-append (is_flow p d k) a c ∙ ap (λ x. x || list_any (is_flow p d k) c) (same.flows p d k) ∙ sym (list_any-append (is_flow p d k) b c)

  uses-more : (c : List Entry) (snat : Bool) (o : Option ℕ) (r : Ident) → uses_by snat o r (a ++ c) ≡ uses_by snat o r (b ++ c)
  uses-more c false o r = refl
  uses-more c true None r = refl
  uses-more c true (Some o) r = uses-append r o a c ∙ ap (λ x. x ++ uses_at r o c) (same.uses r o) ∙ sym (uses-append r o b c)

  passage-more : (c : List Entry) (q : PortRow) (d : Direction) (p : Packet) → rows_passage rows (a ++ c) q d p ≡ rows_passage rows (b ++ c) q d p
  passage-more c q d p = passage-same q.secured (rules_allow rows q) (rules_allow rows q) (a ++ c) (b ++ c) q.id d (key_of p) (λ s d k. refl) (flows-more c q.id)

  arrived-same : (on : Onward) (q : PortRow) (p : Packet) (t : Trace) → fate_at_port rows a on q p t ≡ fate_at_port rows b on q p t
  arrived-same on q p t = go (is_router_port q.owner) (router_of rows q)
    where
      by : (o : Option RouterRow) → at_router rows a on q p t o ≡ at_router rows b on q p t o
      by None = refl
      by (Some r) = ap (after_router rows on r t) (routed-same (router_view rows r) (a ++ t.fresh) (b ++ t.fresh) (leg_of q) p (uses-more t.fresh (router_view rows r).snat (router_view rows r).gateway (router_view rows r).id))

      go : (c : Bool) (o : Option RouterRow) → (if c then at_router rows a on q p t o else at_receiver rows a q p t) ≡ (if c then at_router rows b on q p t o else at_receiver rows b q p t)
      go true o = by o
      go false o = ap (delivered_by q p t) (passage-more t.fresh q Ingress p)

  got-same : (many : ℕ) → port_fate rows a many ≡ port_fate rows b many
  unfolding port_fate
  got-same zero = refl
  got-same (suc many) = λ i q p t. (ap (λ on. fate_at_port rows a on q p t) (got-same many) ∙ arrived-same (port_fate rows b many) q p t) i

  port-same : (many : ℕ) (frame : Frame) (o : Option PortRow) → from_port rows a many frame o ≡ from_port rows b many frame o
  port-same many frame None = refl
  port-same many frame (Some p) = ap (λ f. if may_begin rows p then f else drop_fate none_so_far Dead) (ap (λ f. if is_unsupported frame then drop_fate (record { path = p.network ∷ []; fresh = [] }) Unsupported else if not (passes_guard p frame) then drop_fate (record { path = p.network ∷ []; fresh = [] }) Spoof else f) (sender frame))
    where
      t : Trace
      t = record { path = p.network ∷ []; fresh = [] }

      sender : (frame : Frame) → from_sender rows a many p (record { path = p.network ∷ []; fresh = [] }) frame ≡ from_sender rows b many p (record { path = p.network ∷ []; fresh = [] }) frame
      sender (Ip src dst ends ttl part) = ap (λ on. sent_out rows on p (packet src dst ends ttl part) (record { path = p.network ∷ []; fresh = [] }) (rows_passage rows (a ++ []) p Egress (packet src dst ends ttl part))) (got-same many) ∙ ap (sent_out rows (port_fate rows b many) p (packet src dst ends ttl part) (record { path = p.network ∷ []; fresh = [] })) (passage-more [] p Egress (packet src dst ends ttl part))
      sender (NeighbourAsk src ends) = refl
      sender (Dhcp src from) = refl
      sender (Other s d y) = refl

  wire-same : (many : ℕ) (frame : Frame) (o : Option NetworkRow) → from_wire rows a many frame o ≡ from_wire rows b many frame o
  wire-same many frame None = refl
  wire-same many (Ip src dst ends ttl part) (Some n) = by (port_at rows n.id dst)
    where
      by : (o : Option PortRow) → wire_packet rows a many n (packet src dst ends ttl part) o ≡ wire_packet rows b many n (packet src dst ends ttl part) o
      by None = refl
      by (Some q) = ap (λ on. on q (packet src dst ends ttl part) (on_path n)) (got-same many)
  wire-same many (NeighbourAsk src ends) (Some n) = refl
  wire-same many (Dhcp src from) (Some n) = refl
  wire-same many (Other s d y) (Some n) = refl

  pub verdict-same : (e : Event) → rows_fate rows a e ≡ rows_fate rows b e
  unfolding rows_fate
  verdict-same (FromPort port frame) = port-same (life_of frame) frame (port_with rows port)
  verdict-same (FromWire physical tag frame) = ap (λ v. if is_unsupported frame then drop_fate none_so_far Unsupported else v) (wire-same (life_of frame) frame (network_on rows (record { physical = physical; tag = tag })))

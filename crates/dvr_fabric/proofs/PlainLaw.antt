-- The rule of a router, over a copy, for what is neither for a floating address nor for its gateway
-- address: nothing is translated.
use Rattle.std.proofs.Common.{Bool, List, None, Option, Some, [], ap, false, not, refl, sym, true, ◌-◌, ◌∙◌, ◌≡◌}
use Rattle.std.specs.List.{list_any}
use Rattle.std.specs.Option.{unwrap_or}
use Rattle.std.specs.Prelude.{find, if◌then◌else◌, is_some, nat_le, option_and_then, option_map, ◌&&◌, ◌||◌}
use Rattle.api_types.proofs.NameLemmas.{ident_same}
use Rattle.api_types.specs.Ident.{Ident}
use Rattle.api_types.specs.RouterViews.{Leg, Way}
use Rattle.api_types.specs.Table.{ident_eq}
use Rattle.dvr_fabric.specs.Steps.{copy_drop, plain_handled, plain_out, plain_rule, plain_way}
use Rattle.dvr_laws.proofs.NearLaw.{destined-plain, kept}
use Rattle.dvr_types.specs.CopySteps.{CopyEnds, CopyStep, Handled, copy_at, copy_leg, copy_step, copy_view, handled_by, handled_here, is_interface_with, near_at, step_of_routing, step_out, step_toward}
use Rattle.dvr_types.specs.Near.{is_for_outer_address}
use Rattle.dvr_types.specs.declared.copies.Copies.{Copies}
use Rattle.dvr_types.specs.declared.copies.CopyPort.{CopyPort}
use Rattle.dvr_types.specs.declared.copies.RouterCopy.{RouterCopy}
use Rattle.net_addr.specs.declared.address.Addr.{Addr}
use Rattle.plane_laws.proofs.ListLemmas.{find-map, find-passes, find-some, some_of}
use Rattle.plane_types.specs.Ends.{destination}
use Rattle.plane_types.specs.Packets.{Packet}
use Rattle.plane_types.specs.Routing.{ByNothing, RouteEnds, Routed, Sourced, Use, best_way, is_own, new_destination, new_source, routed_out, routed_to, routed_way, routing_of, sending_of, uses_by}
use Rattle.plane_types.specs.TableStep.{ways_at}
use Rattle.plane_types.specs.declared.verdict.DropCause.TheVariants.{Expired, RouterDown}
use Rattle.plane_types.specs.declared.verdict.Outcome.TheVariants.{Absorbed, Dropped}

module _ (c : Copies) (r : RouterCopy) (p : Packet) (x : CopyPort) where
  abbrev us : List Use
  us = uses_by r.snat r.gateway r.router []

  abbrev on : Routed → Option CopyStep
  on o = step_of_routing c r o

  abbrev sent : CopyPort → Addr → CopyStep
  sent y hop = step_toward y.network (record p { src = y.mac; ttl = p.ttl - 1 }) (near_at c y.network hop)

  -- by a port that the route names
  out : (hop : Addr) (i : Ident) (o : Option CopyPort) → find (λ (y : CopyPort). ident_eq i y.port) r.ports ≡ o
      → on (routed_out (copy_view c r) us (copy_leg x) ByNothing (record p { ttl = p.ttl - 1 }) hop (option_map copy_leg o)) ≡ plain_out c hop p o
  out hop i None e = refl
  out hop i (Some y) e = by y.inside refl
    where
      again : find (λ (z : CopyPort). ident_eq y.port z.port) r.ports ≡ Some y
      again = ap (λ j. find (λ (z : CopyPort). ident_eq j z.port) r.ports) (sym (ident_same i y.port (find-passes (λ (z : CopyPort). ident_eq i z.port) r.ports y e))) ∙ e

      left : y.inside ≡ false → (o : Option Sourced) → on (sending_of (copy_leg y) hop o) ≡ None
      left k None = refl
      left k (Some s) = ap (λ b. if b then step_out c hop (record s.packet { src = y.mac }) (find (λ (z : CopyPort). ident_eq y.port z.port) r.ports) else None) k

      turned : (n : Bool) → (if true && n then Some (sent y hop) else None) ≡ (if not true || not n then None else Some (sent y hop))
      turned true = refl
      turned false = refl

      by : (b : Bool) → y.inside ≡ b → on (sending_of (copy_leg y) hop (new_source (copy_view c r) us (copy_leg x) (copy_leg y) ByNothing (record p { ttl = p.ttl - 1 }))) ≡ (if not y.inside || not (is_some y.number) then None else Some (sent y hop))
      by true k =
          ap (λ s. on (sending_of (copy_leg y) hop s)) (kept (copy_view c r) (λ (l : Leg). l.inside) (λ (l : Leg) h. h) (copy_leg x) us (copy_leg y) (record p { ttl = p.ttl - 1 }) k)
          ∙ ap (λ b. if b then step_out c hop (record p { src = y.mac; ttl = p.ttl - 1 }) (find (λ (z : CopyPort). ident_eq y.port z.port) r.ports) else None) k
          ∙ ap (step_out c hop (record p { src = y.mac; ttl = p.ttl - 1 })) again
          ∙ ap (λ b. if b && is_some y.number then Some (sent y hop) else None) k
          ∙ turned (is_some y.number)
          ∙ sym (ap (λ b. if not b || not (is_some y.number) then None else Some (sent y hop)) k)
      by false k =
          left k (new_source (copy_view c r) us (copy_leg x) (copy_leg y) ByNothing (record p { ttl = p.ttl - 1 }))
          ∙ sym (ap (λ b. if not b || not (is_some y.number) then None else Some (sent y hop)) k)

  way : (o : Option Way) → on (routed_way (copy_view c r) us (copy_leg x) ByNothing (record p { ttl = p.ttl - 1 }) o) ≡ plain_way c r p o
  way None = refl
  way (Some w) =
      ap (λ o. on (routed_out (copy_view c r) us (copy_leg x) ByNothing (record p { ttl = p.ttl - 1 }) (unwrap_or w.next (destination p.ends)) o)) (find-map (λ (l : Leg). ident_eq w.port l.port) copy_leg r.ports)
      ∙ out (unwrap_or w.next (destination p.ends)) w.port (find (λ (y : CopyPort). ident_eq w.port y.port) r.ports) refl

  abbrev after : Bool → Bool → Option CopyStep
  after own low = if own then Some (CopyEnds (Absorbed r.router) None) else if low then copy_drop Expired else plain_way c r p (best_way (destination p.ends) (ways_at r.router c.copy_routes))

  to : on (routed_to (copy_view c r) us (copy_leg x) (record { packet = p; by = ByNothing })) ≡ after (is_own (copy_view c r) (destination p.ends)) (nat_le p.ttl 1)
  to = go (is_own (copy_view c r) (destination p.ends)) (nat_le p.ttl 1)
    where
      go : (own low : Bool) → on (if own then RouteEnds (Absorbed r.router) else if low then RouteEnds (Dropped Expired) else routed_way (copy_view c r) us (copy_leg x) ByNothing (record p { ttl = p.ttl - 1 }) (best_way (destination p.ends) (ways_at r.router c.copy_routes))) ≡ after own low
      go true low = refl
      go false true = refl
      go false false = way (best_way (destination p.ends) (ways_at r.router c.copy_routes))

  pub plain-is : is_for_outer_address (copy_view c r) p ≡ false → on (routing_of (copy_view c r) [] (copy_leg x) p) ≡ plain_rule c r p
  unfolding routing_of
  plain-is e = go r.up
    where
      go : (b : Bool) → on (if not b then RouteEnds (Dropped RouterDown) else routed_to (copy_view c r) us (copy_leg x) (new_destination (copy_view c r) us p)) ≡ (if not b then copy_drop RouterDown else after (is_own (copy_view c r) (destination p.ends)) (nat_le p.ttl 1))
      go false = refl
      go true = ap (λ d. on (routed_to (copy_view c r) us (copy_leg x) d)) (destined-plain (copy_view c r) us p e) ∙ to

-- the copy that handles a packet
module _ (c : Copies) (n : Ident) (p : Packet) where
  abbrev handled : RouterCopy → CopyStep → Handled
  handled r s = record { router = r.router; step = s }

  pub none-handled : copy_at c n p.dst ≡ None → handled_here c n p ≡ None
  unfolding handled_here
  none-handled e = ap (handled_by c n p) e

  outer-unhandled : (r : RouterCopy) → copy_at c n p.dst ≡ Some r → is_for_outer_address (copy_view c r) p ≡ true → handled_here c n p ≡ None
  unfolding handled_here
  outer-unhandled r e outer = ap (handled_by c n p) e ∙ go (find (is_interface_with n p.dst) r.ports)
    where
      go : (o : Option CopyPort) → option_map (handled r) (option_and_then (copy_step c r p) o) ≡ None
      go None = refl
      go (Some x) = ap (λ b. option_map (handled r) (if b then None else step_of_routing c r (routing_of (copy_view c r) [] (copy_leg x) p))) outer

  plain-handled : (r : RouterCopy) → copy_at c n p.dst ≡ Some r → is_for_outer_address (copy_view c r) p ≡ false → handled_here c n p ≡ option_map (handled r) (plain_rule c r p)
  unfolding handled_here
  plain-handled r e inner =
      let has : list_any (is_interface_with n p.dst) r.ports ≡ true = find-passes (λ (z : RouterCopy). list_any (is_interface_with n p.dst) z.ports) c.copies r e in
      let x = some_of (find (is_interface_with n p.dst) r.ports) (find-some (is_interface_with n p.dst) r.ports ∙ has) in
      ap (handled_by c n p) e
      ∙ ap (λ o. option_map (handled r) (option_and_then (copy_step c r p) o)) x.1
      ∙ ap (λ b. option_map (handled r) (if b then None else step_of_routing c r (routing_of (copy_view c r) [] (copy_leg x.0) p))) inner
      ∙ ap (option_map (handled r)) (plain-is c r p x.0 inner)

  pub found-handled : (r : RouterCopy) → copy_at c n p.dst ≡ Some r → handled_here c n p ≡ plain_handled c r p
  found-handled r e = go (is_for_outer_address (copy_view c r) p) refl
    where
      go : (b : Bool) → is_for_outer_address (copy_view c r) p ≡ b → handled_here c n p ≡ (if b then None else option_map (handled r) (plain_rule c r p))
      go true outer = outer-unhandled r e outer
      go false inner = plain-handled r e inner

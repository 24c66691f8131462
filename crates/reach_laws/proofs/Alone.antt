-- A packet among routers that keep no entries: who gets it in the end, and that its ports don't matter there.
use Rattle.std.proofs.Common.{◌≡◌, ℕ, zero, suc, [], Bool, true, false, Option, Some, None, refl, ap, sym, ◌∙◌}
use Rattle.std.specs.Prelude.{option_and_then, if◌then◌else◌}
use Rattle.net_addr.specs.declared.address.Addr.{Addr}
use Rattle.api_types.specs.Holders.{router_of}
use Rattle.api_types.specs.Owners.{is_router_port}
use Rattle.api_types.specs.RouterRows.{leg_of, router_view}
use Rattle.api_types.specs.RouterViews.{Leg}
use Rattle.api_types.specs.RowLists.{RowLists}
use Rattle.api_types.specs.declared.port.PortRow.{PortRow}
use Rattle.api_types.specs.declared.router.RouterRow.{RouterRow}
use Rattle.plane_types.specs.Ends.{destination}
use Rattle.plane_types.specs.Packets.{Packet}
use Rattle.plane_types.specs.Routing.{RouteEnds, RouteSends, Routed, new_destination}
use Rattle.reach_laws.proofs.RouterSays.{Says, aimed, alone-says, routed_alone}
use Rattle.reach_laws.proofs.Walk.{Stops, aim, exit, is_end, landing, next_of, onward, onward_by, stepped, stops, then_by}

pub record Landing : Type 0 where
  pub port : PortRow
  pub packet : Packet

abbrev pub Alone : Type 0
Alone = PortRow → Packet → Option Landing

abbrev pub alone_to : Alone → Packet → Option PortRow → Option Landing
alone_to on p None = None
alone_to on p (Some q) = on q (record p { dst = q.mac })

abbrev pub alone_by : RowLists → Alone → RouterRow → Routed → Option Landing
alone_by rows on r (RouteEnds o) = None
alone_by rows on r (RouteSends made out hop p) = alone_to on p (landing rows r (out, hop))

abbrev pub alone_at : RowLists → Alone → PortRow → Packet → Option RouterRow → Option Landing
alone_at rows on q p None = None
alone_at rows on q p (Some r) = alone_by rows on r (routed_alone (router_view rows r) (leg_of q) p)

unfoldable pub alone : RowLists → ℕ → PortRow → Packet → Option Landing
alone rows zero q p = None
alone rows (suc many) q p = if is_router_port q.owner then alone_at rows (alone rows many) q p (router_of rows q) else Some (record { port = q; packet = p })

module _ (rows : RowLists) where
  -- who has it in the end is found at the end of its destination's way
  pub alone-stops : (many : ℕ) (q : PortRow) (p : Packet) (l : Landing) → alone rows many q p ≡ Some l → Stops rows q (destination p.ends)
  unfolding alone stops
  alone-stops zero q p l h = cc
  alone-stops (suc many) q p l h = go (is_router_port q.owner) refl h (alone-stops many)
    where
      Rest : Type 0
      Rest = (q : PortRow) (p : Packet) (l : Landing) → alone rows many q p ≡ Some l → Stops rows q (destination p.ends)

      x : Addr
      x = destination p.ends

      more : (z : PortRow) (y : Addr) → onward rows q x ≡ Some (z, y) → Stops rows z y → Stops rows q x
      more z y e rest = record { count = suc rest.count; is = ap (then_by (stops rows rest.count)) e ∙ rest.is }

      to : (r : RouterRow) → onward rows q x ≡ stepped (aim (router_view rows r) x) (next_of rows r (aim (router_view rows r) x)) → (out : Leg) (hop : Addr) (y : Packet)
          → destination y.ends ≡ aim (router_view rows r) x → exit (router_view rows r) (aim (router_view rows r) x) ≡ Some (out, hop)
          → (o : Option PortRow) → landing rows r (out, hop) ≡ o → alone_to (alone rows many) y o ≡ Some l → Rest → Stops rows q x
      to r on out hop y dest there None e h rest = cc
      to r on out hop y dest there (Some z) e h rest = more z (destination y.ends) step (rest z (record y { dst = z.mac }) l h)
        where
          step : onward rows q x ≡ Some (z, destination y.ends)
          step = on ∙ ap (λ o. stepped (aim (router_view rows r) x) (option_and_then (landing rows r) o)) there ∙ ap (stepped (aim (router_view rows r) x)) e ∙ ap (λ a. Some (z, a)) (sym dest)

      by : (r : RouterRow) → onward rows q x ≡ stepped (aim (router_view rows r) x) (next_of rows r (aim (router_view rows r) x)) → (w : Routed) → Says (router_view rows r) [] (new_destination (router_view rows r) [] p).packet w → alone_by rows (alone rows many) r w ≡ Some l → Rest → Stops rows q x
      by r on (RouteEnds o) s h rest = cc
      by r on (RouteSends made out hop y) s h rest =
          let same = aimed (router_view rows r) p in
          to r on out hop y (s.0 ∙ same) (ap (exit (router_view rows r)) (sym same) ∙ s.1) (landing rows r (out, hop)) refl h rest

      at : is_router_port q.owner ≡ true → (o : Option RouterRow) → router_of rows q ≡ o → alone_at rows (alone rows many) q p o ≡ Some l → Rest → Stops rows q x
      at t None e h rest = cc
      at t (Some r) e h rest = by r (ap (λ b. if b then onward_by rows x (router_of rows q) else None) t ∙ ap (onward_by rows x) e) (routed_alone (router_view rows r) (leg_of q) p) (alone-says (router_view rows r) (leg_of q) p) h rest

      go : (b : Bool) → is_router_port q.owner ≡ b → (if b then alone_at rows (alone rows many) q p (router_of rows q) else Some (record { port = q; packet = p })) ≡ Some l → Rest → Stops rows q x
      go false t h rest = record { count = zero; is = ap (λ b. is_end (if b then onward_by rows x (router_of rows q) else None)) t }
      go true t h rest = at t (router_of rows q) refl h rest

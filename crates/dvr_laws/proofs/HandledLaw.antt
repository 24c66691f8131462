-- What a copy does with a packet, on any host, is what the rows say that its router does, if the packet is near; otherwise it does nothing.
use Rattle.api_types.proofs.NameLemmas.{not_true}
use Rattle.api_types.specs.Holders.{holder, port_at, router_of}
use Rattle.api_types.specs.Ident.{Ident}
use Rattle.api_types.specs.Owners.{device_is}
use Rattle.api_types.specs.RouterRows.{leg_of, legs_of, router_view}
use Rattle.api_types.specs.RouterViews.{Leg}
use Rattle.api_types.specs.RowLists.{RowLists}
use Rattle.api_types.specs.Table.{ident_eq}
use Rattle.api_types.specs.declared.port.PortRow.{PortRow}
use Rattle.api_types.specs.declared.router.RouterRow.{RouterRow}
use Rattle.dvr_laws.proofs.CopyLaw.{copy-found, copy-none, copy-other, copy-view, is-copied, port-found}
use Rattle.dvr_laws.proofs.NearLaw.{NoneMade, near-routed, stays}
use Rattle.dvr_laws.proofs.NearRows.{near-located}
use Rattle.dvr_types.specs.Copies.{copies_for, copy_port, is_copied, is_vxlan_interface, near_row, router_copy}
use Rattle.dvr_types.specs.CopySteps.{CopyEnds, CopyStep, Handled, copy_step, copy_view, handled_by, handled_here, step_of_routing, step_out, step_toward}
use Rattle.dvr_types.specs.Near.{is_for_outer_address, is_near, is_vxlan_leg, stays_near}
use Rattle.dvr_types.specs.declared.copies.CopyPort.{CopyPort}
use Rattle.net_addr.specs.declared.address.Addr.{Addr}
use Rattle.plane_laws.proofs.Facts.{FrameFacts}
use Rattle.plane_laws.proofs.ListLemmas.{find-map}
use Rattle.plane_types.specs.Packets.{Packet}
use Rattle.plane_types.specs.Routing.{RouteEnds, RouteSends, Routed, routing_of}
use Rattle.plane_types.specs.declared.entry.Entry.{Entry}
use Rattle.plane_types.specs.declared.verdict.DropCause.TheVariants.{Unknown}
use Rattle.plane_types.specs.declared.verdict.Outcome.TheVariants.{Dropped}
use Rattle.std.proofs.Common.{Bool, List, None, Option, Some, [], ap, false, not, refl, sym, true, ℕ, ◌∙◌, ◌≡◌}
use Rattle.std.proofs.lemmas.Bool.{and_parts}
use Rattle.std.specs.Prelude.{find, if◌then◌else◌, option_and_then, option_map, ◌&&◌}

-- the way out of a packet that stays near, as the near rows of a host have it
abbrev pub near_out : RowLists → List ℕ → Addr → Packet → Option PortRow → CopyStep
near_out rows host hop p None = CopyEnds (Dropped Unknown) None
near_out rows host hop p (Some o) = step_toward o.network p (option_and_then (near_row rows host hop) (holder rows o.network hop))

abbrev pub near_step : RowLists → List ℕ → RouterRow → Routed → CopyStep
near_step rows host r (RouteEnds o) = CopyEnds o None
near_step rows host r (RouteSends made out hop p) = near_out rows host hop p (find (λ (x : PortRow). ident_eq out.port x.id) (legs_of rows r))

-- the test of a leg that stays near
abbrev pub leg_near : RowLists → RouterRow → Leg → Bool
leg_near rows r l = l.inside && is_vxlan_leg rows (find (λ (x : PortRow). ident_eq l.port x.id) (legs_of rows r))

pub leg-inside : (rows : RowLists) (r : RouterRow) (l : Leg) → leg_near rows r l ≡ true → l.inside ≡ true
leg-inside rows r l e = (and_parts l.inside (is_vxlan_leg rows (find (λ (x : PortRow). ident_eq l.port x.id) (legs_of rows r))) e).0

pub stays-same : (rows : RowLists) (r : RouterRow) (x : Routed) → stays (leg_near rows r) x ≡ stays_near rows r x
stays-same rows r (RouteEnds o) = refl
stays-same rows r (RouteSends made out hop p) = refl

abbrev pub handled_so : RouterRow → CopyStep → Handled
handled_so r s = record { router = r.id; step = s }

module _ (rows : RowLists) (good : FrameFacts rows) (host : List ℕ) (n : Ident) (p : Packet) where
  pub handled-none : port_at rows n p.dst ≡ None → handled_here (copies_for rows host) n p ≡ None
  unfolding handled_here
  handled-none e = ap (handled_by (copies_for rows host) n p) (copy-none rows good n p.dst e)

  pub handled-other : (q : PortRow) → port_at rows n p.dst ≡ Some q → is_vxlan_interface rows q ≡ false → handled_here (copies_for rows host) n p ≡ None
  unfolding handled_here
  handled-other q e far = ap (handled_by (copies_for rows host) n p) (copy-other rows good n p.dst q e far)

  module _ (q : PortRow) (at : port_at rows n p.dst ≡ Some q) (wide : is_vxlan_interface rows q ≡ true) (r : RouterRow) (router_is : router_of rows q ≡ Some r) where
    copied : is_copied rows r ≡ true
    copied = is-copied rows good n p.dst q at wide r router_is

    view : copy_view (copies_for rows host) (router_copy rows r) ≡ router_view rows r
    view = copy-view rows good host (λ (z : RouterRow). device_is q.device z.id) r router_is copied

    -- by its routed packet
    routed-step : (x : Routed) → step_of_routing (copies_for rows host) (router_copy rows r) x ≡ (if stays (leg_near rows r) x then Some (near_step rows host r x) else None)
    routed-step (RouteEnds o) = refl
    routed-step (RouteSends made out hop p2) = by (out.inside)
      where
        of_leg : (o : Option PortRow) → step_out (copies_for rows host) hop p2 (option_map (copy_port rows) o) ≡ (if is_vxlan_leg rows o then Some (near_out rows host hop p2 o) else None)
        of_leg None = refl
        of_leg (Some o) = ap (λ y. if is_vxlan_interface rows o then Some (step_toward o.network p2 y) else None) (near-located rows good host o.network hop)

        by : (b : Bool) → (if b then step_out (copies_for rows host) hop p2 (find (λ (x : CopyPort). ident_eq out.port x.port) (router_copy rows r).ports) else None) ≡ (if b && is_vxlan_leg rows (find (λ (x : PortRow). ident_eq out.port x.id) (legs_of rows r)) then Some (near_out rows host hop p2 (find (λ (x : PortRow). ident_eq out.port x.id) (legs_of rows r))) else None)
        by false = refl
        by true = ap (step_out (copies_for rows host) hop p2) (find-map (λ (x : CopyPort). ident_eq out.port x.port) (copy_port rows) (legs_of rows r)) ∙ of_leg (find (λ (x : PortRow). ident_eq out.port x.id) (legs_of rows r))

    abbrev of_rows : List Entry → Routed
    of_rows es = routing_of (router_view rows r) es (leg_of q) p

    step-by : (es : List Entry) → copy_step (copies_for rows host) (router_copy rows r) p (copy_port rows q) ≡ (if not (is_for_outer_address (router_view rows r) p) && stays_near rows r (of_rows es) then Some (near_step rows host r (of_rows es)) else None)
    step-by es =
        ap (λ v. if is_for_outer_address v p then None else step_of_routing (copies_for rows host) (router_copy rows r) (routing_of v [] (leg_of q) p)) view
        ∙ by (is_for_outer_address (router_view rows r) p) refl
      where
        chosen : (b : Bool) → stays (leg_near rows r) (of_rows es) ≡ b → stays (leg_near rows r) (of_rows []) ≡ b → (b ≡ true → of_rows es ≡ of_rows []) → (if stays (leg_near rows r) (of_rows []) then Some (near_step rows host r (of_rows [])) else None) ≡ (if stays_near rows r (of_rows es) then Some (near_step rows host r (of_rows es)) else None)
        chosen b e f same =
            ap (λ c. if c then Some (near_step rows host r (of_rows [])) else None) f
            ∙ last b same
            ∙ sym (ap (λ c. if c then Some (near_step rows host r (of_rows es)) else None) (sym (stays-same rows r (of_rows es)) ∙ e))
          where
            last : (b : Bool) → (b ≡ true → of_rows es ≡ of_rows []) → (if b then Some (near_step rows host r (of_rows [])) else None) ≡ (if b then Some (near_step rows host r (of_rows es)) else None)
            last false k = refl
            last true k = ap (λ x. Some (near_step rows host r x)) (sym (k refl))

        by : (b : Bool) → is_for_outer_address (router_view rows r) p ≡ b → (if b then None else step_of_routing (copies_for rows host) (router_copy rows r) (of_rows [])) ≡ (if not b && stays_near rows r (of_rows es) then Some (near_step rows host r (of_rows es)) else None)
        by true e = refl
        by false e =
            let s = near-routed (router_view rows r) (leg_near rows r) (leg-inside rows r) (leg_of q) es [] p e in
            routed-step (of_rows [])
            ∙ chosen (stays (leg_near rows r) (of_rows es)) refl (sym s.0) (λ t. (s.1 t).0)

    near-is : (es : List Entry) → is_near rows es r q p ≡ (not (is_for_outer_address (router_view rows r) p) && stays_near rows r (of_rows es))
    unfolding is_near
    near-is es = ap (λ b. b && not (is_for_outer_address (router_view rows r) p) && stays_near rows r (of_rows es)) wide

    pub handled-is : (es : List Entry) → handled_here (copies_for rows host) n p ≡ (if is_near rows es r q p then Some (handled_so r (near_step rows host r (of_rows es))) else None)
    unfolding handled_here
    handled-is es =
        ap (handled_by (copies_for rows host) n p) (copy-found rows good n p.dst q at wide r router_is)
        ∙ ap (λ x. option_map (handled_so r) (option_and_then (copy_step (copies_for rows host) (router_copy rows r) p) x)) (port-found rows good n p.dst q at wide r router_is)
        ∙ ap (option_map (handled_so r)) (step-by es)
        ∙ by (is_near rows es r q p) (sym (near-is es))
      where
        by : (b : Bool) → (not (is_for_outer_address (router_view rows r) p) && stays_near rows r (of_rows es)) ≡ b → option_map (handled_so r) (if not (is_for_outer_address (router_view rows r) p) && stays_near rows r (of_rows es) then Some (near_step rows host r (of_rows es)) else None) ≡ (if b then Some (handled_so r (near_step rows host r (of_rows es))) else None)
        by b e = ap (λ c. option_map (handled_so r) (if c then Some (near_step rows host r (of_rows es)) else None)) e ∙ last b
          where
            last : (b : Bool) → option_map (handled_so r) (if b then Some (near_step rows host r (of_rows es)) else None) ≡ (if b then Some (handled_so r (near_step rows host r (of_rows es))) else None)
            last false = refl
            last true = refl

    -- a near packet is sent on without entries
    pub near-made : (es : List Entry) → is_near rows es r q p ≡ true → (stays_near rows r (of_rows es) ≡ true) × NoneMade (of_rows es)
    near-made es e =
        let both = and_parts (not (is_for_outer_address (router_view rows r) p)) (stays_near rows r (of_rows es)) (sym (near-is es) ∙ e) in
        let s = near-routed (router_view rows r) (leg_near rows r) (leg-inside rows r) (leg_of q) es [] p (not_true (is_for_outer_address (router_view rows r) p) both.0) in
        (both.1, (s.1 (stays-same rows r (of_rows es) ∙ both.1)).1)

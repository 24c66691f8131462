-- Copies of routers, as every host has them, are the routers of the rows.
use Rattle.api_types.proofs.ListLemmas.{some_equal}
use Rattle.api_types.proofs.NameLemmas.{ident_itself, ident_same}
use Rattle.api_types.specs.Holders.{has_mac, port_at, router_of}
use Rattle.api_types.specs.Ident.{Ident}
use Rattle.api_types.specs.Live.{is_live, segment}
use Rattle.api_types.specs.Owners.{device_is, is_gateway, is_interface, is_router_port}
use Rattle.api_types.specs.RouterRows.{float_by, floats_of, gateway_address, has_snat, is_leg_of, leg_of, legs_of, router_view, ways_of}
use Rattle.api_types.specs.RouterViews.{Way}
use Rattle.api_types.specs.RowLists.{RowLists}
use Rattle.api_types.specs.RowsWith.{router_with}
use Rattle.api_types.specs.Table.{ident_eq}
use Rattle.api_types.specs.declared.floating.FloatingRow.{FloatingRow}
use Rattle.api_types.specs.declared.floating.Target.{Target}
use Rattle.api_types.specs.declared.port.PortRow.{PortRow}
use Rattle.api_types.specs.declared.router.RouterRow.{RouterRow}
use Rattle.dvr_types.specs.Copies.{copies_for, copy_float, copy_of_router, copy_port, floats_of_copies, is_copied, is_copied_router, is_vxlan_interface, is_vxlan_segment, router_copies, router_copy, routes_of_copies, vxlan_number}
use Rattle.dvr_types.specs.CopySteps.{copy_leg, copy_view, is_interface_with}
use Rattle.dvr_types.specs.declared.copies.RouterCopy.{RouterCopy}
use Rattle.plane_laws.proofs.Facts.{AtMostOne, FrameFacts}
use Rattle.plane_laws.proofs.ListLemmas.{AtMostOne-less, filter_map-one, find-filter, find-filter_map, find-map, find-none_filter_map, find-only, find-passes, find-some, list_any-found, list_any-map, some_of}
use Rattle.plane_laws.proofs.RouterLaw.{from-filter, passes-filter}
use Rattle.plane_types.specs.TableRows.{route_row}
use Rattle.plane_types.specs.TableStep.{floats_at_router, way_at, ways_at}
use Rattle.plane_types.specs.declared.table.RouteRow.{RouteRow}
use Rattle.std.proofs.Common.{Bool, List, None, Option, Some, [], ap, false, map, refl, subst, sym, true, ℕ, ◌∙◌, ◌∷◌, ◌≡◌}
use Rattle.std.proofs.lemmas.Bool.{and_from, and_parts}
use Rattle.std.specs.List.{cons_option, filter, filter_map, list_any}
use Rattle.std.specs.Prelude.{find, if◌then◌else◌, is_some, option_and_then, option_map, ◌&&◌, ◌==◌, ◌||◌}

ways_one : (i j : Ident) (b : Bool) → ident_eq i j ≡ b → (ws : List Way) → ways_at i (map (route_row j) ws) ≡ (if b then ws else [])
ways_one i j true e [] = refl
ways_one i j false e [] = refl
ways_one i j true e (w ∷ ws) = ap (λ b. cons_option (if b then Some w else None) (ways_at i (map (route_row j) ws))) e ∙ ap (λ vs. w ∷ vs) (ways_one i j true e ws)
ways_one i j false e (w ∷ ws) = ap (λ b. cons_option (if b then Some w else None) (ways_at i (map (route_row j) ws))) e ∙ ways_one i j false e ws

or_left : (a b : Bool) → a ≡ true → a || b ≡ true
or_left a b h = ap (λ c. c || b) h

legs_same : (rows : RowLists) (ps : List PortRow) → map copy_leg (map (copy_port rows) ps) ≡ map leg_of ps
legs_same rows [] = refl
legs_same rows (p ∷ ps) = ap (λ ls. leg_of p ∷ ls) (legs_same rows ps)

-- a copied router's view
module _ (rows : RowLists) (good : FrameFacts rows) (host : List ℕ) (test : RouterRow → Bool) (r : RouterRow) (found : find test rows.routers ≡ Some r) (copied : is_copied rows r ≡ true) where
  by_id : find (λ (z : RouterRow). ident_eq r.id z.id) rows.routers ≡ Some r
  by_id = find-only test (λ (z : RouterRow). ident_eq r.id z.id) rows.routers r (good.router_ids r.id) found (ident_itself r.id)

  ways_same : ways_at r.id (routes_of_copies rows) ≡ ways_of rows r
  unfolding routes_of_copies
  ways_same =
      filter_map-one (λ (z : RouterRow). ident_eq r.id z.id) (λ (x : RouteRow). if ident_eq r.id x.router then Some (way_at x) else None) (λ z. if is_copied rows z then map (route_row z.id) (ways_of rows z) else []) rows.routers r (good.router_ids r.id) by_id (λ z e. other z e (is_copied rows z))
      ∙ ap (λ b. ways_at r.id (if b then map (route_row r.id) (ways_of rows r) else [])) copied
      ∙ ways_one r.id r.id true (ident_itself r.id) (ways_of rows r)
    where
      other : (z : RouterRow) → ident_eq r.id z.id ≡ false → (b : Bool) → ways_at r.id (if b then map (route_row z.id) (ways_of rows z) else []) ≡ []
      other z e true = ways_one r.id z.id false e (ways_of rows z)
      other z e false = refl

  floats_all : (fs : List FloatingRow) → floats_at_router r.id (filter_map (λ (f : FloatingRow). copy_float rows f f.target) fs) ≡ filter_map (λ (f : FloatingRow). float_by r.id f f.target) fs
  floats_all [] = refl
  floats_all (f ∷ fs) = go f.target (floats_all fs)
    where
      go : (o : Option Target) → floats_at_router r.id (filter_map (λ (f : FloatingRow). copy_float rows f f.target) fs) ≡ filter_map (λ (f : FloatingRow). float_by r.id f f.target) fs → floats_at_router r.id (cons_option (copy_float rows f o) (filter_map (λ (f : FloatingRow). copy_float rows f f.target) fs)) ≡ cons_option (float_by r.id f o) (filter_map (λ (f : FloatingRow). float_by r.id f f.target) fs)
      go None h = h
      go (Some x) h = by (ident_eq r.id x.router) (is_copied_router rows (router_with rows x.router)) refl refl
        where
          by : (b c : Bool) → ident_eq r.id x.router ≡ b → is_copied_router rows (router_with rows x.router) ≡ c → floats_at_router r.id (cons_option (if c then Some (record { id = f.id; router = x.router; floating = f.address; fixed = x.fixed }) else None) (filter_map (λ (f : FloatingRow). copy_float rows f f.target) fs)) ≡ cons_option (if b then Some (record { floating = f.address; fixed = x.fixed }) else None) (filter_map (λ (f : FloatingRow). float_by r.id f f.target) fs)
          by true true e k = ap (λ b. cons_option (if b then Some (record { floating = f.address; fixed = x.fixed }) else None) (floats_at_router r.id (filter_map (λ (f : FloatingRow). copy_float rows f f.target) fs))) e ∙ ap (λ l. record { floating = f.address; fixed = x.fixed } ∷ l) h
          by false true e k = ap (λ b. cons_option (if b then Some (record { floating = f.address; fixed = x.fixed }) else None) (floats_at_router r.id (filter_map (λ (f : FloatingRow). copy_float rows f f.target) fs))) e ∙ h
          by false false e k = h
          by true false e k =
              let named : router_with rows x.router ≡ Some r = ap (λ i. router_with rows i) (sym (ident_same r.id x.router e)) ∙ by_id in
              let bad : true ≡ false = sym copied ∙ ap (is_copied_router rows) (sym named) ∙ k in
              cc

  floats_same : floats_at_router r.id (floats_of_copies rows) ≡ floats_of rows r
  unfolding floats_of_copies floats_of
  floats_same = floats_all rows.floatings

  pub copy-view : copy_view (copies_for rows host) (router_copy rows r) ≡ router_view rows r
  unfolding router_view
  copy-view =
      ap (λ ls. record { id = r.id; up = r.up; snat = has_snat r.gateway; gateway = gateway_address rows r; legs = ls; ways = ways_at r.id (routes_of_copies rows); floats = floats_at_router r.id (floats_of_copies rows) }) (legs_same rows (legs_of rows r))
      ∙ ap (λ ws. record { id = r.id; up = r.up; snat = has_snat r.gateway; gateway = gateway_address rows r; legs = map leg_of (legs_of rows r); ways = ws; floats = floats_at_router r.id (floats_of_copies rows) }) ways_same
      ∙ ap (λ fs. record { id = r.id; up = r.up; snat = has_snat r.gateway; gateway = gateway_address rows r; legs = map leg_of (legs_of rows r); ways = ways_of rows r; floats = fs }) floats_same

-- which copy has the interface with a MAC on a network
module _ (rows : RowLists) (good : FrameFacts rows) (n : Ident) (mac : ℕ) where
  abbrev on_copy : PortRow → Bool
  on_copy x = is_interface_with n mac (copy_port rows x)

  abbrev with_mac : RouterCopy → Bool
  with_mac r = list_any (is_interface_with n mac) r.ports

  one_mac : AtMostOne (has_mac rows n mac) rows.ports
  one_mac = AtMostOne-less (λ (p : PortRow). ident_eq n p.network && (p.mac == mac)) (has_mac rows n mac) rows.ports (λ p e. (and_parts (ident_eq n p.network && (p.mac == mac)) (is_live rows p) e).0) (good.macs n mac)

  -- what a copy's port says of the port
  pub dvr_of : (x : PortRow) → on_copy x ≡ true → ((ident_eq n x.network && (x.mac == mac)) ≡ true) × (is_vxlan_interface rows x ≡ true)
  dvr_of x e =
      let a = and_parts (ident_eq n x.network && (x.mac == mac) && is_interface x.owner) (is_some (vxlan_number (segment rows x.network))) e in
      let b = and_parts (ident_eq n x.network && (x.mac == mac)) (is_interface x.owner) a.0 in
      (b.0, and_from (is_interface x.owner) (is_some (vxlan_number (segment rows x.network))) b.1 a.1)

  -- and of a leg: it is the port with that MAC
  leg_with : (z : RouterRow) (x : PortRow) → find on_copy (legs_of rows z) ≡ Some x → (port_at rows n mac ≡ Some x) × (is_vxlan_interface rows x ≡ true) × (device_is x.device z.id ≡ true)
  unfolding legs_of
  leg_with z x e =
      let hit = dvr_of x (find-passes on_copy (filter (is_leg_of rows z) rows.ports) x e) in
      let leg : is_leg_of rows z x ≡ true = passes-filter on_copy (is_leg_of rows z) rows.ports x e in
      let parts = and_parts (is_router_port x.owner && device_is x.device z.id) (is_live rows x) leg in
      (from-filter on_copy (is_leg_of rows z) (has_mac rows n mac) rows.ports x e (and_from (ident_eq n x.network && (x.mac == mac)) (is_live rows x) hit.0 parts.1) one_mac, hit.1, (and_parts (is_router_port x.owner) (device_is x.device z.id) parts.0).1)

  -- so a copy that has it is that of its router
  copy_with : (z : RouterRow) → with_mac (router_copy rows z) ≡ true → (x : PortRow) × (port_at rows n mac ≡ Some x) × (is_vxlan_interface rows x ≡ true) × (device_is x.device z.id ≡ true)
  copy_with z e =
      let x = some_of (find on_copy (legs_of rows z)) (find-some on_copy (legs_of rows z) ∙ sym (list_any-map (is_interface_with n mac) (copy_port rows) (legs_of rows z)) ∙ e) in
      let l = leg_with z x.0 x.1 in
      (x.0, l.0, l.1, l.2)

  none_has : (o : Option PortRow) → port_at rows n mac ≡ o → ((x : PortRow) → o ≡ Some x → is_vxlan_interface rows x ≡ false) → find with_mac (router_copies rows) ≡ None
  unfolding router_copies
  none_has o e far = find-none_filter_map with_mac (copy_of_router rows) rows.routers (λ z y k. miss z y (is_copied rows z) k)
    where
      no : (z : RouterRow) (b : Bool) → with_mac (router_copy rows z) ≡ b → b ≡ false
      no z false k = refl
      no z true k =
          let x = copy_with z k in
          let bad : true ≡ false = sym x.2 ∙ far x.0 (sym e ∙ x.1) in
          cc

      miss : (z : RouterRow) (y : RouterCopy) (b : Bool) → (if b then Some (router_copy rows z) else None) ≡ Some y → with_mac y ≡ false
      miss z y false k = cc
      miss z y true k = let same : router_copy rows z ≡ y = cc in subst (λ c. with_mac c ≡ false) same (no z (with_mac (router_copy rows z)) refl)

  -- nobody, or no interface on a vxlan network
  pub copy-none : port_at rows n mac ≡ None → find with_mac (router_copies rows) ≡ None
  copy-none e = none_has None e (λ x k. absurd (never x k))
    where
      never : (x : PortRow) → None ≡ Some x → ⊥
      never x k = cc

  pub copy-other : (q : PortRow) → port_at rows n mac ≡ Some q → is_vxlan_interface rows q ≡ false → find with_mac (router_copies rows) ≡ None
  copy-other q e far = none_has (Some q) e (λ x k. same x k)
    where
      same : (x : PortRow) → Some q ≡ Some x → is_vxlan_interface rows x ≡ false
      same x k = let is : q ≡ x = cc in subst (λ (z : PortRow). is_vxlan_interface rows z ≡ false) is far

  module _ (q : PortRow) (at : port_at rows n mac ≡ Some q) (wide : is_vxlan_interface rows q ≡ true) (r : RouterRow) (router_is : router_of rows q ≡ Some r) where
    hit : has_mac rows n mac q ≡ true
    hit = find-passes (has_mac rows n mac) rows.ports q at

    parts : ((ident_eq n q.network && (q.mac == mac)) ≡ true) × (is_live rows q ≡ true)
    parts = and_parts (ident_eq n q.network && (q.mac == mac)) (is_live rows q) hit

    inside : is_interface q.owner ≡ true
    inside = (and_parts (is_interface q.owner) (is_vxlan_segment (segment rows q.network)) wide).0

    fits_port : on_copy q ≡ true
    fits_port = and_from (ident_eq n q.network && (q.mac == mac) && is_interface q.owner) (is_some (vxlan_number (segment rows q.network))) (and_from (ident_eq n q.network && (q.mac == mac)) (is_interface q.owner) parts.0 inside) (and_parts (is_interface q.owner) (is_vxlan_segment (segment rows q.network)) wide).1

    pub is_leg : is_leg_of rows r q ≡ true
    is_leg = and_from (is_router_port q.owner && device_is q.device r.id) (is_live rows q) (and_from (is_router_port q.owner) (device_is q.device r.id) (or_left (is_interface q.owner) (is_gateway q.owner) inside) (find-passes (λ (z : RouterRow). device_is q.device z.id) rows.routers r router_is)) parts.1

    pub leg_at_mac : find (has_mac rows n mac) (legs_of rows r) ≡ Some q
    unfolding legs_of
    leg_at_mac = find-filter (has_mac rows n mac) (is_leg_of rows r) rows.ports q one_mac at is_leg

    pub is-copied : is_copied rows r ≡ true
    is-copied = list_any-found (has_mac rows n mac) (is_vxlan_interface rows) (legs_of rows r) q leg_at_mac wide

    has : with_mac (router_copy rows r) ≡ true
    has = list_any-map (is_interface_with n mac) (copy_port rows) (legs_of rows r) ∙ list_any-found (has_mac rows n mac) on_copy (legs_of rows r) q leg_at_mac fits_port

    abbrev candidate : RouterRow → Bool
    candidate z = is_copied rows z && with_mac (router_copy rows z)

    one : AtMostOne candidate rows.routers
    one = AtMostOne-less (λ (z : RouterRow). device_is q.device z.id) candidate rows.routers mine (good.router_names q.device)
      where
        mine : (z : RouterRow) → candidate z ≡ true → device_is q.device z.id ≡ true
        mine z e =
            let x = copy_with z (and_parts (is_copied rows z) (with_mac (router_copy rows z)) e).1 in
            let same : x.0 ≡ q = some_equal x.0 q (sym x.1 ∙ at) in
            subst (λ (y : PortRow). device_is y.device z.id ≡ true) same x.3

    pub copy-found : find with_mac (router_copies rows) ≡ Some (router_copy rows r)
    unfolding router_copies
    copy-found =
        find-filter_map candidate with_mac (copy_of_router rows) rows.routers (λ z y e. asks z y (is_copied rows z) refl e) one
        ∙ ap (option_and_then (copy_of_router rows)) (find-only (λ (z : RouterRow). device_is q.device z.id) candidate rows.routers r one router_is (and_from (is_copied rows r) (with_mac (router_copy rows r)) is-copied has))
        ∙ ap (λ b. if b then Some (router_copy rows r) else None) is-copied
      where
        asks : (z : RouterRow) (y : RouterCopy) (b : Bool) → is_copied rows z ≡ b → (if b then Some (router_copy rows z) else None) ≡ Some y → with_mac y ≡ candidate z
        asks z y false k e = cc
        asks z y true k e = let same : router_copy rows z ≡ y = cc in subst (λ c. with_mac c ≡ candidate z) same (sym (ap (λ b. b && with_mac (router_copy rows z)) k))

    -- its port there
    pub port-found : find (is_interface_with n mac) (router_copy rows r).ports ≡ Some (copy_port rows q)
    port-found = find-map (is_interface_with n mac) (copy_port rows) (legs_of rows r) ∙ ap (option_map (copy_port rows)) leg_on
      where
        leg_on : find on_copy (legs_of rows r) ≡ Some q
        leg_on = by (find on_copy (legs_of rows r)) refl
          where
            by : (o : Option PortRow) → find on_copy (legs_of rows r) ≡ o → o ≡ Some q
            by None e =
                let bad : false ≡ true = ap is_some (sym e) ∙ find-some on_copy (legs_of rows r) ∙ list_any-found (has_mac rows n mac) on_copy (legs_of rows r) q leg_at_mac fits_port in
                cc
            by (Some x) e = sym (leg_with r x e).0 ∙ at

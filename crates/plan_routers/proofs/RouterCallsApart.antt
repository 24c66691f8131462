-- A tenant is told the same of routers that it makes, changes and takes out, wherever its footing is the same.
use Rattle.std.proofs.Common.{◌≡◌, ◌+◌, ◌<◌, ◌^◌, List, ◌∷◌, ◌++◌, Bool, true, false, cond, Option, Some, None, slice_get, refl, ap, sym, ◌∙◌, arith, map, not, subst, ℕ, []}
use Rattle.std.specs.Prelude.{◌&&◌, ◌||◌, codes, filter, find, is_some, option_and_then, option_map, if◌then◌else◌}
use Rattle.std.specs.List.{list_any}
use Rattle.std.specs.Option.{unwrap_or}
use Rattle.std.specs.Str.{bytes_eq}
use Rattle.net_addr.specs.Prefixes.{overlaps}
use Rattle.call_parts.specs.BodyNames.{unless_found}
use Rattle.call_parts.specs.Edits.{Drop, Put, accepted, made}
use Rattle.api_ipam.specs.FixedChoice.{addresses_of, gateway_addresses, gateway_euis}
use Rattle.api_types.specs.HeldAddresses.{address_taken}
use Rattle.api_ipam.specs.MacChoice.{expected_mac, free_mac}
use Rattle.api_policy.specs.Permits.{admin_only, owner_only}
use Rattle.api_policy.specs.Quotas.{over_quota}
use Rattle.plan_routers.specs.RouterCalls.{bad_first_gateway, changed_router, creation_refusal, deletion_refusal, gateway_added, gateway_edits, gateway_gone, gateway_name, gateway_network, gateway_port, gateway_replaced, kept_gateway, lost_gateway, new_gateway, new_router, old_snat, outer_addresses, outer_taken, router_added, router_changed, router_created, router_deleted, router_moved, router_replaced, router_updated, router_with, update_refusal, with_gateway}
use Rattle.api_types.specs.RouterWays.{interfaces_of, touches}
use Rattle.api_router.specs.RouterRules.{bad_gateway, bad_routes}
use Rattle.api_policy.specs.Seen.{router_seen}
use Rattle.api_policy.specs.Uses.{gateway_in_use, gateway_use, is_interface_of, leads_by, route_in_use, router_in_use, told_user, used_by_port}
use Rattle.api_policy.specs.Visibility.{is_own}
use Rattle.api_policy.specs.Routers.{gateway_object}
use Rattle.api_policy.specs.Shown.{shown_as}
use Rattle.api_policy.specs.Trees.{null_or}
use Rattle.apart_laws.specs.Footing.{Near, blank, blank_port, blank_router, footing, is_near}
use Rattle.api_types.specs.Given.{are_unlike, is_for_other, owner_of, value_or}
use Rattle.api_types.specs.Refusing.{first_refusal, needing, not_found, answer_alone, unless, when}
use Rattle.call_parts.specs.State.{State, drawing_at, is_last}
use Rattle.api_types.specs.Consistent.{IsConsistent}
use Rattle.api_types.specs.Ident.{Ident}
use Rattle.api_types.specs.Lists.{Each, is_empty}
use Rattle.api_types.specs.Outcome.{Outcome, Told}
use Rattle.api_types.specs.Owners.{is_interface, is_port_of}
use Rattle.api_types.specs.Printed.{NamedTree, NewRow, NoRow, OneRow, null}
use Rattle.api_types.specs.Registration.{Drawing, drawn_id, ident}
use Rattle.api_types.specs.RowLists.{RowLists}
use Rattle.api_types.specs.Table.{ident_eq, row_of}
use Rattle.api_types.specs.declared.call.Caller.{Caller}
use Rattle.api_types.specs.declared.call.IdText.{IdText}
use Rattle.api_types.specs.declared.floating.FloatingRow.{FloatingRow}
use Rattle.api_types.specs.declared.floating.Target.{Target}
use Rattle.api_types.specs.declared.form.GatewayAsked.{GatewayAsked}
use Rattle.api_types.specs.declared.form.Given.TheVariants.{Absent, Is, Null}
use Rattle.api_types.specs.declared.form.Given.{Given}
use Rattle.api_types.specs.declared.form.RouterForm.{RouterForm}
use Rattle.api_types.specs.declared.kind.Kind.TheVariants.{Floating as FloatingKind, Network as NetworkKind, Router as RouterKind}
use Rattle.api_types.specs.declared.kind.Row.TheVariants.{Router}
use Rattle.api_types.specs.declared.network.NetworkRow.{NetworkRow}
use Rattle.api_types.specs.declared.port.Fixed.{Fixed}
use Rattle.api_types.specs.declared.port.PortRow.{PortRow}
use Rattle.api_types.specs.declared.refusal.Refusal.TheVariants.{CountersSpent, InUse, Invalid, PoolsSpent}
use Rattle.api_types.specs.declared.refusal.Refusal.{Refusal}
use Rattle.api_types.specs.declared.refusal.UseRule.TheVariants.{RouterExternalGatewayInUseByFloatingIp, RouterInUse, RouterInterfaceInUseByRoute}
use Rattle.api_types.specs.declared.router.Gateway.{Gateway}
use Rattle.api_types.specs.declared.router.RouterRow.{RouterRow}
use Rattle.api_types.specs.declared.subnet.Hop.{Hop}
use Rattle.api_types.specs.declared.subnet.SubnetRow.{SubnetRow}
use Rattle.net_settings.specs.Settings.{SettingsParts}
use Rattle.row_laws.specs.Drawn.{IsDrawing}
use Rattle.api_types.proofs.ListLemmas.{and_both, any-filter_none, none-counted, none_some, or_none, some_equal}
use Rattle.api_types.proofs.NameLemmas.{bytes_same, ident_itself}
use Rattle.apart_laws.proofs.DrawnAlike.{counts_of, drawn_ids}
use Rattle.apart_laws.proofs.FootingLemmas.{named_near, named_same, near_alike, near_same, needing_by, not_admin, owner_own, port_id}
use Rattle.apart_laws.proofs.ListLemmas.{find-filter, find-map, find_here, or_right}
use Rattle.apart_laws.proofs.ApartLemmas.{first_same, none_at, then_alike, unless_same}
use Rattle.apart_laws.proofs.NearAlike.{chosen_alike, free_mac_same, then_named}
use Rattle.apart_laws.proofs.OwnAlike.{admin_passes, drawn_alike, own_here, quota_own, router_id, routers_found}
use Rattle.apart_laws.proofs.ReachAlike.{bad_hop_alike, floating_user_alike, interfaces_hold, lost_hop_alike, port_told, router_project, router_told, target_there}
use Rattle.apart_laws.proofs.ServedAlike.{fixed_alike, fixed_printed, gateway_alike, gateway_is, gateway_printed, is_served_for, port_served, router_printed, served_for}
use Rattle.api_policy.specs.Reserved.{snat_asked}
use Rattle.apart_laws.proofs.RouterAlike.{if_own, some_view, unless_found_alike}

-- the last row is found by its id, where no other has it
pub found_last : {R : Type 0} (test : R → Bool) (xs : List R) (x : R) → list_any test xs ≡ false → test x ≡ true → find test (xs ++ x ∷ []) ≡ Some x
found_last test [] x none passes = ap (λ b. cond b (Some x) None) passes
found_last test (a ∷ xs) x none passes = let both = or_none (test a) (list_any test xs) none in
    ap (λ b. cond b (Some a) (find test (xs ++ x ∷ []))) both.0 ∙ found_last test xs x both.1 passes

-- a router with a gateway, by what its port holds
abbrev outer_members : RouterRow → Ident → Ident → Bool → List Fixed → List NamedTree
outer_members r network port snat fixed = router_printed (with_gateway r network port snat) (fixed_printed (record { network = network; port = port; snat = snat }) fixed)

-- two networks that are found in both states, or none
by_both : {X V : Type 0} (view : X → V) (o p : Option X) → option_map view o ≡ option_map view p → (P : Option X → Option X → Type 0) → P None None
    → ((x y : X) → o ≡ Some x → p ≡ Some y → view x ≡ view y → P (Some x) (Some y)) → P o p
by_both view None None h P none some = none
by_both view None (Some y) h P none some = none_some (view y) _ h
by_both view (Some x) None h P none some = none_some (view x) _ (sym h)
by_both view (Some x) (Some y) h P none some = some x y refl refl (some_equal (view x) (view y) h)

-- the gateway that goes is one that was there, and the one that stays has its port
lost_is : (old new : Option Gateway) (g : Gateway) → lost_gateway old new ≡ Some g → old ≡ Some g
lost_is old None g h = h
lost_is old (Some kept) g h = none_some g _ h

kept_is : (old : Option Gateway) (asked : Given GatewayAsked) (k : Gateway) → kept_gateway old asked ≡ Some k → (g : Gateway) × (old ≡ Some g) × (k.port ≡ g.port)
kept_is old Absent k h = (k, h, refl)
kept_is old Null k h = none_some k _ h
kept_is None (Is a) k h = none_some k _ h
kept_is (Some g) (Is a) k h = (g, refl, by (ident_eq g.network a.network) h)
  where
    by : (b : Bool) → (if b then Some (record g { snat = unwrap_or a.snat g.snat }) else None) ≡ Some k → k.port ≡ g.port
    by true e = ap (λ (x : Gateway). x.port) (sym (some_equal (record g { snat = unwrap_or a.snat g.snat }) k e))
    by false e = none_some k _ e

module _ (settings : SettingsParts) (caller : Caller) (tenant : caller.admin ≡ false) (named : not (is_empty caller.project) ≡ true) (s t : State) (c : IsConsistent s.rows) (d : IsConsistent t.rows) (same : footing settings s caller ≡ footing settings t caller) where
  -- the network of a gateway

  networks_alike : (form : RouterForm) → option_map blank (gateway_network s.rows caller form) ≡ option_map blank (gateway_network t.rows caller form)
  networks_alike form = named_same settings caller s t same (gateway_name form)

  mac_alike : (n m : NetworkRow) → is_near s.rows caller n.id ≡ true → blank n ≡ blank m → free_mac s.rows.ports n.id ≡ free_mac t.rows.ports m.id
  mac_alike n m near alike = free_mac_same s.rows.ports t.rows.ports n.id (ap (λ (z : Near). z.macs) (near_same settings caller s t same n.id near)) ∙ ap (λ z. free_mac t.rows.ports z.id) alike

  taken_alike : (n m : NetworkRow) → is_near s.rows caller n.id ≡ true → blank n ≡ blank m → outer_taken s.rows n ≡ outer_taken t.rows m
  taken_alike n m near alike = let z = near_alike settings caller s t same n m near alike in let mac = mac_alike n m near alike in
      λ j. address_taken (z j).addresses (alike j).id (addresses_of (gateway_euis (expected_mac (mac j)) (z j).subnets))

  addresses_alike : (n m : NetworkRow) → is_near s.rows caller n.id ≡ true → blank n ≡ blank m → outer_addresses s.rows n ≡ outer_addresses t.rows m
  addresses_alike n m near alike = let z = near_alike settings caller s t same n m near alike in let mac = mac_alike n m near alike in
      λ j. gateway_addresses (λ x. not ((z j).addresses x)) (z j).subnets (expected_mac (mac j))

  found_near : (form : RouterForm) (n : NetworkRow) → gateway_network s.rows caller form ≡ Some n → is_near s.rows caller n.id ≡ true
  found_near form n found = named_near s.rows caller (gateway_name form) n found

  -- making a router

  first_alike : (form : RouterForm) (owner : List ℕ) → (is_for_other caller form.project_id form.tenant_id ≡ false → owner ≡ caller.project) → bad_first_gateway s.rows caller form owner ≡ bad_first_gateway t.rows caller form owner
  first_alike form owner mine = if_own (not caller.admin && is_for_other caller form.project_id form.tenant_id)
      (option_and_then (bad_gateway s.rows owner []) (gateway_network s.rows caller form)) (option_and_then (bad_gateway t.rows owner []) (gateway_network t.rows caller form))
      (λ own. let is = mine (not_admin caller.admin (is_for_other caller form.project_id form.tenant_id) tenant own) in
      subst (λ name. option_and_then (bad_gateway s.rows name []) (gateway_network s.rows caller form) ≡ option_and_then (bad_gateway t.rows name []) (gateway_network t.rows caller form)) (sym is)
      (then_named settings caller tenant s t same (gateway_name form) (bad_gateway s.rows caller.project []) (bad_gateway t.rows caller.project [])
      (λ n m found_n found_m alike. let z = near_alike settings caller s t same n m (found_near form n found_n) alike in
      (λ j. when (not (z j).external || list_any (λ (x : SubnetRow). false) (z j).subnets) (Invalid (codes "external_gateway_info"))))))

  -- a router without a gateway
  plain_alike : (form : RouterForm) (x y : Drawing) → counts_of x ≡ counts_of y
      → answer_alone (router_added caller x.rows (new_router settings form caller.project (drawn_id x 0)) (new_router settings form caller.project (drawn_id x 0)) [])
      ≡ answer_alone (router_added caller y.rows (new_router settings form caller.project (drawn_id y 0)) (new_router settings form caller.project (drawn_id y 0)) [])
  plain_alike form x y counts = λ j. Told (NewRow (shown_as RouterKind caller.admin [] (router_printed (new_router settings form caller.project (ident (counts j).0 ((counts j).1 + 0))) null)))

  -- the port of a new gateway is the one with its id
  gateway_found : (state : State) → IsConsistent state.rows → (many : ℕ) → 5 + many < 2 ^ 62 → (x : Drawing) → drawing_at state caller.project many ≡ Some x → (k : ℕ) → k < many → (keep : PortRow → Bool) (p : PortRow) → p.id ≡ drawn_id x k
      → row_of port_id p.id (filter keep x.rows.ports ++ p ∷ []) ≡ Some p
  gateway_found state e many room x at k less keep p is =
      let drawing : IsDrawing state.rows caller.project many x = (drawn_ids state caller.project many x e named room at).0 in
      found_last (λ (q : PortRow). ident_eq p.id q.id) (filter keep x.rows.ports) p
      (any-filter_none keep (λ (q : PortRow). ident_eq p.id q.id) x.rows.ports
      (ap (λ i. list_any (λ (q : PortRow). ident_eq i q.id) x.rows.ports) is
      ∙ none-counted (λ (q : PortRow). ident_eq (drawn_id x k) q.id) x.rows.ports (omega (arith, drawing.fresh k less))))
      (ident_itself p.id)

  keep_all : {R : Type 0} (xs : List R) → filter (λ x. true) xs ≡ xs
  keep_all [] = refl
  keep_all (x ∷ xs) = ap (λ ys. x ∷ ys) (keep_all xs)

  -- a router with one, as it is printed
  abbrev outer_printed : RouterRow → Ident → Ident → Bool → List Fixed → Outcome
  outer_printed r network port snat fixed = Told (NewRow (shown_as RouterKind caller.admin [] (outer_members r network port snat fixed)))

  abbrev added : RouterForm → NetworkRow → List Fixed → ℕ → Drawing → Outcome
  added form n fixed mac z = gateway_added caller z.rows (new_router settings form caller.project (drawn_id z 0))
      (gateway_port settings (new_router settings form caller.project (drawn_id z 0)) n (drawn_id z 1) mac fixed) (unwrap_or (snat_asked form) true)

  added_printed : (state : State) → IsConsistent state.rows → (form : RouterForm) (n : NetworkRow) (fixed : List Fixed) (mac : ℕ) (z : Drawing) → drawing_at state caller.project 2 ≡ Some z
      → answer_alone (added form n fixed mac z) ≡ outer_printed (new_router settings form caller.project (drawn_id z 0)) n.id (drawn_id z 1) (unwrap_or (snat_asked form) true) fixed
  added_printed state e form n fixed mac z at =
      ap (λ o. Told (NewRow (shown_as RouterKind caller.admin [] (router_printed (with_gateway r n.id (drawn_id z 1) snat) (gateway_printed (record { network = n.id; port = drawn_id z 1; snat = snat }) o)))))
      (ap (λ ps. row_of port_id (drawn_id z 1) (ps ++ p ∷ [])) (sym (keep_all z.rows.ports)) ∙ gateway_found state e 2 (omega arith) z at 1 (omega arith) (λ q. true) p refl)
    where
      r : RouterRow
      r = new_router settings form caller.project (drawn_id z 0)

      snat : Bool
      snat = unwrap_or (snat_asked form) true

      p : PortRow
      p = gateway_port settings r n (drawn_id z 1) mac fixed

  made_alike : (form : RouterForm) → answer_alone (router_with settings s caller form caller.project (gateway_network s.rows caller form)) ≡ answer_alone (router_with settings t caller form caller.project (gateway_network t.rows caller form))
  made_alike form = by_both blank (gateway_network s.rows caller form) (gateway_network t.rows caller form) (networks_alike form)
      (λ o p. answer_alone (router_with settings s caller form caller.project o) ≡ answer_alone (router_with settings t caller form caller.project p))
      (drawn_alike settings caller tenant s t same caller.project refl 1
      (λ drawing. router_added caller drawing.rows (new_router settings form caller.project (drawn_id drawing 0)) (new_router settings form caller.project (drawn_id drawing 0)) [])
      (λ drawing. router_added caller drawing.rows (new_router settings form caller.project (drawn_id drawing 0)) (new_router settings form caller.project (drawn_id drawing 0)) [])
      (λ x y at_x at_y counts. plain_alike form x y counts))
      (λ n m found_n found_m alike. let near = found_near form n found_n in
      chosen_alike settings caller tenant s t same (PoolsSpent n.id) (outer_addresses s.rows n) (outer_addresses t.rows m) (addresses_alike n m near alike)
      (free_mac s.rows.ports n.id) (free_mac t.rows.ports m.id) (mac_alike n m near alike) caller.project refl 2 (added form n) (added form m)
      (λ fixed mac x y at_x at_y counts. added_printed s c form n fixed mac x at_x
      ∙ ((λ j. outer_printed (new_router settings form caller.project (ident (counts j).0 ((counts j).1 + 0))) (alike j).id (ident (counts j).0 ((counts j).1 + 1)) (unwrap_or (snat_asked form) true) fixed)
      ∙ sym (added_printed t d form m fixed mac y at_y)))
      ∙ (λ j. answer_alone (needing (PoolsSpent (alike j).id) (outer_addresses t.rows m) (λ fixed.
      needing CountersSpent (free_mac t.rows.ports m.id) (λ mac. needing CountersSpent (drawing_at t caller.project 2) (added form m fixed mac))))))

  pub router_created_apart : (form : RouterForm) → answer_alone (router_created settings s caller form) ≡ answer_alone (router_created settings t caller form)
  router_created_apart form = unless_same (creation_refusal settings s.rows caller form owner) (creation_refusal settings t.rows caller form owner)
      (router_with settings s caller form owner (gateway_network s.rows caller form)) (router_with settings t caller form owner (gateway_network t.rows caller form)) refused
      (λ passes _. subst (λ name. answer_alone (router_with settings s caller form name (gateway_network s.rows caller form)) ≡ answer_alone (router_with settings t caller form name (gateway_network t.rows caller form)))
      (sym (own (none_at (refusals s) passes 3 admin refl))) (made_alike form))
    where
      owner : List ℕ
      owner = owner_of caller form.project_id form.tenant_id

      admin : Option Refusal
      admin = admin_only caller (is_some (snat_asked form) || is_for_other caller form.project_id form.tenant_id)

      mine : is_for_other caller form.project_id form.tenant_id ≡ false → owner ≡ caller.project
      mine h = owner_own caller form.project_id form.tenant_id h

      own : admin ≡ None → owner ≡ caller.project
      own passes = mine (or_none (is_some (snat_asked form)) (is_for_other caller form.project_id form.tenant_id)
          (admin_passes caller tenant (is_some (snat_asked form) || is_for_other caller form.project_id form.tenant_id) passes)).1

      unlike : Option Refusal
      unlike = when (are_unlike form.project_id form.tenant_id) (Invalid (codes "tenant_id"))

      found : State → Option Refusal
      found state = unless_found NetworkKind (gateway_name form) (gateway_network state.rows caller form)

      behind : State → List (Option Refusal)
      behind state = option_and_then (outer_taken state.rows) (gateway_network state.rows caller form) ∷ over_quota settings state.rows owner RouterKind ∷ []

      refusals : State → List (Option Refusal)
      refusals state = unlike ∷ bad_first_gateway state.rows caller form owner ∷ found state ∷ admin ∷ behind state

      refused : first_refusal (refusals s) ≡ first_refusal (refusals t)
      refused = first_same unlike unlike (bad_first_gateway s.rows caller form owner ∷ found s ∷ admin ∷ behind s) (bad_first_gateway t.rows caller form owner ∷ found t ∷ admin ∷ behind t) refl
          (λ _ _. first_same (bad_first_gateway s.rows caller form owner) (bad_first_gateway t.rows caller form owner) (found s ∷ admin ∷ behind s) (found t ∷ admin ∷ behind t) (first_alike form owner mine)
          (λ _ _. first_same (found s) (found t) (admin ∷ behind s) (admin ∷ behind t)
          (unless_found_alike NetworkKind (gateway_name form) (gateway_network s.rows caller form) (gateway_network t.rows caller form) (some_view blank (gateway_network s.rows caller form) (gateway_network t.rows caller form) (networks_alike form)))
          (λ _ _. first_same admin admin (behind s) (behind t) refl
          (λ passes _. let taken = then_named settings caller tenant s t same (gateway_name form) (outer_taken s.rows) (outer_taken t.rows) (λ n m found_n found_m alike. taken_alike n m (found_near form n found_n) alike) in
          let quota = quota_own settings caller tenant s t same owner (own passes) RouterKind in
          (λ j. first_refusal (taken j ∷ quota j ∷ []))))))

  -- a router that is seen

  pub router_found : (name : Option Ident) → option_map blank_router (router_seen s.rows caller name) ≡ option_map blank_router (router_seen t.rows caller name)
  router_found name = routers_found settings caller tenant s t same name

  pub router_here : (state : State) (name : Option Ident) (r : RouterRow) → router_seen state.rows caller name ≡ Some r → (k : ℕ) × (slice_get state.rows.routers k ≡ Some r) × (bytes_eq r.project caller.project ≡ true)
  router_here state name r found = own_here caller tenant router_id (λ (q : RouterRow). q.project) name state.rows.routers r found

  -- one of the caller's routers, which may differ in its host
  module _ (k l : ℕ) (r o : RouterRow) (at_s : slice_get s.rows.routers k ≡ Some r) (at_t : slice_get t.rows.routers l ≡ Some o) (own : bytes_eq r.project caller.project ≡ true) (one : blank_router r ≡ blank_router o) where
    is_mine : r.project ≡ caller.project
    is_mine = bytes_same r.project caller.project own

    is_mine_too : o.project ≡ caller.project
    is_mine_too = sym (ap (λ (x : RouterRow). x.project) one) ∙ is_mine

    -- the gateway that is asked for
    asked_alike : (form : RouterForm) → option_and_then (bad_gateway s.rows r.project (interfaces_of s.rows.ports r)) (gateway_network s.rows caller form)
        ≡ option_and_then (bad_gateway t.rows o.project (interfaces_of t.rows.ports o)) (gateway_network t.rows caller form)
    asked_alike form = ap (λ name. option_and_then (bad_gateway s.rows name (interfaces_of s.rows.ports r)) (gateway_network s.rows caller form)) is_mine
        ∙ (then_named settings caller tenant s t same (gateway_name form) (bad_gateway s.rows caller.project (interfaces_of s.rows.ports r)) (bad_gateway t.rows caller.project (interfaces_of t.rows.ports o))
        (λ n m found_n found_m alike. let z = near_alike settings caller s t same n m (found_near form n found_n) alike in
        (λ j. when (not (z j).external || list_any (λ (x : SubnetRow). touch x j) (z j).subnets) (Invalid (codes "external_gateway_info"))))
        ∙ sym (ap (λ name. option_and_then (bad_gateway t.rows name (interfaces_of t.rows.ports o)) (gateway_network t.rows caller form)) is_mine_too))
      where
        touch : (x : SubnetRow) → list_any (touches s.rows.subnets x.prefix) (interfaces_of s.rows.ports r) ≡ list_any (touches t.rows.subnets x.prefix) (interfaces_of t.rows.ports o)
        touch x = interfaces_hold settings caller tenant s t c d same k l r o at_s at_t own one (λ (y : SubnetRow). overlaps x.prefix y.prefix)

    routes_alike : (form : RouterForm) → bad_routes s.rows r form.routes ≡ bad_routes t.rows o form.routes
    routes_alike form = λ j. when (list_any (λ (hop : Hop). bad_hop_alike settings caller tenant s t c d same k l r o at_s at_t own one hop j) (value_or [] form.routes)) (Invalid (codes "routes"))

    -- the gateway that goes

    floating_in_use_alike : gateway_in_use s.rows caller r ≡ gateway_in_use t.rows caller o
    floating_in_use_alike = floating_user_alike settings caller tenant s t c d same (λ user. InUse RouterExternalGatewayInUseByFloatingIp RouterKind r.id user) (leads_by r.id) (leads_by o.id)
        (leads s c k r at_s own) (leads t d l o at_t (ap (λ name. bytes_eq name caller.project) (is_mine_too ∙ sym is_mine) ∙ own)) (λ i f at. ap (λ (x : RouterRow). leads_by x.id f) one)
        ∙ (λ j. option_map (λ (f : FloatingRow). InUse RouterExternalGatewayInUseByFloatingIp RouterKind (one j).id (told_user t.rows caller (Some (FloatingKind, f.id)))) (find (leads_by o.id) t.rows.floatings))
      where
        leads : (state : State) → IsConsistent state.rows → (i : ℕ) (x : RouterRow) → slice_get state.rows.routers i ≡ Some x → bytes_eq x.project caller.project ≡ true
            → Each (λ (f : FloatingRow). leads_by x.id f ≡ true → is_own caller f.project ≡ true) state.rows.floatings
        leads state e i x at mine m f at_f is = let there = target_there (λ (y : Target). ident_eq x.id y.router) f.target is in
            or_right caller.admin _ (ap (λ name. bytes_eq name caller.project) (sym (bytes_same x.project f.project (router_project state.rows e i x at m f at_f there.0 there.1 there.2))) ∙ mine)

    routes_use_alike : (routes : List Hop) (g : Gateway) → r.gateway ≡ Some g
        → option_and_then (route_in_use s.rows caller r routes) (row_of port_id g.port s.rows.ports) ≡ option_and_then (route_in_use t.rows caller o routes) (row_of port_id g.port t.rows.ports)
    routes_use_alike routes g has = then_alike (row_of port_id g.port s.rows.ports) (row_of port_id g.port t.rows.ports) blank_port (gateway_alike settings caller s t c d same k l r o at_s at_t own one g has)
        (route_in_use s.rows caller r routes) (route_in_use t.rows caller o routes)
        (λ p q found_s found_t alike.
        let here = find_here (λ (x : PortRow). ident_eq g.port x.id) s.rows.ports p found_s in
        let there = find_here (λ (x : PortRow). ident_eq g.port x.id) t.rows.ports q found_t in
        let of = (gateway_is s.rows caller c k r at_s own g has here.0 p here.1 here.2).1 in
        let user = router_told settings caller tenant s t c d same k l r o at_s at_t own one in
        (λ j. when (list_any (λ (hop : Hop). lost_hop_alike settings caller tenant s t c d same k l r o at_s at_t own one here.0 there.0 p q here.1 there.1 alike of hop j) routes) (InUse RouterInterfaceInUseByRoute RouterKind (one j).id (user j))))

    use_alike : (routes : List Hop) (new : Option Gateway) → gateway_use s.rows caller r routes (lost_gateway r.gateway new) ≡ gateway_use t.rows caller o routes (lost_gateway o.gateway new)
    use_alike routes new = by (lost_gateway r.gateway new) (λ g h. lost_is r.gateway new g h)
        ∙ ap (λ (x : RouterRow). gateway_use t.rows caller o routes (lost_gateway x.gateway new)) one
      where
        by : (lost : Option Gateway) → ((g : Gateway) → lost ≡ Some g → r.gateway ≡ Some g) → gateway_use s.rows caller r routes lost ≡ gateway_use t.rows caller o routes lost
        by None has = refl
        by (Some g) has = let routed = routes_use_alike routes g (has g refl) in λ j. first_refusal (routed j ∷ floating_in_use_alike j ∷ [])

    -- a new gateway, where none stays
    new_alike : (form : RouterForm) (kept : Option Gateway) → option_map blank (new_gateway (gateway_network s.rows caller form) kept) ≡ option_map blank (new_gateway (gateway_network t.rows caller form) kept)
    new_alike form None = networks_alike form
    new_alike form (Some g) = refl

    new_near : (form : RouterForm) (kept : Option Gateway) (n : NetworkRow) → new_gateway (gateway_network s.rows caller form) kept ≡ Some n → is_near s.rows caller n.id ≡ true
    new_near form None n found = found_near form n found
    new_near form (Some g) n found = none_some n _ found

    update_same : (form : RouterForm) → update_refusal s.rows caller form r (changed_router form r) ≡ update_refusal t.rows caller form o (changed_router form o)
    update_same form =
        let asked = asked_alike form in
        let routes = routes_alike form in
        let found = unless_found_alike NetworkKind (gateway_name form) (gateway_network s.rows caller form) (gateway_network t.rows caller form) (some_view blank (gateway_network s.rows caller form) (gateway_network t.rows caller form) (networks_alike form)) in
        let used = use_alike (changed_router form r).routes (changed_router form r).gateway
        ∙ ap (λ (x : RouterRow). gateway_use t.rows caller o (changed_router form x).routes (lost_gateway o.gateway (changed_router form x).gateway)) one in
        let kept = (changed_router form r).gateway in
        let taken = then_alike (new_gateway (gateway_network s.rows caller form) kept) (new_gateway (gateway_network t.rows caller form) kept) blank (new_alike form kept) (outer_taken s.rows) (outer_taken t.rows)
        (λ n m found_n found_m alike. taken_alike n m (new_near form kept n found_n) alike)
        ∙ ap (λ (x : RouterRow). option_and_then (outer_taken t.rows) (new_gateway (gateway_network t.rows caller form) (changed_router form x).gateway)) one in
        λ j. first_refusal (asked j ∷ routes j ∷ found j ∷ admin_only caller (is_some (snat_asked form)) ∷ owner_only caller (one j).project ∷ used j ∷ taken j ∷ [])

    -- without a new gateway: the one that stays has the port that it had
    stays_alike : (form : RouterForm) → answer_alone (router_replaced caller s.rows r (changed_router form r) (changed_router form r) []) ≡ answer_alone (router_replaced caller t.rows o (changed_router form o) (changed_router form o) [])
    stays_alike form = ap (λ gateway. Told (OneRow (shown_as RouterKind caller.admin [] (router_printed (changed_router form r) gateway)))) (by (changed_router form r).gateway (λ g h. kept_is r.gateway form.external_gateway_info g h))
        ∙ (λ j. Told (OneRow (shown_as RouterKind caller.admin [] (router_printed (changed_router form (one j))
        (null_or (gateway_object (after t o (one j).gateway (changed_router form (one j)).gateway)) (changed_router form (one j)).gateway)))))
      where
        after : State → RouterRow → Option Gateway → Option Gateway → RowLists
        after state x old kept = made state.rows (Put (Router (changed_router form x)) ∷ gateway_gone (lost_gateway old kept) ++ [])

        by : (kept : Option Gateway) → ((g : Gateway) → kept ≡ Some g → (h : Gateway) × (r.gateway ≡ Some h) × (g.port ≡ h.port))
            → null_or (gateway_object (after s r r.gateway kept)) kept ≡ null_or (gateway_object (after t o r.gateway kept)) kept
        by None has = refl
        by (Some g) has = let h = has g refl in
            ap (fixed_printed g) (fixed_alike (row_of port_id g.port s.rows.ports) (row_of port_id g.port t.rows.ports)
            (ap (λ i. option_map blank_port (row_of port_id i s.rows.ports)) h.2 ∙ (gateway_alike settings caller s t c d same k l r o at_s at_t own one h.0 h.1 ∙ sym (ap (λ i. option_map blank_port (row_of port_id i t.rows.ports)) h.2))))

    -- with a new gateway
    abbrev changed_outer : RouterRow → RouterForm → NetworkRow → List Fixed → ℕ → Drawing → Outcome
    changed_outer x form n fixed mac z = gateway_replaced caller z.rows x (changed_router form x) (gateway_port settings x n (drawn_id z 0) mac fixed) (unwrap_or (snat_asked form) (old_snat x.gateway))

    abbrev changed_printed : RouterRow → RouterForm → Ident → Ident → List Fixed → Outcome
    changed_printed x form network port fixed = Told (OneRow (shown_as RouterKind caller.admin [] (outer_members (changed_router form x) network port (unwrap_or (snat_asked form) (old_snat x.gateway)) fixed)))

    outer_printed_is : (state : State) → IsConsistent state.rows → (x : RouterRow) (form : RouterForm) (n : NetworkRow) (fixed : List Fixed) (mac : ℕ) (z : Drawing) → drawing_at state caller.project 1 ≡ Some z
        → answer_alone (changed_outer x form n fixed mac z) ≡ changed_printed x form n.id (drawn_id z 0) fixed
    outer_printed_is state e x form n fixed mac z at =
        ap (λ o. Told (OneRow (shown_as RouterKind caller.admin [] (router_printed (with_gateway new n.id (drawn_id z 0) snat) (gateway_printed (record { network = n.id; port = drawn_id z 0; snat = snat }) o)))))
        (by (lost_gateway x.gateway new.gateway))
      where
        new : RouterRow
        new = changed_router form x

        snat : Bool
        snat = unwrap_or (snat_asked form) (old_snat x.gateway)

        p : PortRow
        p = gateway_port settings x n (drawn_id z 0) mac fixed

        by : (lost : Option Gateway) → row_of port_id (drawn_id z 0) (made z.rows (Put (Router new) ∷ gateway_gone lost ++ gateway_edits new p snat)).ports ≡ Some p
        by None = ap (λ ps. row_of port_id (drawn_id z 0) (ps ++ p ∷ [])) (sym (keep_all z.rows.ports)) ∙ gateway_found state e 1 (omega arith) z at 0 (omega arith) (λ q. true) p refl
        by (Some g) = gateway_found state e 1 (omega arith) z at 0 (omega arith) (λ q. not (ident_eq g.port q.id)) p refl

    moved_alike : (form : RouterForm) (kept : Option Gateway) → answer_alone (router_moved settings s caller form r (changed_router form r) (new_gateway (gateway_network s.rows caller form) kept))
        ≡ answer_alone (router_moved settings t caller form o (changed_router form o) (new_gateway (gateway_network t.rows caller form) kept))
    moved_alike form kept = by_both blank (new_gateway (gateway_network s.rows caller form) kept) (new_gateway (gateway_network t.rows caller form) kept) (new_alike form kept)
        (λ found also. answer_alone (router_moved settings s caller form r (changed_router form r) found) ≡ answer_alone (router_moved settings t caller form o (changed_router form o) also))
        (unless_same (when (is_last s) CountersSpent) (when (is_last t) CountersSpent) (router_replaced caller s.rows r (changed_router form r) (changed_router form r) []) (router_replaced caller t.rows o (changed_router form o) (changed_router form o) [])
        (λ j. when (same j).is_last CountersSpent) (λ _ _. stays_alike form))
        (λ n m found_n found_m alike. let near = new_near form kept n found_n in
        chosen_alike settings caller tenant s t same (PoolsSpent n.id) (outer_addresses s.rows n) (outer_addresses t.rows m) (addresses_alike n m near alike)
        (free_mac s.rows.ports n.id) (free_mac t.rows.ports m.id) (mac_alike n m near alike) r.project is_mine 1 (changed_outer r form n) (changed_outer o form m)
        (λ fixed mac x y at_x at_y counts. outer_printed_is s c r form n fixed mac x at_x
        ∙ ((λ j. changed_printed (one j) form (alike j).id (ident (counts j).0 ((counts j).1 + 0)) fixed) ∙ sym (outer_printed_is t d o form m fixed mac y at_y)))
        ∙ (λ j. answer_alone (needing (PoolsSpent (alike j).id) (outer_addresses t.rows m) (λ fixed.
        needing CountersSpent (free_mac t.rows.ports m.id) (λ mac. needing CountersSpent (drawing_at t (one j).project 1) (changed_outer o form m fixed mac))))))

    changed_alike : (form : RouterForm) → answer_alone (router_changed settings s caller form r (changed_router form r)) ≡ answer_alone (router_changed settings t caller form o (changed_router form o))
    changed_alike form = unless_same (update_refusal s.rows caller form r (changed_router form r)) (update_refusal t.rows caller form o (changed_router form o))
        (router_moved settings s caller form r (changed_router form r) (new_gateway (gateway_network s.rows caller form) (changed_router form r).gateway))
        (router_moved settings t caller form o (changed_router form o) (new_gateway (gateway_network t.rows caller form) (changed_router form o).gateway))
        (update_same form)
        (λ _ _. moved_alike form (changed_router form r).gateway
        ∙ (λ j. answer_alone (router_moved settings t caller form o (changed_router form o) (new_gateway (gateway_network t.rows caller form) (changed_router form (one j)).gateway))))

    -- the first interface, which may be unseen

    interface_used : router_in_use s.rows caller r ≡ router_in_use t.rows caller o
    interface_used = map-same (find (is_interface_of r) s.rows.ports) (find (is_interface_of o) t.rows.ports)
        (served s c k r at_s own ∙ ((λ j. find (is_interface_of (one j)) (same j).served_ports) ∙ sym (served t d l o at_t (ap (λ name. bytes_eq name caller.project) (is_mine_too ∙ sym is_mine) ∙ own))))
        (used_by_port s.rows caller RouterInUse RouterKind r.id) (used_by_port t.rows caller RouterInUse RouterKind o.id)
        (λ p q found_s found_t alike. let here = find_here (is_interface_of r) s.rows.ports p found_s in let there = find_here (is_interface_of o) t.rows.ports q found_t in
        port_told settings caller tenant s t c d same here.0 there.0 p q here.1 there.1 alike RouterInUse RouterKind r.id ∙ ap (λ (x : RouterRow). used_by_port t.rows caller RouterInUse RouterKind x.id q) one)
      where
        map-same : {Y : Type 0} (a b : Option PortRow) → option_map blank_port a ≡ option_map blank_port b → (f g : PortRow → Y)
            → ((x y : PortRow) → a ≡ Some x → b ≡ Some y → blank_port x ≡ blank_port y → f x ≡ g y) → option_map f a ≡ option_map g b
        map-same None None alike f g e = refl
        map-same None (Some y) alike f g e = none_some (blank_port y) _ alike
        map-same (Some x) None alike f g e = none_some (blank_port x) _ (sym alike)
        map-same (Some x) (Some y) alike f g e = ap Some (e x y refl refl (some_equal (blank_port x) (blank_port y) alike))

        served : (state : State) → IsConsistent state.rows → (i : ℕ) (x : RouterRow) → slice_get state.rows.routers i ≡ Some x → bytes_eq x.project caller.project ≡ true
            → option_map blank_port (find (is_interface_of x) state.rows.ports) ≡ find (is_interface_of x) (map blank_port (served_for state.rows caller.project))
        served state e i x at mine = ap (option_map blank_port) (sym (find-filter (is_served_for state.rows caller.project) (is_interface_of x) state.rows.ports
            (λ m p at_p of. port_served state.rows caller e i x at mine p (and_both (is_interface p.owner) (is_port_of x p) of).1)))
            ∙ sym (find-map (is_interface_of x) blank_port (served_for state.rows caller.project))

  pub router_updated_apart : (name : IdText) (form : RouterForm) → answer_alone (router_updated settings s caller name form) ≡ answer_alone (router_updated settings t caller name form)
  router_updated_apart name form = needing_by (not_found RouterKind name.text) (router_seen s.rows caller name.id) (router_seen t.rows caller name.id)
      (λ r. router_changed settings s caller form r (changed_router form r)) (λ r. router_changed settings t caller form r (changed_router form r)) blank_router (router_found name.id)
      (λ r o found_s found_t one. let here = router_here s name.id r found_s in let there = router_here t name.id o found_t in changed_alike here.0 there.0 r o here.1 there.1 here.2 one form)

  pub router_deleted_apart : (name : IdText) → answer_alone (router_deleted s caller name) ≡ answer_alone (router_deleted t caller name)
  router_deleted_apart name = needing_by (not_found RouterKind name.text) (router_seen s.rows caller name.id) (router_seen t.rows caller name.id)
      (λ r. unless (deletion_refusal s caller r) (accepted s.rows (gateway_gone r.gateway ++ Drop RouterKind r.id ∷ []) (λ rows. NoRow)))
      (λ r. unless (deletion_refusal t caller r) (accepted t.rows (gateway_gone r.gateway ++ Drop RouterKind r.id ∷ []) (λ rows. NoRow))) blank_router (router_found name.id)
      (λ r o found_s found_t one. let here = router_here s name.id r found_s in let there = router_here t name.id o found_t in
      unless_same (deletion_refusal s caller r) (deletion_refusal t caller o) (accepted s.rows (gateway_gone r.gateway ++ Drop RouterKind r.id ∷ []) (λ rows. NoRow)) (accepted t.rows (gateway_gone o.gateway ++ Drop RouterKind o.id ∷ []) (λ rows. NoRow))
      (let used = interface_used here.0 there.0 r o here.1 there.1 here.2 one in (λ j. first_refusal (owner_only caller (one j).project ∷ used j ∷ when (same j).is_last CountersSpent ∷ [])))
      (λ _ _. refl))

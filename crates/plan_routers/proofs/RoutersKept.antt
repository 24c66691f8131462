-- Accepted calls that make or change a router keep rows consistent, where each subnet's prefix is one.
use Rattle.std.proofs.Common.{◌≡◌, ◌≤◌, ◌<◌, ◌+◌, ◌∙◌, ◌++◌, ℕ, List, [], ◌∷◌, Bool, true, false, cond, Option, Some, None, slice_get, length, refl, ap, sym, subst, arith, lit<, ◌^◌}
use Rattle.std.specs.Prelude.{find, if◌then◌else◌, option_and_then, not, nat_le, count_by, codes, is_some, unwrap_or, ◌&&◌, ◌||◌, ◌==◌}
use Rattle.std.specs.List.{list_any, list_all}
use Rattle.net_settings.specs.Settings.{SettingsParts}
use Rattle.api_types.specs.Ident.{Ident}
use Rattle.api_types.specs.Lists.{Each, is_empty, is_some_so}
use Rattle.api_types.specs.Outcome.{Moved, Outcome}
use Rattle.api_types.specs.Owners.{is_interface, is_port_of}
use Rattle.api_types.specs.Printed.{Reply}
use Rattle.api_types.specs.Registration.{Drawing, drawn_id}
use Rattle.api_types.specs.RowLists.{RowLists}
use Rattle.api_types.specs.Table.{ident_eq, row_of}
use Rattle.api_types.specs.Consistent.{IsConsistent}
use Rattle.api_types.specs.Consistent.NextHops.{is_reached}
use Rattle.api_types.specs.declared.call.Caller.{Caller}
use Rattle.api_types.specs.declared.call.IdText.{IdText}
use Rattle.api_types.specs.declared.floating.Target.{Target}
use Rattle.api_types.specs.declared.form.Given.{Given}
use Rattle.api_types.specs.declared.form.Given.TheVariants.{Absent, Is, Null}
use Rattle.api_types.specs.declared.network.NetworkRow.{NetworkRow}
use Rattle.api_types.specs.declared.port.Fixed.{Fixed}
use Rattle.api_types.specs.declared.port.PortRow.{PortRow}
use Rattle.api_types.specs.declared.router.Gateway.{Gateway}
use Rattle.api_types.specs.declared.router.RouterRow.{RouterRow}
use Rattle.api_types.specs.declared.subnet.Hop.{Hop}
use Rattle.api_types.specs.declared.subnet.SubnetRow.{SubnetRow}
use Rattle.api_policy.specs.Visibility.{is_own, sees_network}
use Rattle.api_types.specs.Given.{value_or, are_unlike, is_for_other, owner_of}
use Rattle.api_types.specs.Refusing.{needing, not_found, when}
use Rattle.call_parts.specs.State.{State, drawing_at, is_last}
use Rattle.kept_laws.proofs.OutcomeLemmas.{found_at, moved_rows, named_is, needing_moved, none_first, not_when, unfound, unless_moved}
use Rattle.std.proofs.lemmas.Bool.Decides.{nat_tests}
use Rattle.net_addr.specs.Prefixes.{IsPrefix}
use Rattle.api_types.specs.Consistent.Numbered.{times_in}
use Rattle.api_types.specs.Sharing.{is_external_to}
use Rattle.api_types.specs.declared.call.Call.TheVariants.{Create, Update}
use Rattle.api_types.specs.declared.form.Form.TheVariants.{Router as RouterOf}
use Rattle.api_types.specs.declared.form.RouterForm.{RouterForm}
use Rattle.api_types.specs.declared.kind.Kind.TheVariants.{Network as NetworkKind, Router as RouterKind}
use Rattle.api_types.specs.declared.kind.Row.TheVariants.{Router}
use Rattle.api_types.specs.declared.refusal.PolicyRule.TheVariants.{AdminOnly}
use Rattle.api_types.specs.declared.refusal.Refusal.TheVariants.{CountersSpent, Forbidden, Invalid, PoolsSpent}
use Rattle.api_types.specs.declared.refusal.UseRule.TheVariants.{RouterExternalGatewayInUseByFloatingIp}
use Rattle.api_ml2.specs.Carrying.{carries}
use Rattle.kept_laws.proofs.TypedKept.{HaveKept, drawing_typed}
use Rattle.call_parts.specs.Typed.{AreTyped}
use Rattle.api_ml2.specs.Placement.{host_or_none}
use Rattle.plan_routers.proofs.RouterLeaves.{fewer_carried, fewer_small}
use Rattle.row_laws.specs.Drawn.{IsDrawing}
use Rattle.row_laws.specs.Gateways.{ports_without}
use Rattle.row_laws.specs.NewRows.{with_router}
use Rattle.api_types.specs.RouterWays.{other_ports, interfaces_of, touches}
use Rattle.api_types.proofs.IdLemmas.{fresh-push}
use Rattle.row_laws.proofs.TimesLemmas.{times-router}
use Rattle.api_types.proofs.ListLemmas.{and_both, any-filter_none, any-none, at_filter, false_true, filter-any, none-any, none_some, or_none, sum-filter-le, each-push}
use Rattle.api_types.proofs.NameLemmas.{and_fails, by_test, count-set, ident_same}
use Rattle.row_laws.proofs.PlaceLemmas.{drawable, has_name, router_drawable}
use Rattle.row_laws.proofs.PortLeaves.{if_some-at}
use Rattle.row_laws.proofs.Service.RouterOff.{set_there}
use Rattle.row_laws.proofs.RouterPushed.{router_pushed, unnamed_port}
use Rattle.call_parts.specs.BodyNames.{unless_found}
use Rattle.call_parts.specs.Edits.{Add, Put, made}
use Rattle.api_ipam.specs.FixedChoice.{addresses_of, gateway_addresses, gateway_euis}
use Rattle.api_types.specs.HeldAddresses.{address_taken, is_address_held, is_mac_held, subnets_on}
use Rattle.call_parts.specs.InForm.{IsFormed, are_hops, are_owners, is_few, is_router_body}
use Rattle.api_ipam.specs.MacChoice.{expected_mac, free_mac}
use Rattle.api_policy.specs.Permits.{admin_only, owner_only}
use Rattle.api_policy.specs.Quotas.{over_quota}
use Rattle.plan_routers.specs.RouterCalls.{bad_first_gateway, changed_router, creation_refusal, gateway_added, gateway_edits, gateway_gone, gateway_name, gateway_network, gateway_port, gateway_replaced, kept_gateway, lost_gateway, new_gateway, new_router, old_snat, outer_addresses, outer_mac, outer_taken, router_added, router_changed, router_created, router_moved, router_replaced, router_updated, router_with, update_refusal, with_gateway}
use Rattle.api_router.specs.RouterRules.{bad_gateway, bad_routes, overlaps_interface}
use Rattle.api_policy.specs.Seen.{router_seen}
use Rattle.api_policy.specs.Uses.{gateway_in_use, gateway_use, leads_by, route_in_use, used_by_floating}
use Rattle.kept_laws.proofs.CallLemmas.{not_none, refused_at, router_put, unmapped, none_for_other}
use Rattle.kept_laws.proofs.GatewayChosen.{AreChosen, chosen_less, gateway_chosen}
use Rattle.plan_routers.proofs.RouteLemmas.{given_reached, others_reach}
use Rattle.plan_routers.proofs.RouterChanges.{IsChangeable, change_is, change_kept, gateway_made_kept, with_change}
use Rattle.kept_laws.proofs.ServiceMade.{bound_carried, carried_drawn, drawing_is, free_mac_is, made_small_mac}
use Rattle.row_laws.proofs.PortPushed as pushed
use Rattle.api_policy.specs.Reserved.{snat_asked}
use Rattle.call_parts.proofs.OwnerLemmas.{owner_named}

-- routes that a body gives, or those that there are

routes_few : (old : List Hop) (given : Given (List Hop)) → nat_le (length old) 30 ≡ true → is_few 30 given ≡ true → nat_le (length (value_or old given)) 30 ≡ true
routes_few old Absent h few = h
routes_few old Null h few = h
routes_few old (Is hops) h few = few

routes_reached : (test : Hop → Bool) (old : List Hop) (given : Given (List Hop)) → list_all test old ≡ true → list_all test (value_or [] given) ≡ true → list_all test (value_or old given) ≡ true
routes_reached test old Absent h good = h
routes_reached test old Null h good = h
routes_reached test old (Is hops) h good = good

-- what is there is found
find_there : {R : Type 0} (test : R → Bool) (xs : List R) → list_any test xs ≡ true → (x : R) × (find test xs ≡ Some x)
find_there test [] h = false_true _ h
find_there {R} test (x ∷ xs) h = by (test x) h (λ g. find_there test xs g)
  where
    by : (b : Bool) → b || list_any test xs ≡ true → (list_any test xs ≡ true → (y : R) × (find test xs ≡ Some y)) → (y : R) × ((cond b (Some x) (find test xs)) ≡ Some y)
    by true g rest = (x, refl)
    by false g rest = rest g

lost_was : (a b : Option Gateway) (g : Gateway) → lost_gateway a b ≡ Some g → a ≡ Some g
lost_was a None g h = h
lost_was a (Some k) g h = none_some g _ h

-- where the uses of a gateway that goes refuse nothing

module _ (rows : RowLists) (c : IsConsistent rows) (caller : Caller) (place : ℕ) (old : RouterRow) (at : slice_get rows.routers place ≡ Some old) (routes : List Hop) (g : Gateway) (has : old.gateway ≡ Some g) (unused : gateway_use rows caller old routes (Some g) ≡ None) where
  uses : (option_and_then (route_in_use rows caller old routes) (row_of (λ p. p.id) g.port rows.ports) ≡ None) × (gateway_in_use rows caller old ≡ None)
  uses =
      let first = none_first (option_and_then (route_in_use rows caller old routes) (row_of (λ p. p.id) g.port rows.ports)) (gateway_in_use rows caller old ∷ []) unused in
      (first.0, (none_first (gateway_in_use rows caller old) [] first.1).0)

  unled_by : list_any (λ f. is_some_so (λ (t : Target). ident_eq old.id t.router) f.target) rows.floatings ≡ false
  unled_by = any-none (leads_by old.id) rows.floatings (unfound (leads_by old.id) rows.floatings
      (unmapped (used_by_floating rows caller RouterExternalGatewayInUseByFloatingIp old) (find (leads_by old.id) rows.floatings) uses.1))

  still_reached : list_all (is_reached rows.subnets rows.ports old) routes ≡ true → list_all (is_reached rows.subnets (other_ports g.port rows.ports) old) routes ≡ true
  still_reached reached =
      let there = find_there (λ p. ident_eq g.port p.id) rows.ports (if_some-at (λ (k : Gateway). list_any (λ p. ident_eq k.port p.id) rows.ports) old.gateway g has (c.named.ports.of_gateways place old at)) in
      let p : PortRow = there.0 in
      let here = found_at (λ p. ident_eq g.port p.id) rows.ports p there.1 in
      subst (λ i. list_all (is_reached rows.subnets (other_ports i rows.ports) old) routes ≡ true) (sym (ident_same g.port p.id here.2))
      (others_reach rows c caller old routes here.0 p here.1 reached (refused_at (route_in_use rows caller old routes) (row_of (λ p. p.id) g.port rows.ports) p there.1 uses.0))

pub record IsUpdatable (rows : RowLists) (caller : Caller) (form : RouterForm) (old new : RouterRow) : Type 0 where
  pub good : option_and_then (bad_gateway rows old.project (interfaces_of rows.ports old)) (gateway_network rows caller form) ≡ None
  pub routed : bad_routes rows old form.routes ≡ None
  pub unused : gateway_use rows caller old new.routes (lost_gateway old.gateway new.gateway) ≡ None
  pub untaken : option_and_then (outer_taken rows) (new_gateway (gateway_network rows caller form) new.gateway) ≡ None

updatable_is : (rows : RowLists) (caller : Caller) (form : RouterForm) (old new : RouterRow) → update_refusal rows caller form old new ≡ None → IsUpdatable rows caller form old new
updatable_is rows caller form old new h =
    let taken = option_and_then (outer_taken rows) (new_gateway (gateway_network rows caller form) new.gateway) in
    let uses = gateway_use rows caller old new.routes (lost_gateway old.gateway new.gateway) in
    let own = owner_only caller old.project in
    let admin = admin_only caller (is_some (snat_asked form)) in
    let found = unless_found NetworkKind (gateway_name form) (gateway_network rows caller form) in
    let routes = bad_routes rows old form.routes in
    let gateway = option_and_then (bad_gateway rows old.project (interfaces_of rows.ports old)) (gateway_network rows caller form) in
    let first = none_first gateway (routes ∷ found ∷ admin ∷ own ∷ uses ∷ taken ∷ []) h in
    let second = none_first routes (found ∷ admin ∷ own ∷ uses ∷ taken ∷ []) first.1 in
    let third = none_first found (admin ∷ own ∷ uses ∷ taken ∷ []) second.1 in
    let fourth = none_first admin (own ∷ uses ∷ taken ∷ []) third.1 in
    let fifth = none_first own (uses ∷ taken ∷ []) fourth.1 in
    let sixth = none_first uses (taken ∷ []) fifth.1 in
    record { good = first.0; routed = second.0; unused = sixth.0; untaken = (none_first taken [] sixth.1).0 }

-- what the refusals say of routes and of the gateway that goes
changeable : (rows : RowLists) (c : IsConsistent rows) (caller : Caller) (form : RouterForm) (place : ℕ) (old : RouterRow) → slice_get rows.routers place ≡ Some old → is_few 30 form.routes ≡ true
    → IsUpdatable rows caller form old (changed_router form old) → IsChangeable rows old (value_or old.routes form.routes) (lost_gateway old.gateway (kept_gateway old.gateway form.external_gateway_info))
changeable rows c caller form place old at few is =
    let routes : List Hop = value_or old.routes form.routes in
    let lost : Option Gateway = lost_gateway old.gateway (kept_gateway old.gateway form.external_gateway_info) in
    let reached = routes_reached (is_reached rows.subnets rows.ports old) old.routes form.routes (c.routes.routes place old at) (given_reached rows old form.routes is.routed) in
    record {
      few = routes_few old.routes form.routes (c.in_form.routes place old at) few;
      reached = reached;
      unled = λ g e. unled_by rows c caller place old at routes g (lost_was old.gateway (kept_gateway old.gateway form.external_gateway_info) g e) (ap (gateway_use rows caller old routes) (sym e) ∙ is.unused);
      others = λ g e. still_reached rows c caller place old at routes g (lost_was old.gateway (kept_gateway old.gateway form.external_gateway_info) g e) (ap (gateway_use rows caller old routes) (sym e) ∙ is.unused) reached;
    }

-- of rows in which ids were drawn as before
changeable_later : (rows later : RowLists) (old : RouterRow) (routes : List Hop) (lost : Option Gateway) → later.subnets ≡ rows.subnets → later.ports ≡ rows.ports → later.floatings ≡ rows.floatings → IsChangeable rows old routes lost → IsChangeable later old routes lost
changeable_later rows later old routes lost subnets ports floatings is = record {
  few = is.few;
  reached = (λ j. list_all (is_reached (subnets j) (ports j) old) routes) ∙ is.reached;
  unled = λ g e. ap (list_any (λ f. is_some_so (λ (t : Target). ident_eq old.id t.router) f.target)) floatings ∙ is.unled g e;
  others = λ g e. (λ j. list_all (is_reached (subnets j) (other_ports g.port (ports j)) old) routes) ∙ is.others g e;
}

-- what is nowhere among ports is nowhere among fewer

fewer : (test : PortRow → Bool) (lost : Option Gateway) (ports : List PortRow) → list_any test ports ≡ false → list_any test (ports_without lost ports) ≡ false
fewer test None ports h = h
fewer test (Some g) ports h = any-filter_none (λ p. not (ident_eq g.port p.id)) test ports h

fewer_times : (lost : Option Gateway) (i : Ident) (ports : List PortRow) → count_by (λ p. ident_eq i p.id) (ports_without lost ports) ≤ count_by (λ p. ident_eq i p.id) ports
fewer_times None i ports = omega arith
fewer_times (Some g) i ports = sum-filter-le (λ p. not (ident_eq g.port p.id)) (λ p. cond {A = ℕ} (ident_eq i p.id) 1 0) ports

fewer_interfaces : (test : PortRow → Bool) (lost : Option Gateway) (ports : List PortRow) (r : RouterRow) → list_any test (interfaces_of ports r) ≡ false → list_any test (interfaces_of (ports_without lost ports) r) ≡ false
fewer_interfaces test None ports r h = h
fewer_interfaces test (Some g) ports r h = any-none test (interfaces_of (ports_without (Some g) ports) r) (λ k q at.
    let leg = at_filter (λ (p : PortRow). is_interface p.owner && is_port_of r p) (ports_without (Some g) ports) k q at in
    let here = at_filter (λ p. not (ident_eq g.port p.id)) ports leg.0 q leg.1 in
    by_test (test q) (test q ≡ false)
    (λ passes. false_true _ (sym h ∙ filter-any (λ (p : PortRow). is_interface p.owner && is_port_of r p) test ports here.0 q here.1 leg.2 passes))
    (λ fails. fails))

change_fresh : (rows : RowLists) (place : ℕ) (old new : RouterRow) (lost : Option Gateway) (i : Ident) → slice_get rows.routers place ≡ Some old → new.id ≡ old.id → times_in rows i ≡ 0 → times_in (with_change rows place lost new) i ≡ 0
change_fresh rows place old new lost i at same fresh =
    let ports = fewer_times lost i rows.ports in
    let routers = count-set (λ r. ident_eq i r.id) rows.routers place old new at (ap (ident_eq i) same) in
    omega (arith, ports, routers, fresh)

-- a new gateway is asked for, and none stays
asked_new : (asked : Option NetworkRow) (kept : Option Gateway) (n : NetworkRow) → new_gateway asked kept ≡ Some n → (asked ≡ Some n) × (kept ≡ None)
asked_new asked None n h = (h, refl)
asked_new asked (Some k) n h = none_some n _ h

-- of a gateway that is allowed on a network

pub record IsAllowed (rows : RowLists) (project : List ℕ) (interfaces : List PortRow) (n : NetworkRow) : Type 0 where
  pub external : is_external_to rows.policies n.id project ≡ true
  pub clear : overlaps_interface rows interfaces n ≡ false

allowed_is : (rows : RowLists) (project : List ℕ) (interfaces : List PortRow) (n : NetworkRow) → bad_gateway rows project interfaces n ≡ None → IsAllowed rows project interfaces n
allowed_is rows project interfaces n h =
    let both = or_none (not (is_external_to rows.policies n.id project)) (overlaps_interface rows interfaces n) (not_when (not (is_external_to rows.policies n.id project) || overlaps_interface rows interfaces n) (Invalid (codes "external_gateway_info")) h) in
    record { external = not_none (is_external_to rows.policies n.id project) both.0; clear = both.1 }

-- the addresses and the MAC address that are chosen for its port
chosen_is : (rows : RowLists) (c : IsConsistent rows) → Each (λ (s : SubnetRow). IsPrefix s.prefix) rows.subnets → (n : NetworkRow) (fixed : List Fixed) (mac : ℕ) → outer_addresses rows n ≡ Some fixed → free_mac rows.ports n.id ≡ Some mac → outer_taken rows n ≡ None
    → AreChosen rows.subnets n.id (is_address_held rows.ports n.id) mac fixed
chosen_is rows c prefixes n fixed mac addresses free untaken =
    let m = free_mac_is rows.ports n.id mac free in
    let same : outer_mac rows n ≡ mac = ap expected_mac free in
    gateway_chosen rows.subnets prefixes c.in_form.subnet_forms n.id (is_address_held rows.ports n.id) mac m.2 m.3 fixed
    (ap (gateway_addresses (λ x. not (is_address_held rows.ports n.id x)) (subnets_on rows.subnets n.id)) (sym same) ∙ addresses)
    (ap (λ k. address_taken (is_address_held rows.ports n.id) n.id (addresses_of (gateway_euis k (subnets_on rows.subnets n.id)))) (sym same) ∙ untaken)

-- changing a router

moved_kept : (settings : SettingsParts) (state : State) (c : IsConsistent state.rows) (typed : AreTyped state.rows) (caller : Caller) (form : RouterForm) (few : is_few 30 form.routes ≡ true) (place : ℕ) (old : RouterRow) (at : slice_get state.rows.routers place ≡ Some old)
    → IsUpdatable state.rows caller form old (changed_router form old) → (o : Option NetworkRow) → new_gateway (gateway_network state.rows caller form) (kept_gateway old.gateway form.external_gateway_info) ≡ o
    → (rows : RowLists) (reply : Reply) → router_moved settings state caller form old (changed_router form old) o ≡ Moved rows reply → HaveKept settings state.rows rows
moved_kept settings state c typed caller form few place old at is None asked rows reply h =
    let new : RouterRow = changed_router form old in
    let lost : Option Gateway = lost_gateway old.gateway new.gateway in
    let passed = unless_moved (when (is_last state) CountersSpent) (router_replaced caller state.rows old new new []) rows reply h in
    let kept = change_kept state.rows c place old at (value_or old.name form.name) (value_or old.description form.description) (value_or old.up form.admin_state_up) form.external_gateway_info (value_or old.routes form.routes) (changeable state.rows c caller form place old at few is) in
    subst (HaveKept settings state.rows) (sym (change_is state.rows c place old new at refl lost []) ∙ moved_rows (made state.rows (Put (Router new) ∷ gateway_gone lost ++ [])) rows _ reply passed.1) (record {
      consistent = kept;
      carried = fewer_carried settings lost state.rows.networks state.rows.ports;
      typed = λ held. record { prefixes = held.prefixes; macs = fewer_small lost state.rows.ports held.macs };
    })
moved_kept settings state c typed caller form few place old at is (Some n) asked rows reply h =
    let new : RouterRow = changed_router form old in
    let lost : Option Gateway = lost_gateway old.gateway new.gateway in
    let snat : Bool = unwrap_or (snat_asked form) (old_snat old.gateway) in
    let port : List Fixed → ℕ → Drawing → PortRow = λ fixed mac d. gateway_port settings old n (drawn_id d 0) mac fixed in
    let by_drawing : List Fixed → ℕ → Drawing → Outcome = λ fixed mac d. gateway_replaced caller d.rows old new (port fixed mac d) snat in
    let by_mac : List Fixed → ℕ → Outcome = λ fixed mac. needing CountersSpent (drawing_at state old.project 1) (by_drawing fixed mac) in
    let by_fixed : List Fixed → Outcome = λ fixed. needing CountersSpent (free_mac state.rows.ports n.id) (by_mac fixed) in
    let pools = needing_moved (PoolsSpent n.id) (outer_addresses state.rows n) by_fixed rows reply h in
    let fixed : List Fixed = pools.0 in
    let macs = needing_moved CountersSpent (free_mac state.rows.ports n.id) (by_mac fixed) rows reply pools.2 in
    let mac : ℕ = macs.0 in
    let drawing = needing_moved CountersSpent (drawing_at state old.project 1) (by_drawing fixed mac) rows reply macs.2 in
    let d : Drawing = drawing.0 in
    let drawn = drawing_is state old.project 1 d c (ap not (has_name state.rows.projects c.numbered.projects old.project (c.named.projects.of_routers place old at))) (lit< tt) drawing.1 in
    let both = asked_new (gateway_network state.rows caller form) (kept_gateway old.gateway form.external_gateway_info) n asked in
    let network = named_is (λ (m : NetworkRow). m.id) (sees_network state.rows caller) state.rows.networks (gateway_name form) n both.0 in
    let allowed = allowed_is state.rows old.project (interfaces_of state.rows.ports old) n (refused_at (bad_gateway state.rows old.project (interfaces_of state.rows.ports old)) (gateway_network state.rows caller form) n both.0 is.good) in
    let chosen = chosen_is state.rows c typed.prefixes n fixed mac pools.1 macs.1 (refused_at (outer_taken state.rows) (new_gateway (gateway_network state.rows caller form) new.gateway) n asked is.untaken) in
    let m = free_mac_is state.rows.ports n.id mac macs.1 in
    let there : slice_get d.rows.routers place ≡ Some old = ap (λ xs. slice_get xs place) drawn.routers ∙ at in
    let first : RowLists = with_change d.rows place lost new in
    let kept : IsConsistent first = change_kept d.rows drawn.consistent place old there (value_or old.name form.name) (value_or old.description form.description) (value_or old.up form.admin_state_up) form.external_gateway_info (value_or old.routes form.routes)
    (changeable_later state.rows d.rows old (value_or old.routes form.routes) lost drawn.subnets drawn.ports drawn.floatings (changeable state.rows c caller form place old at few is)) in
    let p : PortRow = port fixed mac d in
    let now : slice_get first.routers place ≡ Some new = set_there d.rows.routers place old new there in
    let last : RouterRow = with_gateway new p.network p.id snat in
    let chosen_now : AreChosen first.subnets n.id (is_address_held first.ports n.id) mac fixed =
    subst (λ ss. AreChosen ss n.id (is_address_held first.ports n.id) mac fixed) (sym drawn.subnets)
    (chosen_less state.rows.subnets n.id (is_address_held state.rows.ports n.id) (is_address_held first.ports n.id) mac fixed
    (λ x free. fewer _ lost d.rows.ports (ap (λ ports. is_address_held ports n.id x) drawn.ports ∙ free)) chosen) in
    let network_there = ap (λ xs. slice_get xs network.place) drawn.networks ∙ network.at in
    let on = gateway_made_kept first kept settings place new now both.1 network.place n network_there (drawn_id d 0) mac fixed chosen_now snat
    (change_fresh d.rows place old new lost (drawn_id d 0) there refl (drawn.fresh 0 (lit< tt))) (drawn.drawn 0 (lit< tt)) m.0
    (fewer _ lost d.rows.ports (ap (λ ports. is_mac_held ports n.id mac) drawn.ports ∙ m.1))
    (ap (λ policies. is_external_to policies n.id old.project) drawn.policies ∙ allowed.external)
    (clear_now state.rows d.rows lost n old drawn.subnets drawn.ports allowed.clear) in
    subst (HaveKept settings state.rows) (ap (λ routers. record first { ports = first.ports ++ p ∷ []; routers = routers }) (sym (router_put first kept place new last now refl))
    ∙ (sym (change_is d.rows drawn.consistent place old new there refl lost (gateway_edits new p snat))
    ∙ moved_rows (made d.rows (Put (Router new) ∷ gateway_gone lost ++ gateway_edits new p snat)) rows _ reply drawing.2)) (record {
      consistent = on;
      carried = λ held. pushed.are_carried first.ports p (carries settings.hosts) (bound_carried settings d.rows.networks network.place n network_there (host_or_none old.host))
          (fewer_carried settings lost d.rows.networks d.rows.ports (carried_drawn settings state.rows old.project 1 d drawn held));
      typed = λ held. let t = drawing_typed state.rows old.project 1 d drawn held in record { prefixes = t.prefixes; macs = each-push (λ (q : PortRow). q.mac < 2 ^ 48) first.ports p (fewer_small lost d.rows.ports t.macs) (made_small_mac mac m.3) };
    })
  where
    clear_now : (rows later : RowLists) (lost : Option Gateway) (n : NetworkRow) (r : RouterRow) → later.subnets ≡ rows.subnets → later.ports ≡ rows.ports → overlaps_interface rows (interfaces_of rows.ports r) n ≡ false
        → list_any (λ (s : SubnetRow). list_any (touches later.subnets s.prefix) (interfaces_of (ports_without lost later.ports) r)) (subnets_on later.subnets n.id) ≡ false
    clear_now rows later lost n r subnets ports clear = any-none (λ (s : SubnetRow). list_any (touches later.subnets s.prefix) (interfaces_of (ports_without lost later.ports) r)) (subnets_on later.subnets n.id) (λ k s at_s.
        fewer_interfaces (touches later.subnets s.prefix) lost later.ports r
        (none-any (λ (t : SubnetRow). list_any (touches later.subnets t.prefix) (interfaces_of later.ports r)) (subnets_on later.subnets n.id)
        ((λ j. list_any (λ (t : SubnetRow). list_any (touches (subnets j) t.prefix) (interfaces_of (ports j) r)) (subnets_on (subnets j) n.id)) ∙ clear) k s at_s))

pub router_updated_kept : (settings : SettingsParts) (state : State) (caller : Caller) (name : IdText) (form : RouterForm) (rows : RowLists) (reply : Reply) → IsConsistent state.rows → AreTyped state.rows → IsFormed caller (Update name (RouterOf form))
    → router_updated settings state caller name form ≡ Moved rows reply → HaveKept settings state.rows rows
router_updated_kept settings state caller name form rows reply c typed formed h =
    let body = and_both (are_owners form.project_id form.tenant_id && is_few 30 form.routes) (are_hops form.routes) (and_both (not (is_empty caller.project)) (is_router_body form) formed).1 in
    let few = (and_both (are_owners form.project_id form.tenant_id) (is_few 30 form.routes) body.0).1 in
    let found = needing_moved (not_found RouterKind name.text) (router_seen state.rows caller name.id) (λ r. router_changed settings state caller form r (changed_router form r)) rows reply h in
    let old : RouterRow = found.0 in
    let here = named_is (λ (q : RouterRow). q.id) (λ (q : RouterRow). is_own caller q.project) state.rows.routers name.id old found.1 in
    let new : RouterRow = changed_router form old in
    let passed = unless_moved (update_refusal state.rows caller form old new) (router_moved settings state caller form old new (new_gateway (gateway_network state.rows caller form) new.gateway)) rows reply found.2 in
    moved_kept settings state c typed caller form few here.place old here.at (updatable_is state.rows caller form old new passed.0) (new_gateway (gateway_network state.rows caller form) new.gateway) refl rows reply passed.1

-- making a router

pub record IsCreatable (rows : RowLists) (caller : Caller) (form : RouterForm) (owner : List ℕ) : Type 0 where
  pub good : option_and_then (bad_gateway rows owner []) (gateway_network rows caller form) ≡ None
  pub untaken : option_and_then (outer_taken rows) (gateway_network rows caller form) ≡ None

creatable_is : (settings : SettingsParts) (rows : RowLists) (caller : Caller) (form : RouterForm) (owner : List ℕ) → creation_refusal settings rows caller form owner ≡ None → IsCreatable rows caller form owner
creatable_is settings rows caller form owner h =
    let other : Bool = is_for_other caller form.project_id form.tenant_id in
    let quota = over_quota settings rows owner RouterKind in
    let taken = option_and_then (outer_taken rows) (gateway_network rows caller form) in
    let admin = admin_only caller (is_some (snat_asked form) || other) in
    let found = unless_found NetworkKind (gateway_name form) (gateway_network rows caller form) in
    let bad = bad_first_gateway rows caller form owner in
    let unlike = when (are_unlike form.project_id form.tenant_id) (Invalid (codes "tenant_id")) in
    let first = none_first unlike (bad ∷ found ∷ admin ∷ taken ∷ quota ∷ []) h in
    let second = none_first bad (found ∷ admin ∷ taken ∷ quota ∷ []) first.1 in
    let third = none_first found (admin ∷ taken ∷ quota ∷ []) second.1 in
    let fourth = none_first admin (taken ∷ quota ∷ []) third.1 in
    let fifth = none_first taken (quota ∷ []) fourth.1 in
    let may = none_for_other (is_some (snat_asked form)) other caller.admin (not_when ((is_some (snat_asked form) || other) && not caller.admin) (Forbidden AdminOnly) fourth.0) in
    record {
      good = sym (ap (λ b. if b then None else option_and_then (bad_gateway rows owner []) (gateway_network rows caller form)) may) ∙ second.0;
      untaken = fifth.0;
    }

last_there : {R : Type 0} (xs : List R) (x : R) → slice_get (xs ++ x ∷ []) (length xs) ≡ Some x
last_there [] x = refl
last_there (y ∷ xs) x = last_there xs x

next_differs : (d : Drawing) → ident_eq (drawn_id d 1) (drawn_id d 0) ≡ false
next_differs d = and_fails (d.ordinal == d.ordinal) ((d.first + 1) == (d.first + 0)) (later d.first)
  where
    later : (n : ℕ) → ((n + 1) == (n + 0)) ≡ false
    later n = grind (arith, nat_tests)

-- the router that is made, of an id that was drawn
module _ (settings : SettingsParts) (form : RouterForm) (owner : List ℕ) (many : ℕ) (rows : RowLists) (d : Drawing) (drawn : IsDrawing rows owner many d) (some : 0 < many) where
  abbrev made_router : RouterRow
  made_router = new_router settings form owner (drawn_id d 0)

  unnamed : Each (λ p. is_port_of made_router p ≡ false) d.rows.ports
  unnamed = unnamed_port d.rows made_router (drawable d.rows.projects drawn.consistent.numbered.projects (drawn_id d 0) (drawn.drawn 0 some)) (router_drawable d.rows drawn.consistent) (drawn.fresh 0 some) drawn.consistent.services.of_routers

  router_kept : IsConsistent (with_router d.rows made_router)
  router_kept = router_pushed d.rows made_router (record { fresh = drawn.fresh 0 some; drawn = drawn.drawn 0 some; project = drawn.project; no_gateway = refl; no_routes = refl; unnamed = unnamed }) drawn.consistent

  -- a new router has no interface that a subnet could overlap
  clear_first : (n : NetworkRow) → list_any (λ (s : SubnetRow). list_any (touches d.rows.subnets s.prefix) (interfaces_of d.rows.ports made_router)) (subnets_on d.rows.subnets n.id) ≡ false
  clear_first n = any-none (λ (s : SubnetRow). list_any (touches d.rows.subnets s.prefix) (interfaces_of d.rows.ports made_router)) (subnets_on d.rows.subnets n.id) (λ k s at_s.
      any-none (touches d.rows.subnets s.prefix) (interfaces_of d.rows.ports made_router) (λ l q at_q.
      let leg = at_filter (λ (p : PortRow). is_interface p.owner && is_port_of made_router p) d.rows.ports l q at_q in
      false_true _ (sym (unnamed leg.0 q leg.1) ∙ (and_both (is_interface q.owner) (is_port_of made_router q) leg.2).1)))

with_kept : (settings : SettingsParts) (state : State) (c : IsConsistent state.rows) (typed : AreTyped state.rows) (caller : Caller) (form : RouterForm) (owner : List ℕ) → not (is_empty owner) ≡ true → IsCreatable state.rows caller form owner
    → (o : Option NetworkRow) → gateway_network state.rows caller form ≡ o → (rows : RowLists) (reply : Reply) → router_with settings state caller form owner o ≡ Moved rows reply → HaveKept settings state.rows rows
with_kept settings state c typed caller form owner named is None asked rows reply h =
    let by_drawing : Drawing → Outcome = λ d. router_added caller d.rows (new_router settings form owner (drawn_id d 0)) (new_router settings form owner (drawn_id d 0)) [] in
    let drawing = needing_moved CountersSpent (drawing_at state owner 1) by_drawing rows reply h in
    let d : Drawing = drawing.0 in
    let drawn = drawing_is state owner 1 d c named (lit< tt) drawing.1 in
    subst (HaveKept settings state.rows) (moved_rows (with_router d.rows (new_router settings form owner (drawn_id d 0))) rows _ reply drawing.2) (record {
      consistent = router_kept settings form owner 1 state.rows d drawn (lit< tt);
      carried = carried_drawn settings state.rows owner 1 d drawn;
      typed = λ held. let t = drawing_typed state.rows owner 1 d drawn held in record { prefixes = t.prefixes; macs = t.macs };
    })
with_kept settings state c typed caller form owner named is (Some n) asked rows reply h =
    let snat : Bool = unwrap_or (snat_asked form) true in
    let router : Drawing → RouterRow = λ d. new_router settings form owner (drawn_id d 0) in
    let port : List Fixed → ℕ → Drawing → PortRow = λ fixed mac d. gateway_port settings (router d) n (drawn_id d 1) mac fixed in
    let by_drawing : List Fixed → ℕ → Drawing → Outcome = λ fixed mac d. gateway_added caller d.rows (router d) (port fixed mac d) snat in
    let by_mac : List Fixed → ℕ → Outcome = λ fixed mac. needing CountersSpent (drawing_at state owner 2) (by_drawing fixed mac) in
    let by_fixed : List Fixed → Outcome = λ fixed. needing CountersSpent (free_mac state.rows.ports n.id) (by_mac fixed) in
    let pools = needing_moved (PoolsSpent n.id) (outer_addresses state.rows n) by_fixed rows reply h in
    let fixed : List Fixed = pools.0 in
    let macs = needing_moved CountersSpent (free_mac state.rows.ports n.id) (by_mac fixed) rows reply pools.2 in
    let mac : ℕ = macs.0 in
    let drawing = needing_moved CountersSpent (drawing_at state owner 2) (by_drawing fixed mac) rows reply macs.2 in
    let d : Drawing = drawing.0 in
    let drawn = drawing_is state owner 2 d c named (lit< tt) drawing.1 in
    let network = named_is (λ (m : NetworkRow). m.id) (sees_network state.rows caller) state.rows.networks (gateway_name form) n asked in
    let allowed = allowed_is state.rows owner [] n (refused_at (bad_gateway state.rows owner []) (gateway_network state.rows caller form) n asked is.good) in
    let chosen = chosen_is state.rows c typed.prefixes n fixed mac pools.1 macs.1 (refused_at (outer_taken state.rows) (gateway_network state.rows caller form) n asked is.untaken) in
    let m = free_mac_is state.rows.ports n.id mac macs.1 in
    let r : RouterRow = router d in
    let first : RowLists = with_router d.rows r in
    let kept : IsConsistent first = router_kept settings form owner 2 state.rows d drawn (lit< tt) in
    let place : ℕ = length d.rows.routers in
    let now : slice_get first.routers place ≡ Some r = last_there d.rows.routers r in
    let p : PortRow = port fixed mac d in
    let last : RouterRow = with_gateway r p.network p.id snat in
    let chosen_now : AreChosen first.subnets n.id (is_address_held first.ports n.id) mac fixed =
    subst (λ ss. AreChosen ss n.id (is_address_held first.ports n.id) mac fixed) (sym drawn.subnets)
    (subst (λ ports. AreChosen state.rows.subnets n.id (is_address_held ports n.id) mac fixed) (sym drawn.ports) chosen) in
    let network_there = ap (λ xs. slice_get xs network.place) drawn.networks ∙ network.at in
    let on = gateway_made_kept first kept settings place r now refl network.place n network_there (drawn_id d 1) mac fixed chosen_now snat
    (fresh-push d.rows first r.id (drawn_id d 1) (λ j. times-router d.rows j r) (next_differs d) (drawn.fresh 1 (lit< tt))) (drawn.drawn 1 (lit< tt)) m.0
    (ap (λ ports. is_mac_held ports n.id mac) drawn.ports ∙ m.1)
    (ap (λ policies. is_external_to policies n.id owner) drawn.policies ∙ allowed.external)
    (clear_first settings form owner 2 state.rows d drawn (lit< tt) n) in
    subst (HaveKept settings state.rows) (ap (λ routers. record first { ports = first.ports ++ p ∷ []; routers = routers }) (sym (router_put first kept place r last now refl))
    ∙ moved_rows (made d.rows (Add (Router r) ∷ gateway_edits r p snat)) rows _ reply drawing.2) (record {
      consistent = on;
      carried = λ held. pushed.are_carried first.ports p (carries settings.hosts) (bound_carried settings d.rows.networks network.place n network_there (host_or_none r.host))
          (carried_drawn settings state.rows owner 2 d drawn held);
      typed = λ held. let t = drawing_typed state.rows owner 2 d drawn held in record { prefixes = t.prefixes; macs = each-push (λ (q : PortRow). q.mac < 2 ^ 48) first.ports p t.macs (made_small_mac mac m.3) };
    })

pub router_created_kept : (settings : SettingsParts) (state : State) (caller : Caller) (form : RouterForm) (rows : RowLists) (reply : Reply) → IsConsistent state.rows → AreTyped state.rows → IsFormed caller (Create (RouterOf form))
    → router_created settings state caller form ≡ Moved rows reply → HaveKept settings state.rows rows
router_created_kept settings state caller form rows reply c typed formed h =
    let owner : List ℕ = owner_of caller form.project_id form.tenant_id in
    let whole = and_both (not (is_empty caller.project)) (is_router_body form) formed in
    let body = and_both (are_owners form.project_id form.tenant_id && is_few 30 form.routes) (are_hops form.routes) whole.1 in
    let owners = (and_both (are_owners form.project_id form.tenant_id) (is_few 30 form.routes) body.0).0 in
    let passed = unless_moved (creation_refusal settings state.rows caller form owner) (router_with settings state caller form owner (gateway_network state.rows caller form)) rows reply h in
    with_kept settings state c typed caller form owner (owner_named caller form.project_id form.tenant_id whole.0 owners) (creatable_is settings state.rows caller form owner passed.0) (gateway_network state.rows caller form) refl rows reply passed.1

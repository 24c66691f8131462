-- A tenant is told the same of floating addresses that it makes, changes and takes out, wherever its footing is the same.
use Rattle.std.proofs.Common.{◌≡◌, ℕ, ◌+◌, List, [], ◌∷◌, Bool, true, false, Option, Some, None, slice_get, refl, ap, sym, ◌∙◌, not, subst}
use Rattle.std.specs.Prelude.{◌&&◌, ◌||◌, ◌==◌, codes, find, is_none, option_and_then, option_map, if◌then◌else◌}
use Rattle.std.specs.List.{list_any}
use Rattle.std.specs.Str.{bytes_eq}
use Rattle.net_addr.specs.Addresses.{number}
use Rattle.net_addr.specs.Prefixes.{is_host_of}
use Rattle.net_addr.specs.declared.address.Addr.TheVariants.{V4}
use Rattle.net_addr.specs.declared.address.Addr.{Addr}
use Rattle.api_types.specs.Association.{Aim, aim_at, fixed_for, joins_to, router_for, target_by, with_target}
use Rattle.call_parts.specs.BodyNames.{text_of, unless_found}
use Rattle.call_parts.specs.Edits.{Drop, Put, accepted}
use Rattle.api_types.specs.WithRows.{gone_from}
use Rattle.api_ipam.specs.FixedChoice.{floating_address}
use Rattle.plan_floatings.specs.FloatingCalls.{address_held, aim_asked, body_refusal, changed_floating, creation_refusal, deletion_refusal, floating_added, floating_changed, floating_created, floating_deleted, floating_replaced, floating_shown, floating_updated, floating_with, lacks_port, new_floating, outer_address, own_port, port_asked, update_refusal}
use Rattle.api_types.specs.HeldAddresses.{fixed_at}
use Rattle.api_ipam.specs.MacChoice.{free_mac}
use Rattle.api_policy.specs.Permits.{admin_only, owner_only}
use Rattle.api_policy.specs.Quotas.{over_quota}
use Rattle.api_types.specs.RouterWays.{interfaces_of}
use Rattle.plan_floatings.specs.FloatingRules.{bad_address, bad_aim, bad_outside, subnet_with}
use Rattle.api_policy.specs.Seen.{floating_seen, network_seen, own_rows}
use Rattle.api_types.specs.Owners.{is_service, device_is, holds_in, is_gateway, is_interface, is_port_of}
use Rattle.api_policy.specs.Uses.{aim_in_use, told_user, used_aim}
use Rattle.api_policy.specs.Visibility.{is_own}
use Rattle.api_policy.specs.Floatings.{floating_members}
use Rattle.api_policy.specs.Shown.{shown_as}
use Rattle.apart_laws.specs.Footing.{Near, blank, blank_port, blank_router, footing, is_near}
use Rattle.api_types.specs.Given.{are_unlike, is_for_other, is_given, owner_of, value_of}
use Rattle.api_types.specs.Refusing.{at_name, first_refusal, needing, not_found, answer_alone, unless, when}
use Rattle.call_parts.specs.State.{State, drawing_at, is_last}
use Rattle.api_types.specs.Consistent.{IsConsistent}
use Rattle.api_types.specs.Consistent.Floating.{has_interface, stands_for}
use Rattle.api_types.specs.Ident.{Ident}
use Rattle.api_types.specs.Lists.{Each, is_some_so}
use Rattle.api_types.specs.Outcome.{Outcome, Told}
use Rattle.api_types.specs.Printed.{NewRow, NoRow, OneRow}
use Rattle.api_types.specs.Registration.{Drawing, drawn_id, ident}
use Rattle.api_types.specs.Table.{ident_eq}
use Rattle.api_types.specs.declared.call.Caller.{Caller}
use Rattle.api_types.specs.declared.call.IdText.{IdText}
use Rattle.api_types.specs.declared.floating.FloatingRow.{FloatingRow}
use Rattle.api_types.specs.declared.floating.Target.{Target}
use Rattle.api_types.specs.declared.form.FloatingForm.{FloatingForm}
use Rattle.api_types.specs.declared.kind.Kind.TheVariants.{Floating as FloatingKind, Network as NetworkKind, Port as PortKind}
use Rattle.api_types.specs.declared.kind.Kind.{Kind}
use Rattle.api_types.specs.declared.kind.Row.TheVariants.{Floating}
use Rattle.api_types.specs.declared.network.NetworkRow.{NetworkRow}
use Rattle.api_types.specs.declared.port.Fixed.{Fixed}
use Rattle.api_types.specs.declared.port.PortRow.{PortRow}
use Rattle.api_types.specs.declared.refusal.Refusal.TheVariants.{CountersSpent, InUse, Invalid, NoGateway, PoolsSpent, Taken}
use Rattle.api_types.specs.declared.refusal.Refusal.{Refusal}
use Rattle.api_types.specs.declared.refusal.UseRule.TheVariants.{FloatingIpPortAlreadyAssociated}
use Rattle.api_types.specs.declared.refusal.Value.TheVariants.{Address as AddressValue}
use Rattle.api_types.specs.declared.router.Gateway.{Gateway}
use Rattle.api_types.specs.declared.router.RouterRow.{RouterRow}
use Rattle.api_types.specs.declared.subnet.SubnetRow.{SubnetRow}
use Rattle.net_settings.specs.Settings.{SettingsParts}
use Rattle.api_types.proofs.ListLemmas.{and_both, any-filter, at_filter, both_and, false_true, none_some, or_none, some_equal}
use Rattle.api_types.proofs.NameLemmas.{by_test, bytes_same, not_false}
use Rattle.apart_laws.proofs.FootingLemmas.{named_alike, named_near, near_alike, near_same, needing_by, not_admin, owner_own}
use Rattle.apart_laws.proofs.ListLemmas.{any-map, find-filter, find_pairs, or_left, or_right}
use Rattle.apart_laws.proofs.ApartLemmas.{first_same, head_none, needing_same, none_at, then_alike, unless_same}
use Rattle.apart_laws.proofs.FoundTold.{find-then}
use Rattle.apart_laws.proofs.NearAlike.{chosen_alike, free_mac_same, then_named}
use Rattle.apart_laws.proofs.OwnAlike.{admin_passes, floatings_alike, own_here, quota_own, routers_alike, when_false}
use Rattle.apart_laws.proofs.PortAlike.{port_found, port_here}
use Rattle.apart_laws.proofs.ReachAlike.{floating_user_alike, port_project, target_there}
use Rattle.apart_laws.proofs.RouterAlike.{if_own, some_view, unless_found_alike}
use Rattle.apart_laws.proofs.ServedAlike.{interfaces_alike}

-- an aim is at the port from which it was made
aim_port : (address : Option ℕ) (o : Option PortRow) (aim : Aim) → option_and_then (aim_at address) o ≡ Some aim → o ≡ Some aim.port
aim_port address None aim h = none_some aim _ h
aim_port address (Some p) aim h = by (fixed_for address p.fixed) h
  where
    by : (f : Option Fixed) → option_map (λ (x : Fixed). record { port = p; fixed = x }) f ≡ Some aim → Some p ≡ Some aim.port
    by None e = none_some aim _ e
    by (Some x) e = ap (λ (a : Aim). Some a.port) (some_equal (record { port = p; fixed = x }) aim e)

-- where the rules of the port pass, it is the project's
aim_own : (project : List ℕ) (address : Option ℕ) (p : PortRow) → bad_aim project address p ≡ None → bytes_eq p.project project ≡ true
aim_own project address p h = not_false (bytes_eq p.project project) (or_none (not (bytes_eq p.project project)) (is_service p.owner)
    (when_false (not (bytes_eq p.project project) || is_service p.owner) (Invalid (codes "port_id")) (head_none (when (not (bytes_eq p.project project) || is_service p.owner) (Invalid (codes "port_id")))
    (when (is_none (fixed_for address p.fixed)) (Invalid (codes "fixed_ip_address")) ∷ []) h))).0

-- an aim at a port without its host and binding
abbrev blank_aim : Aim → Aim
blank_aim a = record { port = blank_port a.port; fixed = a.fixed }

aim_view : (address : Option ℕ) (o p : Option PortRow) → option_map blank_port o ≡ option_map blank_port p → option_map blank_aim (option_and_then (aim_at address) o) ≡ option_map blank_aim (option_and_then (aim_at address) p)
aim_view address None None alike = refl
aim_view address None (Some q) alike = none_some (blank_port q) _ alike
aim_view address (Some p) None alike = none_some (blank_port p) _ (sym alike)
aim_view address (Some p) (Some q) alike = aim_blank p ∙ (ap (aim_at address) (some_equal (blank_port p) (blank_port q) alike) ∙ sym (aim_blank q))
  where
    aim_blank : (r : PortRow) → option_map blank_aim (aim_at address r) ≡ aim_at address (blank_port r)
    aim_blank r = by (fixed_for address r.fixed)
      where
        by : (x : Option Fixed) → option_map blank_aim (option_map (λ (f : Fixed). record { port = r; fixed = f }) x) ≡ option_map (λ (f : Fixed). record { port = blank_port r; fixed = f }) x
        by None = refl
        by (Some x) = refl

-- a router has an interface on a subnet where one of its interfaces is there
abbrev is_leg_on : Ident → RouterRow → PortRow → Bool
is_leg_on subnet r q = is_interface q.owner && (device_is q.device r.id && holds_in subnet q)

interface_on : (ports : List PortRow) (r : RouterRow) (subnet : Ident) → has_interface ports r.id subnet ≡ list_any (is_leg_on subnet r) (interfaces_of ports r)
interface_on ports r subnet = sym (any-filter (λ (q : PortRow). is_interface q.owner && is_port_of r q) (λ (q : PortRow). is_interface q.owner && (device_is q.device r.id && holds_in subnet q)) ports
    (λ k q at other. by_test (is_interface q.owner && (device_is q.device r.id && holds_in subnet q)) (is_interface q.owner && (device_is q.device r.id && holds_in subnet q) ≡ false)
    (λ is. let both = and_both (is_interface q.owner) (device_is q.device r.id && holds_in subnet q) is in
    false_true _ (sym other ∙ both_and _ _ both.0 (both_and _ _ (or_left (is_interface q.owner) (is_gateway q.owner) both.0) (and_both (device_is q.device r.id) (holds_in subnet q) both.1).0)))
    (λ fails. fails)))

module _ (settings : SettingsParts) (caller : Caller) (tenant : caller.admin ≡ false) (s t : State) (c : IsConsistent s.rows) (d : IsConsistent t.rows) (same : footing settings s caller ≡ footing settings t caller) where
  -- the port that is meant

  asked_alike : (form : FloatingForm) → option_map blank_port (port_asked s.rows caller form) ≡ option_map blank_port (port_asked t.rows caller form)
  asked_alike form = port_found settings caller tenant s t c d same (value_of form.port_id)

  aim_alike : (form : FloatingForm) → option_map blank_aim (aim_asked s.rows caller form) ≡ option_map blank_aim (aim_asked t.rows caller form)
  aim_alike form = aim_view (value_of form.fixed_ip_address) (port_asked s.rows caller form) (port_asked t.rows caller form) (asked_alike form)

  bad_alike : (form : FloatingForm) (project : List ℕ)
      → option_and_then (bad_aim project (value_of form.fixed_ip_address)) (port_asked s.rows caller form) ≡ option_and_then (bad_aim project (value_of form.fixed_ip_address)) (port_asked t.rows caller form)
  bad_alike form project = then_alike (port_asked s.rows caller form) (port_asked t.rows caller form) blank_port (asked_alike form) (bad_aim project (value_of form.fixed_ip_address)) (bad_aim project (value_of form.fixed_ip_address))
      (λ p q _ _ one. ap (bad_aim project (value_of form.fixed_ip_address)) one)

  -- the port's project is the caller's, where the rules pass
  aim_mine : (form : FloatingForm) (project : List ℕ) → project ≡ caller.project → (aim : Aim) → aim_asked s.rows caller form ≡ Some aim
      → option_and_then (bad_aim project (value_of form.fixed_ip_address)) (port_asked s.rows caller form) ≡ None → bytes_eq aim.port.project caller.project ≡ true
  aim_mine form project mine aim found passes = ap (bytes_eq aim.port.project) (sym mine)
      ∙ aim_own project (value_of form.fixed_ip_address) aim.port (sym (ap (option_and_then (bad_aim project (value_of form.fixed_ip_address))) (aim_port (value_of form.fixed_ip_address) (port_asked s.rows caller form) aim found)) ∙ passes)

  -- a floating address that has the address already is of the port's project
  stands_own : (state : State) → IsConsistent state.rows → (k : ℕ) (p : PortRow) → slice_get state.rows.ports k ≡ Some p → bytes_eq p.project caller.project ≡ true → (network : Ident) (x : ℕ)
      → Each (λ (f : FloatingRow). stands_for network p.id x f ≡ true → is_own caller f.project ≡ true) state.rows.floatings
  stands_own state e k p at mine network x l f at_f is =
      let there = target_there (λ (z : Target). ident_eq p.id z.port && (z.fixed == x)) f.target (and_both (ident_eq network f.network) (is_some_so (λ (z : Target). ident_eq p.id z.port && (z.fixed == x)) f.target) is).1 in
      or_right caller.admin _ (ap (λ name. bytes_eq name caller.project) (sym (bytes_same p.project f.project (port_project state.rows e k p at l f at_f there.0 there.1
      (and_both (ident_eq p.id there.0.port) (there.0.fixed == x) there.2).0))) ∙ mine)

  abbrev refusal_of : Aim → Option (Kind × Ident) → Refusal
  refusal_of aim user = InUse FloatingIpPortAlreadyAssociated PortKind aim.port.id user

  -- the floating addresses that are the aim's, and the aim's refusals
  abbrev stands_at : Ident → Aim → FloatingRow → Bool
  stands_at network aim = stands_for network aim.port.id (number aim.fixed.address)

  abbrev refused_by : Aim → FloatingRow → Refusal
  refused_by aim f = refusal_of aim (told_user t.rows caller (Some (FloatingKind, f.id)))

  -- an aim in each state, at ports that may differ in host and binding
  module _ (form : FloatingForm) (aim other : Aim) (found : aim_asked s.rows caller form ≡ Some aim) (also : aim_asked t.rows caller form ≡ Some other) (one : blank_aim aim ≡ blank_aim other) (mine : bytes_eq aim.port.project caller.project ≡ true) where
    own_s : (network : Ident) → Each (λ (f : FloatingRow). stands_at network aim f ≡ true → is_own caller f.project ≡ true) s.rows.floatings
    own_s network = let here = port_here settings caller tenant s t c d same s (value_of form.port_id) aim.port (aim_port (value_of form.fixed_ip_address) (port_asked s.rows caller form) aim found) in
        stands_own s c here.0 aim.port here.1 mine network (number aim.fixed.address)

    own_t : (network : Ident) → Each (λ (f : FloatingRow). stands_at network other f ≡ true → is_own caller f.project ≡ true) t.rows.floatings
    own_t network = let there = port_here settings caller tenant s t c d same t (value_of form.port_id) other.port (aim_port (value_of form.fixed_ip_address) (port_asked t.rows caller form) other also) in
        stands_own t d there.0 other.port there.1 (sym (ap (λ (a : Aim). bytes_eq a.port.project caller.project) one) ∙ mine) network (number other.fixed.address)

    use_alike : (network : Ident) → aim_in_use s.rows caller s.rows.floatings network aim ≡ aim_in_use t.rows caller t.rows.floatings network other
    use_alike network =
        floating_user_alike settings caller tenant s t c d same (refusal_of aim) (stands_at network aim) (stands_at network other) (own_s network) (own_t network) (λ i f at. λ j. stands_at network (one j) f)
        ∙ (λ j. option_map (refused_by (one j)) (find (stands_at network other) t.rows.floatings))

    -- the same of all floating addresses but one
    other_alike : (network i : Ident) → aim_in_use s.rows caller (gone_from (λ (g : FloatingRow). g.id) i s.rows.floatings) network aim ≡ aim_in_use t.rows caller (gone_from (λ (g : FloatingRow). g.id) i t.rows.floatings) network other
    other_alike network i =
        ap (option_map (used_aim s.rows caller aim)) (sym (find-then rest (stands_at network aim) s.rows.floatings))
        ∙ (floating_user_alike settings caller tenant s t c d same (refusal_of aim) (λ f. rest f && stands_at network aim f) (λ f. rest f && stands_at network other f)
        (λ k f at is. own_s network k f at (and_both (rest f) (stands_at network aim f) is).1)
        (λ k f at is. own_t network k f at (and_both (rest f) (stands_at network other f) is).1) (λ k f at. λ j. rest f && stands_at network (one j) f)
        ∙ ((λ j. option_map (refused_by (one j)) (find (λ f. rest f && stands_at network other f) t.rows.floatings))
        ∙ ap (option_map (used_aim t.rows caller other)) (find-then rest (stands_at network other) t.rows.floatings)))
      where
        rest : FloatingRow → Bool
        rest g = not (ident_eq i g.id)

  -- the router that joins the port's subnet to the network

  joins_alike : (network subnet : Ident) → option_map blank_router (router_for s.rows caller.project network subnet) ≡ option_map blank_router (router_for t.rows caller.project network subnet)
  joins_alike network subnet = ap (option_map blank_router) (among s) ∙ (find_pairs blank_router (joins_to s.rows caller.project network subnet) (joins_to t.rows caller.project network subnet) (owned_routers s) (owned_routers t)
      (routers_alike settings caller tenant s t same)
      (λ k r o at_r at_o one. let here = at_filter (λ (q : RouterRow). is_own caller q.project) s.rows.routers k r at_r in
      let there = at_filter (λ (q : RouterRow). is_own caller q.project) t.rows.routers k o at_o in
      let legs = interfaces_alike settings caller s t c d same here.0 there.0 r o here.1 there.1 (sym (ap (λ b. b || bytes_eq r.project caller.project) tenant) ∙ here.2) one in
      let joined = interface_on s.rows.ports r subnet ∙ (sym (any-map (is_leg_on subnet r) blank_port (interfaces_of s.rows.ports r))
      ∙ ((λ j. list_any (is_leg_on subnet (one j)) (legs j))
      ∙ (any-map (is_leg_on subnet o) blank_port (interfaces_of t.rows.ports o) ∙ sym (interface_on t.rows.ports o subnet)))) in
      (λ j. bytes_eq (one j).project caller.project && is_some_so (λ (g : Gateway). ident_eq network g.network) (one j).gateway && joined j))
      ∙ sym (ap (option_map blank_router) (among t)))
    where
      owned_routers : State → List RouterRow
      owned_routers state = own_rows (λ (q : RouterRow). q.project) caller state.rows.routers

      among : (state : State) → router_for state.rows caller.project network subnet ≡ find (joins_to state.rows caller.project network subnet) (owned_routers state)
      among state = sym (find-filter (λ (q : RouterRow). is_own caller q.project) (joins_to state.rows caller.project network subnet) state.rows.routers
          (λ k r at is. or_right caller.admin _ (and_both (bytes_eq r.project caller.project) (is_some_so (λ (g : Gateway). ident_eq network g.network) r.gateway)
          (and_both (bytes_eq r.project caller.project && is_some_so (λ (g : Gateway). ident_eq network g.network) r.gateway) (has_interface state.rows.ports r.id subnet) is).0).0))

  target_alike : (network : Ident) (o p : Option Aim) → option_map blank_aim o ≡ option_map blank_aim p → (f g : Option Target → Outcome) → ((x : Option Target) → answer_alone (f x) ≡ answer_alone (g x))
      → answer_alone (with_target s.rows caller.project network o f) ≡ answer_alone (with_target t.rows caller.project network p g)
  target_alike network None None alike f g here = here None
  target_alike network None (Some b) alike f g here = none_some (blank_aim b) _ alike
  target_alike network (Some a) None alike f g here = none_some (blank_aim a) _ (sym alike)
  target_alike network (Some a) (Some b) alike f g here =
      let one = some_equal (blank_aim a) (blank_aim b) alike in
      needing_by (NoGateway network a.fixed.subnet) (router_for s.rows caller.project network a.fixed.subnet) (router_for t.rows caller.project network b.fixed.subnet)
      (λ r. f (Some (target_by a r))) (λ r. g (Some (target_by b r))) blank_router
      (joins_alike network a.fixed.subnet ∙ ap (λ (x : Aim). option_map blank_router (router_for t.rows caller.project network x.fixed.subnet)) one)
      (λ r w _ _ router. here (Some (target_by a r)) ∙ (λ j. answer_alone (g (Some (target_by (one j) (router j))))))
      ∙ (λ j. answer_alone (needing (NoGateway network (one j).fixed.subnet) (router_for t.rows caller.project network b.fixed.subnet) (λ r. g (Some (target_by b r)))))

  -- making a floating address

  subnet_alike : (n m : NetworkRow) → is_near s.rows caller n.id ≡ true → blank n ≡ blank m → (x : Addr) → subnet_with s.rows n.id x ≡ subnet_with t.rows m.id x
  subnet_alike n m near alike x = ap (λ (z : Near). find (λ (r : SubnetRow). is_host_of r.prefix x) z.subnets) (near_alike settings caller s t same n m near alike)

  address_alike : (n m : NetworkRow) → is_near s.rows caller n.id ≡ true → blank n ≡ blank m → (asked : Option ℕ) → bad_address s.rows asked n ≡ bad_address t.rows asked m
  address_alike n m near alike None = refl
  address_alike n m near alike (Some x) = ap (λ o. when (is_none o) (Invalid (codes "floating_ip_address"))) (subnet_alike n m near alike (V4 x))

  held_alike : (n m : NetworkRow) → is_near s.rows caller n.id ≡ true → blank n ≡ blank m → (asked : Option ℕ) → address_held s.rows n.id asked ≡ address_held t.rows m.id asked
  held_alike n m near alike None = refl
  held_alike n m near alike (Some x) = let z = near_alike settings caller s t same n m near alike in λ j. when ((z j).addresses (V4 x)) (Taken (AddressValue (V4 x)) (alike j).id)

  outer_alike : (n m : NetworkRow) → is_near s.rows caller n.id ≡ true → blank n ≡ blank m → (asked : Option ℕ) → outer_address s.rows n.id asked ≡ outer_address t.rows m.id asked
  outer_alike n m near alike None = let z = near_alike settings caller s t same n m near alike in λ j. floating_address (λ x. not ((z j).addresses x)) (z j).subnets
  outer_alike n m near alike (Some x) = ap (option_map (λ (r : SubnetRow). fixed_at r.id (V4 x))) (subnet_alike n m near alike (V4 x))

  body_same : (form : FloatingForm) (owner : List ℕ) → (is_for_other caller form.project_id form.tenant_id ≡ false → owner ≡ caller.project)
      → body_refusal s.rows caller form owner (network_seen s.rows caller (value_of form.floating_network_id)) ≡ body_refusal t.rows caller form owner (network_seen t.rows caller (value_of form.floating_network_id))
  body_same form owner mine =
      λ j. first_refusal (when (lacks_port form) (Invalid (codes "fixed_ip_address")) ∷ when (are_unlike form.project_id form.tenant_id) (Invalid (codes "tenant_id")) ∷ outside j ∷ address j ∷ aimed j ∷ [])
    where
      name : Option Ident
      name = value_of form.floating_network_id

      aimed : option_and_then (bad_aim owner (value_of form.fixed_ip_address)) (port_asked s.rows caller form) ≡ option_and_then (bad_aim owner (value_of form.fixed_ip_address)) (port_asked t.rows caller form)
      aimed = bad_alike form owner

      address : option_and_then (bad_address s.rows (value_of form.floating_ip_address)) (network_seen s.rows caller name) ≡ option_and_then (bad_address t.rows (value_of form.floating_ip_address)) (network_seen t.rows caller name)
      address = then_named settings caller tenant s t same name (bad_address s.rows (value_of form.floating_ip_address)) (bad_address t.rows (value_of form.floating_ip_address))
          (λ n m found_n found_m alike. address_alike n m (named_near s.rows caller name n found_n) alike (value_of form.floating_ip_address))

      outside : (if not caller.admin && is_for_other caller form.project_id form.tenant_id then None else option_and_then (bad_outside s.rows owner) (network_seen s.rows caller name))
          ≡ (if not caller.admin && is_for_other caller form.project_id form.tenant_id then None else option_and_then (bad_outside t.rows owner) (network_seen t.rows caller name))
      outside = if_own (not caller.admin && is_for_other caller form.project_id form.tenant_id) (option_and_then (bad_outside s.rows owner) (network_seen s.rows caller name)) (option_and_then (bad_outside t.rows owner) (network_seen t.rows caller name))
          (λ own. let is = mine (not_admin caller.admin (is_for_other caller form.project_id form.tenant_id) tenant own) in
          subst (λ project. option_and_then (bad_outside s.rows project) (network_seen s.rows caller name) ≡ option_and_then (bad_outside t.rows project) (network_seen t.rows caller name)) (sym is)
          (then_named settings caller tenant s t same name (bad_outside s.rows caller.project) (bad_outside t.rows caller.project)
          (λ n m found_n found_m alike. ap (λ (z : Near). when (not z.external) (Invalid (codes "floating_network_id"))) (near_alike settings caller s t same n m (named_near s.rows caller name n found_n) alike))))

  creation_same : (form : FloatingForm) (owner : List ℕ) (n m : NetworkRow) → is_near s.rows caller n.id ≡ true → blank n ≡ blank m
      → (admin_only caller (is_given form.floating_ip_address || is_for_other caller form.project_id form.tenant_id) ≡ None → owner ≡ caller.project)
      → option_and_then (bad_aim owner (value_of form.fixed_ip_address)) (port_asked s.rows caller form) ≡ None
      → creation_refusal s.rows caller form n ≡ creation_refusal t.rows caller form m
  creation_same form owner n m near alike mine aimed =
      first_same (found s) (found t) (admin ∷ behind s n) (admin ∷ behind t m)
      (unless_found_alike PortKind (value_of form.port_id) (port_asked s.rows caller form) (port_asked t.rows caller form) (some_view blank_port (port_asked s.rows caller form) (port_asked t.rows caller form) (asked_alike form)))
      (λ _ _. first_same admin admin (behind s n) (behind t m) refl
      (λ passes _. let used = then_alike (aim_asked s.rows caller form) (aim_asked t.rows caller form) blank_aim (aim_alike form) (aim_in_use s.rows caller s.rows.floatings n.id) (aim_in_use t.rows caller t.rows.floatings m.id)
      (λ aim other found_s found_t one. use_alike form aim other found_s found_t one (aim_mine form owner (mine passes) aim found_s aimed) n.id ∙ ap (λ (z : NetworkRow). aim_in_use t.rows caller t.rows.floatings z.id other) alike) in
      let held = held_alike n m near alike (value_of form.floating_ip_address) in
      (λ j. first_refusal (used j ∷ held j ∷ []))))
    where
      found : State → Option Refusal
      found state = unless_found PortKind (value_of form.port_id) (port_asked state.rows caller form)

      admin : Option Refusal
      admin = admin_only caller (is_given form.floating_ip_address || is_for_other caller form.project_id form.tenant_id)

      behind : State → NetworkRow → List (Option Refusal)
      behind state r = option_and_then (aim_in_use state.rows caller state.rows.floatings r.id) (aim_asked state.rows caller form) ∷ address_held state.rows r.id (value_of form.floating_ip_address) ∷ []

  abbrev added : FloatingForm → NetworkRow → Option Target → Fixed → ℕ → Drawing → Outcome
  added form n target outer mac z = let f : FloatingRow = new_floating form caller.project n (drawn_id z 0) (drawn_id z 1) (number outer.address) target in floating_added caller z.rows f (own_port settings n f mac outer)

  with_alike : (form : FloatingForm) (n m : NetworkRow) → is_near s.rows caller n.id ≡ true → blank n ≡ blank m → (target : Option Target)
      → answer_alone (floating_with settings s caller form caller.project n target) ≡ answer_alone (floating_with settings t caller form caller.project m target)
  with_alike form n m near alike target = unless_same (over_quota settings s.rows caller.project FloatingKind) (over_quota settings t.rows caller.project FloatingKind) (chosen s n) (chosen t m)
      (quota_own settings caller tenant s t same caller.project refl FloatingKind)
      (λ _ _. chosen_alike settings caller tenant s t same (PoolsSpent n.id) (outer_address s.rows n.id (value_of form.floating_ip_address)) (outer_address t.rows m.id (value_of form.floating_ip_address))
      (outer_alike n m near alike (value_of form.floating_ip_address)) (free_mac s.rows.ports n.id) (free_mac t.rows.ports m.id)
      (free_mac_same s.rows.ports t.rows.ports n.id (ap (λ (z : Near). z.macs) (near_same settings caller s t same n.id near)) ∙ ap (λ z. free_mac t.rows.ports z.id) alike)
      caller.project refl 2 (added form n target) (added form m target)
      (λ outer mac x y at_x at_y counts. λ j. Told (NewRow (shown_as FloatingKind caller.admin [] (floating_members
      (new_floating form caller.project (alike j) (ident (counts j).0 ((counts j).1 + 0)) (ident (counts j).0 ((counts j).1 + 1)) (number outer.address) target)))))
      ∙ (λ j. answer_alone (needing (PoolsSpent (alike j).id) (outer_address t.rows m.id (value_of form.floating_ip_address)) (λ outer.
      needing CountersSpent (free_mac t.rows.ports m.id) (λ mac. needing CountersSpent (drawing_at t caller.project 2) (added form m target outer mac))))))
    where
      chosen : State → NetworkRow → Outcome
      chosen state r = needing (PoolsSpent r.id) (outer_address state.rows r.id (value_of form.floating_ip_address)) (λ outer.
          needing CountersSpent (free_mac state.rows.ports r.id) (λ mac. needing CountersSpent (drawing_at state caller.project 2) (added form r target outer mac)))

  pub floating_created_apart : (form : FloatingForm) → answer_alone (floating_created settings s caller form) ≡ answer_alone (floating_created settings t caller form)
  floating_created_apart form = unless_same (body_refusal s.rows caller form owner (network_seen s.rows caller name)) (body_refusal t.rows caller form owner (network_seen t.rows caller name)) (on s) (on t)
      (body_same form owner (λ h. owner_own caller form.project_id form.tenant_id h))
      (λ body _. named_alike settings caller s t same (not_found NetworkKind (text_of name)) name (at s) (at t)
      (λ n m found_n found_m alike. let near = named_near s.rows caller name n found_n in
      unless_same (creation_refusal s.rows caller form n) (creation_refusal t.rows caller form m) (led s owner n) (led t owner m)
      (creation_same form owner n m near alike mine (none_at (body_refusals s) body 4 (option_and_then (bad_aim owner (value_of form.fixed_ip_address)) (port_asked s.rows caller form)) refl))
      (λ passes _. subst (λ project. answer_alone (led s project n) ≡ answer_alone (led t project m)) (sym (mine (none_at (refusals s n) passes 1 admin refl)))
      (target_alike n.id (aim_asked s.rows caller form) (aim_asked t.rows caller form) (aim_alike form) (floating_with settings s caller form caller.project n) (floating_with settings t caller form caller.project m) (with_alike form n m near alike)
      ∙ (λ j. answer_alone (with_target t.rows caller.project (alike j).id (aim_asked t.rows caller form) (floating_with settings t caller form caller.project m)))))))
    where
      name : Option Ident
      name = value_of form.floating_network_id

      owner : List ℕ
      owner = owner_of caller form.project_id form.tenant_id

      admin : Option Refusal
      admin = admin_only caller (is_given form.floating_ip_address || is_for_other caller form.project_id form.tenant_id)

      mine : admin ≡ None → owner ≡ caller.project
      mine passes = owner_own caller form.project_id form.tenant_id (or_none (is_given form.floating_ip_address) (is_for_other caller form.project_id form.tenant_id)
          (admin_passes caller tenant (is_given form.floating_ip_address || is_for_other caller form.project_id form.tenant_id) passes)).1

      led : State → List ℕ → NetworkRow → Outcome
      led state project n = with_target state.rows project n.id (aim_asked state.rows caller form) (floating_with settings state caller form project n)

      at : State → NetworkRow → Outcome
      at state n = unless (creation_refusal state.rows caller form n) (led state owner n)

      on : State → Outcome
      on state = needing (not_found NetworkKind (text_of name)) (network_seen state.rows caller name) (at state)

      body_refusals : State → List (Option Refusal)
      body_refusals state = when (lacks_port form) (Invalid (codes "fixed_ip_address"))
          ∷ when (are_unlike form.project_id form.tenant_id) (Invalid (codes "tenant_id"))
          ∷ (if not caller.admin && is_for_other caller form.project_id form.tenant_id then None else option_and_then (bad_outside state.rows owner) (network_seen state.rows caller name))
          ∷ option_and_then (bad_address state.rows (value_of form.floating_ip_address)) (network_seen state.rows caller name)
          ∷ option_and_then (bad_aim owner (value_of form.fixed_ip_address)) (port_asked state.rows caller form)
          ∷ []

      refusals : State → NetworkRow → List (Option Refusal)
      refusals state n = unless_found PortKind (value_of form.port_id) (port_asked state.rows caller form)
          ∷ admin
          ∷ option_and_then (aim_in_use state.rows caller state.rows.floatings n.id) (aim_asked state.rows caller form)
          ∷ address_held state.rows n.id (value_of form.floating_ip_address)
          ∷ []

  -- changing a floating address

  floating_found : (name : Option Ident) → floating_seen s.rows caller name ≡ floating_seen t.rows caller name
  floating_found name = ap (at_name (λ (f : FloatingRow). f.id) name) (floatings_alike settings caller tenant s t same)

  update_same : (form : FloatingForm) (f : FloatingRow) → f.project ≡ caller.project → update_refusal s caller form f ≡ update_refusal t caller form f
  update_same form f mine = first_same (aimed s) (aimed t) (behind s) (behind t) (bad_alike form f.project)
      (λ passes _. let used = then_alike (aim_asked s.rows caller form) (aim_asked t.rows caller form) blank_aim (aim_alike form)
      (aim_in_use s.rows caller (gone_from (λ (g : FloatingRow). g.id) f.id s.rows.floatings) f.network) (aim_in_use t.rows caller (gone_from (λ (g : FloatingRow). g.id) f.id t.rows.floatings) f.network)
      (λ aim other found_s found_t one. other_alike form aim other found_s found_t one (aim_mine form f.project mine aim found_s passes) f.network f.id) in
      let found = unless_found_alike PortKind (value_of form.port_id) (port_asked s.rows caller form) (port_asked t.rows caller form) (some_view blank_port (port_asked s.rows caller form) (port_asked t.rows caller form) (asked_alike form)) in
      (λ j. first_refusal (found j ∷ owner_only caller f.project ∷ used j ∷ [])))
    where
      aimed : State → Option Refusal
      aimed state = option_and_then (bad_aim f.project (value_of form.fixed_ip_address)) (port_asked state.rows caller form)

      behind : State → List (Option Refusal)
      behind state = unless_found PortKind (value_of form.port_id) (port_asked state.rows caller form)
          ∷ owner_only caller f.project
          ∷ option_and_then (aim_in_use state.rows caller (gone_from (λ (g : FloatingRow). g.id) f.id state.rows.floatings) f.network) (aim_asked state.rows caller form)
          ∷ []

  changed_alike : (form : FloatingForm) (f : FloatingRow) → f.project ≡ caller.project → answer_alone (floating_changed s caller form f) ≡ answer_alone (floating_changed t caller form f)
  changed_alike form f mine = unless_same (update_refusal s caller form f) (update_refusal t caller form f) (led s f.project) (led t f.project) (update_same form f mine)
      (λ _ _. subst (λ project. answer_alone (led s project) ≡ answer_alone (led t project)) (sym mine)
      (target_alike f.network (aim_asked s.rows caller form) (aim_asked t.rows caller form) (aim_alike form) (replaced s) (replaced t)
      (λ target. unless_same (when (is_last s) CountersSpent) (when (is_last t) CountersSpent) (put s target) (put t target) (λ j. when (same j).is_last CountersSpent) (λ _ _. refl))))
    where
      put : State → Option Target → Outcome
      put state target = accepted state.rows (Put (Floating (changed_floating form f target)) ∷ []) (λ after. OneRow (floating_shown after caller (changed_floating form f target) []))

      replaced : State → Option Target → Outcome
      replaced state target = floating_replaced state caller (changed_floating form f target)

      led : State → List ℕ → Outcome
      led state project = with_target state.rows project f.network (aim_asked state.rows caller form) (replaced state)

  pub floating_updated_apart : (name : IdText) (form : FloatingForm) → answer_alone (floating_updated s caller name form) ≡ answer_alone (floating_updated t caller name form)
  floating_updated_apart name form = unless_same lacks lacks (on s) (on t) refl
      (λ _ _. needing_same (not_found FloatingKind name.text) (floating_seen s.rows caller name.id) (floating_seen t.rows caller name.id) (floating_changed s caller form) (floating_changed t caller form) (floating_found name.id)
      (λ f found_s _. changed_alike form f (bytes_same f.project caller.project (own_here caller tenant (λ (g : FloatingRow). g.id) (λ (g : FloatingRow). g.project) name.id s.rows.floatings f found_s).2)))
    where
      lacks : Option Refusal
      lacks = when (lacks_port form) (Invalid (codes "fixed_ip_address"))

      on : State → Outcome
      on state = needing (not_found FloatingKind name.text) (floating_seen state.rows caller name.id) (floating_changed state caller form)

  -- taking a floating address out

  pub floating_deleted_apart : (name : IdText) → answer_alone (floating_deleted s caller name) ≡ answer_alone (floating_deleted t caller name)
  floating_deleted_apart name = needing_same (not_found FloatingKind name.text) (floating_seen s.rows caller name.id) (floating_seen t.rows caller name.id)
      (λ f. unless (deletion_refusal s caller f) (accepted s.rows (Drop PortKind f.own_port ∷ Drop FloatingKind f.id ∷ []) (λ rows. NoRow)))
      (λ f. unless (deletion_refusal t caller f) (accepted t.rows (Drop PortKind f.own_port ∷ Drop FloatingKind f.id ∷ []) (λ rows. NoRow))) (floating_found name.id)
      (λ f _ _. unless_same (deletion_refusal s caller f) (deletion_refusal t caller f) (accepted s.rows (Drop PortKind f.own_port ∷ Drop FloatingKind f.id ∷ []) (λ rows. NoRow)) (accepted t.rows (Drop PortKind f.own_port ∷ Drop FloatingKind f.id ∷ []) (λ rows. NoRow))
      (λ j. first_refusal (owner_only caller f.project ∷ when (same j).is_last CountersSpent ∷ []))
      (λ _ _. refl))

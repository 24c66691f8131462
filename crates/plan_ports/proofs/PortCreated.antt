-- An accepted creation of a port keeps rows consistent.
use Rattle.call_parts.specs.Edits.{Add}
use Rattle.kept_laws.proofs.TypedKept.{HaveKept, IsTypedEdit, drawing_typed, made_typed}
use Rattle.std.proofs.Common.{lit<, Bool, List, None, Option, Some, [], ap, arith, cond, false, length, map, not, refl, slice_get, subst, sym, true, ℕ, ◌+◌, ◌-◌, ◌<◌, ◌^◌, ◌∙◌, ◌∷◌, ◌≡◌, ◌≤◌}
use Rattle.std.specs.Prelude.{codes, count_by, find, if◌then◌else◌, nat_le, nat_lt, option_and_then, position, sum_by, ◌&&◌, ◌||◌}
use Rattle.std.proofs.lemmas.Bool.Decides.{nat_tests}
use Rattle.std.specs.List.{list_all, list_any}
use Rattle.api_types.specs.declared.kind.Row.TheVariants.{Port as PortAdded}
use Rattle.std.specs.Str.{bytes_eq}
use Rattle.net_addr.proofs.AddrLemmas.{addr_same}
use Rattle.net_addr.specs.Addresses.{addr_eq}
use Rattle.net_addr.specs.Macs.{is_unicast}
use Rattle.net_addr.specs.Prefixes.{IsPrefix, is_host_of}
use Rattle.net_addr.specs.declared.address.Addr.{Addr}
use Rattle.api_types.specs.Consistent.{IsConsistent}
use Rattle.api_types.specs.Consistent.Groups.{is_default_of}
use Rattle.api_types.specs.Consistent.HeldOnce.{has_mac, holds_times}
use Rattle.api_types.specs.Consistent.Hosts.{is_host_in, is_own_address}
use Rattle.api_types.specs.Consistent.InForm.{is_eui, is_group_of, is_network_of, is_port_form}
use Rattle.api_types.specs.Consistent.Named.{names_subnet}
use Rattle.api_types.specs.Ident.{Ident}
use Rattle.api_types.specs.Lists.{Each, is_empty, is_some_so}
use Rattle.api_types.specs.Outcome.{Moved, Outcome}
use Rattle.api_types.specs.Owners.{is_dhcp, is_interface}
use Rattle.api_types.specs.Printed.{Reply}
use Rattle.api_types.specs.Registration.{Drawing, default_group, draw_at, draw_for, draw_of, drawn_id, is_named, with_count, with_project}
use Rattle.api_types.specs.RowLists.{RowLists}
use Rattle.api_types.specs.Sharing.{is_shared_with}
use Rattle.api_types.specs.Table.{ident_eq}
use Rattle.api_types.specs.declared.call.Call.TheVariants.{Create}
use Rattle.api_types.specs.declared.call.Caller.{Caller}
use Rattle.api_types.specs.declared.form.FixedAsked.{FixedAsked}
use Rattle.api_types.specs.declared.form.Form.TheVariants.{Port as PortOf}
use Rattle.api_types.specs.declared.form.Given.{Given}
use Rattle.api_types.specs.declared.form.Given.TheVariants.{Absent, Is, Null}
use Rattle.api_types.specs.declared.form.PairAsked.{PairAsked}
use Rattle.api_types.specs.declared.form.PortForm.{PortForm}
use Rattle.api_types.specs.declared.group.GroupRow.{GroupRow}
use Rattle.api_types.specs.declared.kind.Kind.TheVariants.{Group as GroupKind, Network as NetworkKind, Port as PortKind, Subnet as SubnetKind}
use Rattle.api_types.specs.declared.network.NetworkRow.{NetworkRow}
use Rattle.api_types.specs.declared.port.Fixed.{Fixed}
use Rattle.api_types.specs.declared.port.PortRow.{PortRow}
use Rattle.api_types.specs.declared.project.ProjectRow.{ProjectRow}
use Rattle.api_types.specs.declared.refusal.Refusal.TheVariants.{CountersSpent, Invalid, PoolsSpent}
use Rattle.api_types.specs.declared.subnet.SubnetRow.{SubnetRow}
use Rattle.row_laws.specs.Drawn.{IsDrawing}
use Rattle.row_laws.specs.NewRows.{IsNewPort, with_port}
use Rattle.row_laws.proofs.Service.DhcpLemmas.{free_sum}
use Rattle.row_laws.proofs.DrawnKept.{draws, drawing_carried}
use Rattle.api_types.proofs.ListLemmas.{and_both, any-at, any-grows, at-any, at_filter, both_and, count-none, false_true, none-any, none_some, one_row, or_none, or_true, some_equal}
use Rattle.api_types.proofs.NameLemmas.{all-weaker, at-all, by_test, bytes_same, ident_itself, ident_sym, not_false, not_true, or_weaker}
use Rattle.row_laws.proofs.PortPushed.{port_pushed}
use Rattle.kept_laws.proofs.EditedRows.{none_refused}
use Rattle.plan_ports.proofs.FixedApart.{AreTaken, any_taken, around_forms, around_once, around_prefixes}
use Rattle.kept_laws.proofs.FixedFits.{Fits, asked_few, each_cons, each_none, items_differ, items_filled}
use Rattle.kept_laws.proofs.GatewayStays.{unmapped}
use Rattle.kept_laws.proofs.GivenLemmas.{value_few}
use Rattle.plan_ports.proofs.NoService.{serves_nothing}
use Rattle.kept_laws.proofs.PoolHosts.{IsFreeMac, free_mac_is}
use Rattle.plan_ports.proofs.PortBodies.{PortBodyParts, bare_so, counted_once, groups_named, is_placed_so, mac_unheld, map_empty, map_few, owner_plain, pairs_unicast, port_parts}
use Rattle.call_parts.specs.BodyNames.{text_of, unless_all}
use Rattle.api_ipam.specs.FixedChoice.{are_placed, first_addresses, first_known, named_subnets}
use Rattle.api_types.specs.HeldAddresses.{address_taken, is_address_held, is_mac_held, subnets_on}
use Rattle.call_parts.specs.InForm.{IsFormed, if_value, is_few, is_pair, is_port_body, is_there}
use Rattle.api_ipam.specs.MacChoice.{expected_mac, mac_for}
use Rattle.api_policy.specs.Permits.{admin_only, network_access, network_owner}
use Rattle.plan_ports.specs.PortCalls.{addresses_at_first, bad_first_fixed, body_refusal, creation_refusal, groups_at_first, ids_of, is_group_for, items_of, mac_at_first, mac_taken, new_port, pair_of, port_added, port_created, port_made, values_taken}
use Rattle.api_policy.specs.Marked.{may_use}
use Rattle.api_policy.specs.Quotas.{over_quota}
use Rattle.plan_ports.specs.PortRules.{bad_bare, is_subnet_seen}
use Rattle.api_policy.specs.Seen.{network_seen}
use Rattle.call_parts.specs.Typed.{AreTyped, IfGiven}
use Rattle.api_policy.specs.Visibility.{sees_network, uses_network}
use Rattle.kept_laws.proofs.OutcomeLemmas.{found_at, if_some as if_some_moved, moved_rows, named_is, needing_moved, not_when, unless_moved}
use Rattle.api_types.specs.Given.{are_unlike, is_for_other, is_given, is_other, owner_of, value_of, value_or}
use Rattle.api_types.specs.Refusing.{needing, not_found, when}
use Rattle.call_parts.specs.State.{State, drawing_at, is_last}
use Rattle.net_settings.specs.Settings.{SettingsParts}
use Rattle.kept_laws.proofs.CarriedKept.{IsCarriedEdit, made_carried}
use Rattle.kept_laws.proofs.ServiceMade.{bound_carried}
use Rattle.api_ml2.specs.Carrying.{carries}
use Rattle.api_policy.specs.Reserved.{port_for_admin, port_for_owner}
use Rattle.call_parts.proofs.OwnerLemmas.{owner_named}

-- a caller who is no administrator makes rows for its own project
pub own_project : (caller : Caller) (project tenant : Given (List ℕ)) → is_for_other caller project tenant ≡ false → owner_of caller project tenant ≡ caller.project
own_project caller project tenant h =
    let both = or_none (is_other caller project) (is_other caller tenant) h in
    same (value_or caller.project tenant) project (same caller.project tenant refl both.1) both.0
  where
    same : (old : List ℕ) (g : Given (List ℕ)) → old ≡ caller.project → is_other caller g ≡ false → value_or old g ≡ caller.project
    same old Absent was h = was
    same old Null was h = was
    same old (Is name) was h = bytes_same name caller.project (not_false (bytes_eq name caller.project) h)

-- groups that were there are there in the rows of a drawing
drawn_groups : (rows : RowLists) (name : List ℕ) (many : ℕ) (d : Drawing) (test : GroupRow → Bool) → draw_of rows name many ≡ Some d → list_any test rows.groups ≡ true → list_any test d.rows.groups ≡ true
drawn_groups rows name many d test h there = by (position (is_named name) rows.projects) h
  where
    at_project : (place : ℕ) (o : Option ProjectRow) → draw_for rows place many o ≡ Some d → list_any test d.rows.groups ≡ true
    at_project place None h = none_some d _ h
    at_project place (Some p) h = at_test (nat_lt (p.count + many) (2 ^ 62)) h
      where
        at_test : (b : Bool) → (if b then Some (record { rows = with_count rows place p (p.count + many); ordinal = p.ordinal; first = p.count + 1 }) else None) ≡ Some d → list_any test d.rows.groups ≡ true
        at_test true h = ap (λ (e : Drawing). list_any test e.rows.groups) (sym (some_equal (record { rows = with_count rows place p (p.count + many); ordinal = p.ordinal; first = p.count + 1 }) d h)) ∙ there
        at_test false h = none_some d _ h

    by : (o : Option ℕ) → draw_at rows name many o ≡ Some d → list_any test d.rows.groups ≡ true
    by None h = at_test (nat_lt (length rows.projects) (2 ^ 32 - 1)) h
      where
        at_test : (b : Bool) → (if b then Some (record { rows = with_project rows name (length rows.projects + 1) (5 + many); ordinal = length rows.projects + 1; first = 6 }) else None) ≡ Some d → list_any test d.rows.groups ≡ true
        at_test true h = ap (λ (e : Drawing). list_any test e.rows.groups) (sym (some_equal (record { rows = with_project rows name (length rows.projects + 1) (5 + many); ordinal = length rows.projects + 1; first = 6 }) d h))
            ∙ any-grows test rows.groups (default_group name (length rows.projects + 1)) there
        at_test false h = none_some d _ h
    by (Some place) h = at_project place (slice_get rows.projects place) h

-- the default group of a project is a group of it, and one at most
default_is : (groups : List GroupRow) (project : List ℕ) → list_all (is_group_of groups project) (ids_of (find (is_default_of project) groups)) ≡ true
default_is groups project = by (find (is_default_of project) groups) refl
  where
    by : (o : Option GroupRow) → find (is_default_of project) groups ≡ o → list_all (is_group_of groups project) (ids_of o) ≡ true
    by None e = refl
    by (Some g) e =
        let found = found_at (is_default_of project) groups g e in
        let own = (and_both g.is_default (bytes_eq g.project project) found.2).1 in
        ap (λ b. b && true) (at-any (λ x. ident_eq g.id x.id && bytes_eq x.project project) groups found.0 g found.1 (both_and _ _ (ident_itself g.id) own))

few_ids : (o : Option GroupRow) → nat_le (length (ids_of o)) 20 ≡ true
few_ids None = refl
few_ids (Some g) = refl

-- a new port's groups
module _ (groups : List GroupRow) (project : List ℕ) where
  groups_of : (secured : Bool) (g : Given (List Ident)) → list_all (is_group_of groups project) (value_or [] g) ≡ true → list_all (is_group_of groups project) (groups_at_first groups project secured g) ≡ true
  groups_of secured (Is names) h = h
  groups_of true Absent h = default_is groups project
  groups_of true Null h = default_is groups project
  groups_of false Absent h = refl
  groups_of false Null h = refl

  groups_few : (secured : Bool) (g : Given (List Ident)) → is_few 20 g ≡ true → nat_le (length (groups_at_first groups project secured g)) 20 ≡ true
  groups_few secured (Is names) h = h
  groups_few true Absent h = few_ids (find (is_default_of project) groups)
  groups_few true Null h = few_ids (find (is_default_of project) groups)
  groups_few false Absent h = refl
  groups_few false Null h = refl

  groups_bare : (secured : Bool) (g : Given (List Ident)) (pairs : Bool) → secured || (is_empty (value_or [] g) && pairs) ≡ true → secured || (is_empty (groups_at_first groups project secured g) && pairs) ≡ true
  groups_bare true g pairs h = refl
  groups_bare false (Is names) pairs h = h
  groups_bare false Absent pairs h = h
  groups_bare false Null pairs h = h

-- the port is on a network that its project may use, or is marked
there : (rows : RowLists) (owner : List ℕ) (n : NetworkRow) (admin : Bool) (k : ℕ) → slice_get rows.networks k ≡ Some n → (admin ≡ false → may_use rows owner n ≡ true)
    → (admin && not (may_use rows owner n)) || (is_shared_with rows.policies n.id owner || is_network_of rows.networks owner n.id) ≡ true
there rows owner n admin k at tenant = by admin refl (bytes_eq n.project owner) refl (is_shared_with rows.policies n.id owner) refl
  where
    mine : bytes_eq n.project owner ≡ true → is_network_of rows.networks owner n.id ≡ true
    mine own = at-any (λ m. ident_eq n.id m.id && bytes_eq m.project owner) rows.networks k n at (both_and _ _ (ident_itself n.id) own)

    by : (a : Bool) → admin ≡ a → (b : Bool) → bytes_eq n.project owner ≡ b → (s : Bool) → is_shared_with rows.policies n.id owner ≡ s
        → (a && not (b || s)) || (s || is_network_of rows.networks owner n.id) ≡ true
    by a e true f true g = or_true (a && false)
    by a e true f false g = ap (λ t. (a && false) || t) (mine f) ∙ or_true (a && false)
    by a e false f true g = or_true (a && false)
    by true e false f false g = refl
    by false e false f false g = false_true _ ((λ j. sym f j || sym g j) ∙ tenant e)

-- what a body's refusals say of it, and those of the creation
pub record IsAllowed (rows : RowLists) (caller : Caller) (form : PortForm) (n : NetworkRow) (owner : List ℕ) : Type 0 where
  pub groups : list_all (is_group_of rows.groups owner) (value_or [] form.security_groups) ≡ true
  pub admin : port_for_admin caller form && not caller.admin ≡ false
  pub access : not (caller.admin || uses_network rows caller.project n.id) ≡ false
  pub unheld : find (is_address_held rows.ports n.id) (first_known (subnets_on rows.subnets n.id) (mac_at_first rows.ports form n.id) form.fixed_ips) ≡ None
  pub mac : mac_taken (is_mac_held rows.ports n.id) n.id (value_of form.mac_address) ≡ None

allowed_is : (settings : SettingsParts) (rows : RowLists) (caller : Caller) (form : PortForm) (n : NetworkRow) (owner : List ℕ) → creation_refusal settings rows caller form n owner ≡ None → IsAllowed rows caller form n owner
allowed_is settings rows caller form n owner h =
    let known = first_known (subnets_on rows.subnets n.id) (mac_at_first rows.ports form n.id) form.fixed_ips in
    let of_groups = unless_all GroupKind (is_group_for rows caller owner) (value_or [] form.security_groups) in
    let of_admin = admin_only caller (port_for_admin caller form) in
    let of_access = network_access rows caller n.id in
    let of_values = values_taken (is_address_held rows.ports n.id) (is_mac_held rows.ports n.id) n.id known form in
    let none = none_refused (of_groups ∷ of_admin ∷ network_owner rows caller (port_for_owner form) n.id ∷ of_access ∷ of_values ∷ over_quota settings rows owner PortKind ∷ []) h in
    let of_addresses = address_taken (is_address_held rows.ports n.id) n.id known in
    let of_mac = mac_taken (is_mac_held rows.ports n.id) n.id (value_of form.mac_address) in
    let values = none_refused (of_addresses ∷ of_mac ∷ []) (none 4 of_values refl) in
    record {
      groups = groups_named rows caller owner (value_or [] form.security_groups) (none 0 of_groups refl);
      admin = not_when (port_for_admin caller form && not caller.admin) _ (none 1 of_admin refl);
      access = not_when (not (caller.admin || uses_network rows caller.project n.id)) _ (none 3 of_access refl);
      unheld = unmapped _ (find (is_address_held rows.ports n.id) known) (values 0 of_addresses refl);
      mac = values 1 of_mac refl;
    }

-- the MAC address that is named, or generated
pub mac_is_free : (ports : List PortRow) (network : Ident) (g : Given ℕ) (mac : ℕ) → if_value is_unicast g ≡ true → IfGiven (λ m. m < 2 ^ 48) g → mac_taken (is_mac_held ports network) network (value_of g) ≡ None
    → mac_for ports network g ≡ Some mac → IsFreeMac ports network mac
mac_is_free ports network Absent mac unicast small free h = free_mac_is ports network mac h
mac_is_free ports network Null mac unicast small free h = free_mac_is ports network mac h
mac_is_free ports network (Is m) mac unicast small free h =
    subst (IsFreeMac ports network) (some_equal m mac h) (record { unicast = unicast; small = small; free = mac_unheld (is_mac_held ports network) network m free })

-- the addresses of a new port
first_taken : (rows : RowLists) (network : Ident) (c : IsConsistent rows) (mac : ℕ) (prefixes : Each (λ s. IsPrefix s.prefix) rows.subnets) (small : mac < 2 ^ 48) (g : Given (List FixedAsked)) (fs : List Fixed)
    → are_placed (subnets_on rows.subnets network) mac [] (value_or [] g) ≡ true → is_few 5 g ≡ true → find (is_address_held rows.ports network) (first_known (subnets_on rows.subnets network) mac g) ≡ None
    → first_addresses (λ x. not (is_address_held rows.ports network x)) (subnets_on rows.subnets network) mac g ≡ Some fs → AreTaken rows network c mac prefixes small (is_address_held rows.ports network) fs
first_taken rows network c mac prefixes small Absent fs placed few unheld h =
    any_taken rows network c mac prefixes small (λ x. not (is_address_held rows.ports network x)) (is_address_held rows.ports network) (λ x free. not_true _ free) fs unheld h
first_taken rows network c mac prefixes small Null fs placed few unheld h =
    any_taken rows network c mac prefixes small (λ x. not (is_address_held rows.ports network x)) (is_address_held rows.ports network) (λ x free. not_true _ free) fs unheld h
first_taken rows network c mac prefixes small (Is wanted) fs placed few unheld h =
    let S = subnets_on rows.subnets network in
    let p = around_prefixes rows network c mac prefixes small in
    let f = around_forms rows network c mac prefixes small in
    let o = around_once rows network c mac prefixes small in
    let filled = items_filled S mac p f o small (λ x. not (is_address_held rows.ports network x)) (is_address_held rows.ports network) (λ x free. not_true _ free) [] (each_none (Fits S mac)) wanted fs placed unheld h in
    let most = asked_few S mac p f o small [] wanted in
    record {
      fit = filled.fit;
      free = filled.free;
      differ = items_differ S mac p f o small (λ x. not (is_address_held rows.ports network x)) [] wanted fs placed h;
      few = omega (arith, filled.few, most, at_most (length wanted) few);
    }
  where
    at_most : (k : ℕ) → true && nat_le k 5 ≡ true → k ≤ 5
    at_most k h = grind (arith, nat_tests, h)

-- addresses that fit are named and hosts
module _ (rows : RowLists) (p : PortRow) (fs : List Fixed) (fits : Each (Fits (subnets_on rows.subnets p.network) p.mac) fs) where
  pub fits_named : list_all (names_subnet rows.subnets p) fs ≡ true
  fits_named = at-all (names_subnet rows.subnets p) fs (λ k f at.
      let fit = fits k f at in
      let s = at_filter (λ (s : SubnetRow). ident_eq p.network s.network) rows.subnets fit.place fit.row fit.at in
      at-any (λ (t : SubnetRow). ident_eq f.subnet t.id && ident_eq t.network p.network) rows.subnets s.0 fit.row s.1
      (both_and _ _ (ap (ident_eq f.subnet) (sym fit.id) ∙ ident_itself f.subnet) (ident_sym p.network fit.row.network s.2)))

  pub fits_hosts : list_all (is_host_in rows.subnets p) fs ≡ true
  fits_hosts = at-all (is_host_in rows.subnets p) fs (λ k f at.
      let fit = fits k f at in
      let s = at_filter (λ (s : SubnetRow). ident_eq p.network s.network) rows.subnets fit.place fit.row fit.at in
      let named = and_both (is_host_of fit.row.prefix f.address) _ fit.named in
      at-any (λ (t : SubnetRow). ident_eq f.subnet t.id && (is_host_of t.prefix f.address && is_own_address p f.address t)) rows.subnets s.0 fit.row s.1
      (both_and _ _ (ap (ident_eq f.subnet) (sym fit.id) ∙ ident_itself f.subnet)
      (both_and _ _ named.0 (or_weaker (not (is_eui fit.row)) _ _ (λ h. ap (λ b. b || (is_interface p.owner && is_some_so (addr_eq f.address) fit.row.gateway)) h) named.1))))

module _ (settings : SettingsParts) (state : State) (caller : Caller) (form : PortForm) (c : IsConsistent state.rows) (typed : AreTyped state.rows) (has : not (is_empty caller.project) ≡ true) (body : PortBodyParts form)
    (mac_small : IfGiven (λ m. m < 2 ^ 48) form.mac_address) (passed : body_refusal state.rows caller form ≡ None) (n : NetworkRow) (seen : network_seen state.rows caller (value_of form.network_id) ≡ Some n)
    (l : ℕ) (at_n : slice_get state.rows.networks l ≡ Some n) where
  abbrev owner : List ℕ
  owner = owner_of caller form.project_id form.tenant_id

  abbrev secured : Bool
  secured = value_or true form.port_security_enabled

  abbrev first_mac : ℕ
  first_mac = mac_at_first state.rows.ports form n.id

  none : Each (λ o. o ≡ None) (when (are_unlike form.project_id form.tenant_id) (Invalid (codes "tenant_id")) ∷ option_and_then (bad_first_fixed state.rows caller form) (network_seen state.rows caller (value_of form.network_id))
      ∷ bad_bare secured (value_or [] form.security_groups) (value_or [] form.allowed_address_pairs) ∷ unless_all SubnetKind (is_subnet_seen state.rows caller) (named_subnets (items_of form)) ∷ [])
  none = none_refused (when (are_unlike form.project_id form.tenant_id) (Invalid (codes "tenant_id")) ∷ option_and_then (bad_first_fixed state.rows caller form) (network_seen state.rows caller (value_of form.network_id))
      ∷ bad_bare secured (value_or [] form.security_groups) (value_or [] form.allowed_address_pairs) ∷ unless_all SubnetKind (is_subnet_seen state.rows caller) (named_subnets (items_of form)) ∷ []) passed

  placed : are_placed (subnets_on state.rows.subnets n.id) first_mac [] (items_of form) ≡ true
  placed = is_placed_so state.rows caller (subnets_on state.rows.subnets n.id) first_mac [] (items_of form)
      (sym (ap (option_and_then (bad_first_fixed state.rows caller form)) seen) ∙ none 1 (option_and_then (bad_first_fixed state.rows caller form) (network_seen state.rows caller (value_of form.network_id))) refl)
      (none 3 (unless_all SubnetKind (is_subnet_seen state.rows caller) (named_subnets (items_of form))) refl)

  bare : secured || (is_empty (value_or [] form.security_groups) && is_empty (value_or [] form.allowed_address_pairs)) ≡ true
  bare = bare_so secured (value_or [] form.security_groups) (value_or [] form.allowed_address_pairs) (none 2 (bad_bare secured (value_or [] form.security_groups) (value_or [] form.allowed_address_pairs)) refl)

  -- a tenant's port is its own, on a network that it may use
  tenant_may : IsAllowed state.rows caller form n owner → caller.admin ≡ false → may_use state.rows owner n ≡ true
  tenant_may allowed tenant =
      let other : is_for_other caller form.project_id form.tenant_id ≡ false = second (is_given form.binding_host_id) (is_for_other caller form.project_id form.tenant_id) (sym (ap (λ b. port_for_admin caller form && not b) tenant) ∙ allowed.admin) in
      let own = own_project caller form.project_id form.tenant_id other in
      let uses : uses_network state.rows caller.project n.id ≡ true = not_false _ (sym (ap (λ b. not (b || uses_network state.rows caller.project n.id)) tenant) ∙ allowed.access) in
      let found = any-at (λ (m : NetworkRow). ident_eq n.id m.id && (bytes_eq m.project caller.project || is_shared_with state.rows.policies m.id caller.project)) state.rows.networks uses in
      let m : NetworkRow = found.1 in
      let both = and_both (ident_eq n.id m.id) _ found.3 in
      let one = one_row (λ (k : NetworkRow). ident_eq n.id k.id) state.rows.networks (omega (arith, c.numbered.ids n.id)) found.0 l m n found.2 at_n both.0 (ident_itself n.id) in
      subst (λ name. may_use state.rows name n ≡ true) (sym own) (subst (λ (k : NetworkRow). bytes_eq k.project caller.project || is_shared_with state.rows.policies k.id caller.project ≡ true) one both.1)
    where
      second : (a b : Bool) → (a || b) && true ≡ false → b ≡ false
      second true b h = cc
      second false true h = cc
      second false false h = refl

  module _ (allowed : IsAllowed state.rows caller form n owner) (d : Drawing) (drew : draw_of state.rows owner 1 ≡ Some d) (drawn : IsDrawing state.rows owner 1 d) (mac : ℕ) (mac_is : mac_for state.rows.ports n.id form.mac_address ≡ Some mac)
      (fixed : List Fixed) (fixed_is : addresses_at_first state.rows form n.id ≡ Some fixed) where
    abbrev port : PortRow
    port = new_port settings d.rows caller form n owner (drawn_id d 0) mac fixed

    free : IsFreeMac state.rows.ports n.id mac
    free = mac_is_free state.rows.ports n.id form.mac_address mac body.unicast mac_small allowed.mac mac_is

    expected : first_mac ≡ mac
    expected = ap expected_mac mac_is

    taken : AreTaken state.rows n.id c mac typed.prefixes free.small (is_address_held state.rows.ports n.id) fixed
    taken = first_taken state.rows n.id c mac typed.prefixes free.small form.fixed_ips fixed
        (subst (λ m. are_placed (subnets_on state.rows.subnets n.id) m [] (items_of form) ≡ true) expected placed) body.few_fixed
        (subst (λ m. find (is_address_held state.rows.ports n.id) (first_known (subnets_on state.rows.subnets n.id) m form.fixed_ips) ≡ None) expected allowed.unheld)
        (subst (λ m. first_addresses (λ x. not (is_address_held state.rows.ports n.id x)) (subnets_on state.rows.subnets n.id) m form.fixed_ips ≡ Some fixed) expected fixed_is)

    fits_d : Each (Fits (subnets_on d.rows.subnets n.id) mac) fixed
    fits_d = subst (λ subnets. Each (Fits (subnets_on subnets n.id) mac) fixed) (sym drawn.subnets) taken.fit

    -- no address is held twice
    alone : (x : Addr) → sum_by (holds_times n.id x) d.rows.ports + holds_times n.id x port ≤ 1
    alone x =
        let before : sum_by (holds_times n.id x) d.rows.ports ≤ 1 = drawn.consistent.held_once.addresses n.id x in
        let mine : holds_times n.id x port ≡ count_by (λ (f : Fixed). addr_eq f.address x) fixed = ap (λ b. cond {A = ℕ} b (count_by (λ (f : Fixed). addr_eq f.address x) fixed) 0) (ident_itself n.id) in
        let once = counted_once fixed x taken.differ in
        by_test (list_any (λ (f : Fixed). addr_eq f.address x) fixed) (sum_by (holds_times n.id x) d.rows.ports + holds_times n.id x port ≤ 1)
        (λ is.
        let found = any-at (λ (f : Fixed). addr_eq f.address x) fixed is in
        let f : Fixed = found.1 in
        let unheld : is_address_held d.rows.ports n.id x ≡ false = (λ j. is_address_held (drawn.ports j) n.id (sym (addr_same f.address x found.3) j)) ∙ taken.free found.0 f found.2 in
        let zeros = free_sum d.rows.ports n.id x unheld in
        omega (arith, zeros, mine, once))
        (λ other. let zeros = count-none (λ (f : Fixed). addr_eq f.address x) fixed (none-any (λ (f : Fixed). addr_eq f.address x) fixed other) in omega (arith, before, mine, zeros))

    form_is : is_port_form port ≡ true
    form_is =
        let asked = value_or [] form.allowed_address_pairs in
        let unicast = pairs_unicast mac asked free.unicast (given_pairs form.allowed_address_pairs body.pairs) in
        let few_fixed : nat_le (length fixed) 5 ≡ true = at_most (length fixed) taken.few in
        let few_pairs : nat_le (length (map (pair_of mac) asked)) 10 ≡ true = ap (λ k. nat_le k 10) (map_few (pair_of mac) asked) ∙ value_few 10 [] form.allowed_address_pairs refl body.few_pairs in
        let few_groups = groups_few d.rows.groups owner secured form.security_groups body.few_groups in
        λ j. free.unicast j && unicast j && (few_fixed j || is_dhcp port.owner) && few_pairs j && few_groups j
      where
        at_most : (k : ℕ) → k ≤ 5 → nat_le k 5 ≡ true
        at_most k h = grind (arith, nat_tests, h)

        given_pairs : (g : Given (List PairAsked)) → if_value (list_all is_pair) g ≡ true → list_all is_pair (value_or [] g) ≡ true
        given_pairs Absent h = refl
        given_pairs Null h = refl
        given_pairs (Is pairs) h = h

    is_new : IsNewPort d.rows port
    is_new =
        let plain = serves_nothing (value_or [] form.device_owner) (owner_plain [] form.device_owner refl body.no_service) in
        let at_d : slice_get d.rows.networks l ≡ Some n = ap (λ networks. slice_get networks l) drawn.networks ∙ at_n in
        record {
          fresh = drawn.fresh 0 (lit< tt);
          drawn = drawn.drawn 0 (lit< tt);
          network = at-any (λ m. ident_eq n.id m.id) d.rows.networks l n at_d (ident_itself n.id);
          project = drawn.project;
          no_interface = plain.no_interface;
          no_gateway = plain.no_gateway;
          no_dhcp = plain.no_dhcp;
          form = form_is;
          mac = count-none (has_mac n.id mac) d.rows.ports (none-any (has_mac n.id mac) d.rows.ports (ap (λ ports. is_mac_held ports n.id mac) drawn.ports ∙ free.free));
          addresses = alone;
          subnets = fits_named d.rows port fixed fits_d;
          hosts = fits_hosts d.rows port fixed fits_d;
          groups = groups_of d.rows.groups owner secured form.security_groups
              (all-weaker (is_group_of state.rows.groups owner) (is_group_of d.rows.groups owner) (value_or [] form.security_groups) (λ i. drawn_groups state.rows owner 1 d (λ g. ident_eq i g.id && bytes_eq g.project owner) drew) allowed.groups);
          bare = groups_bare d.rows.groups owner secured form.security_groups (is_empty (map (pair_of mac) (value_or [] form.allowed_address_pairs)))
              (ap (λ b. secured || (is_empty (value_or [] form.security_groups) && b)) (map_empty (pair_of mac) (value_or [] form.allowed_address_pairs)) ∙ bare);
          allowed = ap (λ b. is_empty owner || b) (there d.rows owner n caller.admin l at_d
              (λ tenant. ap (λ policies. bytes_eq n.project owner || is_shared_with policies n.id owner) drawn.policies ∙ tenant_may allowed tenant)) ∙ or_true (is_empty owner);
        }

  pub made_kept : (rows : RowLists) (reply : Reply) → port_made settings state caller form n owner ≡ Moved rows reply → HaveKept settings state.rows rows
  made_kept rows reply h =
      let last : List Fixed → ℕ → Drawing → Outcome = λ fixed mac d. port_added caller d.rows (new_port settings d.rows caller form n owner (drawn_id d 0) mac fixed) in
      let draw : List Fixed → ℕ → Outcome = λ fixed mac. needing CountersSpent (drawing_at state owner 1) (last fixed mac) in
      let with_mac : List Fixed → Outcome = λ fixed. needing CountersSpent (mac_for state.rows.ports n.id form.mac_address) (draw fixed) in
      let first = unless_moved (creation_refusal settings state.rows caller form n owner) (needing (PoolsSpent n.id) (addresses_at_first state.rows form n.id) with_mac) rows reply h in
      let addresses = needing_moved (PoolsSpent n.id) (addresses_at_first state.rows form n.id) with_mac rows reply first.1 in
      let mac = needing_moved CountersSpent (mac_for state.rows.ports n.id form.mac_address) (draw addresses.0) rows reply addresses.2 in
      let drawing = needing_moved CountersSpent (drawing_at state owner 1) (last addresses.0 mac.0) rows reply mac.2 in
      let d : Drawing = drawing.0 in
      let drew = (if_some_moved (is_last state) (draw_of state.rows owner 1) d drawing.1).1 in
      let drawn = draws state.rows owner 1 d c (owner_named caller form.project_id form.tenant_id has body.owners) (lit< tt) drew in
      let p : PortRow = new_port settings d.rows caller form n owner (drawn_id d 0) mac.0 addresses.0 in
      let allowed = allowed_is settings state.rows caller form n owner first.0 in
      subst (HaveKept settings state.rows) (moved_rows (with_port d.rows p) rows _ reply drawing.2) (record {
        consistent = port_pushed d.rows p (is_new allowed d drew drawn mac.0 mac.1 addresses.0 addresses.1) drawn.consistent;
        typed = λ t. made_typed d.rows (Add (PortAdded p) ∷ []) (drawing_typed state.rows owner 1 d drawn t)
            (each_cons IsTypedEdit (Add (PortAdded p)) [] (free allowed d drew drawn mac.0 mac.1 addresses.0 addresses.1).small (each_none IsTypedEdit));
        carried = λ held. let can = carries settings.hosts in
            made_carried can d.rows (Add (PortAdded p) ∷ []) (drawing_carried can state.rows owner 1 d drawn held)
            (each_cons (IsCarriedEdit can d.rows.networks) (Add (PortAdded p)) []
            (bound_carried settings d.rows.networks l n (ap (λ networks. slice_get networks l) drawn.networks ∙ at_n) (value_or [] form.binding_host_id)) (each_none (IsCarriedEdit can d.rows.networks)));
      })

pub created_kept : (settings : SettingsParts) (state : State) (caller : Caller) (form : PortForm) (rows : RowLists) (reply : Reply) → IsConsistent state.rows → AreTyped state.rows → IfGiven (λ m. m < 2 ^ 48) form.mac_address
    → IsFormed caller (Create (PortOf form)) → port_created settings state caller form ≡ Moved rows reply → HaveKept settings state.rows rows
created_kept settings state caller form rows reply c typed small given h =
    let of_call = and_both (not (is_empty caller.project)) _ given in
    let is = and_both (is_there form.network_id) (is_port_body form) of_call.1 in
    let seen : Option NetworkRow = network_seen state.rows caller (value_of form.network_id) in
    let make : NetworkRow → Outcome = λ n. port_made settings state caller form n (owner_of caller form.project_id form.tenant_id) in
    let first = unless_moved (body_refusal state.rows caller form) (needing (not_found NetworkKind (text_of (value_of form.network_id))) seen make) rows reply h in
    let found = needing_moved (not_found NetworkKind (text_of (value_of form.network_id))) seen make rows reply first.1 in
    let n : NetworkRow = found.0 in
    let here = named_is (λ (m : NetworkRow). m.id) (sees_network state.rows caller) state.rows.networks (value_of form.network_id) n found.1 in
    made_kept settings state caller form c typed of_call.0 (port_parts form is.1) small first.0 n found.1 here.place here.at rows reply found.2

-- A tenant is told the same of ports that it makes, changes and takes out, wherever its footing is the same.
use Rattle.std.proofs.Common.{◌≡◌, ◌+◌, List, ◌∷◌, Bool, true, false, Option, Some, None, slice_get, refl, ap, sym, ◌∙◌, arith, map, not, subst, ℕ, []}
use Rattle.std.specs.Prelude.{◌&&◌, ◌||◌, ◌==◌, codes, filter, is_some}
use Rattle.std.specs.List.{list_all}
use Rattle.std.specs.Str.{bytes_eq}
use Rattle.call_parts.specs.BodyNames.{text_of, unless_all}
use Rattle.call_parts.specs.Edits.{Put, accepted, edited, made}
use Rattle.api_ipam.specs.FixedChoice.{addresses_of, all_filled, are_placed, asked_places, first_addresses, first_known, known_addresses, named_subnets, next_addresses, next_known, old_renewed}
use Rattle.api_types.specs.HeldAddresses.{is_address_held, is_held_by_other, is_mac_held, is_mac_of_other, is_own_address, subnets_on}
use Rattle.call_parts.specs.Leaving.{disassociated, disassociations, loses_target}
use Rattle.api_ipam.specs.MacChoice.{expected_mac, mac_for}
use Rattle.api_policy.specs.Permits.{admin_only, network_access, network_owner, owner_only}
use Rattle.plan_ports.specs.PortCalls.{addresses_after, addresses_at_first, bad_bare_after, bad_first_fixed, bad_next_fixed, body_refusal, changed_port, changes_service, creation_refusal, deletion_refusal, groups_at_first, ids_of, is_group_for, items_of, mac_after, mac_at_first, new_port, pair_of, port_added, port_changed, port_created, port_deleted, port_gone, port_made, port_replaced, port_updated, update_refusal, values_taken, vif_after}
use Rattle.api_policy.specs.Marked.{is_marked, may_use}
use Rattle.api_policy.specs.Quotas.{over_quota}
use Rattle.plan_ports.specs.PortRules.{bad_bare, is_subnet_seen}
use Rattle.api_policy.specs.Seen.{network_seen, port_seen}
use Rattle.api_types.specs.Owners.{is_service}
use Rattle.api_policy.specs.Uses.{service_in_use}
use Rattle.api_policy.specs.Visibility.{seen_ports, sees_port, uses_network}
use Rattle.api_ml2.specs.Binding.{bound}
use Rattle.apart_laws.specs.Footing.{Near, blank, blank_port, footing, is_near, near_of}
use Rattle.api_types.specs.Given.{are_unlike, is_for_other, is_given, owner_of, value_of, value_or}
use Rattle.api_types.specs.Refusing.{at_name, first_refusal, needing, not_found, answer_alone, unless, when}
use Rattle.call_parts.specs.State.{State, drawing_at, is_last}
use Rattle.api_types.specs.Consistent.{IsConsistent}
use Rattle.api_types.specs.Consistent.Carried.{is_bound}
use Rattle.api_types.specs.Ident.{Ident}
use Rattle.api_types.specs.Lists.{is_empty, is_some_so}
use Rattle.api_types.specs.Outcome.{Outcome, Told}
use Rattle.api_types.specs.Printed.{NewRow, NoRow, OneRow}
use Rattle.api_types.specs.Registration.{Drawing, draw_of, drawn_id, ident}
use Rattle.api_types.specs.RowLists.{RowLists}
use Rattle.api_types.specs.Sharing.{is_shared_with}
use Rattle.api_types.specs.Table.{ident_eq, row_of}
use Rattle.api_types.specs.declared.call.Caller.{Caller}
use Rattle.api_types.specs.declared.call.IdText.{IdText}
use Rattle.api_types.specs.declared.floating.FloatingRow.{FloatingRow}
use Rattle.api_types.specs.declared.form.Given.TheVariants.{Absent, Is, Null}
use Rattle.api_types.specs.declared.form.FixedAsked.{FixedAsked}
use Rattle.api_types.specs.declared.form.Given.{Given}
use Rattle.api_types.specs.declared.form.PortForm.{PortForm}
use Rattle.api_types.specs.declared.group.GroupRow.{GroupRow}
use Rattle.api_types.specs.declared.kind.Kind.TheVariants.{Group as GroupKind, Network as NetworkKind, Port as PortKind, Subnet as SubnetKind}
use Rattle.api_types.specs.declared.kind.Row.TheVariants.{Floating, Port}
use Rattle.api_types.specs.declared.network.NetworkRow.{NetworkRow}
use Rattle.api_types.specs.declared.port.Fixed.{Fixed}
use Rattle.api_types.specs.declared.port.PortRow.{PortRow}
use Rattle.api_types.specs.declared.port.Vif.{Vif}
use Rattle.api_types.specs.declared.refusal.PolicyRule.TheVariants.{NetworkAccess, PortDelete}
use Rattle.api_types.specs.declared.refusal.Refusal.TheVariants.{CountersSpent, Forbidden, InUse, Invalid, PoolsSpent}
use Rattle.api_types.specs.declared.refusal.Refusal.{Refusal}
use Rattle.api_types.specs.declared.refusal.UseRule.TheVariants.{ServicePortInUse}
use Rattle.api_types.specs.declared.subnet.SubnetRow.{SubnetRow}
use Rattle.net_addr.specs.declared.address.Addr.{Addr}
use Rattle.net_settings.specs.Settings.{SettingsParts}
use Rattle.row_laws.specs.Drawn.{IsDrawing}
use Rattle.row_laws.specs.NewRows.{with_port}
use Rattle.api_types.proofs.ListLemmas.{or_none}
use Rattle.apart_laws.proofs.DrawnAlike.{counts_of, drawn_one, groups_of, groups_same}
use Rattle.apart_laws.proofs.FootingLemmas.{bound_same, named_alike, named_near, near_alike, near_same, needing_alike, needing_by, network_id, owner_own, port_id, seen_here}
use Rattle.apart_laws.proofs.ListLemmas.{name_here}
use Rattle.plan_ports.proofs.PortsApart.{bound_nowhere, default_own, unhosted}
use Rattle.apart_laws.proofs.ShownAlike.{port_shown_alike, up_at}
use Rattle.apart_laws.proofs.ApartLemmas.{absent, first_same, needing_same, none_at, stands_there, unless_same}
use Rattle.apart_laws.proofs.DeviceAlike.{device_alike}
use Rattle.apart_laws.proofs.FoundTold.{found_there}
use Rattle.apart_laws.proofs.GroupAlike.{group_found}
use Rattle.apart_laws.proofs.NearAlike.{chosen_alike, mac_for_same, network_owner_alike, then_named}
use Rattle.apart_laws.proofs.OwnAlike.{admin_passes, quota_own}
use Rattle.apart_laws.proofs.SubnetAlike.{subnet_id}
use Rattle.api_policy.specs.Reserved.{port_for_admin, port_for_owner}
use Rattle.apart_laws.proofs.PortAlike.{port_found, port_here}

-- a new port, by its groups, its binding and who made it
abbrev port_by : PortForm → NetworkRow → List ℕ → Ident → ℕ → List Fixed → List Ident → Vif → Bool → PortRow
port_by form n owner i mac fixed groups vif by_admin = record {
  id = i;
  project = owner;
  network = n.id;
  name = value_or [] form.name;
  description = value_or [] form.description;
  up = value_or true form.admin_state_up;
  mac = mac;
  fixed = fixed;
  pairs = map (pair_of mac) (value_or [] form.allowed_address_pairs);
  secured = value_or true form.port_security_enabled;
  groups = groups;
  device = value_or [] form.device_id;
  owner = value_or [] form.device_owner;
  host = value_or [] form.binding_host_id;
  vif = vif;
  by_admin = by_admin;
}

-- where no groups are named, the project's own tell which is its default group
at_first_own : (name : List ℕ) (secured : Bool) (asked : Given (List Ident)) (groups : List GroupRow) → groups_at_first (groups_of name groups) name secured asked ≡ groups_at_first groups name secured asked
at_first_own name secured (Is named) groups = refl
at_first_own name true Absent groups = ap ids_of (default_own name groups)
at_first_own name false Absent groups = refl
at_first_own name true Null groups = ap ids_of (default_own name groups)
at_first_own name false Null groups = refl

-- the addresses of a port that is changed don't tell its host or binding
known_alike : (p o : PortRow) → blank_port p ≡ blank_port o → (subnets others : List SubnetRow) → subnets ≡ others → (mac other : ℕ) → mac ≡ other → (asked : Given (List FixedAsked))
    → next_known subnets p mac asked ≡ next_known others o other asked
known_alike p o alike subnets others on mac other macs Absent = λ j. addresses_of (old_renewed (on j) (alike j) (macs j))
known_alike p o alike subnets others on mac other macs Null = λ j. addresses_of (old_renewed (on j) (alike j) (macs j))
known_alike p o alike subnets others on mac other macs (Is items) = λ j. known_addresses (asked_places (on j) (macs j) (old_renewed (on j) (alike j) (macs j)) items)

chosen_next : (p o : PortRow) → blank_port p ≡ blank_port o → (free empty : Addr → Bool) → free ≡ empty → (subnets others : List SubnetRow) → subnets ≡ others → (mac other : ℕ) → mac ≡ other → (asked : Given (List FixedAsked))
    → next_addresses free subnets p mac asked ≡ next_addresses empty others o other asked
chosen_next p o alike free empty frees subnets others on mac other macs Absent = λ j. Some (old_renewed (on j) (alike j) (macs j))
chosen_next p o alike free empty frees subnets others on mac other macs Null = λ j. Some (old_renewed (on j) (alike j) (macs j))
chosen_next p o alike free empty frees subnets others on mac other macs (Is items) = λ j. all_filled (frees j) (asked_places (on j) (macs j) (old_renewed (on j) (alike j) (macs j)) items)

-- floating addresses that are changed leave networks as they are
floatings_put : (rows : RowLists) (fs : List FloatingRow) → (made rows (map (λ (f : FloatingRow). Put (Floating (disassociated f))) fs)).networks ≡ rows.networks
floatings_put rows [] = refl
floatings_put rows (f ∷ fs) = floatings_put (edited rows (Put (Floating (disassociated f)))) fs

module _ (settings : SettingsParts) (caller : Caller) (tenant : caller.admin ≡ false) (s t : State) (c : IsConsistent s.rows) (d : IsConsistent t.rows) (same : footing settings s caller ≡ footing settings t caller) where
  sees_alike : is_subnet_seen s.rows caller ≡ is_subnet_seen t.rows caller
  sees_alike = ap (λ f. λ (i : Ident). is_some (at_name subnet_id (Some i) f.subnets)) same

  -- making a port

  mac_alike : (form : PortForm) (n m : NetworkRow) → is_near s.rows caller n.id ≡ true → blank n ≡ blank m → mac_for s.rows.ports n.id form.mac_address ≡ mac_for t.rows.ports m.id form.mac_address
  mac_alike form n m near alike = mac_for_same s.rows.ports t.rows.ports n.id (ap (λ (z : Near). z.macs) (near_same settings caller s t same n.id near)) form.mac_address
      ∙ ap (λ z. mac_for t.rows.ports z.id form.mac_address) alike

  fixed_alike : (form : PortForm) (n m : NetworkRow) → is_near s.rows caller n.id ≡ true → blank n ≡ blank m → bad_first_fixed s.rows caller form n ≡ bad_first_fixed t.rows caller form m
  fixed_alike form n m near alike = let told_near = near_alike settings caller s t same n m near alike in let mac = mac_alike form n m near alike in
      λ j. when (list_all (sees_alike j) (named_subnets (items_of form)) && not (are_placed (told_near j).subnets (expected_mac (mac j)) [] (items_of form))) (Invalid (codes "fixed_ips"))

  body_same : (form : PortForm) → body_refusal s.rows caller form ≡ body_refusal t.rows caller form
  body_same form = let fixed = then_named settings caller tenant s t same (value_of form.network_id) (bad_first_fixed s.rows caller form) (bad_first_fixed t.rows caller form)
      (λ n m found_n found_m alike. fixed_alike form n m (named_near s.rows caller (value_of form.network_id) n found_n) alike) in
      λ j. first_refusal (
      when (are_unlike form.project_id form.tenant_id) (Invalid (codes "tenant_id"))
      ∷ fixed j
      ∷ bad_bare (value_or true form.port_security_enabled) (value_or [] form.security_groups) (value_or [] form.allowed_address_pairs)
      ∷ unless_all SubnetKind (sees_alike j) (named_subnets (items_of form))
      ∷ [])

  uses_is : (state : State) → IsConsistent state.rows → (k : ℕ) (n : NetworkRow) → slice_get state.rows.networks k ≡ Some n
      → uses_network state.rows caller.project n.id ≡ bytes_eq n.project caller.project || is_shared_with state.rows.policies n.id caller.project
  uses_is state e k n at = stands_there network_id (λ (m : NetworkRow). bytes_eq m.project caller.project || is_shared_with state.rows.policies m.id caller.project) state.rows.networks (λ i. omega (arith, e.numbered.ids i)) k n at

  creation_same : (form : PortForm) (owner : List ℕ) (k l : ℕ) (n m : NetworkRow) → slice_get s.rows.networks k ≡ Some n → slice_get t.rows.networks l ≡ Some m
      → is_near s.rows caller n.id ≡ true → blank n ≡ blank m → (admin_only caller (port_for_admin caller form) ≡ None → owner ≡ caller.project)
      → creation_refusal settings s.rows caller form n owner ≡ creation_refusal settings t.rows caller form m owner
  creation_same form owner k l n m at_n at_m near alike mine =
      first_same (groups s) (groups t) (admin_only caller (port_for_admin caller form) ∷ rest s n) (admin_only caller (port_for_admin caller form) ∷ rest t m)
      (λ j. unless_all GroupKind (λ i. is_some_so (λ (g : GroupRow). bytes_eq g.project owner) (group_found settings caller tenant s t same (Some i) j)) (value_or [] form.security_groups))
      (λ _ _. first_same (admin_only caller (port_for_admin caller form)) (admin_only caller (port_for_admin caller form)) (rest s n) (rest t m) refl
      (λ passes _. let quota = quota_own settings caller tenant s t same owner (mine passes) PortKind in
      (λ j. first_refusal (owns j ∷ when (not (caller.admin || uses j)) (Forbidden NetworkAccess)
      ∷ values_taken (told_near j).addresses (told_near j).macs (alike j).id (first_known (told_near j).subnets (expected_mac (mac j)) form.fixed_ips) form ∷ quota j ∷ []))))
    where
      groups : State → Option Refusal
      groups state = unless_all GroupKind (is_group_for state.rows caller owner) (value_or [] form.security_groups)

      rest : State → NetworkRow → List (Option Refusal)
      rest state r = network_owner state.rows caller (port_for_owner form) r.id
          ∷ network_access state.rows caller r.id
          ∷ values_taken (is_address_held state.rows.ports r.id) (is_mac_held state.rows.ports r.id) r.id (first_known (subnets_on state.rows.subnets r.id) (mac_at_first state.rows.ports form r.id) form.fixed_ips) form
          ∷ over_quota settings state.rows owner PortKind
          ∷ []

      told_near : near_of s.rows caller.project n.id ≡ near_of t.rows caller.project m.id
      told_near = near_alike settings caller s t same n m near alike

      mac : mac_for s.rows.ports n.id form.mac_address ≡ mac_for t.rows.ports m.id form.mac_address
      mac = mac_alike form n m near alike

      owns : network_owner s.rows caller (port_for_owner form) n.id ≡ network_owner t.rows caller (port_for_owner form) m.id
      owns = network_owner_alike settings caller tenant s t same n.id (port_for_owner form) ∙ ap (λ z. network_owner t.rows caller (port_for_owner form) z.id) alike

      uses : uses_network s.rows caller.project n.id ≡ uses_network t.rows caller.project m.id
      uses = uses_is s c k n at_n ∙ ((λ j. bytes_eq (alike j).project caller.project || (told_near j).shared) ∙ sym (uses_is t d l m at_m))

  abbrev made_for : State → PortForm → NetworkRow → List ℕ → Outcome
  made_for state form n owner =
      needing (PoolsSpent n.id) (addresses_at_first state.rows form n.id) (λ fixed.
      needing CountersSpent (mac_for state.rows.ports n.id form.mac_address) (λ mac.
      needing CountersSpent (drawing_at state owner 1) (λ drawing.
      port_added caller drawing.rows (new_port settings drawing.rows caller form n owner (drawn_id drawing 0) mac fixed))))

  added_alike : not (is_empty caller.project) ≡ true → (form : PortForm) → value_or [] form.binding_host_id ≡ [] → (n m : NetworkRow) → is_near s.rows caller n.id ≡ true → blank n ≡ blank m → (fixed : List Fixed) (mac : ℕ) (x y : Drawing)
      → drawing_at s caller.project 1 ≡ Some x → drawing_at t caller.project 1 ≡ Some y → counts_of x ≡ counts_of y
      → answer_alone (port_added caller x.rows (new_port settings x.rows caller form n caller.project (drawn_id x 0) mac fixed)) ≡ answer_alone (port_added caller y.rows (new_port settings y.rows caller form m caller.project (drawn_id y 0) mac fixed))
  added_alike named form nowhere n m near alike fixed mac x y at_x at_y counts =
      ap (λ shown. Told (NewRow shown)) (port_shown_alike (with_port x.rows p) (with_port y.rows q) caller p q [] tenant
      (λ j. blank_port (port_by form (alike j) caller.project (ident (counts j).0 ((counts j).1 + 0)) mac fixed (groups j) (vifs j) (by_admin j))) (ap is_bound vifs) up)
    where
      dx : IsDrawing s.rows caller.project 1 x × (draw_of s.rows caller.project 1 ≡ Some x)
      dx = drawn_one s caller.project x c named at_x

      dy : IsDrawing t.rows caller.project 1 y × (draw_of t.rows caller.project 1 ≡ Some y)
      dy = drawn_one t caller.project y d named at_y

      p : PortRow
      p = new_port settings x.rows caller form n caller.project (drawn_id x 0) mac fixed

      q : PortRow
      q = new_port settings y.rows caller form m caller.project (drawn_id y 0) mac fixed

      secured : Bool
      secured = value_or true form.port_security_enabled

      groups : groups_at_first x.rows.groups caller.project secured form.security_groups ≡ groups_at_first y.rows.groups caller.project secured form.security_groups
      groups = sym (at_first_own caller.project secured form.security_groups x.rows.groups)
          ∙ (ap (λ rows. groups_at_first rows caller.project secured form.security_groups) (groups_same settings caller s t same 1 x y dx.1 dy.1) ∙ at_first_own caller.project secured form.security_groups y.rows.groups)

      host : List ℕ
      host = value_or [] form.binding_host_id

      vifs : bound settings n.segment host ≡ bound settings m.segment host
      vifs = bound_nowhere settings n.segment m.segment host nowhere

      by_admin : is_marked x.rows caller caller.project n ≡ is_marked y.rows caller caller.project m
      by_admin = ap (λ b. b && not (may_use x.rows caller.project n)) tenant ∙ sym (ap (λ b. b && not (may_use y.rows caller.project m)) tenant)

      up : up_at n.id x.rows.networks ≡ up_at m.id y.rows.networks
      up = ap (λ rows. up_at n.id rows) dx.0.networks
          ∙ (ap (λ (z : Near). z.up) (near_same settings caller s t same n.id near) ∙ (ap (λ z. up_at z.id t.rows.networks) alike
          ∙ sym (ap (λ rows. up_at m.id rows) dy.0.networks)))

  made_alike : not (is_empty caller.project) ≡ true → (form : PortForm) → value_or [] form.binding_host_id ≡ [] → (n m : NetworkRow) → is_near s.rows caller n.id ≡ true → blank n ≡ blank m → answer_alone (made_for s form n caller.project) ≡ answer_alone (made_for t form m caller.project)
  made_alike named form nowhere n m near alike = let told_near = near_alike settings caller s t same n m near alike in let macs = mac_alike form n m near alike in
      chosen_alike settings caller tenant s t same (PoolsSpent n.id) (addresses_at_first s.rows form n.id) (addresses_at_first t.rows form m.id)
      (λ j. first_addresses (λ x. not ((told_near j).addresses x)) (told_near j).subnets (expected_mac (macs j)) form.fixed_ips)
      (mac_for s.rows.ports n.id form.mac_address) (mac_for t.rows.ports m.id form.mac_address) macs caller.project refl 1
      (λ fixed mac drawing. port_added caller drawing.rows (new_port settings drawing.rows caller form n caller.project (drawn_id drawing 0) mac fixed))
      (λ fixed mac drawing. port_added caller drawing.rows (new_port settings drawing.rows caller form m caller.project (drawn_id drawing 0) mac fixed))
      (added_alike named form nowhere n m near alike)
      ∙ (λ j. answer_alone (needing (PoolsSpent (alike j).id) (addresses_at_first t.rows form m.id) (λ fixed.
      needing CountersSpent (mac_for t.rows.ports m.id form.mac_address) (λ mac.
      needing CountersSpent (drawing_at t caller.project 1) (λ drawing.
      port_added caller drawing.rows (new_port settings drawing.rows caller form m caller.project (drawn_id drawing 0) mac fixed))))))

  pub port_created_apart : not (is_empty caller.project) ≡ true → (form : PortForm) → answer_alone (port_created settings s caller form) ≡ answer_alone (port_created settings t caller form)
  port_created_apart named form = unless_same (body_refusal s.rows caller form) (body_refusal t.rows caller form) (on s) (on t) (body_same form)
      (λ _ _. named_alike settings caller s t same (not_found NetworkKind (text_of name)) name (λ n. port_made settings s caller form n owner) (λ n. port_made settings t caller form n owner)
      (λ n m found_n found_m alike.
      let at_n = seen_here s.rows caller name n found_n in let at_m = seen_here t.rows caller name m found_m in let near = named_near s.rows caller name n found_n in
      unless_same (creation_refusal settings s.rows caller form n owner) (creation_refusal settings t.rows caller form m owner) (made_for s form n owner) (made_for t form m owner)
      (creation_same form owner at_n.0 at_m.0 n m at_n.1 at_m.1 near alike mine)
      (λ passes _. subst (λ name. answer_alone (made_for s form n name) ≡ answer_alone (made_for t form m name)) (sym (mine (none_at (refusals s n) passes 1 (admin_only caller (port_for_admin caller form)) refl))) (made_alike named form (nowhere (none_at (refusals s n) passes 1 (admin_only caller (port_for_admin caller form)) refl)) n m near alike))))
    where
      name : Option Ident
      name = value_of form.network_id

      owner : List ℕ
      owner = owner_of caller form.project_id form.tenant_id

      on : State → Outcome
      on state = needing (not_found NetworkKind (text_of name)) (network_seen state.rows caller name) (λ n. port_made settings state caller form n owner)

      mine : admin_only caller (port_for_admin caller form) ≡ None → owner ≡ caller.project
      mine passes = owner_own caller form.project_id form.tenant_id (or_none (is_given form.binding_host_id) (is_for_other caller form.project_id form.tenant_id) (admin_passes caller tenant (port_for_admin caller form) passes)).1

      nowhere : admin_only caller (port_for_admin caller form) ≡ None → value_or [] form.binding_host_id ≡ []
      nowhere passes = unhosted form.binding_host_id (or_none (is_given form.binding_host_id) (is_for_other caller form.project_id form.tenant_id) (admin_passes caller tenant (port_for_admin caller form) passes)).0

      refusals : State → NetworkRow → List (Option Refusal)
      refusals state r = unless_all GroupKind (is_group_for state.rows caller owner) (value_or [] form.security_groups)
          ∷ admin_only caller (port_for_admin caller form)
          ∷ network_owner state.rows caller (port_for_owner form) r.id
          ∷ network_access state.rows caller r.id
          ∷ values_taken (is_address_held state.rows.ports r.id) (is_mac_held state.rows.ports r.id) r.id (first_known (subnets_on state.rows.subnets r.id) (mac_at_first state.rows.ports form r.id) form.fixed_ips) form
          ∷ over_quota settings state.rows owner PortKind
          ∷ []

  service_alike : (touched : Bool) (p o : PortRow) → blank_port p ≡ blank_port o → service_in_use s.rows caller touched p ≡ service_in_use t.rows caller touched o
  service_alike touched p o alike = ap (λ user. when (touched && is_service p.owner) (InUse ServicePortInUse PortKind p.id user)) (device_alike settings caller tenant s t c d same p.device)
      ∙ ap (service_in_use t.rows caller touched) alike

  -- changing a port

  near_too : (p o : PortRow) → blank_port p ≡ blank_port o → is_near s.rows caller p.network ≡ true → near_of s.rows caller.project p.network ≡ near_of t.rows caller.project o.network
  near_too p o alike near = near_same settings caller s t same p.network near ∙ ap (λ (x : PortRow). near_of t.rows caller.project x.network) alike

  update_same : (form : PortForm) (p o : PortRow) → blank_port p ≡ blank_port o → is_near s.rows caller p.network ≡ true → update_refusal s.rows caller form p ≡ update_refusal t.rows caller form o
  update_same form p o alike near = let z = near_too p o alike near in
      let owns = network_owner_alike settings caller tenant s t same p.network (port_for_owner form) ∙ ap (λ (x : PortRow). network_owner t.rows caller (port_for_owner form) x.network) alike in
      let service = service_alike (changes_service form) p o alike in
      let known = known_alike p o alike (subnets_on s.rows.subnets p.network) (subnets_on t.rows.subnets o.network) (ap (λ (n : Near). n.subnets) z) (mac_after form p) (mac_after form o) (ap (mac_after form) alike) form.fixed_ips in
      λ j. first_refusal (
      when (list_all (sees_alike j) (named_subnets (items_of form)) && not (are_placed (z j).subnets (mac_after form (alike j)) (old_renewed (z j).subnets (alike j) (mac_after form (alike j))) (items_of form))) (Invalid (codes "fixed_ips"))
      ∷ bad_bare_after form (alike j)
      ∷ unless_all SubnetKind (sees_alike j) (named_subnets (items_of form))
      ∷ unless_all GroupKind (λ i. is_some_so (λ (g : GroupRow). bytes_eq g.project (alike j).project) (group_found settings caller tenant s t same (Some i) j)) (value_or [] form.security_groups)
      ∷ admin_only caller (port_for_admin caller form)
      ∷ owner_only caller (alike j).project
      ∷ owns j
      ∷ service j
      ∷ values_taken (λ x. (z j).addresses x && not (is_own_address x (alike j))) (λ mac. (z j).macs mac && not ((alike j).mac == mac)) (alike j).network (known j) form
      ∷ [])

  -- a tenant names no host, so the port's binding stays
  bound_still : (n : NetworkRow) (asked : Given (List ℕ)) → asked ≡ Absent → (old : Vif) → is_bound (vif_after settings n asked old) ≡ is_bound old
  bound_still n asked none old = ap (λ g. is_bound (vif_after settings n g old)) none

  replaced_alike : (form : PortForm) (n m : NetworkRow) (p o : PortRow) → blank_port p ≡ blank_port o → is_bound p.vif ≡ is_bound o.vif → is_near s.rows caller p.network ≡ true → form.binding_host_id ≡ Absent → (fixed : List Fixed)
      → answer_alone (port_replaced caller s.rows (changed_port settings form n p fixed)) ≡ answer_alone (port_replaced caller t.rows (changed_port settings form m o fixed))
  replaced_alike form n m p o alike bound near nowhere fixed =
      ap (λ shown. Told (OneRow shown)) (port_shown_alike (after s q) (after t r) caller q r [] tenant
      (λ j. blank_port (changed_port settings form n (alike j) fixed))
      (bound_still n form.binding_host_id nowhere p.vif ∙ (bound ∙ sym (bound_still m form.binding_host_id nowhere o.vif)))
      (ap (λ ns. up_at p.network ns) (floatings_put (edited s.rows (Put (Port q))) (left s q))
      ∙ (ap (λ (z : Near). z.up) (near_too p o alike near) ∙ sym (ap (λ ns. up_at o.network ns) (floatings_put (edited t.rows (Put (Port r))) (left t r))))))
    where
      q : PortRow
      q = changed_port settings form n p fixed

      r : PortRow
      r = changed_port settings form m o fixed

      after : State → PortRow → RowLists
      after state x = made state.rows (Put (Port x) ∷ disassociations state.rows.floatings x.id x.fixed)

      left : State → PortRow → List FloatingRow
      left state x = filter (λ (f : FloatingRow). is_some_so (loses_target x.id x.fixed) f.target) state.rows.floatings

  pub port_updated_apart : (name : IdText) (form : PortForm) → answer_alone (port_updated settings s caller name form) ≡ answer_alone (port_updated settings t caller name form)
  port_updated_apart name form = needing_by refusal (port_seen s.rows caller name.id) (port_seen t.rows caller name.id) (on s) (on t) blank_port ((port_found settings caller tenant s t c d same) name.id)
      (λ p o found_s found_t alike.
      let here = (port_here settings caller tenant s t c d same) s name.id p found_s in let there = (port_here settings caller tenant s t c d same) t name.id o found_t in
      let seen_s = name_here port_id name.id (seen_ports s.rows caller) p found_s in let seen_t = name_here port_id name.id (seen_ports t.rows caller) o found_t in
      let n0 = found_there (λ (n : NetworkRow). ident_eq p.network n.id) s.rows.networks (c.named.networks.of_ports here.0 p here.1) in
      let m0 = found_there (λ (n : NetworkRow). ident_eq o.network n.id) t.rows.networks (d.named.networks.of_ports there.0 o there.1) in
      let near = here.3 in let z = near_too p o alike near in
      let bound = bound_same settings caller s t same c d seen_s.0 seen_t.0 p o seen_s.1 seen_t.1 alike in
      needing_alike refusal (row_of network_id p.network s.rows.networks) (row_of network_id o.network t.rows.networks) (λ n. port_changed settings s caller form n p) (λ n. port_changed settings t caller form n o)
      (ap is_some n0.1 ∙ sym (ap is_some m0.1))
      (λ n m found_n found_m.
      unless_same (update_refusal s.rows caller form p) (update_refusal t.rows caller form o) (chosen s n p) (chosen t m o) (update_same form p o alike near)
      (λ passes _. let nowhere = absent form.binding_host_id (or_none (is_given form.binding_host_id) (is_for_other caller form.project_id form.tenant_id)
      (admin_passes caller tenant (port_for_admin caller form) (none_at (refusals s p) passes 4 (admin_only caller (port_for_admin caller form)) refl))).0 in
      needing_same (PoolsSpent p.network) (addresses_after s.rows form p) (addresses_after t.rows form o) (λ fixed. moved s n p fixed) (λ fixed. moved t m o fixed)
      (chosen_next p o alike (λ x. not (is_held_by_other s.rows.ports p x)) (λ x. not (is_held_by_other t.rows.ports o x)) (λ j x. not ((z j).addresses x && not (is_own_address x (alike j))))
      (subnets_on s.rows.subnets p.network) (subnets_on t.rows.subnets o.network) (ap (λ (n : Near). n.subnets) z) (mac_after form p) (mac_after form o) (ap (mac_after form) alike) form.fixed_ips)
      (λ fixed _ _. unless_same (when (is_last s) CountersSpent) (when (is_last t) CountersSpent) (port_replaced caller s.rows (changed_port settings form n p fixed)) (port_replaced caller t.rows (changed_port settings form m o fixed))
      (λ j. when (same j).is_last CountersSpent)
      (λ _ _. replaced_alike form n m p o alike bound near nowhere fixed))
      ∙ (λ j. answer_alone (needing (PoolsSpent (alike j).network) (addresses_after t.rows form o) (λ fixed. moved t m o fixed))))))
    where
      refusal : Refusal
      refusal = not_found PortKind name.text

      on : State → PortRow → Outcome
      on state p = needing refusal (row_of network_id p.network state.rows.networks) (λ n. port_changed settings state caller form n p)

      refusals : State → PortRow → List (Option Refusal)
      refusals state p =
          bad_next_fixed state.rows caller form p (subnets_on state.rows.subnets p.network)
          ∷ bad_bare_after form p
          ∷ unless_all SubnetKind (is_subnet_seen state.rows caller) (named_subnets (items_of form))
          ∷ unless_all GroupKind (is_group_for state.rows caller p.project) (value_or [] form.security_groups)
          ∷ admin_only caller (port_for_admin caller form)
          ∷ owner_only caller p.project
          ∷ network_owner state.rows caller (port_for_owner form) p.network
          ∷ service_in_use state.rows caller (changes_service form) p
          ∷ values_taken (is_held_by_other state.rows.ports p) (is_mac_of_other state.rows.ports p) p.network (next_known (subnets_on state.rows.subnets p.network) p (mac_after form p) form.fixed_ips) form
          ∷ []

      moved : State → NetworkRow → PortRow → List Fixed → Outcome
      moved state n p fixed = unless (when (is_last state) CountersSpent) (port_replaced caller state.rows (changed_port settings form n p fixed))

      chosen : State → NetworkRow → PortRow → Outcome
      chosen state n p = needing (PoolsSpent p.network) (addresses_after state.rows form p) (moved state n p)

  -- taking a port out

  pub port_deleted_apart : (name : IdText) → answer_alone (port_deleted s caller name) ≡ answer_alone (port_deleted t caller name)
  port_deleted_apart name = needing_by (not_found PortKind name.text) (port_seen s.rows caller name.id) (port_seen t.rows caller name.id)
      (λ p. unless (deletion_refusal s caller p) (accepted s.rows (port_gone s.rows.floatings p.id) (λ rows. NoRow))) (λ p. unless (deletion_refusal t caller p) (accepted t.rows (port_gone t.rows.floatings p.id) (λ rows. NoRow)))
      blank_port ((port_found settings caller tenant s t c d same) name.id)
      (λ p o found_s found_t alike. let here = (port_here settings caller tenant s t c d same) s name.id p found_s in let there = (port_here settings caller tenant s t c d same) t name.id o found_t in
      unless_same (deletion_refusal s caller p) (deletion_refusal t caller o) (accepted s.rows (port_gone s.rows.floatings p.id) (λ rows. NoRow)) (accepted t.rows (port_gone t.rows.floatings o.id) (λ rows. NoRow))
      (let sees : sees_port s.rows caller p ≡ sees_port t.rows caller o = here.2 ∙ sym there.2 in let service = service_alike true p o alike in
      (λ j. first_refusal (when (not (sees j)) (Forbidden PortDelete) ∷ service j ∷ when (same j).is_last CountersSpent ∷ [])))
      (λ _ _. refl))

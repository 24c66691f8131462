-- Where calls on ports lead whose parts are known.
use Rattle.std.proofs.Common.{◌≡◌, ◌∙◌, ℕ, lit<, true, List, [], ◌∷◌, Option, Some, None, ap, inl, inr, refl, subst, sym}
use Rattle.std.specs.Prelude.{◌⊎◌, ◌==◌, ◌^◌, ◌-◌, not}
use Rattle.api_ipam.specs.FixedChoice.{first_addresses, first_known, named_subnets, next_addresses, next_known, old_renewed}
use Rattle.api_ipam.specs.MacChoice.{mac_for}
use Rattle.api_policy.specs.Permits.{admin_only, network_access, network_owner, owner_only}
use Rattle.api_policy.specs.Quotas.{over_quota}
use Rattle.api_policy.specs.Seen.{network_seen, port_seen}
use Rattle.api_policy.specs.Uses.{service_in_use}
use Rattle.api_types.specs.Consistent.{IsConsistent}
use Rattle.api_types.specs.Given.{owner_of, value_of, value_or}
use Rattle.api_types.specs.HeldAddresses.{is_address_held, is_held_by_other, is_mac_held, is_mac_of_other, subnets_on}
use Rattle.api_types.specs.Lists.{is_empty}
use Rattle.api_types.specs.Outcome.{Moved, Outcome, Refused}
use Rattle.api_types.specs.Printed.{NewRow}
use Rattle.api_types.specs.Refusing.{first_refusal, needing, not_found, unless, when}
use Rattle.api_types.specs.Registration.{Drawing, drawn_id}
use Rattle.api_types.specs.RowLists.{RowLists}
use Rattle.api_types.specs.Table.{row_of}
use Rattle.api_types.specs.declared.call.Caller.{Caller}
use Rattle.api_types.specs.declared.call.IdText.{IdText}
use Rattle.api_types.specs.declared.form.PortForm.{PortForm}
use Rattle.api_types.specs.declared.kind.Kind.TheVariants.{Group as GroupKind, Network as NetworkKind, Port as PortKind, Subnet as SubnetKind}
use Rattle.api_types.specs.declared.kind.Row.TheVariants.{Port}
use Rattle.api_types.specs.declared.network.NetworkRow.{NetworkRow}
use Rattle.api_types.specs.declared.port.Fixed.{Fixed}
use Rattle.api_types.specs.declared.port.PortRow.{PortRow}
use Rattle.api_types.specs.declared.refusal.Refusal.TheVariants.{CountersSpent, OutOfMemory, PoolsSpent}
use Rattle.api_types.specs.declared.refusal.Refusal.{Refusal}
use Rattle.api_types.specs.declared.subnet.SubnetRow.{SubnetRow}
use Rattle.api_types.proofs.ListLemmas.{and_both}
use Rattle.call_parts.specs.Answers.{IsOrMemory, IsRefusalIn, IsRefusalOf}
use Rattle.call_parts.specs.BodyNames.{text_of, unless_all}
use Rattle.api_types.specs.WithRows.{with_added}
use Rattle.call_parts.specs.InForm.{are_owners, is_port_body}
use Rattle.call_parts.specs.State.{State, drawing_at, is_last}
use Rattle.net_settings.specs.Settings.{SettingsParts}
use Rattle.row_laws.proofs.DrawnKept.{drawn_new, draws}
use Rattle.plan_ports.specs.Plans.{IsFirstSupply, IsNextSupply, first_fixed, first_refused, first_taken, holder_refusal, ids_drawn, next_bad, next_fixed, next_refused, next_taken, standing_refusal}
use Rattle.plan_ports.specs.PortCalls.{addresses_after, addresses_at_first, bad_bare_after, bad_next_fixed, body_refusal, changed_port, changes_service, creation_refusal, is_group_for, items_of, mac_after, mac_at_first, new_port, port_added, port_changed, port_created, port_made, port_replaced, port_shown, port_updated, update_refusal, values_taken}
use Rattle.plan_ports.specs.PortRules.{bad_fixed, is_subnet_seen}
use Rattle.plan_ports.specs.declared.supply.Supply.{Supply}
use Rattle.plan_ports.proofs.RefusalLemmas.{nine_parted, six_parted}
use Rattle.call_parts.proofs.DrawnLemmas.{drawn_is}
use Rattle.api_policy.specs.Reserved.{port_for_admin, port_for_owner}

-- making a port

-- its addresses are chosen by the rows and the MAC address that are read
pub supply_at : (rows : RowLists) (form : PortForm) (n : NetworkRow) (s : Supply) (read : RowLists) (m : ℕ) → read ≡ rows → m ≡ mac_at_first rows.ports form n.id → IsFirstSupply read n.id m s
    → IsFirstSupply rows n.id (mac_at_first rows.ports form n.id) s
supply_at rows form n s read m same named is =
    subst (λ (r : RowLists). IsFirstSupply r n.id (mac_at_first rows.ports form n.id) s) same (subst (λ (k : ℕ). IsFirstSupply read n.id k s) named is)

module _ (settings : SettingsParts) (state : State) (caller : Caller) (form : PortForm) (n : NetworkRow) (owner : List ℕ) where
  abbrev mac : Option ℕ
  mac = mac_for state.rows.ports n.id form.mac_address

  abbrev expected : ℕ
  expected = mac_at_first state.rows.ports form n.id

  -- where the creation goes on, by what is refused of it and what it finds
  abbrev chosen_by : Option Refusal → Option (List Fixed) → Option ℕ → Outcome
  chosen_by refusal fixed found = unless refusal (needing (PoolsSpent n.id) fixed (λ fs. needing CountersSpent found (λ m. ids_drawn settings state caller form n owner m fs)))

  module _ (s : Supply) (is : IsFirstSupply state.rows n.id expected s) where
    abbrev taken : Option Refusal
    taken = values_taken (is_address_held state.rows.ports n.id) (is_mac_held state.rows.ports n.id) n.id (first_known (subnets_on state.rows.subnets n.id) expected form.fixed_ips) form

    taken_is : first_taken state.rows form n.id s ≡ taken
    taken_is = λ j. values_taken (λ x. is.holds x j) (is_mac_held state.rows.ports n.id) n.id (first_known (is.on_network j) (is.has j) form.fixed_ips) form

    refusal_is : first_refused settings state.rows caller form n owner s ≡ creation_refusal settings state.rows caller form n owner
    refusal_is =
        (λ j. first_refusal (standing_refusal state.rows caller form n owner ∷ taken_is j ∷ over_quota settings state.rows owner PortKind ∷ []))
        ∙ six_parted (unless_all GroupKind (is_group_for state.rows caller owner) (value_or [] form.security_groups)) (admin_only caller (port_for_admin caller form))
        (network_owner state.rows caller (port_for_owner form) n.id) (network_access state.rows caller n.id) taken (over_quota settings state.rows owner PortKind)

    fixed_is : first_fixed form s ≡ addresses_at_first state.rows form n.id
    fixed_is = λ j. first_addresses (λ x. not (is.holds x j)) (is.on_network j) (is.has j) form.fixed_ips

    pub made_refused : (e : Refusal) → IsRefusalIn (first_refused settings state.rows caller form n owner s) e → IsRefusalOf (port_made settings state caller form n owner) e
    made_refused e (inl memory) = inl memory
    made_refused e (inr refused) = inr (ap (λ r. chosen_by r (addresses_at_first state.rows form n.id) mac) (sym refusal_is ∙ refused))

    module _ (passed : first_refused settings state.rows caller form n owner s ≡ None) where
      made_by : (o : Option (List Fixed)) → first_fixed form s ≡ o → port_made settings state caller form n owner ≡ chosen_by None o mac
      made_by o found = λ j. chosen_by ((sym refusal_is ∙ passed) j) ((sym fixed_is ∙ found) j) mac

      pub made_unfixed : (e : Refusal) → (e ≡ OutOfMemory) ⊎ ((e ≡ PoolsSpent n.id) × (first_fixed form s ≡ None)) → IsRefusalOf (port_made settings state caller form n owner) e
      made_unfixed e (inl memory) = inl memory
      made_unfixed e (inr spent) = inr (made_by None spent.1 ∙ ap Refused (sym spent.0))

      module _ (fs : List Fixed) (found : first_fixed form s ≡ Some fs) where
        pub made_unnamed : mac ≡ None → port_made settings state caller form n owner ≡ Refused CountersSpent
        made_unnamed none = made_by (Some fs) found ∙ ap (chosen_by None (Some fs)) none

        pub made_chosen : (m : ℕ) → mac ≡ Some m → port_made settings state caller form n owner ≡ ids_drawn settings state caller form n owner m fs
        made_chosen m named = made_by (Some fs) found ∙ ap (chosen_by None (Some fs)) named

  -- once its values are chosen, ids are drawn
  module _ (m : ℕ) (fs : List Fixed) (chosen : port_made settings state caller form n owner ≡ ids_drawn settings state caller form n owner m fs) where
    abbrev on_drawing : Option Drawing → Outcome
    on_drawing drew = needing CountersSpent drew (λ d. port_added caller d.rows (new_port settings d.rows caller form n owner (drawn_id d 0) m fs))

    pub made_spent : (e : Refusal) → (e ≡ OutOfMemory) ⊎ ((e ≡ CountersSpent) × (drawing_at state owner 1 ≡ None)) → IsRefusalOf (port_made settings state caller form n owner) e
    made_spent e (inl memory) = inl memory
    made_spent e (inr spent) = inr (chosen ∙ (ap on_drawing spent.1 ∙ ap Refused (sym spent.0)))

    pub made_moved : (d : Drawing) (p : PortRow) (after : RowLists) → drawing_at state owner 1 ≡ Some d → p ≡ new_port settings d.rows caller form n owner (drawn_id d 0) m fs
        → after ≡ with_added d.rows (Port p) → port_made settings state caller form n owner ≡ Moved after (NewRow (port_shown after caller p []))
    made_moved d p after drew is leads =
        chosen ∙ (ap on_drawing drew ∙ (ap (port_added caller d.rows) (sym is) ∙ ap (λ rows. Moved rows (NewRow (port_shown rows caller p []))) (sym leads)))

module _ (settings : SettingsParts) (state : State) (caller : Caller) (form : PortForm) where
  abbrev owner_is : List ℕ
  owner_is = owner_of caller form.project_id form.tenant_id

  abbrev on_seen : Option NetworkRow → Outcome
  on_seen found = needing (not_found NetworkKind (text_of (value_of form.network_id))) found (λ n. port_made settings state caller form n owner_is)

  abbrev seen : Option NetworkRow
  seen = network_seen state.rows caller (value_of form.network_id)

  pub body_refused : (e : Refusal) → IsRefusalIn (body_refusal state.rows caller form) e → IsRefusalOf (port_created settings state caller form) e
  body_refused e (inl memory) = inl memory
  body_refused e (inr is) = inr (ap (λ r. unless r (on_seen seen)) is)

  module _ (passed : body_refusal state.rows caller form ≡ None) where
    body_passed : port_created settings state caller form ≡ on_seen seen
    body_passed = ap (λ r. unless r (on_seen seen)) passed

    pub body_unfound : (e : Refusal) → seen ≡ None → IsOrMemory (not_found NetworkKind (text_of (value_of form.network_id))) e → IsRefusalOf (port_created settings state caller form) e
    body_unfound e none (inl memory) = inl memory
    body_unfound e none (inr is) = inr (body_passed ∙ (ap on_seen none ∙ ap Refused (sym is)))

    pub created_on : (n : NetworkRow) → seen ≡ Some n → port_created settings state caller form ≡ port_made settings state caller form n owner_is
    created_on n found = body_passed ∙ ap on_seen found

-- changing a port

module _ (settings : SettingsParts) (state : State) (caller : Caller) (form : PortForm) (n : NetworkRow) (p : PortRow) where
  -- where the change goes on, by what is refused of it and what it finds
  abbrev changed_by : Option Refusal → Option (List Fixed) → Option Refusal → Outcome
  changed_by refusal fixed spent = unless refusal (needing (PoolsSpent p.network) fixed (λ fs. unless spent (port_replaced caller state.rows (changed_port settings form n p fs))))

  module _ (s : Supply) (is : IsNextSupply state.rows form p s) where
    abbrev subnets : List SubnetRow
    subnets = subnets_on state.rows.subnets p.network

    abbrev bad : Option Refusal
    bad = bad_next_fixed state.rows caller form p subnets

    bad_is : next_bad state.rows caller form p s ≡ bad
    bad_is = λ j. bad_fixed state.rows caller (is.on_network j) (is.has j) (old_renewed (is.on_network j) p (is.has j)) (items_of form)

    abbrev other : Option Refusal
    other = values_taken (is_held_by_other state.rows.ports p) (is_mac_of_other state.rows.ports p) p.network (next_known subnets p (mac_after form p) form.fixed_ips) form

    other_is : next_taken state.rows form p s ≡ other
    other_is = λ j. values_taken (λ x. is.holds x j) (is_mac_of_other state.rows.ports p) p.network (next_known (is.on_network j) p (is.has j) form.fixed_ips) form

    abbrev unseen : Option Refusal
    unseen = unless_all SubnetKind (is_subnet_seen state.rows caller) (named_subnets (items_of form))

    abbrev strange : Option Refusal
    strange = unless_all GroupKind (is_group_for state.rows caller p.project) (value_or [] form.security_groups)

    change_is : next_refused state.rows caller form p s ≡ update_refusal state.rows caller form p
    change_is =
        (λ j. first_refusal (first_refusal (bad_is j ∷ bad_bare_after form p ∷ unseen ∷ strange ∷ []) ∷ holder_refusal state.rows caller form p ∷ other_is j ∷ []))
        ∙ nine_parted bad (bad_bare_after form p) unseen strange (admin_only caller (port_for_admin caller form)) (owner_only caller p.project)
        (network_owner state.rows caller (port_for_owner form) p.network) (service_in_use state.rows caller (changes_service form) p) other

    after_is : next_fixed form p s ≡ addresses_after state.rows form p
    after_is = λ j. next_addresses (λ x. not (is.holds x j)) (is.on_network j) p (is.has j) form.fixed_ips

    pub change_refused : (e : Refusal) → IsRefusalIn (next_refused state.rows caller form p s) e → IsRefusalOf (port_changed settings state caller form n p) e
    change_refused e (inl memory) = inl memory
    change_refused e (inr refused) = inr (ap (λ r. changed_by r (addresses_after state.rows form p) (when (is_last state) CountersSpent)) (sym change_is ∙ refused))

    module _ (passed : next_refused state.rows caller form p s ≡ None) where
      change_by : (o : Option (List Fixed)) (spent : Option Refusal) → next_fixed form p s ≡ o → when (is_last state) CountersSpent ≡ spent
          → port_changed settings state caller form n p ≡ changed_by None o spent
      change_by o spent found last = λ j. changed_by ((sym change_is ∙ passed) j) ((sym after_is ∙ found) j) (last j)

      pub change_unfixed : (e : Refusal) → (e ≡ OutOfMemory) ⊎ ((e ≡ PoolsSpent p.network) × (next_fixed form p s ≡ None)) → IsRefusalOf (port_changed settings state caller form n p) e
      change_unfixed e (inl memory) = inl memory
      change_unfixed e (inr spent) = inr (change_by None (when (is_last state) CountersSpent) spent.1 refl ∙ ap Refused (sym spent.0))

      module _ (fs : List Fixed) (found : next_fixed form p s ≡ Some fs) where
        pub change_last : (e : Refusal) → when (is_last state) CountersSpent ≡ Some e → IsRefusalOf (port_changed settings state caller form n p) e
        change_last e last = inr (change_by (Some fs) (Some e) found last)

        pub change_replaces : (q : PortRow) → when (is_last state) CountersSpent ≡ None → q ≡ changed_port settings form n p fs
            → port_changed settings state caller form n p ≡ port_replaced caller state.rows q
        change_replaces q room is_q = change_by (Some fs) None found room ∙ ap (port_replaced caller state.rows) (sym is_q)

-- whether a version is left, by the version that is read
pub left_at : (state : State) (version : ℕ) → version ≡ state.version → when (version == (2 ^ 64 - 1)) CountersSpent ≡ when (is_last state) CountersSpent
left_at state version is = λ j. when (is j == (2 ^ 64 - 1)) CountersSpent

module _ (settings : SettingsParts) (state : State) (caller : Caller) (name : IdText) (form : PortForm) where
  abbrev on_network : PortRow → Option NetworkRow → Outcome
  on_network p found = needing (not_found PortKind name.text) found (λ n. port_changed settings state caller form n p)

  abbrev on_port : Option PortRow → Outcome
  on_port found = needing (not_found PortKind name.text) found (λ p. on_network p (row_of (λ (n : NetworkRow). n.id) p.network state.rows.networks))

  module _ (p : PortRow) (seen : port_seen state.rows caller name.id ≡ Some p) where
    pub updated_on : (n : NetworkRow) → row_of (λ (n : NetworkRow). n.id) p.network state.rows.networks ≡ Some n
        → port_updated settings state caller name form ≡ port_changed settings state caller form n p
    updated_on n placed = ap on_port seen ∙ ap (on_network p) placed

pub owners_so : (form : PortForm) → is_port_body form ≡ true → are_owners form.project_id form.tenant_id ≡ true
owners_so form body =
    let eight = (and_both _ _ body).0 in
    let seven = (and_both _ _ eight).0 in
    let six = (and_both _ _ seven).0 in
    let five = (and_both _ _ six).0 in
    let four = (and_both _ _ five).0 in
    let three = (and_both _ _ four).0 in
    let two = (and_both _ _ three).0 in
    (and_both _ _ two).0

-- no port has an id that was drawn
pub drawn_unused : (state : State) (owner : List ℕ) (d : Drawing) → IsConsistent state.rows → not (is_empty owner) ≡ true
    → drawing_at state owner 1 ≡ Some d → row_of (λ (p : PortRow). p.id) (drawn_id d 0) d.rows.ports ≡ None
drawn_unused state owner d c named h =
    let is = draws state.rows owner 1 d c named (lit< tt) (drawn_is state owner 1 d h) in
    (drawn_new state.rows owner 1 d is 0 (lit< tt)).ports

-- An accepted change of a port keeps rows consistent.
use Rattle.kept_laws.proofs.TypedKept.{HaveKept, IsTypedEdit, disassociations_typed, made_typed}
use Rattle.std.proofs.Common.{Bool, List, None, Option, Some, [], ap, arith, cond, false, length, map, not, refl, slice_get, slice_set, subst, sym, true, ℕ, ◌<◌, ◌^◌, ◌∙◌, ◌∷◌, ◌≡◌, ◌≤◌}
use Rattle.std.specs.Prelude.{count_by, filter, find, nat_le, sum_by, ◌&&◌, ◌==◌, ◌||◌}
use Rattle.std.proofs.lemmas.Bool.Decides.{nat_tests}
use Rattle.std.specs.List.{list_all, list_any}
use Rattle.net_addr.proofs.AddrLemmas.{addr_itself, addr_same}
use Rattle.net_addr.proofs.PrefixLemmas.{number_decides}
use Rattle.net_addr.specs.Addresses.{addr_eq, is_four}
use Rattle.net_addr.specs.Macs.{is_unicast}
use Rattle.net_addr.specs.declared.address.Addr.{Addr}
use Rattle.net_addr.specs.declared.address.Addr.TheVariants.{V4}
use Rattle.api_types.specs.Consistent.{IsConsistent}
use Rattle.api_types.specs.Consistent.HeldOnce.{has_mac, holds_times}
use Rattle.api_types.specs.Consistent.InForm.{is_group_of, is_port_form}
use Rattle.api_types.specs.Ident.{Ident}
use Rattle.api_types.specs.Lists.{Each, if_some, is_empty, is_some_so, stands_so}
use Rattle.api_types.specs.Outcome.{Moved, Outcome}
use Rattle.api_types.specs.Owners.{is_dhcp, is_service}
use Rattle.api_types.specs.Printed.{Reply}
use Rattle.api_types.specs.RowLists.{RowLists}
use Rattle.api_types.specs.Table.{ident_eq, row_of}
use Rattle.api_types.specs.declared.call.Call.TheVariants.{Update}
use Rattle.api_types.specs.declared.call.Caller.{Caller}
use Rattle.api_types.specs.declared.call.IdText.{IdText}
use Rattle.api_types.specs.declared.floating.FloatingRow.{FloatingRow}
use Rattle.api_types.specs.declared.floating.Target.{Target}
use Rattle.api_types.specs.declared.form.FixedAsked.{FixedAsked}
use Rattle.api_types.specs.declared.form.Form.TheVariants.{Port as PortOf}
use Rattle.api_types.specs.declared.form.Given.{Given}
use Rattle.api_types.specs.declared.form.Given.TheVariants.{Absent, Is, Null}
use Rattle.api_types.specs.declared.form.PairAsked.{PairAsked}
use Rattle.api_types.specs.declared.form.PortForm.{PortForm}
use Rattle.api_types.specs.declared.kind.Kind.TheVariants.{Group as GroupKind, Port as PortKind, Subnet as SubnetKind}
use Rattle.api_types.specs.declared.kind.Row.TheVariants.{Floating, Port}
use Rattle.api_types.specs.declared.network.NetworkRow.{NetworkRow}
use Rattle.api_types.specs.declared.port.Fixed.{Fixed}
use Rattle.api_types.specs.declared.port.Pair.{Pair}
use Rattle.api_types.specs.declared.port.PortRow.{PortRow}
use Rattle.api_types.specs.declared.port.Vif.{Vif}
use Rattle.api_types.specs.declared.refusal.Refusal.TheVariants.{CountersSpent, PoolsSpent}
use Rattle.api_types.specs.declared.subnet.SubnetRow.{SubnetRow}
use Rattle.row_laws.specs.Replaced.{ServesNothing, is_held_still, with_port_at}
use Rattle.row_laws.proofs.Service.DhcpLemmas.{free_sum, wanted}
use Rattle.api_types.proofs.ListLemmas.{and_both, any-at, at-any, both_and, count-none, false_true, none-any, or_false, or_none, or_true, some_equal, sum-remove, sum-set}
use Rattle.api_types.proofs.NameLemmas.{at-all, by_test, count-set, fails_by, ident_same, ident_sym, not_true, unless as unless_test, unless_so}
use Rattle.row_laws.proofs.PortRenamed.{port_renamed}
use Rattle.row_laws.proofs.PortReplaced.{port_replaced as port_kept}
use Rattle.kept_laws.proofs.Disassociated.{AreDisassociated, disassociations_keep}
use Rattle.kept_laws.proofs.EditedRows.{get_map, none_refused, put_at}
use Rattle.plan_ports.proofs.FixedApart.{AreTaken, around_forms, around_once, around_prefixes, hosts_apart}
use Rattle.kept_laws.proofs.FixedFits.{Fits, asked_few, each_cons, items_differ, items_filled}
use Rattle.kept_laws.proofs.GatewayStays.{unmapped}
use Rattle.kept_laws.proofs.GivenLemmas.{value_all, value_few}
use Rattle.plan_ports.proofs.NoService.{serves_nothing}
use Rattle.plan_ports.proofs.OldAddresses.{old_fits, renewed_differ, renewed_fit, same_renewed}
use Rattle.plan_ports.proofs.PortBodies.{PortBodyParts, bare_so, counted_once, groups_named, is_placed_so, mac_unheld, map_empty, map_few, owner_plain, pairs_unicast, port_parts}
use Rattle.plan_ports.proofs.PortCreated.{fits_hosts, fits_named}
use Rattle.call_parts.specs.BodyNames.{unless_all}
use Rattle.call_parts.specs.Edits.{Put, made}
use Rattle.api_types.specs.WithRows.{with_put}
use Rattle.api_ipam.specs.FixedChoice.{addresses_of, all_renewed, are_placed, named_subnets, next_addresses, next_known, old_renewed, renewed}
use Rattle.api_types.specs.HeldAddresses.{address_taken, is_address_held, is_held_by_other, is_mac_held, is_mac_of_other, subnets_on}
use Rattle.call_parts.specs.InForm.{IsFormed, if_value, is_few, is_pair, is_port_body}
use Rattle.call_parts.specs.Leaving.{disassociated, disassociations, loses_target}
use Rattle.api_policy.specs.Permits.{admin_only, network_owner, owner_only}
use Rattle.plan_ports.specs.PortCalls.{addresses_after, bad_bare_after, bad_next_fixed, changed_port, changes_service, is_group_for, items_of, mac_after, mac_taken, pair_of, pairs_after, port_changed, port_edits, port_replaced, port_updated, update_refusal, values_taken, vif_after}
use Rattle.plan_ports.specs.PortRules.{is_subnet_seen}
use Rattle.api_policy.specs.Seen.{port_seen}
use Rattle.call_parts.specs.Typed.{AreTyped, IfGiven}
use Rattle.api_policy.specs.Uses.{service_in_use}
use Rattle.api_policy.specs.Visibility.{sees_port}
use Rattle.kept_laws.proofs.OutcomeLemmas.{moved_rows, named_is, needing_moved, not_when, unfound, unless_moved, found_at}
use Rattle.api_types.specs.Given.{is_given, value_of, value_or}
use Rattle.api_types.specs.Refusing.{needing, not_found, unless, when}
use Rattle.call_parts.specs.State.{State, is_last}
use Rattle.net_settings.specs.Settings.{SettingsParts}
use Rattle.kept_laws.proofs.CarriedKept.{IsCarried, IsCarriedEdit, disassociations_carried, made_carried}
use Rattle.kept_laws.proofs.ServiceMade.{bound_carried}
use Rattle.api_ml2.specs.Carrying.{carries}
use Rattle.api_ml2.specs.Binding.{bound}
use Rattle.api_types.specs.Consistent.Carried.{is_bound}
use Rattle.api_policy.specs.Reserved.{port_for_admin, port_for_owner}

-- floating addresses are put whatever the ports are
puts_any : (rows : RowLists) (ports : List PortRow) (fs : List FloatingRow)
    → made (record rows { ports = ports }) (map (λ (f : FloatingRow). Put (Floating (disassociated f))) fs) ≡ record (made rows (map (λ (f : FloatingRow). Put (Floating (disassociated f))) fs)) { ports = ports }
puts_any rows ports [] = refl
puts_any rows ports (f ∷ fs) = puts_any (with_put rows (Floating (disassociated f))) ports fs

-- what isn't given is as it was
ungiven : {T : Type 0} (old : T) (g : Given T) → is_given g ≡ false → value_or old g ≡ old
ungiven old Absent h = refl
ungiven old Null h = cc
ungiven old (Is x) h = cc

ungiven_pairs : (mac : ℕ) (g : Given (List PairAsked)) (old : List Pair) → is_given g ≡ false → pairs_after mac g old ≡ old
ungiven_pairs mac Absent old h = refl
ungiven_pairs mac Null old h = cc
ungiven_pairs mac (Is asked) old h = cc

ungiven_vif : (settings : SettingsParts) (n : NetworkRow) (g : Given (List ℕ)) (old : Vif) → is_given g ≡ false → vif_after settings n g old ≡ old
ungiven_vif settings n Absent old h = refl
ungiven_vif settings n Null old h = cc
ungiven_vif settings n (Is host) old h = cc

ungiven_addresses : (free : Addr → Bool) (subnets : List SubnetRow) (p : PortRow) (mac : ℕ) (g : Given (List FixedAsked)) → is_given g ≡ false → next_addresses free subnets p mac g ≡ Some (old_renewed subnets p mac)
ungiven_addresses free subnets p mac Absent h = refl
ungiven_addresses free subnets p mac Null h = refl
ungiven_addresses free subnets p mac (Is wanted) h = cc

-- nothing of a service's port but name and description is given
pub record IsNameOnly (form : PortForm) : Type 0 where
  pub up : is_given form.admin_state_up ≡ false
  pub mac : is_given form.mac_address ≡ false
  pub fixed : is_given form.fixed_ips ≡ false
  pub pairs : is_given form.allowed_address_pairs ≡ false
  pub secured : is_given form.port_security_enabled ≡ false
  pub groups : is_given form.security_groups ≡ false
  pub device : is_given form.device_id ≡ false
  pub owner : is_given form.device_owner ≡ false
  pub host : is_given form.binding_host_id ≡ false

name_only : (form : PortForm) → changes_service form ≡ false → IsNameOnly form
name_only form h =
    let a = or_none _ (is_given form.binding_vnic_type) h in
    let b = or_none _ (is_given form.binding_host_id) a.0 in
    let d = or_none _ (is_given form.device_owner) b.0 in
    let e = or_none _ (is_given form.device_id) d.0 in
    let f = or_none _ (is_given form.security_groups) e.0 in
    let g = or_none _ (is_given form.port_security_enabled) f.0 in
    let i = or_none _ (is_given form.allowed_address_pairs) g.0 in
    let k = or_none _ (is_given form.fixed_ips) i.0 in
    let l = or_none (is_given form.admin_state_up) (is_given form.mac_address) k.0 in
    record { up = l.0; mac = l.1; fixed = k.1; pairs = i.1; secured = g.1; groups = f.1; device = e.1; owner = d.1; host = b.1 }

-- what the refusals of a change say
pub record IsChangeable (rows : RowLists) (caller : Caller) (form : PortForm) (p : PortRow) : Type 0 where
  pub placed : are_placed (subnets_on rows.subnets p.network) (mac_after form p) (old_renewed (subnets_on rows.subnets p.network) p (mac_after form p)) (items_of form) ≡ true
  pub bare : value_or p.secured form.port_security_enabled || (is_empty (value_or p.groups form.security_groups) && is_empty (pairs_after p.mac form.allowed_address_pairs p.pairs)) ≡ true
  pub groups : list_all (is_group_of rows.groups p.project) (value_or [] form.security_groups) ≡ true
  pub service : changes_service form && is_service p.owner ≡ false
  pub unheld : find (is_held_by_other rows.ports p) (next_known (subnets_on rows.subnets p.network) p (mac_after form p) form.fixed_ips) ≡ None
  pub mac : mac_taken (is_mac_of_other rows.ports p) p.network (value_of form.mac_address) ≡ None

changeable : (rows : RowLists) (caller : Caller) (form : PortForm) (p : PortRow) → update_refusal rows caller form p ≡ None → IsChangeable rows caller form p
changeable rows caller form p h =
    let near = subnets_on rows.subnets p.network in
    let known = next_known near p (mac_after form p) form.fixed_ips in
    let of_fixed = bad_next_fixed rows caller form p near in
    let of_bare = bad_bare_after form p in
    let of_subnets = unless_all SubnetKind (is_subnet_seen rows caller) (named_subnets (items_of form)) in
    let of_groups = unless_all GroupKind (is_group_for rows caller p.project) (value_or [] form.security_groups) in
    let of_service = service_in_use rows caller (changes_service form) p in
    let of_values = values_taken (is_held_by_other rows.ports p) (is_mac_of_other rows.ports p) p.network known form in
    let none = none_refused (of_fixed ∷ of_bare ∷ of_subnets ∷ of_groups ∷ admin_only caller (port_for_admin caller form) ∷ owner_only caller p.project ∷ network_owner rows caller (port_for_owner form) p.network ∷ of_service ∷ of_values ∷ []) h in
    let of_addresses = address_taken (is_held_by_other rows.ports p) p.network known in
    let of_mac = mac_taken (is_mac_of_other rows.ports p) p.network (value_of form.mac_address) in
    let values = none_refused (of_addresses ∷ of_mac ∷ []) (none 8 of_values refl) in
    record {
      placed = is_placed_so rows caller near (mac_after form p) (old_renewed near p (mac_after form p)) (items_of form) (none 0 of_fixed refl) (none 2 of_subnets refl);
      bare = bare_so (value_or p.secured form.port_security_enabled) (value_or p.groups form.security_groups) (pairs_after p.mac form.allowed_address_pairs p.pairs) (none 1 of_bare refl);
      groups = groups_named rows caller p.project (value_or [] form.security_groups) (none 3 of_groups refl);
      service = not_when (changes_service form && is_service p.owner) _ (none 7 of_service refl);
      unheld = unmapped _ (find (is_held_by_other rows.ports p) known) (values 0 of_addresses refl);
      mac = values 1 of_mac refl;
    }

-- the rows after the port's floating addresses were disassociated, and then the port is set
module _ (rows : RowLists) (c : IsConsistent rows) (k : ℕ) (p new : PortRow) (at : slice_get rows.ports k ≡ Some p) (same : new.id ≡ p.id) where
  abbrev before : AreDisassociated rows (disassociations rows.floatings new.id new.fixed) (loses_target new.id new.fixed)
  before = disassociations_keep rows new.id new.fixed c

  abbrev between : RowLists
  between = record rows { floatings = before.floatings }

  edited_is : made rows (port_edits rows.floatings new) ≡ with_port_at between k new
  edited_is =
      ap (λ ports. made (record rows { ports = ports }) (disassociations rows.floatings new.id new.fixed)) (put_at (λ (q : PortRow). q.id) rows.ports k p new at same (λ i. omega (arith, c.numbered.ids i)))
      ∙ (puts_any rows (slice_set rows.ports k new) (filter (λ (f : FloatingRow). is_some_so (loses_target new.id new.fixed) f.target) rows.floatings)
      ∙ ap (λ (r : RowLists). record r { ports = slice_set rows.ports k new }) before.is)

module _ (settings : SettingsParts) (rows : RowLists) (caller : Caller) (form : PortForm) (c : IsConsistent rows) (typed : AreTyped rows) (body : PortBodyParts form) (mac_small : IfGiven (λ m. m < 2 ^ 48) form.mac_address)
    (n : NetworkRow) (k : ℕ) (p : PortRow) (at : slice_get rows.ports k ≡ Some p) (may : IsChangeable rows caller form p) (fixed : List Fixed) (fixed_is : addresses_after rows form p ≡ Some fixed) where
  abbrev new : PortRow
  new = changed_port settings form n p fixed

  abbrev mac : ℕ
  mac = mac_after form p

  mac_typed : mac < 2 ^ 48
  mac_typed = by form.mac_address mac_small
    where
      by : (g : Given ℕ) → IfGiven (λ m. m < 2 ^ 48) g → value_or p.mac g < 2 ^ 48
      by Absent h = typed.macs k p at
      by Null h = typed.macs k p at
      by (Is m) h = h

  -- where only name and description are given
  renamed : changes_service form ≡ false → IsConsistent (with_port_at (between rows c k p new at refl) k new)
  renamed h =
      let only = name_only form h in
      let mac_same : mac ≡ p.mac = ungiven p.mac form.mac_address only.mac in
      let near = subnets_on rows.subnets p.network in
      let old : next_addresses (λ x. not (is_held_by_other rows.ports p x)) near p mac form.fixed_ips ≡ Some (old_renewed near p mac) = ungiven_addresses (λ x. not (is_held_by_other rows.ports p x)) near p mac form.fixed_ips only.fixed in
      let fixed_same : fixed ≡ p.fixed = some_equal fixed p.fixed (sym fixed_is ∙ (old ∙ (ap (λ m. Some (all_renewed near p.mac m p.fixed)) mac_same ∙ ap Some (same_renewed near p.mac p.fixed)))) in
      port_renamed (between rows c k p new at refl) k p at new (record {
        id = refl;
        project = refl;
        network = refl;
        up = ungiven p.up form.admin_state_up only.up;
        mac = mac_same;
        fixed = fixed_same;
        pairs = ungiven_pairs mac form.allowed_address_pairs p.pairs only.pairs;
        secured = ungiven p.secured form.port_security_enabled only.secured;
        groups = ungiven p.groups form.security_groups only.groups;
        device = ungiven p.device form.device_id only.device;
        owner = ungiven p.owner form.device_owner only.owner;
        host = ungiven p.host form.binding_host_id only.host;
        vif = ungiven_vif settings n form.binding_host_id p.vif only.host;
        by_admin = refl;
      }) (before rows c k p new at refl).consistent

  -- else it is no service's
  module _ (plain : is_service p.owner ≡ false) where
    old_serves : ServesNothing p.owner
    old_serves = serves_nothing p.owner plain

    small : mac < 2 ^ 48
    small = mac_typed

    old_form : is_port_form p ≡ true
    old_form = c.in_form.port_forms k p at

    -- the old form, part by part
    old_parts : (is_unicast p.mac ≡ true) × (list_all (λ (q : Pair). is_unicast q.mac) p.pairs ≡ true) × (nat_le (length p.fixed) 5 ≡ true) × (nat_le (length p.pairs) 10 ≡ true) × (nat_le (length p.groups) 20 ≡ true)
    old_parts =
        let a = and_both _ (nat_le (length p.groups) 20) old_form in
        let b = and_both _ (nat_le (length p.pairs) 10) a.0 in
        let d = and_both _ (nat_le (length p.fixed) 5 || is_dhcp p.owner) b.0 in
        let e = and_both (is_unicast p.mac) (list_all (λ (q : Pair). is_unicast q.mac) p.pairs) d.0 in
        (e.0, e.1, sym (or_false (nat_le (length p.fixed) 5)) ∙ (ap (λ t. nat_le (length p.fixed) 5 || t) (sym old_serves.no_dhcp) ∙ d.1), b.1, a.1)

    at_most : (i : ℕ) → nat_le i 5 ≡ true → i ≤ 5
    at_most i h = grind (arith, nat_tests, h)

    -- its addresses
    taken : AreTaken rows p.network c mac typed.prefixes small (is_held_by_other rows.ports p) fixed
    taken = by form.fixed_ips may.placed body.few_fixed may.unheld fixed_is
      where
        fits : Each (Fits (subnets_on rows.subnets p.network) mac) (old_renewed (subnets_on rows.subnets p.network) p mac)
        fits = renewed_fit rows c k p at old_serves.no_interface mac typed.prefixes small

        kept : (fs : List Fixed) → find (is_held_by_other rows.ports p) (addresses_of (old_renewed (subnets_on rows.subnets p.network) p mac)) ≡ None
            → Some (old_renewed (subnets_on rows.subnets p.network) p mac) ≡ Some fs → AreTaken rows p.network c mac typed.prefixes small (is_held_by_other rows.ports p) fs
        kept fs unheld h = subst (AreTaken rows p.network c mac typed.prefixes small (is_held_by_other rows.ports p)) (some_equal (old_renewed (subnets_on rows.subnets p.network) p mac) fs h) (record {
          fit = fits;
          free = λ m f at_f. unfound (is_held_by_other rows.ports p) (addresses_of (old_renewed (subnets_on rows.subnets p.network) p mac)) unheld m f.address
              (get_map (λ (g : Fixed). g.address) (old_renewed (subnets_on rows.subnets p.network) p mac) m f at_f);
          differ = renewed_differ rows c k p at old_serves.no_interface mac typed.prefixes small;
          few = let e = map_few (λ (f : Fixed). renewed p.mac mac f (row_of (λ (s : SubnetRow). s.id) f.subnet (subnets_on rows.subnets p.network))) p.fixed in let five = at_most (length p.fixed) old_parts.2 in omega (arith, e, five);
        })

        by : (g : Given (List FixedAsked)) → are_placed (subnets_on rows.subnets p.network) mac (old_renewed (subnets_on rows.subnets p.network) p mac) (value_or [] g) ≡ true → is_few 5 g ≡ true
            → find (is_held_by_other rows.ports p) (next_known (subnets_on rows.subnets p.network) p mac g) ≡ None
            → next_addresses (λ x. not (is_held_by_other rows.ports p x)) (subnets_on rows.subnets p.network) p mac g ≡ Some fixed → AreTaken rows p.network c mac typed.prefixes small (is_held_by_other rows.ports p) fixed
        by Absent placed few unheld h = kept fixed unheld h
        by Null placed few unheld h = kept fixed unheld h
        by (Is wanted) placed few unheld h =
            let S = subnets_on rows.subnets p.network in
            let a = around_prefixes rows p.network c mac typed.prefixes small in
            let b = around_forms rows p.network c mac typed.prefixes small in
            let o = around_once rows p.network c mac typed.prefixes small in
            let old = old_renewed S p mac in
            let filled = items_filled S mac a b o small (λ x. not (is_held_by_other rows.ports p x)) (is_held_by_other rows.ports p) (λ x free. not_true _ free) old fits wanted fixed placed unheld h in
            let most = asked_few S mac a b o small old wanted in
            record {
              fit = filled.fit;
              free = filled.free;
              differ = items_differ S mac a b o small (λ x. not (is_held_by_other rows.ports p x)) old wanted fixed placed h;
              few = omega (arith, filled.few, most, at_most (length wanted) few);
            }

    form_is : is_port_form new ≡ true
    form_is =
        let unicast : is_unicast mac ≡ true = mac_unicast form.mac_address body.unicast in
        let pairs = pairs_good form.allowed_address_pairs body.pairs body.few_pairs unicast in
        let few_fixed : nat_le (length fixed) 5 ≡ true = within (length fixed) taken.few in
        let few_groups = value_few 20 p.groups form.security_groups old_parts.4 body.few_groups in
        λ j. unicast j && pairs.0 j && (few_fixed j || is_dhcp new.owner) && pairs.1 j && few_groups j
      where
        within : (i : ℕ) → i ≤ 5 → nat_le i 5 ≡ true
        within i h = grind (arith, nat_tests, h)

        mac_unicast : (g : Given ℕ) → if_value is_unicast g ≡ true → is_unicast (value_or p.mac g) ≡ true
        mac_unicast Absent h = old_parts.0
        mac_unicast Null h = old_parts.0
        mac_unicast (Is m) h = h

        pairs_good : (g : Given (List PairAsked)) → if_value (list_all is_pair) g ≡ true → is_few 10 g ≡ true → is_unicast mac ≡ true
            → (list_all (λ (q : Pair). is_unicast q.mac) (pairs_after mac g p.pairs) ≡ true) × (nat_le (length (pairs_after mac g p.pairs)) 10 ≡ true)
        pairs_good Absent h few unicast = (old_parts.1, old_parts.3)
        pairs_good Null h few unicast = (old_parts.1, old_parts.3)
        pairs_good (Is asked) h few unicast = (pairs_unicast mac asked unicast h, ap (λ i. nat_le i 10) (map_few (pair_of mac) asked) ∙ few)

    -- its MAC address is its own still, or no port's
    macs_once : (network : Ident) (m : ℕ) → count_by (has_mac network m) (slice_set rows.ports k new) ≤ 1
    macs_once network m =
        let moved = sum-set (λ (q : PortRow). cond {A = ℕ} (has_mac network m q) 1 0) rows.ports k p new at in
        let once = c.held_once.macs network m in
        by_test (p.mac == mac) (count_by (has_mac network m) (slice_set rows.ports k new) ≤ 1)
        (λ same. let e = count-set (has_mac network m) rows.ports k p new at (ap (λ i. ident_eq network p.network && (i == m)) (sym ((number_decides p.mac mac).0 same))) in omega (arith, e, once))
        (λ other. by_test (has_mac network m new) (count_by (has_mac network m) (slice_set rows.ports k new) ≤ 1)
        (λ has.
        let both = and_both (ident_eq network p.network) (mac == m) has in
        let none = mac_free form.mac_address may.mac other in
        let zeros : count_by (has_mac network m) rows.ports ≡ 0 = (λ j. count_by (has_mac (ident_same network p.network both.0 j) (sym ((number_decides mac m).0 both.1) j)) rows.ports)
        ∙ count-none (has_mac p.network mac) rows.ports (none-any (has_mac p.network mac) rows.ports none) in
        let one : cond {A = ℕ} (has_mac network m new) 1 0 ≡ 1 = ap (λ (b : Bool). cond {A = ℕ} b 1 0) has in
        omega (arith, moved, zeros, one))
        (λ hasnt. let zero : cond {A = ℕ} (has_mac network m new) 1 0 ≡ 0 = ap (λ (b : Bool). cond {A = ℕ} b 1 0) hasnt in omega (arith, moved, zero, once)))
      where
        itself : (i : ℕ) → (i == i) ≡ false → ⊥
        itself i h = false_true ⊥ (sym h ∙ (number_decides i i).1 refl)

        first : (a b : Bool) → a && not b ≡ false → b ≡ false → a ≡ false
        first true true h e = sym (sym e)
        first true false h e = h
        first false b h e = refl

        mac_free : (g : Given ℕ) → mac_taken (is_mac_of_other rows.ports p) p.network (value_of g) ≡ None → (p.mac == value_or p.mac g) ≡ false → list_any (has_mac p.network (value_or p.mac g)) rows.ports ≡ false
        mac_free Absent h e = absurd (itself p.mac e)
        mac_free Null h e = absurd (itself p.mac e)
        mac_free (Is i) h e = first (is_mac_held rows.ports p.network i) (p.mac == i) (mac_unheld (is_mac_of_other rows.ports p) p.network i h) e

    addresses_once : (network : Ident) (x : Addr) → sum_by (holds_times network x) (slice_set rows.ports k new) ≤ 1
    addresses_once network x =
        let moved = sum-set (holds_times network x) rows.ports k p new at in
        let once = c.held_once.addresses network x in
        by_test (ident_eq network p.network) (sum_by (holds_times network x) (slice_set rows.ports k new) ≤ 1)
        (λ here.
        let mine : holds_times network x new ≡ count_by (λ (f : Fixed). addr_eq f.address x) fixed = ap (λ b. cond {A = ℕ} b (count_by (λ (f : Fixed). addr_eq f.address x) fixed) 0) here in
        let was : holds_times network x p ≡ count_by (λ (f : Fixed). addr_eq f.address x) p.fixed = ap (λ b. cond {A = ℕ} b (count_by (λ (f : Fixed). addr_eq f.address x) p.fixed) 0) here in
        let most = counted_once fixed x taken.differ in
        by_test (list_any (λ (f : Fixed). addr_eq f.address x) fixed) (sum_by (holds_times network x) (slice_set rows.ports k new) ≤ 1)
        (λ is.
        let found = any-at (λ (f : Fixed). addr_eq f.address x) fixed is in
        let f : Fixed = found.1 in
        let unheld : is_held_by_other rows.ports p x ≡ false = subst (λ y. is_held_by_other rows.ports p y ≡ false) (addr_same f.address x found.3) (taken.free found.0 f found.2) in
        by_test (list_any (λ (g : Fixed). addr_eq g.address x) p.fixed) (sum_by (holds_times network x) (slice_set rows.ports k new) ≤ 1)
        (λ own. let some = counted_some p.fixed x own in omega (arith, moved, mine, was, most, some, once))
        (λ not_own.
        let free = first (is_address_held rows.ports p.network x) (list_any (λ (g : Fixed). addr_eq g.address x) p.fixed) unheld not_own in
        let zeros = free_sum rows.ports p.network x free in
        let all : sum_by (holds_times network x) rows.ports ≡ 0 = ap (λ i. sum_by (holds_times i x) rows.ports) (ident_same network p.network here) ∙ zeros in
        omega (arith, moved, mine, most, all)))
        (λ none. let zeros = count-none (λ (f : Fixed). addr_eq f.address x) fixed (none-any (λ (f : Fixed). addr_eq f.address x) fixed none) in omega (arith, moved, mine, zeros, once)))
        (λ away. let zero : holds_times network x new ≡ 0 = ap (λ b. cond {A = ℕ} b (count_by (λ (f : Fixed). addr_eq f.address x) fixed) 0) away in omega (arith, moved, zero, once))
      where
        first : (a b : Bool) → a && not b ≡ false → b ≡ false → a ≡ false
        first true true h e = sym (sym e)
        first true false h e = h
        first false b h e = refl

        counted_some : (fs : List Fixed) (y : Addr) → list_any (λ (g : Fixed). addr_eq g.address y) fs ≡ true → 1 ≤ count_by (λ (g : Fixed). addr_eq g.address y) fs
        counted_some fs y h =
            let found = any-at (λ (g : Fixed). addr_eq g.address y) fs h in
            let out = sum-remove (λ (g : Fixed). cond {A = ℕ} (addr_eq g.address y) 1 0) fs found.0 found.1 found.2 in
            let one : cond {A = ℕ} (addr_eq found.1.address y) 1 0 ≡ 1 = ap (λ (b : Bool). cond {A = ℕ} b 1 0) found.3 in
            omega (arith, out, one)

    -- floating addresses that lead to it lead to an address that it held in the same subnet
    still_led : Each (λ f. if_some (λ (t : Target). not (ident_eq t.port p.id) || list_all (is_held_still new t) p.fixed) f.target ≡ true) (before rows c k p new at refl).floatings
    still_led l f at_f = by f.target ((before rows c k p new at refl).none l f at_f)
      where
        held : (t : Target) → list_any (λ (y : Fixed). is_four y.address t.fixed) fixed ≡ true → list_all (is_held_still new t) p.fixed ≡ true
        held t h =
            let found = any-at (λ (y : Fixed). is_four y.address t.fixed) fixed h in
            let y : Fixed = found.1 in
            at-all (is_held_still new t) p.fixed (λ m x at_x. unless_so (is_four x.address t.fixed) _ (λ mine.
            by_test (ident_eq x.subnet y.subnet) (list_any (λ (z : Fixed). is_four z.address t.fixed && ident_eq x.subnet z.subnet) fixed ≡ true)
            (λ same. at-any (λ (z : Fixed). is_four z.address t.fixed && ident_eq x.subnet z.subnet) fixed found.0 y found.2 (both_and _ _ found.3 same))
            (λ other.
            let apart = hosts_apart rows p.network c p.mac mac x y (old_fits rows c k p at old_serves.no_interface m x at_x) (taken.fit found.0 y found.2) other in
            let equal : x.address ≡ y.address = addr_same x.address (V4 t.fixed) mine ∙ sym (addr_same y.address (V4 t.fixed) found.3) in
            false_true _ (sym apart ∙ (ap (λ a. addr_eq a y.address) equal ∙ addr_itself y.address)))))

        at_target : (t : Target) (a b : Bool) → ident_eq p.id t.port ≡ a → list_any (λ (y : Fixed). is_four y.address t.fixed) fixed ≡ b → a && not b ≡ false → not (ident_eq t.port p.id) || list_all (is_held_still new t) p.fixed ≡ true
        at_target t true true e g h = ap (λ d. not (ident_eq t.port p.id) || d) (held t g) ∙ or_true (not (ident_eq t.port p.id))
        at_target t true false e g h = false_true _ (sym h)
        at_target t false b e g h = unless_test (ident_eq t.port p.id) _ (fails_by (ident_eq t.port p.id) (ident_eq p.id t.port) (ident_sym t.port p.id) e)

        by : (o : Option Target) → is_some_so (loses_target new.id new.fixed) o ≡ false → if_some (λ (t : Target). not (ident_eq t.port p.id) || list_all (is_held_still new t) p.fixed) o ≡ true
        by None h = refl
        by (Some t) h = at_target t (ident_eq p.id t.port) (list_any (λ (y : Fixed). is_four y.address t.fixed) fixed) refl refl h

    replaced : IsConsistent (with_port_at (between rows c k p new at refl) k new)
    replaced = port_kept (between rows c k p new at refl) k p new at (record {
      id = refl;
      network = refl;
      project = refl;
      by_admin = refl;
      before = old_serves;
      after = serves_nothing new.owner (owner_plain p.owner form.device_owner plain body.no_service);
      form = form_is;
      held_once = record { macs = macs_once; addresses = addresses_once };
      subnets = fits_named rows new fixed taken.fit;
      hosts = fits_hosts rows new fixed taken.fit;
      groups = value_all (is_group_of rows.groups p.project) p.groups form.security_groups (c.groups.of_ports k p at) may.groups;
      bare = bare_after form.allowed_address_pairs may.bare;
      targets = still_led;
    }) (before rows c k p new at refl).consistent
      where
        bare_after : (g : Given (List PairAsked)) → new.secured || (is_empty new.groups && is_empty (pairs_after p.mac g p.pairs)) ≡ true → new.secured || (is_empty new.groups && is_empty (pairs_after mac g p.pairs)) ≡ true
        bare_after Absent h = h
        bare_after Null h = h
        bare_after (Is asked) h = ap (λ b. new.secured || (is_empty new.groups && b)) (map_empty (pair_of mac) asked ∙ sym (map_empty (pair_of p.mac) asked)) ∙ h

  -- where the host is named, the port is bound there, and else as before
  still_carried : (l : ℕ) → slice_get rows.networks l ≡ Some n → p.network ≡ n.id → IsCarried (carries settings.hosts) rows.networks p → IsCarried (carries settings.hosts) rows.networks new
  still_carried l at_n there held = by form.binding_host_id
    where
      by : (g : Given (List ℕ)) → not (is_bound (vif_after settings n g p.vif)) || stands_so (λ m. m.id) p.network (λ m. carries settings.hosts (value_or p.host g) m.segment) rows.networks ≡ true
      by Absent = held
      by Null = held
      by (Is host) = ap (λ i. not (is_bound (bound settings n.segment host)) || stands_so (λ m. m.id) i (λ m. carries settings.hosts host m.segment) rows.networks) there ∙ bound_carried settings rows.networks l n at_n host

  pub changed_keeps : (l : ℕ) → slice_get rows.networks l ≡ Some n → p.network ≡ n.id → HaveKept settings rows (made rows (port_edits rows.floatings new))
  changed_keeps l at_n there = record {
    consistent = subst IsConsistent (sym (edited_is rows c k p new at refl)) (by (changes_service form) refl may.service);
    typed = λ t. made_typed rows (port_edits rows.floatings new) t (each_cons IsTypedEdit (Put (Port new)) (disassociations rows.floatings new.id new.fixed) mac_typed (disassociations_typed rows.floatings new.id new.fixed));
    carried = λ held. let can = carries settings.hosts in
        made_carried can rows (port_edits rows.floatings new) held (each_cons (IsCarriedEdit can rows.networks) (Put (Port new)) (disassociations rows.floatings new.id new.fixed)
        (still_carried l at_n there (held.at_host k p at)) (disassociations_carried can rows.networks rows.floatings new.id new.fixed));
  }
    where
      by : (b : Bool) → changes_service form ≡ b → b && is_service p.owner ≡ false → IsConsistent (with_port_at (between rows c k p new at refl) k new)
      by true e h = replaced h
      by false e h = renamed e

pub updated_kept : (settings : SettingsParts) (state : State) (caller : Caller) (name : IdText) (form : PortForm) (rows : RowLists) (reply : Reply) → IsConsistent state.rows → AreTyped state.rows → IfGiven (λ m. m < 2 ^ 48) form.mac_address
    → IsFormed caller (Update name (PortOf form)) → port_updated settings state caller name form ≡ Moved rows reply → HaveKept settings state.rows rows
updated_kept settings state caller name form rows reply c typed small given h =
    let body = port_parts form (and_both (not (is_empty caller.project)) (is_port_body form) given).1 in
    let change : PortRow → NetworkRow → Outcome = λ p n. port_changed settings state caller form n p in
    let with_network : PortRow → Outcome = λ p. needing (not_found PortKind name.text) (row_of (λ (n : NetworkRow). n.id) p.network state.rows.networks) (change p) in
    let found = needing_moved (not_found PortKind name.text) (port_seen state.rows caller name.id) with_network rows reply h in
    let p : PortRow = found.0 in
    let here = named_is (λ (q : PortRow). q.id) (sees_port state.rows caller) state.rows.ports name.id p found.1 in
    let network = needing_moved (not_found PortKind name.text) (row_of (λ (n : NetworkRow). n.id) p.network state.rows.networks) (change p) rows reply found.2 in
    let n : NetworkRow = network.0 in
    let there = found_at (λ (m : NetworkRow). ident_eq p.network m.id) state.rows.networks n network.1 in
    let set : List Fixed → Outcome = λ fixed. port_replaced caller state.rows (changed_port settings form n p fixed) in
    let last : List Fixed → Outcome = λ fixed. unless (when (is_last state) CountersSpent) (set fixed) in
    let passed = unless_moved (update_refusal state.rows caller form p) (needing (PoolsSpent p.network) (addresses_after state.rows form p) last) rows reply network.2 in
    let addresses = needing_moved (PoolsSpent p.network) (addresses_after state.rows form p) last rows reply passed.1 in
    let end = unless_moved (when (is_last state) CountersSpent) (set addresses.0) rows reply addresses.2 in
    subst (HaveKept settings state.rows) (moved_rows (made state.rows (port_edits state.rows.floatings (changed_port settings form n p addresses.0))) rows _ reply end.1)
    (changed_keeps settings state.rows caller form c typed body small n here.place p here.at (changeable state.rows caller form p passed.0) addresses.0 addresses.1 there.0 there.1 (ident_same p.network n.id there.2))

-- An accepted creation of a subnet keeps rows consistent.
use Rattle.kept_laws.proofs.FixedFits.{each_cons}
use Rattle.kept_laws.proofs.TypedKept.{HaveKept, IsTypedEdit, drawing_typed, made_typed}
use Rattle.plan_subnets.proofs.ServingTyped.{begin_typed, made_small}
use Rattle.std.proofs.Common.{lit<, lit≤, Bool, None, Option, Some, [], ap, arith, false, length, not, refl, slice_get, subst, sym, true, ℕ, ◌++◌, ◌+◌, ◌-◌, ◌<◌, ◌^◌, ◌∙◌, ◌∷◌, ◌≡◌, ◌≤◌}
use Rattle.std.specs.Prelude.{codes, flat_map, if◌then◌else◌, is_none, is_some, nat_le, option_and_then, option_to_list, ◌&&◌, ◌==◌, ◌||◌}
use Rattle.std.proofs.lemmas.Bool.Decides.{nat_tests}
use Rattle.std.specs.List.{list_all}
use Rattle.api_types.specs.declared.kind.Row.TheVariants.{Subnet}
use Rattle.row_laws.proofs.SubnetPushed.{unheld as unheld_in_new, subnet_pushed}
use Rattle.std.specs.Str.{bytes_eq}
use Rattle.net_addr.proofs.AddrLemmas.{addr_itself}
use Rattle.net_addr.proofs.PrefixLemmas.{number_decides, version_on}
use Rattle.net_addr.specs.Addresses.{addr_eq, is_v4, number, with_number, same_version}
use Rattle.net_addr.specs.Prefixes.{IsPrefix, Prefix, Span, eui, host_addresses, is_host_of, overlaps}
use Rattle.net_addr.specs.Spans.{is_within}
use Rattle.net_addr.specs.declared.address.Addr.{Addr}
use Rattle.net_addr.specs.declared.address.Addr.TheVariants.{V4 as Four, V6 as Six}
use Rattle.api_types.specs.Consistent.{IsConsistent}
use Rattle.api_types.specs.Consistent.Disjoint.{subnets_clash}
use Rattle.api_types.specs.Consistent.InForm.{are_modes, is_eui, is_hop_like, is_subnet_form, longest_of, makes_eui, mode_eq}
use Rattle.api_types.specs.Consistent.Named.{is_registered}
use Rattle.api_types.specs.Consistent.Numbered.{is_drawn, times_in}
use Rattle.api_types.specs.Ident.{Ident}
use Rattle.api_types.specs.Lists.{Each, if_some, is_empty, is_some_so}
use Rattle.api_types.specs.Outcome.{Moved, Outcome}
use Rattle.api_types.specs.Owners.{is_dhcp_of, is_interface}
use Rattle.api_types.specs.Printed.{Reply}
use Rattle.api_types.specs.Registration.{Drawing, draw_of, drawn_id}
use Rattle.api_types.specs.RowLists.{RowLists}
use Rattle.api_types.specs.Table.{ident_eq}
use Rattle.api_types.specs.declared.call.Call.TheVariants.{Create}
use Rattle.api_types.specs.declared.call.Caller.{Caller}
use Rattle.api_types.specs.declared.form.Form.TheVariants.{Subnet as SubnetOf}
use Rattle.api_types.specs.declared.form.Given.{Given}
use Rattle.api_types.specs.declared.form.Given.TheVariants.{Absent, Is, Null}
use Rattle.api_types.specs.declared.form.IpVersion.{IpVersion}
use Rattle.api_types.specs.declared.form.IpVersion.TheVariants.{V4, V6}
use Rattle.api_types.specs.declared.form.SubnetForm.{SubnetForm}
use Rattle.api_types.specs.declared.kind.Kind.TheVariants.{Network as NetworkKind}
use Rattle.api_types.specs.declared.network.NetworkRow.{NetworkRow}
use Rattle.api_types.specs.declared.port.Fixed.{Fixed}
use Rattle.api_types.specs.declared.port.PortRow.{PortRow}
use Rattle.api_types.specs.declared.refusal.Refusal.{Refusal}
use Rattle.api_types.specs.declared.refusal.Refusal.TheVariants.{CountersSpent, Invalid, PoolsSpent}
use Rattle.api_types.specs.declared.subnet.Ipv6Mode.{Ipv6Mode}
use Rattle.api_types.specs.declared.subnet.SubnetRow.{SubnetRow}
use Rattle.row_laws.specs.Drawn.{IsDrawing}
use Rattle.row_laws.specs.NewRows.{IsNewSubnet, with_subnet}
use Rattle.row_laws.specs.Replaced.{IsReplacedSubnet, is_owned_still}
use Rattle.row_laws.proofs.DrawnKept.{draws, drawing_carried}
use Rattle.api_types.proofs.IdLemmas.{fresh-push}
use Rattle.row_laws.proofs.TimesLemmas.{times-subnet}
use Rattle.api_types.proofs.ListLemmas.{and_both, at-any, both_and, false_true, none-any, or_true, some_equal}
use Rattle.api_types.proofs.NameLemmas.{all-weaker, and_fails, at-all, by_test, bytes_itself, fails_by, first_fails, ident_itself, ident_sym, must, not_false, unless as unless_test}
use Rattle.row_laws.proofs.SetLemmas.{get_last, set_last}
use Rattle.kept_laws.proofs.EditedRows.{filter_has, none_refused}
use Rattle.plan_subnets.proofs.SubnetBodies.{SubnetBodyParts, body_parts, good_subnet, good_versions}
use Rattle.kept_laws.proofs.GivenLemmas.{has_name, value_few}
use Rattle.kept_laws.proofs.PoolHosts.{eui_host, free_mac_is, host_contained, overlaps_turned, unheld_there}
use Rattle.plan_subnets.proofs.ServingBegins.{HasPortIds, IsServable, serving_begun}
use Rattle.kept_laws.proofs.SubnetForms.{form_of, parts_of, unleased, unleased_form}
use Rattle.plan_subnets.proofs.SubnetUpdated.{pool_servable}
use Rattle.api_ipam.specs.Addresses.{default_pools, span, span_without}
use Rattle.call_parts.specs.BodyNames.{no_id, text_of}
use Rattle.plan_subnets.specs.DhcpUpkeep.{begin_serving, dhcp_address, dhcp_mac, dhcp_port_on, makes_dhcp_port, served_address}
use Rattle.call_parts.specs.Edits.{Add, made}
use Rattle.api_types.specs.HeldAddresses.{fixed_at, subnets_on}
use Rattle.call_parts.specs.InForm.{IsFormed, if_value, is_cidr, is_subnet_body, is_there}
use Rattle.api_ipam.specs.MacChoice.{expected_mac, free_mac, mac_if}
use Rattle.plan_subnets.specs.SubnetRules.{bad_cidr, bad_modes, bad_parts, bad_subnet, bad_versions, is_bad_mode, is_version, may_have_mode, of_version, overlaps_subnet}
use Rattle.api_policy.specs.Seen.{network_seen}
use Rattle.plan_subnets.specs.SubnetCalls.{creation_refusal, dhcp_asked, gateway_asked, new_subnet, pools_asked, prefix_asked, subnet_added, subnet_created, subnet_made}
use Rattle.call_parts.specs.Typed.{AreTyped, IfGiven}
use Rattle.api_policy.specs.Visibility.{sees_network}
use Rattle.kept_laws.proofs.OutcomeLemmas.{found_at, if_some as if_some_moved, moved_rows, named_is, needing_moved, not_when, unless_moved}
use Rattle.api_types.specs.Given.{value_of, value_or}
use Rattle.api_types.specs.Refusing.{needing, not_found, unless, when}
use Rattle.call_parts.specs.State.{State, drawing_at, is_last}
use Rattle.net_settings.specs.Settings.{SettingsParts}
use Rattle.kept_laws.proofs.CarriedKept.{IsCarriedEdit, made_carried}
use Rattle.plan_subnets.proofs.ServingCarried.{begin_carried}
use Rattle.api_ml2.specs.Carrying.{carries}

-- the prefix that a body gives
given_is : {T : Type 0} (g : Given T) → is_there g ≡ true → (x : T) × (g ≡ Is x)
given_is Absent h = false_true _ h
given_is Null h = false_true _ h
given_is (Is x) h = (x, refl)

-- an address of version 6 is none of version 4
six_only : (v : IpVersion) (x : Addr) → is_version V6 v ≡ true → same_version (of_version v) x ≡ true → not (is_v4 x) ≡ true
six_only V4 x h g = false_true _ h
six_only V6 (Four n) h g = false_true _ g
six_only V6 (Six n) h g = refl

-- modes stand where none of them is bad
modes_good : (am rm : Option Ipv6Mode) (len : ℕ) (may six dhcp : Bool) → (may ≡ true → (six ≡ true) × (dhcp ≡ true))
    → is_some_so (λ m. not may || not (if_some (mode_eq m) rm) || (makes_eui m && not (len == 64))) am ≡ false → is_some rm && not may ≡ false
    → ((is_none am && is_none rm) || (six && dhcp)) && if_some (λ a. if_some (mode_eq a) rm) am && (not (is_some_so makes_eui am) || (len == 64)) ≡ true
modes_good None None len may six dhcp w a r = refl
modes_good None (Some m) len true six dhcp w a r = let both = w refl in λ j. (both.0 j && both.1 j) && true && true
modes_good None (Some m) len false six dhcp w a r = cc
modes_good (Some m) rm len false six dhcp w a r = cc
modes_good (Some m) rm len true six dhcp w a r = by (if_some (mode_eq m) rm) refl (makes_eui m) refl (len == 64) refl a
  where
    by : (e : Bool) → if_some (mode_eq m) rm ≡ e → (f : Bool) → makes_eui m ≡ f → (g : Bool) → (len == 64) ≡ g → not e || (f && not g) ≡ false
        → (false || (six && dhcp)) && if_some (mode_eq m) rm && (not (makes_eui m) || (len == 64)) ≡ true
    by false e f is g has h = cc
    by true e true is false has h = cc
    by true e true is true has h = let both = w refl in λ j. (both.0 j && both.1 j) && e j && (not (is j) || has j)
    by true e false is g has h = let both = w refl in λ j. (both.0 j && both.1 j) && e j && (not (is j) || (len == 64))

-- spans, each there or not, are few
few_spans : (a b : Bool) (s t : Span) → nat_le (length (((if a then s ∷ [] else []) ++ (if b then t ∷ [] else [])) ++ [])) 20 ≡ true
few_spans true true s t = refl
few_spans true false s t = refl
few_spans false true s t = refl
few_spans false false s t = refl

few_without : (x : Addr) (s : Span) → nat_le (length (span_without x s ++ [])) 20 ≡ true
few_without x s = by (is_within s x)
  where
    by : (b : Bool) → nat_le (length ((if b then span s.first (number s.first) (number x - 1) ++ span s.first (number x + 1) (number s.last) else s ∷ []) ++ [])) 20 ≡ true
    by true = few_spans (nat_le (number s.first) (number x - 1)) (nat_le (number x + 1) (number s.last))
        (record { first = with_number s.first (number s.first); last = with_number s.first (number x - 1) }) (record { first = with_number s.first (number x + 1); last = with_number s.first (number s.last) })
    by false = refl

-- the default pools are few
few_default : (p : Prefix) (gateway : Option Addr) → nat_le (length (default_pools p gateway)) 20 ≡ true
few_default p None = by (host_addresses p)
  where
    by : (o : Option Span) → nat_le (length (option_to_list o)) 20 ≡ true
    by None = refl
    by (Some s) = refl
few_default p (Some x) = by (host_addresses p)
  where
    by : (o : Option Span) → nat_le (length (flat_map (span_without x) (option_to_list o))) 20 ≡ true
    by None = refl
    by (Some s) = few_without x s

-- what is refused of a body's own parts
module _ (form : SubnetForm) (p : Prefix) (cidr : form.cidr ≡ Is p) (good : bad_parts form ≡ None) where
  abbrev version : IpVersion
  version = value_or V4 form.ip_version

  abbrev outside_version : Bool
  outside_version = is_some_so (λ (q : Prefix). not (same_version (of_version version) q.base)) (value_of form.cidr)

  none : Each (λ o. o ≡ None) (when outside_version (Invalid (codes "cidr")) ∷ bad_versions (of_version version) form ∷ bad_modes form ∷ [])
  none = none_refused (when outside_version (Invalid (codes "cidr")) ∷ bad_versions (of_version version) form ∷ bad_modes form ∷ []) good

  -- the prefix is of the version
  of_its_version : same_version (of_version version) p.base ≡ true
  of_its_version =
      let all = not_when outside_version (Invalid (codes "cidr")) (none 0 (when outside_version (Invalid (codes "cidr"))) refl) in
      not_false (same_version (of_version version) p.base) (sym (ap (λ g. is_some_so (λ (q : Prefix). not (same_version (of_version version) q.base)) (value_of g)) cidr) ∙ all)

  -- what is of the version is of the prefix's
  turned_to : (y : Addr) → same_version (of_version version) y ≡ true → same_version p.base y ≡ true
  turned_to y h = version_on (of_version version) p.base y of_its_version h

  pub versions_good : list_all (same_version p.base) (value_or [] form.dns_nameservers) && list_all (is_hop_like p.base) (value_or [] form.host_routes) ≡ true
  versions_good =
      let are = good_versions (of_version version) form (none 1 (bad_versions (of_version version) form) refl) in
      both_and _ _ (all-weaker (same_version (of_version version)) (same_version p.base) (value_or [] form.dns_nameservers) turned_to are.dns)
      (all-weaker (is_hop_like (of_version version)) (is_hop_like p.base) (value_or [] form.host_routes)
      (λ h is. let both = and_both (same_version (of_version version) h.destination.base) (same_version (of_version version) h.next) is in both_and _ _ (turned_to h.destination.base both.0) (turned_to h.next both.1)) are.routes)

  -- the modes of the subnet that is asked for
  pub modes_stand : (s : SubnetRow) → s.prefix ≡ p → s.dhcp ≡ value_or true form.enable_dhcp → s.address_mode ≡ value_of form.ipv6_address_mode → s.ra_mode ≡ value_of form.ipv6_ra_mode → are_modes s ≡ true
  modes_stand s prefix dhcp am rm =
      let first = when (is_some_so (is_bad_mode form) (value_of form.ipv6_address_mode)) (Invalid (codes "ipv6_address_mode")) in
      let second = when (is_some (value_of form.ipv6_ra_mode) && not (may_have_mode form)) (Invalid (codes "ipv6_ra_mode")) in
      let fine = none_refused (first ∷ second ∷ []) (none 2 (bad_modes form) refl) in
      let no_bad = not_when (is_some_so (is_bad_mode form) (value_of form.ipv6_address_mode)) _ (fine 0 first refl) in
      let no_ra = not_when (is_some (value_of form.ipv6_ra_mode) && not (may_have_mode form)) _ (fine 1 second refl) in
      let is : ((is_none (value_of form.ipv6_address_mode) && is_none (value_of form.ipv6_ra_mode)) || (not (is_v4 p.base) && value_or true form.enable_dhcp))
      && if_some (λ a. if_some (mode_eq a) (value_of form.ipv6_ra_mode)) (value_of form.ipv6_address_mode) && (not (is_some_so makes_eui (value_of form.ipv6_address_mode)) || (p.len == 64)) ≡ true =
      modes_good (value_of form.ipv6_address_mode) (value_of form.ipv6_ra_mode) p.len (may_have_mode form) (not (is_v4 p.base)) (value_or true form.enable_dhcp)
      (λ may. let both = and_both (is_version V6 version) (value_or true form.enable_dhcp) may in (six_only version p.base both.0 of_its_version, both.1))
      (sym (ap (λ g. is_some_so (λ m. not (may_have_mode form) || not (if_some (mode_eq m) (value_of form.ipv6_ra_mode)) || (makes_eui m && is_some_so (λ (q : Prefix). not (q.len == 64)) (value_of g))) (value_of form.ipv6_address_mode)) cidr) ∙ no_bad)
      no_ra in
      (λ j. ((is_none (am j) && is_none (rm j)) || (not (is_v4 (prefix j).base) && dhcp j)) && if_some (λ a. if_some (mode_eq a) (rm j)) (am j) && (not (is_some_so makes_eui (am j)) || ((prefix j).len == 64))) ∙ is

module _ (settings : SettingsParts) (state : State) (caller : Caller) (form : SubnetForm) (c : IsConsistent state.rows) (typed : AreTyped state.rows) (body : SubnetBodyParts form)
    (p : Prefix) (cidr : form.cidr ≡ Is p) (is_prefix : IsPrefix p) (good : bad_parts form ≡ None) (within : bad_subnet (prefix_asked form) (gateway_asked form) (pools_asked form) ≡ None)
    (n : NetworkRow) (l : ℕ) (at_n : slice_get state.rows.networks l ≡ Some n) (free_cidr : bad_cidr state.rows (prefix_asked form) n ≡ None) where
  abbrev subnet : Ident → SubnetRow
  subnet i = new_subnet form n i

  asked_is : prefix_asked form ≡ p
  asked_is = ap (value_or (record { base = Four 0; len = 1 })) cidr

  asked_prefix : IsPrefix (prefix_asked form)
  asked_prefix = subst IsPrefix (sym asked_is) is_prefix

  subnet_form : (i : Ident) → is_subnet_form (subnet i) ≡ true
  subnet_form i =
      let size = and_both (nat_le 1 p.len) (nat_le p.len (longest_of p.base)) (sym (ap (if_value is_cidr) cidr) ∙ body.cidr) in
      let parts = good_subnet (prefix_asked form) (gateway_asked form) (pools_asked form) within in
      form_of (subnet i) (record {
        low = ap (λ (q : Prefix). nat_le 1 q.len) asked_is ∙ size.0;
        high = ap (λ (q : Prefix). nat_le q.len (longest_of q.base)) asked_is ∙ size.1;
        modes = modes_stand form p cidr good (subnet i) asked_is refl refl refl;
        versions = ap (λ (q : Prefix). list_all (same_version q.base) (value_or [] form.dns_nameservers) && list_all (is_hop_like q.base) (value_or [] form.host_routes)) asked_is ∙ versions_good form p cidr good;
        gateway = parts.gateway_in;
        pools = parts.pools_in;
        apart = parts.apart;
        few_pools = value_few 20 (default_pools (prefix_asked form) (gateway_asked form)) form.allocation_pools (few_default (prefix_asked form) (gateway_asked form)) body.few_pools;
        few_dns = value_few 5 [] form.dns_nameservers refl body.few_dns;
        few_routes = value_few 20 [] form.host_routes refl body.few_routes;
      })

  -- no subnet of the network overlaps it
  apart : Each (λ t. ident_eq n.id t.network ≡ true → overlaps (prefix_asked form) t.prefix ≡ false) state.rows.subnets
  apart k t at_t there =
      let free = not_when (overlaps_subnet state.rows.subnets (prefix_asked form) n) _ free_cidr in
      let kept = filter_has (λ (s : SubnetRow). ident_eq n.id s.network) state.rows.subnets k t at_t there in
      none-any (λ (s : SubnetRow). overlaps (prefix_asked form) s.prefix) (subnets_on state.rows.subnets n.id) free kept.0 t kept.1

  -- no mode, or version 6 with 64 bits
  eui_long : (i : Ident) → is_eui (subnet i) ≡ true → (is_v4 (prefix_asked form).base ≡ false) × ((prefix_asked form).len ≡ 64)
  eui_long i eui =
      let modes = (parts_of (subnet i) (subnet_form i)).modes in
      let a = and_both _ (not (is_eui (subnet i)) || ((prefix_asked form).len == 64)) modes in
      let b = and_both ((is_none (value_of form.ipv6_address_mode) && is_none (value_of form.ipv6_ra_mode)) || (not (is_v4 (prefix_asked form).base) && dhcp_asked form)) _ a.0 in (
        by (value_of form.ipv6_address_mode) (is_none (value_of form.ipv6_ra_mode)) (not (is_v4 (prefix_asked form).base)) (dhcp_asked form) eui b.0 (is_v4 (prefix_asked form).base) refl,
        (number_decides (prefix_asked form).len 64).0 (must (is_eui (subnet i)) _ eui a.1),
      )
    where
      by : (am : Option Ipv6Mode) (r v d : Bool) → is_some_so makes_eui am ≡ true → (is_none am && r) || (v && d) ≡ true → (w : Bool) → v ≡ not w → w ≡ false
      by None r v d h g w e = false_true _ h
      by (Some m) r v d h g true e = false_true _ (sym (ap (λ b. b && d) e) ∙ g)
      by (Some m) r v d h g false e = refl

  -- the address that its MAC address gives
  eui_servable : (i : Ident) (x : Addr) → is_eui (subnet i) ≡ true → dhcp_mac state.rows.ports n.id (dhcp_port_on state.rows.ports n.id) < 2 ^ 48
      → served_address state.rows.ports n.id (subnet i) true ≡ Some x → IsServable state.rows.ports n.id (subnet i) x
  eui_servable i x eui_is small h =
      let m : ℕ = dhcp_mac state.rows.ports n.id (dhcp_port_on state.rows.ports n.id) in
      let long = eui_long i eui_is in
      let is : eui (prefix_asked form) m ≡ x = some_equal (eui (prefix_asked form) m) x h in
      let host : is_host_of (prefix_asked form) x ≡ true = subst (λ y. is_host_of (prefix_asked form) y ≡ true) is (eui_host (prefix_asked form) m asked_prefix long.0 long.1 small) in
      record {
        host = host;
        free = unheld_there state.rows n.id (prefix_asked form) x c (host_contained (prefix_asked form) x host) apart;
        own = λ q e. ap (λ b. not (is_eui (subnet i)) || (b || (is_interface q.owner && is_some_so (addr_eq x) (gateway_asked form))))
            (ap (addr_eq x) (ap (eui (prefix_asked form)) e ∙ is) ∙ addr_itself x) ∙ or_true (not (is_eui (subnet i)));
      }

  servable : (i : Ident) (x : Addr) → dhcp_mac state.rows.ports n.id (dhcp_port_on state.rows.ports n.id) < 2 ^ 48 → served_address state.rows.ports n.id (subnet i) (is_eui (subnet i)) ≡ Some x
      → IsServable state.rows.ports n.id (subnet i) x
  servable i x small h = by (is_eui (subnet i)) refl h
    where
      by : (b : Bool) → is_eui (subnet i) ≡ b → served_address state.rows.ports n.id (subnet i) b ≡ Some x → IsServable state.rows.ports n.id (subnet i) x
      by false e h = pool_servable state.rows.ports n.id (subnet i) x e (subnet_form i) asked_prefix h
      by true e h = eui_servable i x e small h

  -- the rows at the drawing, with the subnet
  module _ (d : Drawing) (many : ℕ) (drawn : IsDrawing state.rows n.project many d) (some : 1 ≤ many) where
    abbrev made_subnet : SubnetRow
    made_subnet = subnet (drawn_id d 0)

    at_d : slice_get d.rows.networks l ≡ Some n
    at_d = ap (λ networks. slice_get networks l) drawn.networks ∙ at_n

    -- a subnet with these parts, without DHCP
    is_new : (s : SubnetRow) → s.id ≡ drawn_id d 0 → s.project ≡ n.project → s.network ≡ n.id → s.prefix ≡ prefix_asked form → is_subnet_form s ≡ true → s.dhcp ≡ false → IsNewSubnet d.rows s
    is_new s id project network prefix form_is plain = record {
      fresh = ap (times_in d.rows) id ∙ drawn.fresh 0 (omega (arith, some));
      drawn = ap (is_drawn d.rows.projects) id ∙ drawn.drawn 0 (omega (arith, some));
      network = at-any (λ (m : NetworkRow). ident_eq s.network m.id) d.rows.networks l n at_d (ap (λ i. ident_eq i n.id) network ∙ ident_itself n.id);
      project = ap (is_registered d.rows.projects) project ∙ drawn.project;
      owner = at-any (λ (m : NetworkRow). ident_eq s.network m.id && bytes_eq m.project s.project) d.rows.networks l n at_d
          (both_and _ _ (ap (λ i. ident_eq i n.id) network ∙ ident_itself n.id) (ap (bytes_eq n.project) project ∙ bytes_itself n.project));
      form = form_is;
      plain = plain;
      apart = λ k t at_t.
          let old = ap (λ subnets. slice_get subnets k) (sym drawn.subnets) ∙ at_t in (
            by_test (ident_eq t.network s.network) (subnets_clash t s ≡ false)
                (λ there. and_fails _ _ (and_fails _ _ (ap (overlaps t.prefix) prefix ∙ (overlaps_turned t.prefix (prefix_asked form) ∙ apart k t old (subst (λ i. ident_eq i t.network ≡ true) network (ident_sym t.network s.network there))))))
                (λ other. and_fails _ _ (first_fails (ident_eq t.network s.network) _ other)),
            by_test (ident_eq s.network t.network) (subnets_clash s t ≡ false)
                (λ there. and_fails _ _ (and_fails _ _ (ap (λ q. overlaps q t.prefix) prefix ∙ apart k t old (subst (λ i. ident_eq i t.network ≡ true) network there))))
                (λ other. and_fails _ _ (first_fails (ident_eq s.network t.network) _ other)),
          );
    }

    abbrev plain_subnet : SubnetRow
    plain_subnet = unleased made_subnet

    abbrev between : RowLists
    between = with_subnet d.rows plain_subnet

    between_kept : IsConsistent between
    between_kept = subnet_pushed d.rows plain_subnet (is_new plain_subnet refl refl refl refl (unleased_form made_subnet (subnet_form (drawn_id d 0))) refl) drawn.consistent

    -- no port holds an address in it
    leased_same : IsReplacedSubnet between.ports plain_subnet made_subnet
    leased_same = record {
      id = refl;
      project = refl;
      network = refl;
      prefix = refl;
      own = λ k q at_q.
          let none = unheld_in_new d.rows plain_subnet (drawn.fresh 0 (omega (arith, some))) drawn.consistent.named.subnets k q at_q in
          at-all (is_owned_still plain_subnet made_subnet q) q.fixed (λ m f at_f. unless_test (ident_eq f.subnet (drawn_id d 0)) _
          (fails_by (ident_eq f.subnet (drawn_id d 0)) (ident_eq (drawn_id d 0) f.subnet) (ident_sym f.subnet (drawn_id d 0)) (none-any (λ (g : Fixed). ident_eq (drawn_id d 0) g.subnet) q.fixed none m f at_f)));
    }

    -- the second id that was drawn is new still
    second_new : 2 ≤ many → times_in between (drawn_id d 1) ≡ 0
    second_new two = fresh-push d.rows between (drawn_id d 0) (drawn_id d 1) (λ i. times-subnet d.rows i plain_subnet)
        (and_fails (d.ordinal == d.ordinal) _ (differs d.first)) (drawn.fresh 1 (omega (arith, two)))
      where
        differs : (a : ℕ) → (a + 1 == a + 0) ≡ false
        differs a = grind (arith, nat_tests)

    added_kept : (x : Addr) (mac : ℕ) (makes : Bool) → many ≡ (if makes then 2 else 1) → makes ≡ makes_dhcp_port state.rows.ports n.id (dhcp_asked form) → mac_if makes state.rows.ports n.id ≡ Some mac
        → dhcp_address state.rows.ports n.id (dhcp_asked form) (subnet no_id) ≡ Some x
        → IsConsistent (made d.rows (Add (Subnet made_subnet) ∷ begin_serving settings d.rows n made_subnet.dhcp (drawn_id d 1) mac (fixed_at made_subnet.id x)))
    added_kept x mac makes many_is makes_is mac_is x_is = by (dhcp_asked form) refl makes_is x_is
      where
        ids : makes ≡ makes_dhcp_port state.rows.ports n.id true → dhcp_port_on between.ports n.id ≡ None → HasPortIds between n.id (drawn_id d 1) mac
        ids is no_port =
            let making : makes ≡ true = is ∙ ap is_none (sym (ap (λ ports. dhcp_port_on ports n.id) drawn.ports) ∙ no_port) in
            let two : many ≡ 2 = many_is ∙ ap (λ b. if b then 2 else 1) making in
            record {
              fresh = second_new (omega (arith, two));
              drawn = drawn.drawn 1 (omega (arith, two));
              mac_is = ap (λ ports. free_mac ports n.id) drawn.ports ∙ (ap (λ b. mac_if b state.rows.ports n.id) (sym making) ∙ mac_is);
            }

        -- the DHCP port's MAC address has 48 bits
        small : makes ≡ makes_dhcp_port state.rows.ports n.id true → dhcp_mac state.rows.ports n.id (dhcp_port_on state.rows.ports n.id) < 2 ^ 48
        small is = at_port (dhcp_port_on state.rows.ports n.id) refl
          where
            at_port : (o : Option PortRow) → dhcp_port_on state.rows.ports n.id ≡ o → dhcp_mac state.rows.ports n.id o < 2 ^ 48
            at_port None e =
                let making : makes ≡ true = is ∙ ap is_none e in
                let mac_here : free_mac state.rows.ports n.id ≡ Some mac = ap (λ b. mac_if b state.rows.ports n.id) (sym making) ∙ mac_is in
                subst (λ m. m < 2 ^ 48) (sym (ap expected_mac mac_here)) (free_mac_is state.rows.ports n.id mac mac_here).small
            at_port (Some q) e = let found = found_at (is_dhcp_of n.id) state.rows.ports q e in typed.macs found.0 q found.1

        by : (b : Bool) → dhcp_asked form ≡ b → makes ≡ makes_dhcp_port state.rows.ports n.id b → dhcp_address state.rows.ports n.id b (subnet no_id) ≡ Some x
            → IsConsistent (made (with_subnet d.rows made_subnet) (begin_serving settings d.rows n b (drawn_id d 1) mac (fixed_at made_subnet.id x)))
        by false is making h = subnet_pushed d.rows made_subnet (is_new made_subnet refl refl refl refl (subnet_form (drawn_id d 0)) is) drawn.consistent
        by true is making h =
            let serves = subst (λ ports. IsServable ports n.id made_subnet x) (sym drawn.ports) (servable (drawn_id d 0) x (small making) h) in
            let place : ℕ = length d.rows.subnets in
            let begun = serving_begun settings between place plain_subnet made_subnet (get_last d.rows.subnets plain_subnet) between_kept leased_same (subnet_form (drawn_id d 0)) refl is n l at_d refl x serves (drawn_id d 1) mac (ids making) in
            subst IsConsistent (sym (begun.is (d.rows.subnets ++ made_subnet ∷ [])))
            (subst (λ subnets. IsConsistent (record d.rows { subnets = subnets; ports = begun.ports })) (set_last d.rows.subnets plain_subnet made_subnet) begun.consistent)

  pub made_kept : (rows : RowLists) (reply : Reply) → subnet_made settings state caller form n (makes_dhcp_port state.rows.ports n.id (dhcp_asked form)) ≡ Moved rows reply → HaveKept settings state.rows rows
  made_kept rows reply h =
      let makes : Bool = makes_dhcp_port state.rows.ports n.id (dhcp_asked form) in
      let many : ℕ = if makes then 2 else 1 in
      let last : Addr → ℕ → Drawing → Outcome = λ x mac d. subnet_added settings caller d n (new_subnet form n (drawn_id d 0)) x mac in
      let draw : Addr → ℕ → Outcome = λ x mac. needing CountersSpent (drawing_at state n.project many) (last x mac) in
      let with_mac : Addr → Outcome = λ x. needing CountersSpent (mac_if makes state.rows.ports n.id) (draw x) in
      let first = unless_moved (creation_refusal settings state.rows caller n) (needing (PoolsSpent n.id) (dhcp_address state.rows.ports n.id (dhcp_asked form) (subnet no_id)) with_mac) rows reply h in
      let address = needing_moved (PoolsSpent n.id) (dhcp_address state.rows.ports n.id (dhcp_asked form) (subnet no_id)) with_mac rows reply first.1 in
      let mac = needing_moved CountersSpent (mac_if makes state.rows.ports n.id) (draw address.0) rows reply address.2 in
      let drawing = needing_moved CountersSpent (drawing_at state n.project many) (last address.0 mac.0) rows reply mac.2 in
      let d : Drawing = drawing.0 in
      let drawn = draws state.rows n.project many d c (has_name state.rows n.project c (c.named.projects.of_networks l n at_n)) (room makes) (if_some_moved (is_last state) (draw_of state.rows n.project many) d drawing.1).1 in
      let s : SubnetRow = new_subnet form n (drawn_id d 0) in
      let begun = begin_serving settings d.rows n s.dhcp (drawn_id d 1) mac.0 (fixed_at s.id address.0) in
      subst (HaveKept settings state.rows) (moved_rows (made d.rows (Add (Subnet s) ∷ begun)) rows _ reply drawing.2) (record {
        consistent = added_kept d many drawn (any makes) address.0 mac.0 makes refl refl mac.1 address.1;
        typed = λ t.
            let now = drawing_typed state.rows n.project many d drawn t in
            made_typed d.rows (Add (Subnet s) ∷ begun) now (each_cons IsTypedEdit (Add (Subnet s)) begun asked_prefix (begin_typed settings d.rows n s.dhcp (drawn_id d 1) mac.0 (fixed_at s.id address.0) now
            (made_small state.rows.ports d.rows.ports drawn.ports n.id s.dhcp makes mac.0 refl mac.1)));
        carried = λ held.
            let can = carries settings.hosts in
            let now = drawing_carried can state.rows n.project many d drawn held in
            made_carried can d.rows (Add (Subnet s) ∷ begun) now (each_cons (IsCarriedEdit can d.rows.networks) (Add (Subnet s)) begun tt
            (begin_carried settings d.rows n l (ap (λ networks. slice_get networks l) drawn.networks ∙ at_n) s.dhcp (drawn_id d 1) mac.0 (fixed_at s.id address.0) now));
      })
    where
      room : (b : Bool) → 5 + (if b then 2 else 1) < 2 ^ 62
      room true = lit< tt
      room false = lit< tt

      any : (b : Bool) → 1 ≤ (if b then 2 else 1)
      any true = lit≤ tt
      any false = lit≤ tt

pub created_kept : (settings : SettingsParts) (state : State) (caller : Caller) (form : SubnetForm) (rows : RowLists) (reply : Reply) → IsConsistent state.rows → AreTyped state.rows → IfGiven IsPrefix form.cidr
    → IsFormed caller (Create (SubnetOf form)) → subnet_created settings state caller form ≡ Moved rows reply → HaveKept settings state.rows rows
created_kept settings state caller form rows reply c typed prefix given h =
    let is = and_both (is_there form.network_id && is_there form.ip_version && is_there form.cidr) (is_subnet_body form) (and_both (not (is_empty caller.project)) _ given).1 in
    let body = body_parts form is.1 in
    let p = given_is form.cidr (and_both (is_there form.network_id && is_there form.ip_version) (is_there form.cidr) is.0).1 in
    let seen : Option NetworkRow = network_seen state.rows caller (value_of form.network_id) in
    let make : NetworkRow → Outcome = λ n. subnet_made settings state caller form n (makes_dhcp_port state.rows.ports n.id (dhcp_asked form)) in
    let find_network : Outcome = needing (not_found NetworkKind (text_of (value_of form.network_id))) seen make in
    let checked : Outcome = unless (bad_subnet (prefix_asked form) (gateway_asked form) (pools_asked form)) find_network in
    let cidr_refusal : Option Refusal = option_and_then (bad_cidr state.rows (prefix_asked form)) seen in
    let first = unless_moved (bad_parts form) (unless cidr_refusal checked) rows reply h in
    let second = unless_moved cidr_refusal checked rows reply first.1 in
    let third = unless_moved (bad_subnet (prefix_asked form) (gateway_asked form) (pools_asked form)) find_network rows reply second.1 in
    let found = needing_moved (not_found NetworkKind (text_of (value_of form.network_id))) seen make rows reply third.1 in
    let n : NetworkRow = found.0 in
    let here = named_is (λ (m : NetworkRow). m.id) (sees_network state.rows caller) state.rows.networks (value_of form.network_id) n found.1 in
    made_kept settings state caller form c typed body p.0 p.1 (subst (IfGiven IsPrefix) p.1 prefix) first.0 third.0 n here.place here.at
    (sym (ap (option_and_then (bad_cidr state.rows (prefix_asked form))) found.1) ∙ second.0) rows reply found.2

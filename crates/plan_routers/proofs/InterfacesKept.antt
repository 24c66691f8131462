-- Accepted calls that add an interface to a router keep rows consistent.
use Rattle.std.proofs.Common.{◌≡◌, ◌∙◌, ℕ, zero, suc, List, [], ◌∷◌, Bool, true, false, Some, None, slice_get, refl, ap, sym, subst, arith, lit<}
use Rattle.std.specs.Prelude.{if◌then◌else◌, not, bytes_eq, codes, ◌&&◌, ◌||◌}
use Rattle.std.specs.List.{list_any, list_all}
use Rattle.net_addr.specs.Addresses.{addr_eq}
use Rattle.net_addr.specs.Prefixes.{Prefix, contains, eui, is_host_of, overlaps}
use Rattle.net_addr.proofs.AddrLemmas.{addr_itself}
use Rattle.net_addr.specs.Macs.{is_unicast}
use Rattle.net_addr.specs.declared.address.Addr.{Addr}
use Rattle.net_settings.specs.Settings.{SettingsParts}
use Rattle.api_types.specs.Ident.{Ident, ident_text}
use Rattle.api_types.specs.Lists.{Each, if_some, is_empty, is_one, is_some_so, stands_so}
use Rattle.api_types.specs.Outcome.{Moved, Outcome}
use Rattle.api_types.specs.Owners.{holds_in, is_port_of, is_service}
use Rattle.api_types.specs.Printed.{InterfaceRow, Reply}
use Rattle.api_types.specs.Registration.{Drawing, drawn_id}
use Rattle.api_types.specs.RowLists.{RowLists}
use Rattle.api_types.specs.Table.{ident_eq, row_of}
use Rattle.api_types.specs.Consistent.{IsConsistent}
use Rattle.api_types.specs.Consistent.Carried.{is_bound, AreCarried}
use Rattle.api_types.specs.declared.call.Caller.{Caller}
use Rattle.api_types.specs.declared.call.IdText.{IdText}
use Rattle.api_types.specs.declared.network.NetworkRow.{NetworkRow}
use Rattle.api_types.specs.declared.port.Fixed.{Fixed}
use Rattle.api_types.specs.declared.port.PortRow.{PortRow}
use Rattle.api_types.specs.declared.router.RouterRow.{RouterRow}
use Rattle.api_types.specs.declared.subnet.SubnetRow.{SubnetRow}
use Rattle.api_policy.specs.Visibility.{is_own, sees_port, owns_network, sees_subnet}
use Rattle.api_types.specs.Refusing.{needing, not_found, when}
use Rattle.call_parts.specs.State.{State, drawing_at, is_last}
use Rattle.kept_laws.proofs.OutcomeLemmas.{found_at, moved_rows, named_is, needing_moved, none_first, not_when, unless_moved}
use Rattle.api_types.specs.Consistent.Disjoint.{reach_alike}
use Rattle.api_types.specs.Consistent.Hosts.{is_host_in, is_own_address}
use Rattle.api_types.specs.Consistent.InForm.{is_eui, is_network_of, is_subnet_form}
use Rattle.api_types.specs.Consistent.Named.{names_subnet}
use Rattle.api_types.specs.Consistent.Numbered.{is_drawn, times_in}
use Rattle.api_types.specs.Sharing.{is_shared_with}
use Rattle.api_types.specs.declared.call.InterfaceBy.{InterfaceBy}
use Rattle.api_types.specs.declared.call.InterfaceBy.TheVariants.{Subnet as BySubnet, Port as ByPort}
use Rattle.api_types.specs.declared.kind.Kind.TheVariants.{Port as PortKind, Router as RouterKind, Subnet as SubnetKind}
use Rattle.api_types.specs.declared.kind.Row.TheVariants.{Port}
use Rattle.api_types.specs.declared.refusal.PolicyRule.TheVariants.{NetworkOwner, OwnerOnly}
use Rattle.api_types.specs.declared.refusal.Refusal.TheVariants.{CountersSpent, Forbidden, InUse, Invalid, Taken}
use Rattle.api_types.specs.declared.refusal.UseRule.TheVariants.{PortInUse}
use Rattle.api_types.specs.declared.refusal.Value.TheVariants.{Address as AddressValue}
use Rattle.api_ml2.specs.Carrying.{carries}
use Rattle.kept_laws.proofs.TypedKept.{HaveKept, IsTypedEdit, drawing_typed, made_typed}
use Rattle.row_laws.specs.Interfaces.{IsTakenOver}
use Rattle.row_laws.specs.NewRows.{with_port}
use Rattle.row_laws.proofs.Service.InterfaceOn.{interface_on}
use Rattle.row_laws.proofs.Service.InterfaceTaken.{taken_over as taken_over_kept}
use Rattle.api_types.proofs.ListLemmas.{and_both, any-at, any-none, at-any, both_and, false_true, filter-any, none-any, none_some, one_row, or_none, or_true, some_equal}
use Rattle.api_types.proofs.NameLemmas.{by_test, bytes_same, ident_itself, ident_same, ident_sym}
use Rattle.row_laws.proofs.PlaceLemmas.{has_name}
use Rattle.row_laws.proofs.PortLeaves.{if_some-at}
use Rattle.call_parts.specs.Edits.{Put, accepted, made, Add}
use Rattle.api_types.specs.HeldAddresses.{fixed_at, is_address_held, is_mac_held}
use Rattle.plan_routers.specs.InterfaceCalls.{added_by_port, added_by_subnet, first_subnet, interface_added, interface_by, interface_made, interface_port, interface_shown, port_refusal, subnet_refusal, taken_over}
use Rattle.api_ipam.specs.MacChoice.{free_mac}
use Rattle.api_policy.specs.Permits.{network_owner, owner_only}
use Rattle.api_ml2.specs.Placement.{host_or_none}
use Rattle.api_policy.specs.Marked.{is_marked, may_use}
use Rattle.api_types.specs.RouterWays.{router_ports, touches}
use Rattle.api_router.specs.RouterRules.{bad_interface_port, bad_interface_subnet, is_bad_leg, overlaps_leg}
use Rattle.api_policy.specs.Seen.{port_seen, router_seen, subnet_seen}
use Rattle.api_ml2.specs.ServicePorts.{interface_owner}
use Rattle.api_policy.specs.Uses.{named_by_device, port_in_use, told_user}
use Rattle.kept_laws.proofs.CallLemmas.{not_none, port_put}
use Rattle.kept_laws.proofs.ServiceMade.{bound_carried, carried_drawn, drawing_is, free_mac_is, interface_is, on_host, service_made, unserving, made_small_mac}
use Rattle.kept_laws.proofs.FixedFits.{each_cons, each_none}
use Rattle.row_laws.proofs.PortPushed as pushed
use Rattle.row_laws.proofs.PortReplaced as replaced

or_turned : (a b : Bool) → a || b ≡ true → b || a ≡ true
or_turned true b h = or_true b
or_turned false true h = refl
or_turned false false h = h

pub overlaps_turned : (p q : Prefix) → overlaps p q ≡ true → overlaps q p ≡ true
unfolding overlaps
overlaps_turned p q h = or_turned (contains p q.base) (contains q p.base) h

-- where a port's subnets overlap none of a router's ports, neither reaches what the other does
pub legs_apart : (subnets : List SubnetRow) (ports : List PortRow) (r : RouterRow) (p : PortRow) → Each (λ s. holds_in s.id p && list_any (touches subnets s.prefix) (router_ports ports r) ≡ false) subnets
    → Each (λ q. is_port_of r q ≡ true → (reach_alike subnets q p ≡ false) × (reach_alike subnets p q ≡ false)) ports
legs_apart subnets ports r p all k q at_q leg = (
  by_test (reach_alike subnets q p) (reach_alike subnets q p ≡ false) (λ h.
      let found = any-at (λ s. holds_in s.id q && list_any (λ t. holds_in t.id p && overlaps s.prefix t.prefix) subnets) subnets h in
      let s : SubnetRow = found.1 in
      let both = and_both (holds_in s.id q) _ found.3 in
      let other = any-at (λ t. holds_in t.id p && overlaps s.prefix t.prefix) subnets both.1 in
      let t : SubnetRow = other.1 in
      let parts = and_both (holds_in t.id p) (overlaps s.prefix t.prefix) other.3 in
      false_true _ (sym forth ∙ at-any (λ u. holds_in u.id p && touches subnets u.prefix q) subnets other.0 t other.2 (both_and (holds_in t.id p) (touches subnets t.prefix q) parts.0
      (at-any (λ u. holds_in u.id q && overlaps t.prefix u.prefix) subnets found.0 s found.2 (both_and (holds_in s.id q) (overlaps t.prefix s.prefix) both.0 (overlaps_turned s.prefix t.prefix parts.1))))))
      (λ other. other),
  forth,
)
  where
    forth : list_any (λ s. holds_in s.id p && touches subnets s.prefix q) subnets ≡ false
    forth = any-none (λ s. holds_in s.id p && touches subnets s.prefix q) subnets (λ j s at_s.
        by_test (holds_in s.id p && touches subnets s.prefix q) (holds_in s.id p && touches subnets s.prefix q ≡ false)
        (λ h. let both = and_both (holds_in s.id p) (touches subnets s.prefix q) h in
        false_true _ (sym (all j s at_s) ∙ both_and (holds_in s.id p) (list_any (touches subnets s.prefix) (router_ports ports r)) both.0 (filter-any (is_port_of r) (touches subnets s.prefix) ports k q at_q leg both.1)))
        (λ other. other))

-- a port that is taken over

pub record IsFit (rows : RowLists) (r : RouterRow) (p : PortRow) : Type 0 where
  pub one : is_one p.fixed ≡ true
  pub apart : Each (λ s. holds_in s.id p && overlaps_leg rows r s ≡ false) rows.subnets
  pub unserving : is_service p.owner ≡ false

fit_is : (state : State) (caller : Caller) (r : RouterRow) (p : PortRow) → port_refusal state caller r p ≡ None → IsFit state.rows r p
fit_is state caller r p h =
    let last = when (is_last state) CountersSpent in
    let taken = port_in_use state.rows caller r p in
    let own = owner_only caller p.project in
    let mine = owner_only caller r.project in
    let bad = bad_interface_port state.rows r p in
    let first = none_first bad (mine ∷ own ∷ taken ∷ last ∷ []) h in
    let second = none_first mine (own ∷ taken ∷ last ∷ []) first.1 in
    let third = none_first own (taken ∷ last ∷ []) second.1 in
    let fourth = none_first taken (last ∷ []) third.1 in
    let leg = or_none (not (is_one p.fixed)) (list_any (λ (s : SubnetRow). holds_in s.id p && overlaps_leg state.rows r s) state.rows.subnets) (not_when (is_bad_leg state.rows r p) (Invalid (codes "port_id")) first.0) in
    let free = or_none (is_service p.owner) (not (is_empty p.device))
    (not_when (is_service p.owner || not (is_empty p.device)) (InUse PortInUse RouterKind r.id (if is_service p.owner then told_user state.rows caller (named_by_device state.rows p.device) else None)) fourth.0) in
    record {
      one = not_none (is_one p.fixed) leg.0;
      apart = none-any (λ (s : SubnetRow). holds_in s.id p && overlaps_leg state.rows r s) state.rows.subnets leg.1;
      unserving = free.0;
    }

added_by_port_kept : (settings : SettingsParts) (state : State) (c : IsConsistent state.rows) (caller : Caller) (place : ℕ) (r : RouterRow) → slice_get state.rows.routers place ≡ Some r
    → (k : ℕ) (p : PortRow) → slice_get state.rows.ports k ≡ Some p → (n : NetworkRow) → row_of (λ m. m.id) p.network state.rows.networks ≡ Some n → (rows : RowLists) (reply : Reply) → added_by_port settings state caller r p n ≡ Moved rows reply → HaveKept settings state.rows rows
added_by_port_kept settings state c caller place r at k p at_p n named rows reply h =
    let network = found_at (λ m. ident_eq p.network m.id) state.rows.networks n named in
    let new : PortRow = taken_over settings r n p in
    let done : Outcome = accepted state.rows (Put (Port new) ∷ []) (λ after. InterfaceRow (interface_shown r p (first_subnet p.fixed))) in
    let passed = unless_moved (port_refusal state caller r p) done rows reply h in
    let fit = fit_is state caller r p passed.0 in
    let free = unserving p.owner fit.unserving in
    let is : IsTakenOver state.rows r p new = record {
      id = refl;
      network = refl;
      project = refl;
      mac = refl;
      fixed = refl;
      by_admin = refl;
      no_interface = free.no_interface;
      no_gateway = free.no_gateway;
      no_dhcp = free.no_dhcp;
      no_floating = free.no_floating;
      owner = interface_is;
      one = fit.one;
      unsecured = refl;
      ungrouped = refl;
      unpaired = refl;
      at_router = record { device = refl; host = on_host settings n.segment r.host; apart = legs_apart state.rows.subnets state.rows.ports r new fit.apart };
    } in
    let put = sym (port_put state.rows c k p new at_p refl) in
    let bound_there = ap (λ i. not (is_bound new.vif) || stands_so (λ m. m.id) i (λ m. carries settings.hosts new.host m.segment) state.rows.networks) (ident_same p.network n.id network.2)
    ∙ bound_carried settings state.rows.networks network.0 n network.1 (host_or_none r.host) in
    subst (HaveKept settings state.rows) (moved_rows (made state.rows (Put (Port new) ∷ [])) rows _ reply passed.1) (record {
      consistent = subst (λ ports. IsConsistent (record state.rows { ports = ports })) put (taken_over_kept state.rows place r at k p new at_p is c);
      carried = λ held. subst (AreCarried (carries settings.hosts) state.rows.networks) put (replaced.are_carried state.rows.ports k p new at_p (carries settings.hosts) bound_there held);
      typed = λ held. made_typed state.rows (Put (Port new) ∷ []) held (each_cons IsTypedEdit (Put (Port new)) [] (held.macs k p at_p) (each_none IsTypedEdit));
    })

-- a port that is made

may_cases : (e a o s b : Bool) → a || (o || s) ≡ true → (o ≡ true → b ≡ true) → e || ((a && not (o || s)) || (s || b)) ≡ true
may_cases true a o s b h g = refl
may_cases false a true true b h g = or_true (a && false)
may_cases false a true false b h g = ap (λ x. (a && false) || x) (g refl) ∙ or_true (a && false)
may_cases false a false true b h g = or_true (a && false)
may_cases false true false false b h g = refl
may_cases false false false false b h g = false_true _ h

module _ (rows : RowLists) (c : IsConsistent rows) (settings : SettingsParts) (caller : Caller) (place : ℕ) (r : RouterRow) (at : slice_get rows.routers place ≡ Some r)
    (at_network : ℕ) (n : NetworkRow) (network_there : slice_get rows.networks at_network ≡ Some n) (at_subnet : ℕ) (s : SubnetRow) (subnet_there : slice_get rows.subnets at_subnet ≡ Some s) (on : s.network ≡ n.id) (x : Addr) (gateway : s.gateway ≡ Some x) (i : Ident) (mac : ℕ) where
  abbrev port_new : PortRow
  port_new = interface_port settings rows caller r n i mac (fixed_at s.id x)

  itself : (y : Addr) → addr_eq y y ≡ true
  itself = addr_itself

  named : list_all (names_subnet rows.subnets port_new) port_new.fixed ≡ true
  named = both_and (names_subnet rows.subnets port_new (fixed_at s.id x)) true
      (at-any (λ t. ident_eq s.id t.id && ident_eq t.network n.id) rows.subnets at_subnet s subnet_there (both_and (ident_eq s.id s.id) (ident_eq s.network n.id) (ident_itself s.id) (ap (λ k. ident_eq k n.id) on ∙ ident_itself n.id))) refl

  host : is_host_of s.prefix x ≡ true
  host = if_some-at (is_host_of s.prefix) s.gateway x gateway (form_gateway (c.in_form.subnet_forms at_subnet s subnet_there))
    where
      form_gateway : is_subnet_form s ≡ true → if_some (is_host_of s.prefix) s.gateway ≡ true
      form_gateway h =
          let last = and_both _ _ h in
          let second = and_both _ _ last.0 in
          let third = and_both _ _ second.0 in
          let fourth = and_both _ _ third.0 in
          let fifth = and_both _ _ fourth.0 in
          (and_both _ (if_some (is_host_of s.prefix) s.gateway) fifth.0).1

  owned : is_own_address port_new x s ≡ true
  owned =
      ap (λ b. not (is_eui s) || (addr_eq x (eui s.prefix mac) || (b && is_some_so (addr_eq x) s.gateway))) interface_is
      ∙ (ap (λ b. not (is_eui s) || (addr_eq x (eui s.prefix mac) || b)) (ap (is_some_so (addr_eq x)) gateway ∙ itself x)
      ∙ (ap (λ b. not (is_eui s) || b) (or_true (addr_eq x (eui s.prefix mac))) ∙ or_true (not (is_eui s))))

  hosts : list_all (is_host_in rows.subnets port_new) port_new.fixed ≡ true
  hosts = both_and (is_host_in rows.subnets port_new (fixed_at s.id x)) true
      (at-any (λ t. ident_eq s.id t.id && (is_host_of t.prefix x && is_own_address port_new x t)) rows.subnets at_subnet s subnet_there
      (both_and (ident_eq s.id s.id) _ (ident_itself s.id) (both_and (is_host_of s.prefix x) _ host owned))) refl

  apart_by : list_any (touches rows.subnets s.prefix) (router_ports rows.ports r) ≡ false → Each (λ t. holds_in t.id port_new && list_any (touches rows.subnets t.prefix) (router_ports rows.ports r) ≡ false) rows.subnets
  apart_by untouched k t at_t = by_test (ident_eq t.id s.id) (holds_in t.id port_new && list_any (touches rows.subnets t.prefix) (router_ports rows.ports r) ≡ false)
      (λ same.
      let it : t ≡ s = one_row (λ u. ident_eq s.id u.id) rows.subnets (omega (arith, c.numbered.ids s.id)) k at_subnet t s at_t subnet_there (ident_sym t.id s.id same) (ident_itself s.id) in
      and_second (holds_in t.id port_new) _ (ap (λ u. list_any (touches rows.subnets u.prefix) (router_ports rows.ports r)) it ∙ untouched))
      (λ other. ap (λ b. (b || false) && list_any (touches rows.subnets t.prefix) (router_ports rows.ports r)) other)
    where
      and_second : (a b : Bool) → b ≡ false → a && b ≡ false
      and_second true b h = h
      and_second false b h = refl

  pub interface_made_kept : times_in rows i ≡ 0 → is_drawn rows.projects i ≡ true → is_unicast mac ≡ true → is_mac_held rows.ports n.id mac ≡ false → is_address_held rows.ports n.id x ≡ false
      → list_any (touches rows.subnets s.prefix) (router_ports rows.ports r) ≡ false → caller.admin || may_use rows r.project n ≡ true → IsConsistent (with_port rows port_new)
  interface_made_kept fresh drawn unicast alone free untouched may =
      interface_on rows place r port_new at (record {
        service = service_made rows c settings n i r.project mac (fixed_at s.id x ∷ []) interface_owner (ident_text r.id) (host_or_none r.host) (is_marked rows caller r.project n)
            at_network network_there fresh drawn unicast alone refl one_free refl named hosts;
        at_router = record { device = refl; host = on_host settings n.segment r.host; apart = legs_apart rows.subnets rows.ports r port_new (apart_by untouched) };
        owner = interface_is;
        project = c.named.projects.of_routers place r at;
        one = refl;
        allowed = may_cases (is_empty r.project) caller.admin (bytes_eq n.project r.project) (is_shared_with rows.policies n.id r.project) (is_network_of rows.networks r.project n.id) may
            (λ h. at-any (λ m. ident_eq n.id m.id && bytes_eq m.project r.project) rows.networks at_network n network_there (both_and (ident_eq n.id n.id) _ (ident_itself n.id) h));
      }) c
    where
      one_free : Each (λ (f : Fixed). is_address_held rows.ports n.id f.address ≡ false) (fixed_at s.id x ∷ [])
      one_free zero f at_f = subst (λ (g : Fixed). is_address_held rows.ports n.id g.address ≡ false) (some_equal (fixed_at s.id x) f at_f) free
      one_free (suc k) f at_f = none_some f _ at_f

pub record IsOpen (rows : RowLists) (caller : Caller) (r : RouterRow) (s : SubnetRow) (x : Addr) : Type 0 where
  pub untouched : overlaps_leg rows r s ≡ false
  pub own : is_own caller r.project ≡ true
  pub owner : caller.admin || owns_network rows caller.project s.network ≡ true
  pub free : is_address_held rows.ports s.network x ≡ false

open_is : (rows : RowLists) (caller : Caller) (r : RouterRow) (s : SubnetRow) (x : Addr) → subnet_refusal rows caller r s x ≡ None → IsOpen rows caller r s x
open_is rows caller r s x h =
    let held = when (is_address_held rows.ports s.network x) (Taken (AddressValue x) s.network) in
    let owner = network_owner rows caller true s.network in
    let own = owner_only caller r.project in
    let bad = bad_interface_subnet rows r s in
    let first = none_first bad (own ∷ owner ∷ held ∷ []) h in
    let second = none_first own (owner ∷ held ∷ []) first.1 in
    let third = none_first owner (held ∷ []) second.1 in
    record {
      untouched = not_when (overlaps_leg rows r s) (Invalid (codes "subnet_id")) first.0;
      own = not_none (is_own caller r.project) (not_when (not (is_own caller r.project)) (Forbidden OwnerOnly) second.0);
      owner = not_none (caller.admin || owns_network rows caller.project s.network) (not_when (not (caller.admin || owns_network rows caller.project s.network)) (Forbidden NetworkOwner) third.0);
      free = not_when (is_address_held rows.ports s.network x) (Taken (AddressValue x) s.network) (none_first held [] third.1).0;
    }

-- who owns the subnet's network and the router may use the network for the router's project
may_be_made : (rows : RowLists) (c : IsConsistent rows) (caller : Caller) (r : RouterRow) (k : ℕ) (n : NetworkRow) → slice_get rows.networks k ≡ Some n → is_own caller r.project ≡ true → caller.admin || owns_network rows caller.project n.id ≡ true
    → caller.admin || may_use rows r.project n ≡ true
may_be_made rows c caller r k n at own owner = by caller.admin own owner
  where
    by : (admin : Bool) → admin || bytes_eq r.project caller.project ≡ true → admin || owns_network rows caller.project n.id ≡ true → admin || may_use rows r.project n ≡ true
    by true own owner = refl
    by false own owner =
        let found = any-at (λ (m : NetworkRow). ident_eq n.id m.id && bytes_eq m.project caller.project) rows.networks owner in
        let m : NetworkRow = found.1 in
        let both = and_both (ident_eq n.id m.id) (bytes_eq m.project caller.project) found.3 in
        let it : m ≡ n = one_row (λ q. ident_eq n.id q.id) rows.networks (omega (arith, c.numbered.ids n.id)) found.0 k m n found.2 at both.0 (ident_itself n.id) in
        ap (λ b. b || is_shared_with rows.policies n.id r.project)
        (ap (λ q. bytes_eq q.project r.project) (sym it) ∙ (ap (bytes_eq m.project) (bytes_same r.project caller.project own) ∙ both.1))

added_by_subnet_kept : (settings : SettingsParts) (state : State) (c : IsConsistent state.rows) (caller : Caller) (place : ℕ) (r : RouterRow) → slice_get state.rows.routers place ≡ Some r
    → (k : ℕ) (s : SubnetRow) → slice_get state.rows.subnets k ≡ Some s → (x : Addr) → s.gateway ≡ Some x → (n : NetworkRow) → row_of (λ m. m.id) s.network state.rows.networks ≡ Some n
    → (rows : RowLists) (reply : Reply) → added_by_subnet settings state caller r s n x ≡ Moved rows reply → HaveKept settings state.rows rows
added_by_subnet_kept settings state c caller place r at k s at_s x gateway n named rows reply h =
    let network = found_at (λ m. ident_eq s.network m.id) state.rows.networks n named in
    let on : s.network ≡ n.id = ident_same s.network n.id network.2 in
    let made_by : ℕ → Drawing → Outcome = λ mac d. interface_made d.rows r (interface_port settings d.rows caller r n (drawn_id d 0) mac (fixed_at s.id x)) s.id in
    let drawn_for : ℕ → Outcome = λ mac. needing CountersSpent (drawing_at state r.project 1) (made_by mac) in
    let passed = unless_moved (subnet_refusal state.rows caller r s x) (needing CountersSpent (free_mac state.rows.ports n.id) drawn_for) rows reply h in
    let is = open_is state.rows caller r s x passed.0 in
    let chosen = needing_moved CountersSpent (free_mac state.rows.ports n.id) drawn_for rows reply passed.1 in
    let mac : ℕ = chosen.0 in
    let unicast = free_mac_is state.rows.ports n.id mac chosen.1 in
    let drawing = needing_moved CountersSpent (drawing_at state r.project 1) (made_by mac) rows reply chosen.2 in
    let d : Drawing = drawing.0 in
    let drawn = drawing_is state r.project 1 d c (ap not (has_name state.rows.projects c.numbered.projects r.project (c.named.projects.of_routers place r at))) (lit< tt) drawing.1 in
    let free : is_address_held state.rows.ports n.id x ≡ false = ap (λ i. is_address_held state.rows.ports i x) (sym on) ∙ is.free in
    let may = may_be_made state.rows c caller r network.0 n network.1 is.own (ap (λ i. caller.admin || owns_network state.rows caller.project i) (sym on) ∙ is.owner) in
    let network_there = ap (λ xs. slice_get xs network.0) drawn.networks ∙ network.1 in
    let p : PortRow = interface_port settings d.rows caller r n (drawn_id d 0) mac (fixed_at s.id x) in
    let kept : IsConsistent (with_port d.rows p) =
    interface_made_kept d.rows drawn.consistent settings caller place r (ap (λ xs. slice_get xs place) drawn.routers ∙ at) network.0 n network_there k s (ap (λ xs. slice_get xs k) drawn.subnets ∙ at_s) on x gateway (drawn_id d 0) mac (drawn.fresh 0 (lit< tt)) (drawn.drawn 0 (lit< tt)) unicast.0 (ap (λ ports. is_mac_held ports n.id mac) drawn.ports ∙ unicast.1) (ap (λ ports. is_address_held ports n.id x) drawn.ports ∙ free) ((λ j. list_any (touches (drawn.subnets j) s.prefix) (router_ports (drawn.ports j) r)) ∙ is.untouched) (ap (λ policies. caller.admin || (bytes_eq n.project r.project || is_shared_with policies n.id r.project)) drawn.policies ∙ may) in
    subst (HaveKept settings state.rows) (moved_rows (with_port d.rows p) rows _ reply drawing.2) (record {
      consistent = kept;
      carried = λ held. pushed.are_carried d.rows.ports p (carries settings.hosts) (bound_carried settings d.rows.networks network.0 n network_there (host_or_none r.host))
          (carried_drawn settings state.rows r.project 1 d drawn held);
      typed = λ held. made_typed d.rows (Add (Port p) ∷ []) (drawing_typed state.rows r.project 1 d drawn held) (each_cons IsTypedEdit (Add (Port p)) [] (made_small_mac mac unicast.3) (each_none IsTypedEdit));
    })

interface_by_kept : (settings : SettingsParts) (state : State) (c : IsConsistent state.rows) (caller : Caller) (place : ℕ) (r : RouterRow) → slice_get state.rows.routers place ≡ Some r → (by : InterfaceBy) (rows : RowLists) (reply : Reply)
    → interface_by settings state caller r by ≡ Moved rows reply → HaveKept settings state.rows rows
interface_by_kept settings state c caller place r at (BySubnet i) rows reply h =
    let with_network : SubnetRow → Addr → Outcome = λ s x. needing (not_found SubnetKind (ident_text i)) (row_of (λ n. n.id) s.network state.rows.networks) (λ n. added_by_subnet settings state caller r s n x) in
    let subnet = needing_moved (not_found SubnetKind (ident_text i)) (subnet_seen state.rows caller (Some i)) (λ s. needing (Invalid (codes "subnet_id")) s.gateway (with_network s)) rows reply h in
    let s : SubnetRow = subnet.0 in
    let here = named_is (λ (t : SubnetRow). t.id) (sees_subnet state.rows caller) state.rows.subnets (Some i) s subnet.1 in
    let address = needing_moved (Invalid (codes "subnet_id")) s.gateway (with_network s) rows reply subnet.2 in
    let network = needing_moved (not_found SubnetKind (ident_text i)) (row_of (λ n. n.id) s.network state.rows.networks) (λ n. added_by_subnet settings state caller r s n address.0) rows reply address.2 in
    added_by_subnet_kept settings state c caller place r at here.place s here.at address.0 address.1 network.0 network.1 rows reply network.2
interface_by_kept settings state c caller place r at (ByPort i) rows reply h =
    let with_network : PortRow → Outcome = λ p. needing (not_found PortKind (ident_text i)) (row_of (λ n. n.id) p.network state.rows.networks) (λ n. added_by_port settings state caller r p n) in
    let port = needing_moved (not_found PortKind (ident_text i)) (port_seen state.rows caller (Some i)) with_network rows reply h in
    let p : PortRow = port.0 in
    let here = named_is (λ (q : PortRow). q.id) (sees_port state.rows caller) state.rows.ports (Some i) p port.1 in
    let network = needing_moved (not_found PortKind (ident_text i)) (row_of (λ n. n.id) p.network state.rows.networks) (λ n. added_by_port settings state caller r p n) rows reply port.2 in
    added_by_port_kept settings state c caller place r at here.place p here.at network.0 network.1 rows reply network.2

pub interface_added_kept : (settings : SettingsParts) (state : State) (caller : Caller) (name : IdText) (by : InterfaceBy) (rows : RowLists) (reply : Reply) → IsConsistent state.rows
    → interface_added settings state caller name by ≡ Moved rows reply → HaveKept settings state.rows rows
interface_added_kept settings state caller name by rows reply c h =
    let found = needing_moved (not_found RouterKind name.text) (router_seen state.rows caller name.id) (λ r. interface_by settings state caller r by) rows reply h in
    let here = named_is (λ (q : RouterRow). q.id) (λ (q : RouterRow). is_own caller q.project) state.rows.routers name.id found.0 found.1 in
    interface_by_kept settings state c caller here.place found.0 here.at by rows reply found.2

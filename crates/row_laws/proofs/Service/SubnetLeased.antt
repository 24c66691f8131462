-- A subnet that begins to be leased by DHCP, whose network's DHCP port takes an address of it, keeps rows consistent.
use Rattle.std.proofs.Common.{Bool, List, None, Option, Some, [], ap, arith, cond, false, length, not, refl, slice_get, slice_set, subst, sym, true, ℕ, ◌++◌, ◌+◌, ◌∙◌, ◌∷◌, ◌≡◌, ◌≤◌}
use Rattle.std.specs.Prelude.{count_by, nat_le, sum_by, ◌&&◌, ◌==◌, ◌||◌}
use Rattle.std.proofs.lemmas.List.Sums.{sum_by-cons, sum_by_push}
use Rattle.std.specs.List.{list_all, list_any}
use Rattle.std.specs.Str.{bytes_eq}
use Rattle.net_addr.proofs.AddrLemmas.{addr_same}
use Rattle.net_addr.specs.Addresses.{addr_eq, is_four}
use Rattle.net_addr.specs.Macs.{is_unicast}
use Rattle.net_addr.specs.Prefixes.{is_host_of}
use Rattle.net_addr.specs.declared.address.Addr.{Addr}
use Rattle.api_types.specs.Consistent.{IsConsistent}
use Rattle.api_types.specs.Consistent.Access.{may_be_there}
use Rattle.api_types.specs.Consistent.Carried.{is_bound}
use Rattle.api_types.specs.Consistent.HeldOnce.{AreHeldOnce, has_mac, holds_times}
use Rattle.api_types.specs.Consistent.Hosts.{is_host_in, is_own_address}
use Rattle.api_types.specs.Consistent.InForm.{is_group_of, is_network_of, is_port_form}
use Rattle.api_types.specs.Consistent.Named.{is_group, is_network, is_own_port, is_registered, names_subnet}
use Rattle.api_types.specs.Consistent.Numbered.{IdsDiffer, times_in}
use Rattle.api_types.specs.Consistent.Services.{DhcpPortsServe, holds_count, is_leased, leases, wants_dhcp}
use Rattle.api_types.specs.Ident.{Ident}
use Rattle.api_types.specs.Lists.{if_some, is_empty, is_some_so}
use Rattle.api_types.specs.Owners.{device_is, is_dhcp, is_dhcp_of, is_interface, is_port_of, is_router_port}
use Rattle.api_types.specs.RowLists.{RowLists}
use Rattle.api_types.specs.Sharing.{is_shared_with}
use Rattle.api_types.specs.Table.{ident_eq}
use Rattle.api_types.specs.declared.floating.Target.{Target}
use Rattle.api_types.specs.declared.network.NetworkRow.{NetworkRow}
use Rattle.api_types.specs.declared.port.Fixed.{Fixed}
use Rattle.api_types.specs.declared.port.PortRow.{PortRow}
use Rattle.api_types.specs.declared.subnet.SubnetRow.{SubnetRow}
use Rattle.row_laws.specs.Leased.{BeginsLeased, IsNewDhcpPort, held_in, holding, is_held, leased_at, leased_by_new}
use Rattle.row_laws.specs.Replaced.{IsReplacedSubnet, is_held_still, with_subnet_at}
use Rattle.row_laws.proofs.Service.DhcpLemmas.{any_number, dhcp_there, free_sum, is_there, only, wanted}
use Rattle.api_types.proofs.IdLemmas.{ids-push}
use Rattle.row_laws.proofs.TimesLemmas.{times-port}
use Rattle.api_types.proofs.ListLemmas.{and_both, any-at, any-grows, any-set_grows, any-set_same, any-weaker, at-any, both_and, count-none, each-push, each-set, false_true, none-any, one_row, or_true, set-any, sum-set}
use Rattle.api_types.proofs.NameLemmas.{all-at, all-true, all-weaker, at-all, by_test, bytes_same, count-set, dhcp_alone, fails_by, first_fails, ident_itself, ident_same, ident_sym, must, or_weaker, push-all, unless, unless_so}
use Rattle.row_laws.proofs.PortPushed.{apart_from_routers as new_apart_from_routers, are_disjoint as new_are_disjoint, are_drawn as new_are_drawn, are_held_once as new_are_held_once, are_hosts as new_are_hosts, are_on_hosts as new_are_on_hosts, floatings_lead as new_floatings_lead, groups_serve as new_groups_serve, groups_stand as new_groups_stand, in_form as new_in_form, networks_stand as new_networks_stand, no_own_port as new_no_own_port, own_ports_serve as new_own_ports_serve, ports_are_allowed as new_ports_are_allowed, ports_stand as new_ports_stand, projects_stand as new_projects_stand, router_ports_serve as new_router_ports_serve, routes_lead as new_routes_lead, subnets_stand as new_subnets_stand}
use Rattle.row_laws.proofs.PortReplaced.{are_disjoint as port_are_disjoint, are_drawn as port_are_drawn, are_hosts as port_are_hosts, are_on_hosts as port_are_on_hosts, floatings_lead as port_floatings_lead, groups_serve as port_groups_serve, groups_stand as port_groups_stand, in_form as port_in_form, networks_stand as port_networks_stand, own_ports_serve as port_own_ports_serve, ports_are_allowed as port_ports_are_allowed, ports_stand as port_ports_stand, projects_stand as port_projects_stand, router_ports_serve as port_router_ports_serve, routes_lead as port_routes_lead, subnets_stand as port_subnets_stand}
use Rattle.row_laws.proofs.SetLemmas.{set_split}
use Rattle.row_laws.proofs.SubnetReplaced.{are_disjoint as subnet_are_disjoint, are_drawn as subnet_are_drawn, are_hosts as subnet_are_hosts, in_form as subnet_in_form, networks_stand as subnet_networks_stand, projects_stand as subnet_projects_stand, routes_lead as subnet_routes_lead, subnets_stand as subnet_subnets_stand}

module _ (rows : RowLists) (place : ℕ) (old new : SubnetRow) (at : slice_get rows.subnets place ≡ Some old) (same : IsReplacedSubnet rows.ports old new) (before : old.dhcp ≡ false) (after : new.dhcp ≡ true) (c : IsConsistent rows) where
  abbrev subnets : List SubnetRow
  subnets = slice_set rows.subnets place new

  -- the network wants its DHCP port, and each other one wants it as before
  wants_now : wants_dhcp subnets new.network ≡ true
  wants_now = set-any (λ s. ident_eq new.network s.network && s.dhcp) rows.subnets place old new at (both_and (ident_eq new.network new.network) new.dhcp (ident_itself new.network) after)

  wants_same : (i : Ident) → ident_eq i new.network ≡ false → wants_dhcp subnets i ≡ wants_dhcp rows.subnets i
  wants_same i other = any-set_same (λ s. ident_eq i s.network && s.dhcp) rows.subnets place old new at
      (first_fails (ident_eq i new.network) new.dhcp other ∙ sym (first_fails (ident_eq i old.network) old.dhcp (ap (ident_eq i) (sym same.network) ∙ other)))

  -- an address in a leased subnet still is
  leased_still : (f : Fixed) → is_leased rows.subnets f ≡ true → is_leased subnets f ≡ true
  leased_still f = any-set_grows (λ s. ident_eq f.subnet s.id && s.dhcp) rows.subnets place old new at (λ h. false_true _ (sym before ∙ (and_both (ident_eq f.subnet old.id) old.dhcp h).1))

  leased_new : (x : Addr) → is_leased subnets (held_in new x) ≡ true
  leased_new x = set-any (λ s. ident_eq new.id s.id && s.dhcp) rows.subnets place old new at (both_and (ident_eq new.id new.id) new.dhcp (ident_itself new.id) after)

  -- a subnet is the new one, or an old one of another id
  split : (l : ℕ) (t : SubnetRow) → slice_get subnets l ≡ Some t → (P : Type 0) → (t ≡ new → P) → (slice_get rows.subnets l ≡ Some t → ident_eq old.id t.id ≡ false → P) → P
  split = set_split (λ (s : SubnetRow). s.id) rows.subnets place old new at same.id (omega (arith, c.numbered.ids old.id))

  -- no DHCP port holds an address in it yet
  unheld : (k : ℕ) (p : PortRow) → slice_get rows.ports k ≡ Some p → is_dhcp p.owner ≡ true → holds_count old.id p ≡ 0
  unheld k p at_p dhcp = count-none (λ (f : Fixed). ident_eq old.id f.subnet) p.fixed (λ m f at_f. by_test (ident_eq old.id f.subnet) (ident_eq old.id f.subnet ≡ false)
      (λ mine.
      let found = any-at (λ (s : SubnetRow). ident_eq f.subnet s.id && (ident_eq s.network p.network && s.dhcp)) rows.subnets (is_there rows c k p at_p dhcp m f at_f) in
      let s : SubnetRow = found.1 in
      let both = and_both (ident_eq f.subnet s.id) _ found.3 in
      let one = one_row (λ (t : SubnetRow). ident_eq f.subnet t.id) rows.subnets (omega (arith, c.numbered.ids f.subnet)) found.0 place s old found.2 at both.0 (ident_sym old.id f.subnet mine) in
      false_true _ (sym before ∙ (ap (λ (t : SubnetRow). t.dhcp) (sym one) ∙ (and_both (ident_eq s.network p.network) s.dhcp both.1).1)))
      (λ fails. fails))

  -- how many addresses a port with one more holds in a subnet
  counted : (i : Ident) (p : PortRow) (x : Addr) → holds_count i (holding p (held_in new x)) ≡ holds_count i p + cond {A = ℕ} (ident_eq i new.id) 1 0
  counted i p x = sum_by_push (λ (f : Fixed). cond {A = ℕ} (ident_eq i f.subnet) 1 0) p.fixed (held_in new x)

  serves_new : (p : PortRow) (x : Addr) → holds_count old.id p ≡ 0 → leases (holding p (held_in new x)) new ≡ true
  serves_new p x none =
      let zeros : holds_count new.id p ≡ 0 = ap (λ i. holds_count i p) same.id ∙ none in
      let one : cond {A = ℕ} (ident_eq new.id new.id) 1 0 ≡ 1 = ap (λ (b : Bool). cond {A = ℕ} b 1 0) (ident_itself new.id) in
      let all = counted new.id p x in
      let is : holds_count new.id (holding p (held_in new x)) ≡ 1 = omega (arith, zeros, one, all) in
      ap (λ n. not (ident_eq p.network new.network && new.dhcp) || (n == 1)) is ∙ or_true (not (ident_eq p.network new.network && new.dhcp))

  serves_other : (p : PortRow) (x : Addr) (t : SubnetRow) → ident_eq old.id t.id ≡ false → leases p t ≡ true → leases (holding p (held_in new x)) t ≡ true
  serves_other p x t other h =
      let differs : ident_eq t.id new.id ≡ false = fails_by (ident_eq t.id new.id) (ident_eq old.id t.id) (λ e. ident_sym t.id old.id (ap (ident_eq t.id) (sym same.id) ∙ e)) other in
      let zero : cond {A = ℕ} (ident_eq t.id new.id) 1 0 ≡ 0 = ap (λ (b : Bool). cond {A = ℕ} b 1 0) differs in
      let all = counted t.id p x in
      let is : holds_count t.id (holding p (held_in new x)) ≡ holds_count t.id p = omega (arith, zero, all) in
      ap (λ n. not (ident_eq p.network t.network && t.dhcp) || (n == 1)) is ∙ h

  -- a DHCP port that is on another network
  serves_still : (k : ℕ) (q : PortRow) → slice_get rows.ports k ≡ Some q → is_dhcp q.owner ≡ true → ident_eq new.network q.network ≡ false → list_all (leases q) subnets ≡ true
  serves_still k q at_q dhcp away = at-all (leases q) subnets (λ l t at_t. split l t at_t (leases q t ≡ true)
      (λ is. subst (λ s. leases q s ≡ true) (sym is) (unless (ident_eq q.network new.network && new.dhcp) _ (first_fails (ident_eq q.network new.network) new.dhcp
      (fails_by (ident_eq q.network new.network) (ident_eq new.network q.network) (ident_sym q.network new.network) away))))
      (λ at_old other. all-at (leases q) rows.subnets (must (is_dhcp q.owner) _ dhcp (c.services.dhcp.holds k q at_q)) l t at_old))

  -- where the network has its DHCP port
  module _ (k : ℕ) (p : PortRow) (at_p : slice_get rows.ports k ≡ Some p) (x : Addr) (is : is_dhcp_of new.network p ≡ true) where
    abbrev taken : PortRow
    taken = holding p (held_in new x)

    is_service : is_dhcp p.owner ≡ true
    is_service = (and_both (ident_eq new.network p.network) (is_dhcp p.owner) is).1

    here : ident_eq new.network p.network ≡ true
    here = (and_both (ident_eq new.network p.network) (is_dhcp p.owner) is).0

    split_port : (l : ℕ) (q : PortRow) → slice_get (slice_set rows.ports k taken) l ≡ Some q → (P : Type 0) → (q ≡ taken → P) → (slice_get rows.ports l ≡ Some q → ident_eq p.id q.id ≡ false → P) → P
    split_port = set_split (λ (q : PortRow). q.id) rows.ports k p taken at_p refl (omega (arith, c.numbered.ids p.id))

    pub dhcp_port_serves : DhcpPortsServe rows.networks subnets (slice_set rows.ports k taken)
    dhcp_port_serves = record {
      there = λ l n at_n. count-set (is_dhcp_of n.id) rows.ports k p taken at_p refl ∙ (c.services.dhcp.there l n at_n ∙ ap (λ b. cond b 1 0)
          (by_test (ident_eq n.id new.network) (wants_dhcp rows.subnets n.id ≡ wants_dhcp subnets n.id)
          (λ mine. let e = ident_same n.id new.network mine in subst (λ i. wants_dhcp rows.subnets i ≡ wants_dhcp subnets i) (sym e) (wanted rows c k p at_p new.network is ∙ sym wants_now))
          (λ other. sym (wants_same n.id other))));
      holds = λ l q at_q. split_port l q at_q (not (is_dhcp q.owner) || list_all (leases q) subnets ≡ true)
          (λ e. subst (λ r. not (is_dhcp r.owner) || list_all (leases r) subnets ≡ true) (sym e) (or_weaker (not (is_dhcp p.owner)) true _ (λ h. at-all (leases taken) subnets
          (λ m t at_t. split m t at_t (leases taken t ≡ true)
          (λ is_new. subst (λ s. leases taken s ≡ true) (sym is_new) (serves_new p x (unheld k p at_p is_service)))
          (λ at_old other. serves_other p x t other (all-at (leases p) rows.subnets (must (is_dhcp p.owner) _ is_service (c.services.dhcp.holds k p at_p)) m t at_old)))) (or_true (not (is_dhcp p.owner)))))
          (λ at_old other. unless_so (is_dhcp q.owner) _ (λ dhcp. serves_still l q at_old dhcp (only rows c k p at_p new.network is l q at_old other dhcp)));
      no_other = λ l q at_q. split_port l q at_q (not (is_dhcp q.owner) || list_all (is_leased subnets) q.fixed ≡ true)
          (λ e. subst (λ r. not (is_dhcp r.owner) || list_all (is_leased subnets) r.fixed ≡ true) (sym e) (or_weaker (not (is_dhcp p.owner)) _ _
          (λ h. push-all (is_leased subnets) p.fixed (held_in new x) (all-weaker (is_leased rows.subnets) (is_leased subnets) p.fixed leased_still h) (leased_new x)) (c.services.dhcp.no_other k p at_p)))
          (λ at_old other. or_weaker (not (is_dhcp q.owner)) _ _ (all-weaker (is_leased rows.subnets) (is_leased subnets) q.fixed leased_still) (c.services.dhcp.no_other l q at_old));
      unsecured = each-set (λ q. not (is_dhcp q.owner) || not q.secured ≡ true) rows.ports k taken c.services.dhcp.unsecured (c.services.dhcp.unsecured k p at_p);
    }

    -- the address is held once
    pub held_once : is_held rows.ports new.network x ≡ false → AreHeldOnce (slice_set rows.ports k taken)
    held_once free = record {
      macs = λ network mac. let e = count-set (has_mac network mac) rows.ports k p taken at_p refl in omega (arith, e, c.held_once.macs network mac);
      addresses = λ network y.
          let moved = sum-set (holds_times network y) rows.ports k p taken at_p in
          let once = c.held_once.addresses network y in
          by_test (ident_eq network p.network) (sum_by (holds_times network y) (slice_set rows.ports k taken) ≤ 1)
          (λ mine.
          let more : holds_times network y taken ≡ holds_times network y p + cond {A = ℕ} (addr_eq x y) 1 0 =
          (λ j. cond {A = ℕ} (mine j) (count_by (λ (f : Fixed). addr_eq f.address y) taken.fixed) 0) ∙ (sum_by_push (λ (f : Fixed). cond {A = ℕ} (addr_eq f.address y) 1 0) p.fixed (held_in new x)
          ∙ sym (λ j. cond {A = ℕ} (mine j) (count_by (λ (f : Fixed). addr_eq f.address y) p.fixed) 0 + cond {A = ℕ} (addr_eq x y) 1 0)) in
          by_test (addr_eq x y) (sum_by (holds_times network y) (slice_set rows.ports k taken) ≤ 1)
          (λ is_x.
          let one : cond {A = ℕ} (addr_eq x y) 1 0 ≡ 1 = ap (λ (b : Bool). cond {A = ℕ} b 1 0) is_x in
          let where_is : new.network ≡ network = ident_same new.network p.network here ∙ sym (ident_same network p.network mine) in
          let zeros : sum_by (holds_times network y) rows.ports ≡ 0 = free_sum rows.ports network y ((λ j. is_held rows.ports (sym where_is j) (sym (addr_same x y is_x) j)) ∙ free) in
          omega (arith, moved, more, one, zeros))
          (λ not_x. let zero : cond {A = ℕ} (addr_eq x y) 1 0 ≡ 0 = ap (λ (b : Bool). cond {A = ℕ} b 1 0) not_x in omega (arith, moved, more, zero, once)))
          (λ away.
          let none : holds_times network y taken ≡ 0 = λ j. cond {A = ℕ} (away j) (count_by (λ (f : Fixed). addr_eq f.address y) taken.fixed) 0 in
          omega (arith, moved, none, once));
    }

    -- each address that was held still is
    still_held : (t : Target) → list_all (is_held_still taken t) p.fixed ≡ true
    still_held t = at-all (is_held_still taken t) p.fixed (λ m f at_f. unless_so (is_four f.address t.fixed) _ (λ h.
        any-grows (λ (y : Fixed). is_four y.address t.fixed && ident_eq f.subnet y.subnet) p.fixed (held_in new x)
        (at-any (λ (y : Fixed). is_four y.address t.fixed && ident_eq f.subnet y.subnet) p.fixed m f at_f (both_and _ _ h (ident_itself f.subnet)))))

  -- where the network has none, a new DHCP port comes
  module _ (p : PortRow) (x : Addr) (is : is_dhcp_of new.network p ≡ true) (alone : list_any (is_dhcp_of new.network) rows.ports ≡ false) (no_fixed : p.fixed ≡ []) where
    abbrev added : PortRow
    added = holding p (held_in new x)

    joins : ident_eq new.network p.network ≡ true
    joins = (and_both (ident_eq new.network p.network) (is_dhcp p.owner) is).0

    -- each DHCP port that was there is on another network
    away : (k : ℕ) (q : PortRow) → slice_get rows.ports k ≡ Some q → is_dhcp q.owner ≡ true → ident_eq new.network q.network ≡ false
    away k q at_q dhcp = by_test (ident_eq new.network q.network) (ident_eq new.network q.network ≡ false)
        (λ there. false_true _ (sym (none-any (is_dhcp_of new.network) rows.ports alone k q at_q) ∙ both_and (ident_eq new.network q.network) (is_dhcp q.owner) there dhcp))
        (λ fails. fails)

    holds_none : (i : Ident) → holds_count i p ≡ 0
    holds_none i = ap (λ (fixed : List Fixed). count_by (λ (f : Fixed). ident_eq i f.subnet) fixed) no_fixed

    -- no other subnet of the network is leased
    unleased : (k : ℕ) (t : SubnetRow) → slice_get rows.subnets k ≡ Some t → ident_eq p.network t.network && t.dhcp ≡ false
    unleased k t at_t =
        let zeros : count_by (is_dhcp_of new.network) rows.ports ≡ 0 = count-none (is_dhcp_of new.network) rows.ports (none-any (is_dhcp_of new.network) rows.ports alone) in
        let stands = ap (is_network rows.networks) same.network ∙ c.named.networks.of_subnets place old at in
        let none : wants_dhcp rows.subnets new.network ≡ false = unwanted (wants_dhcp rows.subnets new.network) (sym zeros ∙ dhcp_there rows c new.network stands) in
        subst (λ i. ident_eq i t.network && t.dhcp ≡ false) (ident_same new.network p.network joins) (none-any (λ s. ident_eq new.network s.network && s.dhcp) rows.subnets none k t at_t)
      where
        unwanted : (b : Bool) → 0 ≡ cond {A = ℕ} b 1 0 → b ≡ false
        unwanted true h = absurd (omega (arith, h))
        unwanted false h = refl

    pub new_port_serves : p.secured ≡ false → DhcpPortsServe rows.networks subnets (rows.ports ++ added ∷ [])
    new_port_serves unsecured = record {
      there = λ l n at_n.
          let push = sum_by_push (λ q. cond {A = ℕ} (is_dhcp_of n.id q) 1 0) rows.ports added in
          let was = c.services.dhcp.there l n at_n in
          by_test (ident_eq n.id new.network) (count_by (is_dhcp_of n.id) (rows.ports ++ added ∷ []) ≡ cond (wants_dhcp subnets n.id) 1 0)
          (λ mine.
          let e = ident_same n.id new.network mine in
          let one : cond {A = ℕ} (is_dhcp_of n.id added) 1 0 ≡ 1 = ap (λ (b : Bool). cond {A = ℕ} b 1 0) ((λ j. is_dhcp_of (e j) added) ∙ is) in
          let zeros : count_by (is_dhcp_of n.id) rows.ports ≡ 0 = (λ j. count_by (is_dhcp_of (e j)) rows.ports) ∙ count-none (is_dhcp_of new.network) rows.ports (none-any (is_dhcp_of new.network) rows.ports alone) in
          let wants : cond {A = ℕ} (wants_dhcp subnets n.id) 1 0 ≡ 1 = ap (λ (b : Bool). cond {A = ℕ} b 1 0) ((λ j. wants_dhcp subnets (e j)) ∙ wants_now) in
          omega (arith, push, one, zeros, wants))
          (λ other.
          let e = ident_same new.network p.network joins in
          let zero : cond {A = ℕ} (is_dhcp_of n.id added) 1 0 ≡ 0 = ap (λ (b : Bool). cond {A = ℕ} b 1 0) (first_fails (ident_eq n.id p.network) (is_dhcp p.owner) (ap (ident_eq n.id) (sym e) ∙ other)) in
          let wants : cond {A = ℕ} (wants_dhcp subnets n.id) 1 0 ≡ cond {A = ℕ} (wants_dhcp rows.subnets n.id) 1 0 = ap (λ (b : Bool). cond {A = ℕ} b 1 0) (wants_same n.id other) in
          omega (arith, push, zero, wants, was));
      holds = each-push (λ q. not (is_dhcp q.owner) || list_all (leases q) subnets ≡ true) rows.ports added
          (λ k q at_q. unless_so (is_dhcp q.owner) _ (λ dhcp. serves_still k q at_q dhcp (away k q at_q dhcp)))
          (or_weaker (not (is_dhcp p.owner)) true _ (λ h. at-all (leases added) subnets (λ m t at_t. split m t at_t (leases added t ≡ true)
          (λ is_new. subst (λ s. leases added s ≡ true) (sym is_new) (serves_new p x (holds_none old.id)))
          (λ at_old other. unless (ident_eq p.network t.network && t.dhcp) _ (unleased m t at_old)))) (or_true (not (is_dhcp p.owner))));
      no_other = each-push (λ q. not (is_dhcp q.owner) || list_all (is_leased subnets) q.fixed ≡ true) rows.ports added
          (λ k q at_q. or_weaker (not (is_dhcp q.owner)) _ _ (all-weaker (is_leased rows.subnets) (is_leased subnets) q.fixed leased_still) (c.services.dhcp.no_other k q at_q))
          (or_weaker (not (is_dhcp p.owner)) true _ (λ h. push-all (is_leased subnets) p.fixed (held_in new x) (ap (list_all (is_leased subnets)) no_fixed) (leased_new x)) (or_true (not (is_dhcp p.owner))));
      unsecured = each-push (λ q. not (is_dhcp q.owner) || not q.secured ≡ true) rows.ports added c.services.dhcp.unsecured
          (ap (λ b. not (is_dhcp p.owner) || not b) unsecured ∙ or_true (not (is_dhcp p.owner)));
    }

    -- its address is held once
    pub held_alone : is_held rows.ports new.network x ≡ false → (y : Addr) → sum_by (holds_times p.network y) rows.ports + holds_times p.network y added ≤ 1
    held_alone free y =
        let most = c.held_once.addresses p.network y in
        let only_one : holds_times p.network y added ≡ count_by (λ (f : Fixed). addr_eq f.address y) (held_in new x ∷ []) =
        (λ j. cond {A = ℕ} (ident_itself p.network j) (count_by (λ (f : Fixed). addr_eq f.address y) (no_fixed j ++ held_in new x ∷ [])) 0) in
        let just : holds_times p.network y added ≡ cond {A = ℕ} (addr_eq x y) 1 0 =
        let first = sum_by-cons (λ (f : Fixed). cond {A = ℕ} (addr_eq f.address y) 1 0) (held_in new x) [] in omega (arith, only_one, first) in
        by_test (addr_eq x y) (sum_by (holds_times p.network y) rows.ports + holds_times p.network y added ≤ 1)
        (λ is_x.
        let one : cond {A = ℕ} (addr_eq x y) 1 0 ≡ 1 = ap (λ (b : Bool). cond {A = ℕ} b 1 0) is_x in
        let zeros : sum_by (holds_times p.network y) rows.ports ≡ 0 = free_sum rows.ports p.network y
        ((λ j. is_held rows.ports (sym (ident_same new.network p.network joins) j) (sym (addr_same x y is_x) j)) ∙ free) in
        omega (arith, just, one, zeros))
        (λ not_x. let zero : cond {A = ℕ} (addr_eq x y) 1 0 ≡ 0 = ap (λ (b : Bool). cond {A = ℕ} b 1 0) not_x in omega (arith, just, zero, most))

module _ (rows : RowLists) (place : ℕ) (old new : SubnetRow) (at : slice_get rows.subnets place ≡ Some old) (c : IsConsistent rows) where
  abbrev rows_between : RowLists
  rows_between = with_subnet_at rows place new

  -- the address is a host address of the subnet, and the port's own there
  host_new : (p : PortRow) (x : Addr) → is_host_of new.prefix x ≡ true → is_own_address p x new ≡ true → is_host_in rows_between.subnets p (held_in new x) ≡ true
  host_new p x host own = set-any (λ s. ident_eq new.id s.id && (is_host_of s.prefix x && is_own_address p x s)) rows.subnets place old new at
      (both_and (ident_eq new.id new.id) _ (ident_itself new.id) (both_and (is_host_of new.prefix x) _ host own))

  names_new : (p : PortRow) (x : Addr) → ident_eq new.network p.network ≡ true → names_subnet rows_between.subnets p (held_in new x) ≡ true
  names_new p x there = set-any (λ s. ident_eq new.id s.id && ident_eq s.network p.network) rows.subnets place old new at (both_and (ident_eq new.id new.id) _ (ident_itself new.id) there)

  pub subnet_leased : (k : ℕ) (p : PortRow) (x : Addr) → slice_get rows.ports k ≡ Some p → BeginsLeased rows old new p x → IsConsistent (leased_at rows place new k p x)
  subnet_leased k p x at_p is =
      let more : PortRow = holding p (held_in new x) in
      let here = and_both (ident_eq new.network p.network) (is_dhcp p.owner) is.service in
      let other = dhcp_alone p.owner here.1 in
      let no_router : is_router_port p.owner ≡ false = λ j. other.0 j || other.1 j in
      let hosts = subnet_are_hosts rows.subnets rows.ports place old new at is.same c.hosts in
      let stand = subnet_subnets_stand rows.subnets rows.ports place old new at is.same c.named.subnets in
      record {
        numbered = record {
          projects = c.numbered.projects;
          ids = λ i.
              let a = count-set (λ s. ident_eq i s.id) rows.subnets place old new at (ap (ident_eq i) is.same.id) in
              let b = count-set (λ q. ident_eq i q.id) rows.ports k p more at_p refl in
              omega (arith, a, b, c.numbered.ids i);
          drawn = port_are_drawn rows_between k p more at_p refl (subnet_are_drawn rows place old new at is.same c.numbered.drawn);
        };
        named = record {
          networks = port_networks_stand rows.ports k p more at_p refl (subnet_networks_stand rows.subnets rows.ports place old new at is.same c.named.networks);
          subnets = port_subnets_stand rows.ports k p more at_p (push-all (names_subnet rows_between.subnets p) p.fixed (held_in new x) (stand.of_ports k p at_p) (names_new p x here.0)) stand;
          ports = port_ports_stand rows.ports k p more at_p refl c.named.ports;
          groups = port_groups_stand rows.ports k p more at_p (c.named.groups.of_ports k p at_p) c.named.groups;
          routers = c.named.routers;
          projects = port_projects_stand rows_between k p more at_p (c.named.projects.of_ports k p at_p) (subnet_projects_stand rows place old new at is.same c.named.projects);
        };
        in_form = port_in_form rows.ports k p more at_p (c.in_form.dhcp_owners k p at_p) (any_number (is_unicast p.mac) (list_all (λ pair. is_unicast pair.mac) p.pairs) (nat_le (length p.fixed) 5) (nat_le (length more.fixed) 5) (is_dhcp p.owner)
            (nat_le (length p.pairs) 10) (nat_le (length p.groups) 20) here.1 (c.in_form.port_forms k p at_p))
            (subnet_in_form rows.subnets rows.ports place old new at is.same is.form c.in_form);
        held_once = held_once rows place old new at is.same is.before is.after c k p at_p x is.service is.free;
        hosts = port_are_hosts rows.ports k p more at_p (push-all (is_host_in rows_between.subnets p) p.fixed (held_in new x) (hosts.addresses k p at_p) (host_new p x is.host is.own)) hosts;
        disjoint = port_are_disjoint rows.ports k p more at_p no_router no_router (subnet_are_disjoint rows.subnets rows.ports place old new at is.same c.disjoint);
        segments = c.segments;
        on_hosts = port_are_on_hosts rows.ports k p more at_p (c.on_hosts.at_router k p at_p) c.on_hosts;
        services = record {
          dhcp = dhcp_port_serves rows place old new at is.same is.before is.after c k p at_p x is.service;
          of_routers = port_router_ports_serve rows.ports k p more at_p other.1 other.1 (c.services.of_routers.devices k p at_p) (unless (is_interface p.owner) _ other.0) (c.services.of_routers.unsecured k p at_p) c.services.of_routers;
          of_floatings = port_own_ports_serve rows.ports k p more at_p other.2 other.2 (c.services.of_floatings.unsecured k p at_p) c.services.of_floatings;
        };
        floatings = port_floatings_lead rows.ports k p more at_p refl refl other.0 other.0
            (λ l f at_f. any_target f.target (λ (t : Target). or_weaker (not (ident_eq t.port p.id)) true _ (λ h. still_held rows place old new at is.same is.before is.after c k p at_p x is.service t) (or_true (not (ident_eq t.port p.id)))))
            c.floatings;
        groups = port_groups_serve rows.ports k p more at_p (c.groups.of_ports k p at_p) (c.groups.bare k p at_p) c.groups;
        allowed = port_ports_are_allowed rows.ports k p more at_p (c.allowed.of_ports k p at_p) c.allowed;
        outsides = c.outsides;
        routes = port_routes_lead rows.ports k p more at_p no_router no_router (subnet_routes_lead rows.subnets rows.ports place old new at is.same c.routes);
      }
    where
      any_target : (o : Option Target) {test : Target → Bool} → ((t : Target) → test t ≡ true) → if_some test o ≡ true
      any_target None all = refl
      any_target (Some t) all = all t

  pub subnet_leased_by_new : (p : PortRow) (x : Addr) → IsNewDhcpPort rows p → BeginsLeased rows old new p x → IsConsistent (leased_by_new rows place new p x)
  subnet_leased_by_new p x come is =
      let more : PortRow = holding p (held_in new x) in
      let here = and_both (ident_eq new.network p.network) (is_dhcp p.owner) is.service in
      let there = ident_same new.network p.network here.0 in
      let other = dhcp_alone p.owner here.1 in
      let no_router : is_router_port p.owner ≡ false = λ j. other.0 j || other.1 j in
      let hosts = subnet_are_hosts rows.subnets rows.ports place old new at is.same c.hosts in
      let stand = subnet_subnets_stand rows.subnets rows.ports place old new at is.same c.named.subnets in
      let own = new_no_own_port rows more come.fresh c.named.ports in
      let stands : is_network rows.networks p.network ≡ true = any-weaker (λ n. ident_eq p.network n.id && bytes_eq n.project p.project) (λ n. ident_eq p.network n.id) rows.networks (λ n h. (and_both (ident_eq p.network n.id) _ h).0) come.owner in
      let no_groups : (test : Ident → Bool) → list_all test p.groups ≡ true = λ test. ap (list_all test) come.no_groups in
      let new_id : times_in rows_between p.id ≡ 0 = let a = count-set (λ s. ident_eq p.id s.id) rows.subnets place old new at (ap (ident_eq p.id) is.same.id) in omega (arith, a, come.fresh) in
      let between_ids : IdsDiffer rows_between = λ i. let a = count-set (λ s. ident_eq i s.id) rows.subnets place old new at (ap (ident_eq i) is.same.id) in omega (arith, a, c.numbered.ids i) in
      record {
        numbered = record {
          projects = c.numbered.projects;
          ids = ids-push rows_between (leased_by_new rows place new p x) p.id (λ i. times-port rows_between i more) new_id between_ids;
          drawn = new_are_drawn rows_between more come.drawn (subnet_are_drawn rows place old new at is.same c.numbered.drawn);
        };
        named = record {
          networks = new_networks_stand rows.ports more stands (subnet_networks_stand rows.subnets rows.ports place old new at is.same c.named.networks);
          subnets = new_subnets_stand rows.ports more (push-all (names_subnet rows_between.subnets p) p.fixed (held_in new x) (ap (list_all (names_subnet rows_between.subnets p)) come.no_fixed) (names_new p x here.0)) stand;
          ports = new_ports_stand rows.ports more c.named.ports;
          groups = new_groups_stand rows.ports more (no_groups (is_group rows.groups)) c.named.groups;
          routers = c.named.routers;
          projects = new_projects_stand rows_between more ((λ j. cond (other.1 j || own j) (is_empty p.project) (is_registered rows.projects p.project)) ∙ registered p come.owner)
              (subnet_projects_stand rows place old new at is.same c.named.projects);
        };
        in_form = new_in_form rows.ports more (ap (λ b. not (is_dhcp p.owner) || b) come.owner ∙ or_true (not (is_dhcp p.owner))) (new_form p x here.1 come)
            (subnet_in_form rows.subnets rows.ports place old new at is.same is.form c.in_form);
        held_once = new_are_held_once rows.ports more come.mac (held_alone rows place old new at is.same is.before is.after c p x is.service (alone p there come) come.no_fixed is.free) c.held_once;
        hosts = new_are_hosts rows.ports more (push-all (is_host_in rows_between.subnets p) p.fixed (held_in new x) (ap (list_all (is_host_in rows_between.subnets p)) come.no_fixed) (host_new p x is.host is.own)) hosts;
        disjoint = new_are_disjoint rows.ports more (new_apart_from_routers rows.ports more rows_between.subnets rows.routers no_router)
            (subnet_are_disjoint rows.subnets rows.ports place old new at is.same c.disjoint);
        segments = c.segments;
        on_hosts = new_are_on_hosts rows.ports more (or_weaker (not (is_bound p.vif)) true _ (λ h. all-true (λ r. not (is_port_of r p) || is_some_so (bytes_eq p.host) r.host) rows.routers
            (λ r. unless (is_port_of r p) _ (first_fails (is_router_port p.owner) (device_is p.device r.id) no_router))) (or_true (not (is_bound p.vif)))) c.on_hosts;
        services = record {
          dhcp = new_port_serves rows place old new at is.same is.before is.after c p x is.service (alone p there come) come.no_fixed come.unsecured;
          of_routers = new_router_ports_serve rows.ports more other.1 (unless (is_router_port p.owner) _ no_router) (unless (is_interface p.owner) _ other.0) (unless (is_router_port p.owner) _ no_router) c.services.of_routers;
          of_floatings = new_own_ports_serve rows.ports more (unless (is_own_port rows.floatings p.id) _ own) c.services.of_floatings;
        };
        floatings = new_floatings_lead rows.ports more c.floatings;
        groups = new_groups_serve rows.ports more (no_groups (is_group_of rows.groups p.project)) ((λ j. p.secured || (is_empty (come.no_groups j) && is_empty (come.no_pairs j))) ∙ or_true p.secured) c.groups;
        allowed = new_ports_are_allowed rows.ports more (allowed p come.owner) c.allowed;
        outsides = c.outsides;
        routes = new_routes_lead rows.ports more (subnet_routes_lead rows.subnets rows.ports place old new at is.same c.routes);
      }
    where
      alone : (p : PortRow) → new.network ≡ p.network → IsNewDhcpPort rows p → list_any (is_dhcp_of new.network) rows.ports ≡ false
      alone p there come = ap (λ i. list_any (is_dhcp_of i) rows.ports) there ∙ come.alone

      -- the project of a network is registered
      registered : (p : PortRow) → is_network_of rows.networks p.project p.network ≡ true → is_registered rows.projects p.project ≡ true
      registered p mine =
          let found = any-at (λ n. ident_eq p.network n.id && bytes_eq n.project p.project) rows.networks mine in
          let n : NetworkRow = found.1 in
          subst (λ name. is_registered rows.projects name ≡ true) (bytes_same n.project p.project (and_both (ident_eq p.network n.id) _ found.3).1) (c.named.projects.of_networks found.0 n found.2)

      new_form : (p : PortRow) (x : Addr) → is_dhcp p.owner ≡ true → IsNewDhcpPort rows p → is_port_form (holding p (held_in new x)) ≡ true
      new_form p x dhcp come =
          (λ j. come.unicast j && list_all (λ pair. is_unicast pair.mac) (come.no_pairs j) && (nat_le (length (p.fixed ++ held_in new x ∷ [])) 5 || dhcp j) && nat_le (length (come.no_pairs j)) 10 && nat_le (length (come.no_groups j)) 20)
          ∙ (λ j. or_true (nat_le (length (p.fixed ++ held_in new x ∷ [])) 5) j && true && true)

      allowed : (p : PortRow) → is_network_of rows.networks p.project p.network ≡ true → may_be_there rows.networks rows.policies p ≡ true
      allowed p mine =
          (λ j. is_empty p.project || (p.by_admin || (is_shared_with rows.policies p.network p.project || mine j)))
          ∙ ((λ j. is_empty p.project || (p.by_admin || or_true (is_shared_with rows.policies p.network p.project) j)) ∙ ((λ j. is_empty p.project || or_true p.by_admin j) ∙ or_true (is_empty p.project)))

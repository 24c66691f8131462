-- A subnet that is leased by DHCP no more, whose network's DHCP port gives its address there back, or goes, keeps rows consistent.
use Rattle.std.proofs.Common.{Bool, List, None, Option, Some, [], ap, arith, cond, false, length, not, refl, slice_get, slice_set, subst, sym, true, ℕ, ◌∙◌, ◌∷◌, ◌≡◌, ◌≤◌}
use Rattle.std.specs.Prelude.{count_by, filter, nat_le, ◌&&◌, ◌==◌, ◌||◌}
use Rattle.std.specs.List.{list_all, list_any}
use Rattle.net_addr.specs.Addresses.{addr_eq, is_four}
use Rattle.net_addr.specs.Macs.{is_unicast}
use Rattle.net_addr.specs.declared.address.Addr.TheVariants.{V4}
use Rattle.api_types.specs.Consistent.{IsConsistent}
use Rattle.api_types.specs.Consistent.HeldOnce.{AreHeldOnce, has_mac, holds_times}
use Rattle.api_types.specs.Consistent.Hosts.{is_host_in}
use Rattle.api_types.specs.Consistent.Named.{is_own_port, names_subnet}
use Rattle.api_types.specs.Consistent.Services.{DhcpPortsServe, holds_count, is_leased, leases, wants_dhcp}
use Rattle.api_types.specs.Ident.{Ident}
use Rattle.api_types.specs.Lists.{Each, if_some, is_some_so}
use Rattle.api_types.specs.Owners.{is_dhcp, is_dhcp_of, is_gateway, is_interface, is_router_port}
use Rattle.api_types.specs.RowLists.{RowLists}
use Rattle.api_types.specs.Table.{ident_eq}
use Rattle.api_types.specs.declared.floating.Target.{Target}
use Rattle.api_types.specs.declared.port.Fixed.{Fixed}
use Rattle.api_types.specs.declared.port.PortRow.{PortRow}
use Rattle.api_types.specs.declared.subnet.SubnetRow.{SubnetRow}
use Rattle.row_laws.specs.Leased.{EndsLeased, leads_to_kept, outside, unleased_at}
use Rattle.row_laws.specs.Replaced.{is_held_still, with_port_at, with_subnet_at}
use Rattle.row_laws.proofs.Service.DhcpLemmas.{any_number, holds_once, is_there, itself, only, wanted}
use Rattle.api_types.proofs.ListLemmas.{and_both, any-at, any-none, any-set_grows, any-set_same, any-weaker, at-any, at_filter, both_and, count-none, each-set, false_true, one_row, or_false, or_true, sum-filter, sum-filter-le, sum-set}
use Rattle.api_types.proofs.NameLemmas.{all-at, and_fails, at-all, by_test, count-set, dhcp_alone, fails_by, first_fails, ident_itself, ident_same, ident_sym, if_some-weaker, must, not_false, not_true, or_weaker, unless, unless_so}
use Rattle.row_laws.proofs.PortReplaced.{are_disjoint as port_are_disjoint, are_drawn as port_are_drawn, are_hosts as port_are_hosts, are_on_hosts as port_are_on_hosts, floatings_lead as port_floatings_lead, groups_serve as port_groups_serve, groups_stand as port_groups_stand, in_form as port_in_form, networks_stand as port_networks_stand, no_own_port, own_ports_serve as port_own_ports_serve, ports_are_allowed as port_ports_are_allowed, ports_stand as port_ports_stand, projects_stand as port_projects_stand, router_ports_serve as port_router_ports_serve, routes_lead as port_routes_lead, subnets_stand as port_subnets_stand}
use Rattle.row_laws.proofs.PortsGone.{are_disjoint as left_are_disjoint, are_drawn as left_are_drawn, are_held_once as left_are_held_once, are_hosts as left_are_hosts, are_on_hosts as left_are_on_hosts, floatings_lead as left_floatings_lead, groups_serve as left_groups_serve, groups_stand as left_groups_stand, in_form as left_in_form, networks_stand as left_networks_stand, own_ports_serve as left_own_ports_serve, ports_are_allowed as left_ports_are_allowed, ports_stand as left_ports_stand, projects_stand as left_projects_stand, router_ports_serve as left_router_ports_serve, routes_lead as left_routes_lead, subnets_stand as left_subnets_stand}
use Rattle.row_laws.proofs.SetLemmas.{set_split}
use Rattle.row_laws.proofs.SubnetReplaced.{are_disjoint as subnet_are_disjoint, are_drawn as subnet_are_drawn, are_hosts as subnet_are_hosts, in_form as subnet_in_form, networks_stand as subnet_networks_stand, projects_stand as subnet_projects_stand, routes_lead as subnet_routes_lead, subnets_stand as subnet_subnets_stand}

module _ (rows : RowLists) (place : ℕ) (old new : SubnetRow) (at : slice_get rows.subnets place ≡ Some old) (k : ℕ) (p : PortRow) (at_p : slice_get rows.ports k ≡ Some p) (is : EndsLeased rows old new p) (c : IsConsistent rows) where
  abbrev subnets : List SubnetRow
  subnets = slice_set rows.subnets place new

  is_service : is_dhcp p.owner ≡ true
  is_service = (and_both (ident_eq old.network p.network) (is_dhcp p.owner) is.service).1

  here : old.network ≡ p.network
  here = ident_same old.network p.network (and_both (ident_eq old.network p.network) (is_dhcp p.owner) is.service).0

  -- another network wants its DHCP port as before
  wants_same : (i : Ident) → ident_eq i old.network ≡ false → wants_dhcp subnets i ≡ wants_dhcp rows.subnets i
  wants_same i other = any-set_same (λ s. ident_eq i s.network && s.dhcp) rows.subnets place old new at
      (first_fails (ident_eq i new.network) new.dhcp (ap (ident_eq i) is.same.network ∙ other) ∙ sym (first_fails (ident_eq i old.network) old.dhcp other))

  -- a test that speaks of another id passes where it passed
  passes_still : (i : Ident) (test : SubnetRow → Bool) → ident_eq old.id i ≡ false → list_any (λ s. ident_eq i s.id && test s) rows.subnets ≡ true → list_any (λ s. ident_eq i s.id && test s) subnets ≡ true
  passes_still i test other = any-set_grows (λ s. ident_eq i s.id && test s) rows.subnets place old new at
      (λ h. false_true _ (sym other ∙ ident_sym i old.id (and_both (ident_eq i old.id) (test old) h).0))

  -- a subnet is the new one, or an old one of another id
  split : (l : ℕ) (t : SubnetRow) → slice_get subnets l ≡ Some t → (P : Type 0) → (t ≡ new → P) → (slice_get rows.subnets l ≡ Some t → ident_eq old.id t.id ≡ false → P) → P
  split = set_split (λ (s : SubnetRow). s.id) rows.subnets place old new at is.same.id (omega (arith, c.numbered.ids old.id))

  -- the subnet asks nothing of ports any more
  asks_nothing : (q : PortRow) (t : SubnetRow) → t ≡ new → leases q t ≡ true
  asks_nothing q t e = subst (λ s. leases q s ≡ true) (sym e) (unless (ident_eq q.network new.network && new.dhcp) _ (and_fails (ident_eq q.network new.network) new.dhcp is.after))

  -- another DHCP port holds no address in it
  elsewhere : (l : ℕ) (q : PortRow) → slice_get rows.ports l ≡ Some q → ident_eq p.id q.id ≡ false → is_dhcp q.owner ≡ true → (m : ℕ) (f : Fixed) → slice_get q.fixed m ≡ Some f → ident_eq old.id f.subnet ≡ false
  elsewhere l q at_q other dhcp m f at_f = by_test (ident_eq old.id f.subnet) (ident_eq old.id f.subnet ≡ false)
      (λ mine.
      let found = any-at (λ (s : SubnetRow). ident_eq f.subnet s.id && (ident_eq s.network q.network && s.dhcp)) rows.subnets (is_there rows c l q at_q dhcp m f at_f) in
      let s : SubnetRow = found.1 in
      let both = and_both (ident_eq f.subnet s.id) _ found.3 in
      let one = one_row (λ (t : SubnetRow). ident_eq f.subnet t.id) rows.subnets (omega (arith, c.numbered.ids f.subnet)) found.0 place s old found.2 at both.0 (ident_sym old.id f.subnet mine) in
      let there = (and_both (ident_eq s.network q.network) s.dhcp both.1).0 in
      false_true _ (sym (only rows c k p at_p old.network is.service l q at_q other dhcp) ∙ (ap (λ (t : SubnetRow). ident_eq t.network q.network) (sym one) ∙ there)))
      (λ fails. fails)

  -- a DHCP port that isn't the one serves as before
  serves_still : (l : ℕ) (q : PortRow) → slice_get rows.ports l ≡ Some q → not (is_dhcp q.owner) || list_all (leases q) subnets ≡ true
  serves_still l q at_q = or_weaker (not (is_dhcp q.owner)) _ _ (λ h. at-all (leases q) subnets (λ m t at_t. split m t at_t (leases q t ≡ true) (asks_nothing q t)
      (λ at_old other. all-at (leases q) rows.subnets h m t at_old))) (c.services.dhcp.holds l q at_q)

  leases_still : (l : ℕ) (q : PortRow) → slice_get rows.ports l ≡ Some q → ident_eq p.id q.id ≡ false → not (is_dhcp q.owner) || list_all (is_leased subnets) q.fixed ≡ true
  leases_still l q at_q other = unless_so (is_dhcp q.owner) _ (λ dhcp. at-all (is_leased subnets) q.fixed (λ m f at_f.
      passes_still f.subnet (λ s. s.dhcp) (elsewhere l q at_q other dhcp m f at_f) (all-at (is_leased rows.subnets) q.fixed (must (is_dhcp q.owner) _ dhcp (c.services.dhcp.no_other l q at_q)) m f at_f)))

  -- how often the port holds an address in another subnet
  counted : (i : Ident) → ident_eq old.id i ≡ false → count_by (λ (f : Fixed). ident_eq i f.subnet) (outside old.id p.fixed) ≡ holds_count i p
  counted i other = sum-filter (λ (f : Fixed). not (ident_eq old.id f.subnet)) (λ (f : Fixed). cond {A = ℕ} (ident_eq i f.subnet) 1 0) p.fixed
      (λ m f at_f gone. ap (λ (b : Bool). cond {A = ℕ} b 1 0) (fails_by (ident_eq i f.subnet) (ident_eq old.id i)
      (λ mine. subst (λ j. ident_eq old.id j ≡ true) (sym (ident_same i f.subnet mine)) (not_false (ident_eq old.id f.subnet) gone)) other))

  -- an address that is kept was held, in another subnet
  was_held : (fs : List Fixed) → outside old.id p.fixed ≡ fs → (m : ℕ) (f : Fixed) → slice_get fs m ≡ Some f → (j : ℕ) × (slice_get p.fixed j ≡ Some f) × (ident_eq old.id f.subnet ≡ false)
  was_held fs e m f at_f =
      let r = at_filter (λ (g : Fixed). not (ident_eq old.id g.subnet)) p.fixed m f (ap (λ xs. slice_get xs m) e ∙ at_f) in
      (r.0, r.1, not_true (ident_eq old.id f.subnet) r.2)

  -- where it keeps some address
  module _ (g : Fixed) (rest : List Fixed) (e : outside old.id p.fixed ≡ g ∷ rest) where
    abbrev kept : PortRow
    kept = record p { fixed = g ∷ rest }

    held : (m : ℕ) (f : Fixed) → slice_get kept.fixed m ≡ Some f → (j : ℕ) × (slice_get p.fixed j ≡ Some f) × (ident_eq old.id f.subnet ≡ false)
    held = was_held (g ∷ rest) e

    -- what each old address meets each kept one does
    each_kept : (test : Fixed → Bool) → list_all test p.fixed ≡ true → list_all test kept.fixed ≡ true
    each_kept test all = at-all test kept.fixed (λ m f at_f. let r = held m f at_f in all-at test p.fixed all r.0 f r.1)

    wants_still : wants_dhcp subnets p.network ≡ true
    wants_still =
        let r = held 0 g refl in
        any-weaker (λ s. ident_eq g.subnet s.id && (ident_eq s.network p.network && s.dhcp)) (λ s. ident_eq p.network s.network && s.dhcp) subnets
        (λ s h. let b = and_both (ident_eq s.network p.network) s.dhcp (and_both (ident_eq g.subnet s.id) _ h).1 in both_and (ident_eq p.network s.network) s.dhcp (ident_sym s.network p.network b.0) b.1)
        (passes_still g.subnet (λ s. ident_eq s.network p.network && s.dhcp) r.2 (is_there rows c k p at_p is_service r.0 g r.1))

    split_port : (l : ℕ) (q : PortRow) → slice_get (slice_set rows.ports k kept) l ≡ Some q → (P : Type 0) → (q ≡ kept → P) → (slice_get rows.ports l ≡ Some q → ident_eq p.id q.id ≡ false → P) → P
    split_port = set_split (λ (q : PortRow). q.id) rows.ports k p kept at_p refl (omega (arith, c.numbered.ids p.id))

    dhcp_port_serves : DhcpPortsServe rows.networks subnets (slice_set rows.ports k kept)
    dhcp_port_serves = record {
      there = λ l n at_n. count-set (is_dhcp_of n.id) rows.ports k p kept at_p refl ∙ (c.services.dhcp.there l n at_n ∙ ap (λ b. cond b 1 0)
          (by_test (ident_eq n.id old.network) (wants_dhcp rows.subnets n.id ≡ wants_dhcp subnets n.id)
          (λ mine. let same = ident_same n.id old.network mine in
          subst (λ i. wants_dhcp rows.subnets i ≡ wants_dhcp subnets i) (sym same) (wanted rows c k p at_p old.network is.service ∙ sym (ap (wants_dhcp subnets) here ∙ wants_still)))
          (λ other. sym (wants_same n.id other))));
      holds = λ l q at_q. split_port l q at_q (not (is_dhcp q.owner) || list_all (leases q) subnets ≡ true)
          (λ same. subst (λ r. not (is_dhcp r.owner) || list_all (leases r) subnets ≡ true) (sym same) (or_weaker (not (is_dhcp p.owner)) true _ (λ h. at-all (leases kept) subnets
          (λ m t at_t. split m t at_t (leases kept t ≡ true) (asks_nothing kept t)
          (λ at_old other.
          (λ j. not (ident_eq p.network t.network && t.dhcp) || ((sym (ap (λ (fs : List Fixed). count_by (λ (f : Fixed). ident_eq t.id f.subnet) fs) e) ∙ counted t.id other) j == 1))
          ∙ all-at (leases p) rows.subnets (must (is_dhcp p.owner) _ is_service (c.services.dhcp.holds k p at_p)) m t at_old))) (or_true (not (is_dhcp p.owner)))))
          (λ at_old other. serves_still l q at_old);
      no_other = λ l q at_q. split_port l q at_q (not (is_dhcp q.owner) || list_all (is_leased subnets) q.fixed ≡ true)
          (λ same. subst (λ r. not (is_dhcp r.owner) || list_all (is_leased subnets) r.fixed ≡ true) (sym same) (or_weaker (not (is_dhcp p.owner)) _ _
          (λ all. at-all (is_leased subnets) kept.fixed (λ m f at_f. let r = held m f at_f in passes_still f.subnet (λ s. s.dhcp) r.2 (all-at (is_leased rows.subnets) p.fixed all r.0 f r.1)))
          (c.services.dhcp.no_other k p at_p)))
          (λ at_old other. leases_still l q at_old other);
      unsecured = each-set (λ q. not (is_dhcp q.owner) || not q.secured ≡ true) rows.ports k kept c.services.dhcp.unsecured (c.services.dhcp.unsecured k p at_p);
    }

    still_once : AreHeldOnce (slice_set rows.ports k kept)
    still_once = record {
      macs = λ network mac. let a = count-set (has_mac network mac) rows.ports k p kept at_p refl in omega (arith, a, c.held_once.macs network mac);
      addresses = λ network y.
          let moved = sum-set (holds_times network y) rows.ports k p kept at_p in
          let once = c.held_once.addresses network y in
          let fewer : count_by (λ (f : Fixed). addr_eq f.address y) kept.fixed ≤ count_by (λ (f : Fixed). addr_eq f.address y) p.fixed =
          subst (λ (fs : List Fixed). count_by (λ (f : Fixed). addr_eq f.address y) fs ≤ count_by (λ (f : Fixed). addr_eq f.address y) p.fixed) e
          (sum-filter-le (λ (f : Fixed). not (ident_eq old.id f.subnet)) (λ (f : Fixed). cond {A = ℕ} (addr_eq f.address y) 1 0) p.fixed) in
          let less : holds_times network y kept ≤ holds_times network y p = at_most (ident_eq network p.network) _ _ fewer in
          omega (arith, moved, once, less);
    }
      where
        at_most : (b : Bool) (m n : ℕ) → m ≤ n → cond {A = ℕ} b m 0 ≤ cond {A = ℕ} b n 0
        at_most true m n h = h
        at_most false m n h = omega arith

    -- floating addresses lead to addresses that are kept
    still_led : Each (λ f. if_some (λ (t : Target). not (ident_eq t.port p.id) || list_all (is_held_still kept t) p.fixed) f.target ≡ true) rows.floatings
    still_led l f at_f = if_some-weaker _ _ f.target (λ (t : Target). or_weaker (not (ident_eq t.port p.id)) _ _ (λ h.
        let found = any-at (λ (y : Fixed). is_four y.address t.fixed) (outside old.id p.fixed) h in
        let y : Fixed = found.1 in
        let at_old = at_filter (λ (g : Fixed). not (ident_eq old.id g.subnet)) p.fixed found.0 y found.2 in
        at-all (is_held_still kept t) p.fixed (λ m x at_x. unless_so (is_four x.address t.fixed) _ (λ mine.
        let one = one_row (λ (z : Fixed). is_four z.address t.fixed) p.fixed (holds_once rows c k p at_p (V4 t.fixed)) m at_old.0 x y at_x at_old.1 mine found.3 in
        at-any (λ (z : Fixed). is_four z.address t.fixed && ident_eq x.subnet z.subnet) kept.fixed found.0 y (ap (λ xs. slice_get xs found.0) (sym e) ∙ found.2)
        (both_and (is_four y.address t.fixed) _ found.3 (subst (λ (z : Fixed). ident_eq x.subnet z.subnet ≡ true) one (ident_itself x.subnet))))))) (is.targets l f at_f)

    abbrev rows_between : RowLists
    rows_between = with_subnet_at rows place new

    pub port_keeps : IsConsistent (with_port_at rows_between k kept)
    port_keeps =
        let other = dhcp_alone p.owner is_service in
        let no_router : is_router_port p.owner ≡ false = λ j. other.0 j || other.1 j in
        let hosts = subnet_are_hosts rows.subnets rows.ports place old new at is.same c.hosts in
        let stand = subnet_subnets_stand rows.subnets rows.ports place old new at is.same c.named.subnets in
        record {
          numbered = record {
            projects = c.numbered.projects;
            ids = λ i.
                let a = count-set (λ s. ident_eq i s.id) rows.subnets place old new at (ap (ident_eq i) is.same.id) in
                let b = count-set (λ q. ident_eq i q.id) rows.ports k p kept at_p refl in
                omega (arith, a, b, c.numbered.ids i);
            drawn = port_are_drawn rows_between k p kept at_p refl (subnet_are_drawn rows place old new at is.same c.numbered.drawn);
          };
          named = record {
            networks = port_networks_stand rows.ports k p kept at_p refl (subnet_networks_stand rows.subnets rows.ports place old new at is.same c.named.networks);
            subnets = port_subnets_stand rows.ports k p kept at_p (each_kept (names_subnet subnets p) (stand.of_ports k p at_p)) stand;
            ports = port_ports_stand rows.ports k p kept at_p refl c.named.ports;
            groups = port_groups_stand rows.ports k p kept at_p (c.named.groups.of_ports k p at_p) c.named.groups;
            routers = c.named.routers;
            projects = port_projects_stand rows_between k p kept at_p (c.named.projects.of_ports k p at_p) (subnet_projects_stand rows place old new at is.same c.named.projects);
          };
          in_form = port_in_form rows.ports k p kept at_p (c.in_form.dhcp_owners k p at_p)
              (any_number (is_unicast p.mac) (list_all (λ pair. is_unicast pair.mac) p.pairs) (nat_le (length p.fixed) 5) (nat_le (length kept.fixed) 5) (is_dhcp p.owner)
              (nat_le (length p.pairs) 10) (nat_le (length p.groups) 20) is_service (c.in_form.port_forms k p at_p))
              (subnet_in_form rows.subnets rows.ports place old new at is.same is.form c.in_form);
          held_once = still_once;
          hosts = port_are_hosts rows.ports k p kept at_p (each_kept (is_host_in subnets p) (hosts.addresses k p at_p)) hosts;
          disjoint = port_are_disjoint rows.ports k p kept at_p no_router no_router (subnet_are_disjoint rows.subnets rows.ports place old new at is.same c.disjoint);
          segments = c.segments;
          on_hosts = port_are_on_hosts rows.ports k p kept at_p (c.on_hosts.at_router k p at_p) c.on_hosts;
          services = record {
            dhcp = dhcp_port_serves;
            of_routers = port_router_ports_serve rows.ports k p kept at_p other.1 other.1 (c.services.of_routers.devices k p at_p) (unless (is_interface p.owner) _ other.0) (c.services.of_routers.unsecured k p at_p) c.services.of_routers;
            of_floatings = port_own_ports_serve rows.ports k p kept at_p other.2 other.2 (c.services.of_floatings.unsecured k p at_p) c.services.of_floatings;
          };
          floatings = port_floatings_lead rows.ports k p kept at_p refl refl other.0 other.0 still_led c.floatings;
          groups = port_groups_serve rows.ports k p kept at_p (c.groups.of_ports k p at_p) (c.groups.bare k p at_p) c.groups;
          allowed = port_ports_are_allowed rows.ports k p kept at_p (c.allowed.of_ports k p at_p) c.allowed;
          outsides = c.outsides;
          routes = port_routes_lead rows.ports k p kept at_p no_router no_router (subnet_routes_lead rows.subnets rows.ports place old new at is.same c.routes);
        }

  -- where it was its last one
  module _ (e : outside old.id p.fixed ≡ []) where
    abbrev stays : PortRow → Bool
    stays q = not (ident_eq p.id q.id)

    abbrev others : List PortRow
    others = filter stays rows.ports

    gone_is : (l : ℕ) (q : PortRow) → slice_get rows.ports l ≡ Some q → stays q ≡ false → p ≡ q
    gone_is l q at_q gone = itself rows c k p at_p l q at_q (not_false (ident_eq p.id q.id) gone)

    -- what holds of the port holds of what goes
    goes : (P : PortRow → Type 0) → P p → Each (λ q. stays q ≡ false → P q) rows.ports
    goes P mine l q at_q gone = subst P (gone_is l q at_q gone) mine

    -- no subnet of the network is leased
    wants_none : wants_dhcp subnets old.network ≡ false
    wants_none = any-none (λ s. ident_eq old.network s.network && s.dhcp) subnets (λ l t at_t. split l t at_t (ident_eq old.network t.network && t.dhcp ≡ false)
        (λ is_new. and_fails (ident_eq old.network t.network) t.dhcp (ap (λ (s : SubnetRow). s.dhcp) is_new ∙ is.after))
        (λ at_old other. by_test (ident_eq old.network t.network && t.dhcp) (ident_eq old.network t.network && t.dhcp ≡ false)
        (λ leased.
        let one = must (ident_eq p.network t.network && t.dhcp) _ (subst (λ i. ident_eq i t.network && t.dhcp ≡ true) here leased)
        (all-at (leases p) rows.subnets (must (is_dhcp p.owner) _ is_service (c.services.dhcp.holds k p at_p)) l t at_old) in
        let zeros : holds_count t.id p ≡ 0 = sym (counted t.id other) ∙ ap (λ (fs : List Fixed). count_by (λ (f : Fixed). ident_eq t.id f.subnet) fs) e in
        false_true _ (sym (ap (λ n. n == 1) zeros) ∙ one))
        (λ fails. fails)))

    dhcp_ports_serve : DhcpPortsServe rows.networks subnets others
    dhcp_ports_serve = record {
      there = λ l n at_n. by_test (ident_eq n.id old.network) (count_by (is_dhcp_of n.id) others ≡ cond (wants_dhcp subnets n.id) 1 0)
          (λ mine.
          let same = ident_same n.id old.network mine in
          let zeros : count_by (is_dhcp_of old.network) others ≡ 0 = count-none (is_dhcp_of old.network) others (λ m q at_q.
          let r = at_filter stays rows.ports m q at_q in
          by_test (is_dhcp_of old.network q) (is_dhcp_of old.network q ≡ false)
          (λ passes.
          let both = and_both (ident_eq old.network q.network) (is_dhcp q.owner) passes in
          false_true _ (sym (only rows c k p at_p old.network is.service r.0 q r.1 (not_true (ident_eq p.id q.id) r.2) both.1) ∙ both.0))
          (λ fails. fails)) in
          subst (λ i. count_by (is_dhcp_of i) others ≡ cond (wants_dhcp subnets i) 1 0) (sym same) (zeros ∙ sym (ap (λ b. cond b 1 0) wants_none)))
          (λ other. sum-filter stays (λ q. cond {A = ℕ} (is_dhcp_of n.id q) 1 0) rows.ports
          (goes (λ q. cond {A = ℕ} (is_dhcp_of n.id q) 1 0 ≡ 0) (ap (λ (b : Bool). cond {A = ℕ} b 1 0) (first_fails (ident_eq n.id p.network) (is_dhcp p.owner) (ap (ident_eq n.id) (sym here) ∙ other))))
          ∙ (c.services.dhcp.there l n at_n ∙ ap (λ b. cond b 1 0) (sym (wants_same n.id other))));
      holds = λ l q at_q. let r = at_filter stays rows.ports l q at_q in serves_still r.0 q r.1;
      no_other = λ l q at_q. let r = at_filter stays rows.ports l q at_q in leases_still r.0 q r.1 (not_true (ident_eq p.id q.id) r.2);
      unsecured = λ l q at_q. let r = at_filter stays rows.ports l q at_q in c.services.dhcp.unsecured r.0 q r.1;
    }

    -- no floating address leads to the port
    unled : list_any (λ f. is_some_so (λ (t : Target). ident_eq p.id t.port) f.target) rows.floatings ≡ false
    unled = any-none (λ f. is_some_so (λ (t : Target). ident_eq p.id t.port) f.target) rows.floatings (λ l f at_f. by f.target (ap (λ (fs : List Fixed). if_some (leads_to_kept p.id fs) f.target) (sym e) ∙ is.targets l f at_f))
      where
        not_led : (i j : Ident) → not (ident_eq i j) || false ≡ true → ident_eq j i ≡ false
        not_led i j h = fails_by (ident_eq j i) (ident_eq i j) (ident_sym j i) (not_true (ident_eq i j) (sym (or_false (not (ident_eq i j))) ∙ h))

        by : (o : Option Target) → if_some (leads_to_kept p.id []) o ≡ true → is_some_so (λ (t : Target). ident_eq p.id t.port) o ≡ false
        by None h = refl
        by (Some t) h = not_led t.port p.id h

    pub port_goes : IsConsistent (record (with_subnet_at rows place new) { ports = others })
    port_goes =
        let other = dhcp_alone p.owner is_service in
        let no_router : is_router_port p.owner ≡ false = λ j. other.0 j || other.1 j in
        let own = goes (λ q. is_own_port rows.floatings q.id ≡ false) (no_own_port rows k p p at_p other.2 c) in
        let no_gateway = goes (λ q. is_gateway q.owner ≡ false) other.1 in
        let no_interface = goes (λ q. is_interface q.owner ≡ false) other.0 in
        let no_target = goes (λ q. list_any (λ f. is_some_so (λ (t : Target). ident_eq q.id t.port) f.target) rows.floatings ≡ false) unled in
        let between : RowLists = with_subnet_at rows place new in
        record {
          numbered = record {
            projects = c.numbered.projects;
            ids = λ i.
                let a = count-set (λ s. ident_eq i s.id) rows.subnets place old new at (ap (ident_eq i) is.same.id) in
                let b = sum-filter-le stays (λ (q : PortRow). cond {A = ℕ} (ident_eq i q.id) 1 0) rows.ports in
                omega (arith, a, b, c.numbered.ids i);
            drawn = left_are_drawn stays between (subnet_are_drawn rows place old new at is.same c.numbered.drawn);
          };
          named = record {
            networks = left_networks_stand stays rows.ports (subnet_networks_stand rows.subnets rows.ports place old new at is.same c.named.networks);
            subnets = left_subnets_stand stays rows.ports (subnet_subnets_stand rows.subnets rows.ports place old new at is.same c.named.subnets);
            ports = left_ports_stand stays rows.ports no_gateway own no_target c.services.of_routers c.named.ports;
            groups = left_groups_stand stays rows.ports c.named.groups;
            routers = c.named.routers;
            projects = left_projects_stand stays between (subnet_projects_stand rows place old new at is.same c.named.projects);
          };
          in_form = left_in_form stays rows.ports (subnet_in_form rows.subnets rows.ports place old new at is.same is.form c.in_form);
          held_once = left_are_held_once stays rows.ports c.held_once;
          hosts = left_are_hosts stays rows.ports (subnet_are_hosts rows.subnets rows.ports place old new at is.same c.hosts);
          disjoint = left_are_disjoint stays rows.ports (subnet_are_disjoint rows.subnets rows.ports place old new at is.same c.disjoint);
          segments = c.segments;
          on_hosts = left_are_on_hosts stays rows.ports c.on_hosts;
          services = record {
            dhcp = dhcp_ports_serve;
            of_routers = left_router_ports_serve stays rows.ports no_gateway c.services.of_routers;
            of_floatings = left_own_ports_serve stays rows.ports own c.services.of_floatings;
          };
          floatings = left_floatings_lead stays rows.ports no_interface no_target c.floatings;
          groups = left_groups_serve stays rows.ports c.groups;
          allowed = left_ports_are_allowed stays rows.ports c.allowed;
          outsides = c.outsides;
          routes = left_routes_lead stays rows.ports (goes (λ q. is_router_port q.owner ≡ false) no_router) (subnet_routes_lead rows.subnets rows.ports place old new at is.same c.routes);
        }

  pub subnet_unleased : IsConsistent (unleased_at rows place new k p (outside old.id p.fixed))
  subnet_unleased = by (outside old.id p.fixed) refl
    where
      by : (fs : List Fixed) → outside old.id p.fixed ≡ fs → IsConsistent (unleased_at rows place new k p fs)
      by [] e = port_goes e
      by (g ∷ rest) e = port_keeps g rest e

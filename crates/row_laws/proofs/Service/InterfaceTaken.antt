-- A port that is taken over as a router's interface keeps rows consistent.
use Rattle.std.proofs.Common.{◌≡◌, ◌∙◌, ℕ, List, Bool, true, false, cond, Some, slice_get, slice_set, length, refl, ap, sym, arith}
use Rattle.std.specs.Prelude.{◌==◌, ◌&&◌, ◌||◌, not, nat_le, count_by}
use Rattle.std.specs.List.{list_any, list_all}
use Rattle.std.specs.Str.{bytes_eq}
use Rattle.net_addr.specs.Addresses.{is_four, addr_eq}
use Rattle.net_addr.specs.Prefixes.{is_host_of, eui}
use Rattle.net_addr.specs.declared.address.Addr.{Addr}
use Rattle.api_types.specs.Ident.{Ident}
use Rattle.api_types.specs.Table.{ident_eq}
use Rattle.api_types.specs.RowLists.{RowLists}
use Rattle.api_types.specs.Lists.{stands_so, is_some_so, is_empty}
use Rattle.api_types.specs.Owners.{is_interface, is_dhcp, is_router_port, device_is, is_port_of, holds_in}
use Rattle.api_types.specs.Sharing.{is_shared_with}
use Rattle.api_types.specs.Consistent.{IsConsistent}
use Rattle.api_types.specs.Consistent.Named.{is_group, is_registered, is_own_port}
use Rattle.api_types.specs.Consistent.InForm.{is_network_of, is_group_of, is_port_form, is_eui}
use Rattle.api_types.specs.Consistent.HeldOnce.{has_mac, holds_times, AreHeldOnce}
use Rattle.api_types.specs.Consistent.Hosts.{is_host_in, is_own_address}
use Rattle.api_types.specs.Consistent.Disjoint.{ports_clash, AreDisjoint}
use Rattle.api_types.specs.Consistent.Floating.{has_interface, is_target_port, leads_to, FloatingsLead}
use Rattle.api_types.specs.Consistent.NextHops.{is_reached, RoutesLead}
use Rattle.api_types.specs.declared.subnet.SubnetRow.{SubnetRow}
use Rattle.api_types.specs.declared.port.PortRow.{PortRow}
use Rattle.api_types.specs.declared.port.Fixed.{Fixed}
use Rattle.api_types.specs.declared.router.RouterRow.{RouterRow}
use Rattle.api_types.specs.declared.floating.Target.{Target}
use Rattle.net_addr.specs.Macs.{is_unicast}
use Rattle.row_laws.specs.Interfaces.{IsTakenOver}
use Rattle.row_laws.specs.Replaced.{with_port_at}
use Rattle.api_types.proofs.ListLemmas.{and_both, any-none, any-set_grows, any-weaker, at-any, both_and, each-set, false_true, none-any, or_true, sum-set_same}
use Rattle.api_types.proofs.NameLemmas.{all-weaker, and_left_weaker, and_weaker, count-set, first_fails, ident_itself, if_some-weaker, not_true, or_weaker, unless}
use Rattle.row_laws.proofs.Service.ServiceLemmas.{by_interface, interface_alone, named, no_router_port, placed, unclashed}
use Rattle.row_laws.proofs.PortReplaced as port

without_second : (a b d : Bool) → b ≡ false → a || (b && d) ≡ true → a ≡ true
without_second true b d e h = refl
without_second false true d e h = false_true _ (sym e)
without_second false false d e h = h

without_last : (a b : Bool) → b ≡ false → a || b ≡ true → a ≡ true
without_last true b e h = refl
without_last false b e h = false_true _ (sym e ∙ h)

module _ (rows : RowLists) (place : ℕ) (r : RouterRow) (at : slice_get rows.routers place ≡ Some r) (k : ℕ) (old new : PortRow) (at_p : slice_get rows.ports k ≡ Some old) (is : IsTakenOver rows r old new) (c : IsConsistent rows) where
  abbrev ports : List PortRow
  ports = slice_set rows.ports k new

  no_router : is_router_port old.owner ≡ false
  no_router = no_router_port old.owner is.no_interface is.no_gateway

  held_once : AreHeldOnce ports
  held_once = record {
    macs = λ network mac.
        let same = count-set (has_mac network mac) rows.ports k old new at_p (λ j. ident_eq network (is.network j) && (is.mac j == mac)) in
        omega (arith, same, c.held_once.macs network mac);
    addresses = λ network x.
        let same = sum-set_same (holds_times network x) rows.ports k old new at_p (λ j. cond {A = ℕ} (ident_eq network (is.network j)) (count_by (λ (f : Fixed). addr_eq f.address x) (is.fixed j)) 0) in
        omega (arith, same, c.held_once.addresses network x);
  }

  owned : (x : Addr) (s : SubnetRow) → is_own_address old x s ≡ true → is_own_address new x s ≡ true
  owned x s = or_weaker (not (is_eui s)) _ _ (λ h.
      ap (λ b. b || (is_interface new.owner && is_some_so (addr_eq x) s.gateway)) (ap (λ m. addr_eq x (eui s.prefix m)) is.mac ∙ without_second (addr_eq x (eui s.prefix old.mac)) (is_interface old.owner) _ is.no_interface h))

  hosts : list_all (is_host_in rows.subnets new) new.fixed ≡ true
  hosts = ap (list_all (is_host_in rows.subnets new)) is.fixed ∙ all-weaker (is_host_in rows.subnets old) (is_host_in rows.subnets new) old.fixed
      (λ (f : Fixed). any-weaker _ _ rows.subnets (λ s. and_weaker (ident_eq f.subnet s.id) _ _ (and_weaker (is_host_of s.prefix f.address) _ _ (owned f.address s)))) (c.hosts.addresses k old at_p)

  form : is_port_form new ≡ true
  form =
      let whole = c.in_form.port_forms k old at_p in
      let first = and_both _ (nat_le (length old.groups) 20) whole in
      let second = and_both _ (nat_le (length old.pairs) 10) first.0 in
      let third = and_both (is_unicast old.mac && list_all (λ pair. is_unicast pair.mac) old.pairs) (nat_le (length old.fixed) 5 || is_dhcp old.owner) second.0 in
      let unicast = and_both (is_unicast old.mac) (list_all (λ pair. is_unicast pair.mac) old.pairs) third.0 in
      let five : nat_le (length old.fixed) 5 ≡ true = without_last (nat_le (length old.fixed) 5) (is_dhcp old.owner) is.no_dhcp third.1 in
      let mac : is_unicast new.mac ≡ true = ap is_unicast is.mac ∙ unicast.0 in
      let few : nat_le (length new.fixed) 5 ≡ true = (λ j. nat_le (length (is.fixed j)) 5) ∙ five in
      both_and (is_unicast new.mac && list_all (λ pair. is_unicast pair.mac) new.pairs && (nat_le (length new.fixed) 5 || is_dhcp new.owner) && nat_le (length new.pairs) 10) (nat_le (length new.groups) 20)
      (both_and (is_unicast new.mac && list_all (λ pair. is_unicast pair.mac) new.pairs && (nat_le (length new.fixed) 5 || is_dhcp new.owner)) (nat_le (length new.pairs) 10)
      (both_and (is_unicast new.mac && list_all (λ pair. is_unicast pair.mac) new.pairs) (nat_le (length new.fixed) 5 || is_dhcp new.owner)
      (both_and (is_unicast new.mac) (list_all (λ pair. is_unicast pair.mac) new.pairs) mac (ap (list_all (λ pair. is_unicast pair.mac)) is.unpaired))
      (ap (λ b. b || is_dhcp new.owner) few))
      (λ j. nat_le (length (is.unpaired j)) 10))
      (λ j. nat_le (length (is.ungrouped j)) 20)

  are_disjoint : AreDisjoint rows.subnets ports rows.routers
  are_disjoint = record {
    in_network = c.disjoint.in_network;
    at_router = each-set (λ q. not (list_any (ports_clash rows.routers rows.subnets q) ports) ≡ true) rows.ports k new
        (λ l q at_q. ap not (any-none (ports_clash rows.routers rows.subnets q) ports (each-set (λ s. ports_clash rows.routers rows.subnets q s ≡ false) rows.ports k new
        (none-any (ports_clash rows.routers rows.subnets q) rows.ports (not_true _ (c.disjoint.at_router l q at_q))) (unclashed rows c place r at new is.at_router l q at_q).0)))
        (ap not (any-none (ports_clash rows.routers rows.subnets new) ports (each-set (λ s. ports_clash rows.routers rows.subnets new s ≡ false) rows.ports k new
        (λ l q at_q. (unclashed rows c place r at new is.at_router l q at_q).1)
        (first_fails (not (ident_eq new.id new.id)) _ (ap not (ident_itself new.id))))));
  }

  through : (router subnet : Ident) → has_interface rows.ports router subnet ≡ true → has_interface ports router subnet ≡ true
  through router subnet = any-set_grows (λ q. is_interface q.owner && (device_is q.device router && holds_in subnet q)) rows.ports k old new at_p (λ h. false_true _ (sym is.no_interface ∙ (and_both (is_interface old.owner) _ h).0))

  floatings_lead : FloatingsLead ports rows.routers rows.floatings
  floatings_lead = record {
    once = c.floatings.once;
    targets = λ l f at_f. if_some-weaker (leads_to rows.ports rows.routers f) (leads_to ports rows.routers f) f.target (λ (t : Target) h. and_left_weaker _ _ _
        (λ g. any-set_grows (λ q. ident_eq t.port q.id && is_target_port ports f t q) rows.ports k old new at_p
        (λ e. (λ j. ident_eq t.port (is.id j) && (bytes_eq (is.project j) f.project && list_any (λ (x : Fixed). is_four x.address t.fixed && has_interface ports t.router x.subnet) (is.fixed j))) ∙ e)
        (any-weaker _ _ rows.ports (λ q. and_weaker (ident_eq t.port q.id) _ _ (and_weaker (bytes_eq q.project f.project) _ _
        (any-weaker _ _ q.fixed (λ (x : Fixed). and_weaker (is_four x.address t.fixed) _ _ (through t.router x.subnet))))) g)) h) (c.floatings.targets l f at_f);
  }

  routes_lead : RoutesLead rows.subnets ports rows.routers
  routes_lead = record {
    routes = λ l q at_q. all-weaker (is_reached rows.subnets rows.ports q) (is_reached rows.subnets ports q) q.routes
        (λ hop. any-set_grows _ rows.ports k old new at_p (λ h. false_true _ (sym no_router ∙ (and_both (is_router_port old.owner) _ (and_both (is_port_of q old) _ h).0).0))) (c.routes.routes l q at_q);
  }

  pub taken_over : IsConsistent (with_port_at rows k new)
  taken_over =
      let alone = interface_alone new.owner is.owner in
      let mine : is_port_of r new ≡ true = both_and (is_router_port new.owner) (device_is new.device r.id) (by_interface new.owner is.owner) (named rows c place r at new is.at_router) in
      let unfiltered : (asked : Bool) → not asked || not new.secured ≡ true = λ asked. ap (λ b. not asked || not b) is.unsecured ∙ or_true (not asked) in
      record {
        numbered = record {
          projects = c.numbered.projects;
          ids = λ i. let e = count-set (λ q. ident_eq i q.id) rows.ports k old new at_p (ap (ident_eq i) is.id) in omega (arith, e, c.numbered.ids i);
          drawn = port.are_drawn rows k old new at_p is.id c.numbered.drawn;
        };
        named = record {
          networks = port.networks_stand rows.ports k old new at_p is.network c.named.networks;
          subnets = port.subnets_stand rows.ports k old new at_p
              ((λ j. list_all (λ (f : Fixed). stands_so (λ s. s.id) f.subnet (λ s. ident_eq s.network (is.network j)) rows.subnets) (is.fixed j)) ∙ c.named.subnets.of_ports k old at_p) c.named.subnets;
          ports = port.ports_stand rows.ports k old new at_p is.id c.named.ports;
          groups = port.groups_stand rows.ports k old new at_p (ap (list_all (is_group rows.groups)) is.ungrouped) c.named.groups;
          routers = c.named.routers;
          projects = port.projects_stand rows k old new at_p
              ((λ j. cond ((alone.0 ∙ sym is.no_gateway) j || is_own_port rows.floatings (is.id j)) (is_empty (is.project j)) (is_registered rows.projects (is.project j))) ∙ c.named.projects.of_ports k old at_p) c.named.projects;
        };
        in_form = port.in_form rows.ports k old new at_p (unless (is_dhcp new.owner) _ alone.1) form c.in_form;
        held_once = held_once;
        hosts = port.are_hosts rows.ports k old new at_p hosts c.hosts;
        disjoint = are_disjoint;
        segments = c.segments;
        on_hosts = port.are_on_hosts rows.ports k old new at_p (placed rows c place r at new is.at_router) c.on_hosts;
        services = record {
          dhcp = port.dhcp_ports_serve rows.ports k old new at_p is.no_dhcp alone.1 c.services.dhcp;
          of_routers = port.router_ports_serve rows.ports k old new at_p is.no_gateway alone.0
              (ap (λ b. not (is_router_port new.owner) || b) (at-any (λ q. is_port_of q new) rows.routers place r at mine) ∙ or_true (not (is_router_port new.owner)))
              (ap (λ b. not (is_interface new.owner) || b) is.one ∙ or_true (not (is_interface new.owner)))
              (unfiltered (is_router_port new.owner)) c.services.of_routers;
          of_floatings = port.own_ports_serve rows.ports k old new at_p is.no_floating alone.2 (unfiltered (is_own_port rows.floatings new.id)) c.services.of_floatings;
        };
        floatings = floatings_lead;
        groups = port.groups_serve rows.ports k old new at_p (ap (list_all (is_group_of rows.groups new.project)) is.ungrouped)
            ((λ j. new.secured || (is_empty (is.ungrouped j) && is_empty (is.unpaired j))) ∙ or_true new.secured) c.groups;
        allowed = port.ports_are_allowed rows.ports k old new at_p
            ((λ j. is_empty (is.project j) || (is.by_admin j || (is_shared_with rows.policies (is.network j) (is.project j) || is_network_of rows.networks (is.project j) (is.network j)))) ∙ c.allowed.of_ports k old at_p) c.allowed;
        outsides = c.outsides;
        routes = routes_lead;
      }

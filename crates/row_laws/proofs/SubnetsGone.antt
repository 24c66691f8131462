-- Fewer subnets keep each clause that reads subnets, and rows consistent where nothing uses those that go.
use Rattle.std.proofs.Common.{◌≡◌, ◌∙◌, ℕ, List, Bool, true, false, cond, Some, slice_get, ap, sym, arith}
use Rattle.std.specs.Prelude.{◌&&◌, not, filter}
use Rattle.std.specs.List.{list_any}
use Rattle.net_addr.specs.Prefixes.{overlaps, contains, is_host_of}
use Rattle.api_types.specs.Table.{ident_eq}
use Rattle.api_types.specs.RowLists.{RowLists}
use Rattle.api_types.specs.Lists.{Each}
use Rattle.api_types.specs.Owners.{is_dhcp, is_port_of, holds_in}
use Rattle.api_types.specs.Consistent.Disjoint.{subnets_clash, share_router, reach_alike, ports_clash, AreDisjoint}
use Rattle.api_types.specs.Consistent.Hosts.{is_host_in, is_own_address, AreHosts}
use Rattle.api_types.specs.Consistent.InForm.{AreInForm}
use Rattle.api_types.specs.Consistent.Named.{names_subnet, NetworksStand, SubnetsStand, ProjectsStand}
use Rattle.api_types.specs.Consistent.NextHops.{is_reached, RoutesLead}
use Rattle.api_types.specs.Consistent.Numbered.{IdsDiffer, AreDrawn}
use Rattle.api_types.specs.Consistent.Services.{leases, is_leased, DhcpPortsServe}
use Rattle.api_types.specs.Consistent.{IsConsistent}
use Rattle.api_types.specs.declared.network.NetworkRow.{NetworkRow}
use Rattle.api_types.specs.declared.subnet.SubnetRow.{SubnetRow}
use Rattle.api_types.specs.declared.port.PortRow.{PortRow}
use Rattle.api_types.specs.declared.port.Fixed.{Fixed}
use Rattle.api_types.specs.declared.group.GroupRow.{GroupRow}
use Rattle.api_types.specs.declared.group.RuleRow.{RuleRow}
use Rattle.api_types.specs.declared.router.RouterRow.{RouterRow}
use Rattle.api_types.specs.declared.floating.FloatingRow.{FloatingRow}
use Rattle.api_types.specs.declared.policy.PolicyRow.{PolicyRow}
use Rattle.row_laws.specs.Gone.{with_subnets_kept, IsUnusedSubnet}
use Rattle.api_types.proofs.ListLemmas.{false_true, and_both, any-at, at-any, any-weaker, each-filter, any-filter, any-filter_none, sum-filter-le, any-filter_kept, any-filter_back}
use Rattle.api_types.proofs.NameLemmas.{by_test, or_weaker, all-weaker, and_weaker, not_true, fails_by, ident_sym, all-at, and_fails, at-all, filter-all_of}

module _ (keep : SubnetRow → Bool) (subnets : List SubnetRow) where
  left : (P : SubnetRow → Type 0) → Each P subnets → Each P (filter keep subnets)
  left P = each-filter keep P P subnets (λ r kept h. h)

  -- a subnet that has to stay stays
  stays : (s : SubnetRow) → (keep s ≡ false → false ≡ true) → keep s ≡ true
  stays s h = by_test (keep s) (keep s ≡ true) (λ passes. passes) (λ fails. false_true _ (h fails))

  -- an address in a subnet that stands is in one that stays
  held_stays : (ports : List PortRow) → Each (λ s. keep s ≡ false → Each (λ p. holds_in s.id p ≡ false) ports) subnets → (test : SubnetRow → Bool) (k : ℕ) (p : PortRow) → slice_get ports k ≡ Some p → (l : ℕ) (x : Fixed) → slice_get p.fixed l ≡ Some x
      → list_any (λ s. ident_eq x.subnet s.id && test s) subnets ≡ true → list_any (λ s. ident_eq x.subnet s.id && test s) (filter keep subnets) ≡ true
  held_stays ports free test k p at l x at_x = any-filter_kept keep (λ s. ident_eq x.subnet s.id && test s) (λ s. ident_eq x.subnet s.id && test s) subnets
      (λ m s at_s h. (stays s (λ gone. sym (free m s at_s gone k p at) ∙ at-any (λ (y : Fixed). ident_eq s.id y.subnet) p.fixed l x at_x (ident_sym x.subnet s.id (and_both (ident_eq x.subnet s.id) (test s) h).0)), h))

  pub networks_stand : {networks : List NetworkRow} {ports : List PortRow} {routers : List RouterRow} {floatings : List FloatingRow} {policies : List PolicyRow}
      → NetworksStand networks subnets ports routers floatings policies → NetworksStand networks (filter keep subnets) ports routers floatings policies
  networks_stand {networks} {ports} {routers} {floatings} {policies} c = record {
    of_subnets = left _ c.of_subnets;
    of_ports = c.of_ports;
    of_gateways = c.of_gateways;
    of_floatings = c.of_floatings;
    of_policies = c.of_policies;
  }

  -- where no port holds an address in one that goes
  pub subnets_stand : {ports : List PortRow}
      → Each (λ s. keep s ≡ false → Each (λ p. holds_in s.id p ≡ false) ports) subnets → SubnetsStand subnets ports → SubnetsStand (filter keep subnets) ports
  subnets_stand {ports} free c = record {
    of_ports = λ k p at. at-all (names_subnet (filter keep subnets) p) p.fixed
        (λ l x at_x. held_stays ports free (λ s. ident_eq s.network p.network) k p at l x at_x (all-at (names_subnet subnets p) p.fixed (c.of_ports k p at) l x at_x));
  }

  pub in_form : {networks : List NetworkRow} {ports : List PortRow} {groups : List GroupRow} {rules : List RuleRow} {routers : List RouterRow}
      → AreInForm networks subnets ports groups rules routers → AreInForm networks (filter keep subnets) ports groups rules routers
  in_form {networks} {ports} {groups} {rules} {routers} c = record {
    segments = c.segments;
    subnet_owners = left _ c.subnet_owners;
    subnet_forms = left _ c.subnet_forms;
    dhcp_owners = c.dhcp_owners;
    port_forms = c.port_forms;
    rule_owners = c.rule_owners;
    routes = c.routes;
  }

  -- where no port holds an address in one that goes
  pub are_hosts : {ports : List PortRow}
      → Each (λ s. keep s ≡ false → Each (λ p. holds_in s.id p ≡ false) ports) subnets → AreHosts subnets ports → AreHosts (filter keep subnets) ports
  are_hosts {ports} free c = record {
    addresses = λ k p at. at-all (is_host_in (filter keep subnets) p) p.fixed
        (λ l x at_x. held_stays ports free (λ s. is_host_of s.prefix x.address && is_own_address p x.address s) k p at l x at_x (all-at (is_host_in subnets p) p.fixed (c.addresses k p at) l x at_x));
  }

  -- fewer subnets reach nothing more
  reach_back : (p q : PortRow) → reach_alike (filter keep subnets) p q ≡ true → reach_alike subnets p q ≡ true
  reach_back p q h = any-weaker (λ a. holds_in a.id p && list_any (λ b. holds_in b.id q && overlaps a.prefix b.prefix) (filter keep subnets)) (λ a. holds_in a.id p && list_any (λ b. holds_in b.id q && overlaps a.prefix b.prefix) subnets) subnets
      (λ a. and_weaker (holds_in a.id p) _ _ (any-filter_back keep (λ b. holds_in b.id q && overlaps a.prefix b.prefix) subnets))
      (any-filter_back keep (λ a. holds_in a.id p && list_any (λ b. holds_in b.id q && overlaps a.prefix b.prefix) (filter keep subnets)) subnets h)

  pub are_disjoint : {ports : List PortRow} {routers : List RouterRow}
      → AreDisjoint subnets ports routers → AreDisjoint (filter keep subnets) ports routers
  are_disjoint {ports} {routers} c = record {
    in_network = each-filter keep (λ s. not (list_any (subnets_clash s) subnets) ≡ true) (λ s. not (list_any (subnets_clash s) (filter keep subnets)) ≡ true) subnets
        (λ s kept h. ap not (any-filter_none keep (subnets_clash s) subnets (not_true _ h))) c.in_network;
    at_router = λ k p at. ap not (fails_by (list_any (ports_clash routers (filter keep subnets) p) ports) (list_any (ports_clash routers subnets p) ports)
        (any-weaker _ _ ports (λ q. and_weaker (not (ident_eq p.id q.id)) _ _ (and_weaker (share_router routers p q) _ _ (reach_back p q)))) (not_true _ (c.at_router k p at)));
  }

  -- where none that goes is leased by DHCP
  pub dhcp_ports_serve : {networks : List NetworkRow} {ports : List PortRow}
      → Each (λ s. keep s ≡ false → s.dhcp ≡ false) subnets → DhcpPortsServe networks subnets ports → DhcpPortsServe networks (filter keep subnets) ports
  dhcp_ports_serve {networks} {ports} plain c = record {
    there = λ k n at. c.there k n at ∙ ap (λ b. cond b 1 0) (sym (any-filter keep (λ s. ident_eq n.id s.network && s.dhcp) subnets (λ l s at_s gone. and_fails (ident_eq n.id s.network) s.dhcp (plain l s at_s gone))));
    holds = λ k p at. or_weaker (not (is_dhcp p.owner)) _ _ (filter-all_of keep (leases p) subnets) (c.holds k p at);
    no_other = λ k p at. or_weaker (not (is_dhcp p.owner)) _ _ (all-weaker (is_leased subnets) (is_leased (filter keep subnets)) p.fixed
        (λ (x : Fixed). any-filter_kept keep (λ s. ident_eq x.subnet s.id && s.dhcp) (λ s. ident_eq x.subnet s.id && s.dhcp) subnets
        (λ l s at_s h. (stays s (λ gone. sym (plain l s at_s gone) ∙ (and_both (ident_eq x.subnet s.id) s.dhcp h).1), h)))) (c.no_other k p at);
    unsecured = c.unsecured;
  }

  -- where no port holds an address in one that goes
  pub routes_lead : {ports : List PortRow} {routers : List RouterRow}
      → Each (λ s. keep s ≡ false → Each (λ p. holds_in s.id p ≡ false) ports) subnets → RoutesLead subnets ports routers → RoutesLead (filter keep subnets) ports routers
  routes_lead {ports} {routers} free c = record {
    routes = λ k r at. all-weaker (is_reached subnets ports r) (is_reached (filter keep subnets) ports r) r.routes (λ hop h.
        let found = any-at (λ p. is_port_of r p && list_any (λ s. holds_in s.id p && contains s.prefix hop.next) subnets) ports h in
        let p : PortRow = found.1 in
        at-any (λ p. is_port_of r p && list_any (λ s. holds_in s.id p && contains s.prefix hop.next) (filter keep subnets)) ports found.0 p found.2
        (and_weaker (is_port_of r p) _ _ (any-filter_kept keep (λ s. holds_in s.id p && contains s.prefix hop.next) (λ s. holds_in s.id p && contains s.prefix hop.next) subnets
        (λ l s at_s g. (stays s (λ gone. sym (free l s at_s gone found.0 p found.2) ∙ (and_both (holds_in s.id p) _ g).0), g))) found.3)) (c.routes k r at);
  }

module _ (keep : SubnetRow → Bool) (rows : RowLists) where
  pub are_drawn : AreDrawn rows → AreDrawn (with_subnets_kept keep rows)
  are_drawn c = record {
    networks = c.networks;
    subnets = left keep rows.subnets _ c.subnets;
    ports = c.ports;
    groups = c.groups;
    rules = c.rules;
    routers = c.routers;
    floatings = c.floatings;
    policies = c.policies;
  }

  pub projects_stand : ProjectsStand rows → ProjectsStand (with_subnets_kept keep rows)
  projects_stand c = record {
    of_networks = c.of_networks;
    of_subnets = left keep rows.subnets _ c.of_subnets;
    of_ports = c.of_ports;
    of_groups = c.of_groups;
    of_rules = c.of_rules;
    of_routers = c.of_routers;
    of_floatings = c.of_floatings;
    of_policies = c.of_policies;
  }

  -- ids still differ
  pub ids_differ : IdsDiffer rows → IdsDiffer (with_subnets_kept keep rows)
  ids_differ once i = let a = sum-filter-le keep (λ (s : SubnetRow). cond {A = ℕ} (ident_eq i s.id) 1 0) rows.subnets in omega (arith, a, once i)

  -- subnets that nothing uses may go
  pub subnets_gone : Each (λ s. keep s ≡ false → IsUnusedSubnet rows.ports s) rows.subnets → IsConsistent rows → IsConsistent (with_subnets_kept keep rows)
  subnets_gone goes c = record {
    numbered = record {
      projects = c.numbered.projects;
      ids = ids_differ c.numbered.ids;
      drawn = are_drawn c.numbered.drawn;
    };
    named = record {
      networks = networks_stand keep rows.subnets c.named.networks;
      subnets = subnets_stand keep rows.subnets (λ k s at gone. (goes k s at gone).unheld) c.named.subnets;
      ports = c.named.ports;
      groups = c.named.groups;
      routers = c.named.routers;
      projects = projects_stand c.named.projects;
    };
    in_form = in_form keep rows.subnets c.in_form;
    held_once = c.held_once;
    hosts = are_hosts keep rows.subnets (λ k s at gone. (goes k s at gone).unheld) c.hosts;
    disjoint = are_disjoint keep rows.subnets c.disjoint;
    segments = c.segments;
    on_hosts = c.on_hosts;
    services = record {
      dhcp = dhcp_ports_serve keep rows.subnets (λ k s at gone. (goes k s at gone).plain) c.services.dhcp;
      of_routers = c.services.of_routers;
      of_floatings = c.services.of_floatings;
    };
    floatings = c.floatings;
    groups = c.groups;
    allowed = c.allowed;
    outsides = c.outsides;
    routes = routes_lead keep rows.subnets (λ k s at gone. (goes k s at gone).unheld) c.routes;
  }

-- A subnet that is replaced by one of the same id, project, network and prefix keeps each clause that reads subnets, and rows consistent.
use Rattle.std.proofs.Common.{◌≡◌, ◌∙◌, ℕ, List, Bool, true, false, cond, Some, slice_get, slice_set, ap, sym, arith}
use Rattle.std.specs.Prelude.{◌==◌, ◌&&◌, ◌||◌, not}
use Rattle.std.specs.List.{list_any}
use Rattle.net_addr.specs.Prefixes.{overlaps, contains, is_host_of, Prefix}
use Rattle.api_types.specs.Ident.{Ident}
use Rattle.api_types.specs.Table.{ident_eq}
use Rattle.api_types.specs.RowLists.{RowLists}
use Rattle.api_types.specs.Owners.{is_dhcp, is_port_of, holds_in}
use Rattle.api_types.specs.Consistent.Disjoint.{subnets_clash, share_router, reach_alike, ports_clash, AreDisjoint}
use Rattle.api_types.specs.Consistent.Hosts.{is_host_in, is_own_address, AreHosts}
use Rattle.api_types.specs.Consistent.InForm.{is_network_of, is_subnet_form, AreInForm}
use Rattle.api_types.specs.Consistent.Named.{is_network, is_registered, names_subnet, NetworksStand, SubnetsStand, ProjectsStand}
use Rattle.api_types.specs.Consistent.NextHops.{is_reached, RoutesLead}
use Rattle.api_types.specs.Consistent.Numbered.{is_drawn, AreDrawn}
use Rattle.api_types.specs.Consistent.Services.{holds_count, leases, is_leased, DhcpPortsServe}
use Rattle.api_types.specs.Consistent.{IsConsistent}
use Rattle.api_types.specs.declared.network.NetworkRow.{NetworkRow}
use Rattle.api_types.specs.declared.subnet.SubnetRow.{SubnetRow}
use Rattle.api_types.specs.declared.port.PortRow.{PortRow}
use Rattle.api_types.specs.declared.port.Fixed.{Fixed}
use Rattle.api_types.specs.declared.group.GroupRow.{GroupRow}
use Rattle.api_types.specs.declared.group.RuleRow.{RuleRow}
use Rattle.api_types.specs.declared.router.RouterRow.{RouterRow}
use Rattle.api_types.specs.declared.floating.FloatingRow.{FloatingRow}
use Rattle.api_types.specs.declared.policy.PolicyRow.{PolicyRow}
use Rattle.row_laws.specs.Replaced.{with_subnet_at, is_owned_still, IsReplacedSubnet}
use Rattle.api_types.proofs.ListLemmas.{and_both, both_and, each-set, any-set_same, any-set_grows, any-weaker}
use Rattle.api_types.proofs.NameLemmas.{or_weaker, all-weaker, and_weaker, all-at, at-all, set-all, any-agree, count-set}

module _ (subnets : List SubnetRow) (all : List PortRow) (place : ℕ) (old new : SubnetRow) (at : slice_get subnets place ≡ Some old) (same : IsReplacedSubnet all old new) where
  -- a test that reads id, network and prefix alone is the same on both rows
  put : (test : Ident → Ident → Prefix → Bool) → list_any (λ s. test s.id s.network s.prefix) (slice_set subnets place new) ≡ list_any (λ s. test s.id s.network s.prefix) subnets
  put test = any-set_same (λ s. test s.id s.network s.prefix) subnets place old new at (λ j. test (same.id j) (same.network j) (same.prefix j))

  pub networks_stand : {networks : List NetworkRow} {ports : List PortRow} {routers : List RouterRow} {floatings : List FloatingRow} {policies : List PolicyRow}
      → NetworksStand networks subnets ports routers floatings policies → NetworksStand networks (slice_set subnets place new) ports routers floatings policies
  networks_stand {networks} {ports} {routers} {floatings} {policies} c = record {
    of_subnets = each-set (λ s. is_network networks s.network ≡ true) subnets place new c.of_subnets (ap (is_network networks) same.network ∙ c.of_subnets place old at);
    of_ports = c.of_ports;
    of_gateways = c.of_gateways;
    of_floatings = c.of_floatings;
    of_policies = c.of_policies;
  }

  pub subnets_stand : {ports : List PortRow}
      → SubnetsStand subnets ports → SubnetsStand (slice_set subnets place new) ports
  subnets_stand {ports} c = record {
    of_ports = λ k p h. all-weaker (names_subnet subnets p) (names_subnet (slice_set subnets place new) p) p.fixed
        (λ (x : Fixed) g. put (λ id network prefix. ident_eq x.subnet id && ident_eq network p.network) ∙ g) (c.of_ports k p h);
  }

  pub in_form : {networks : List NetworkRow} {ports : List PortRow} {groups : List GroupRow} {rules : List RuleRow} {routers : List RouterRow}
      → is_subnet_form new ≡ true → AreInForm networks subnets ports groups rules routers → AreInForm networks (slice_set subnets place new) ports groups rules routers
  in_form {networks} {ports} {groups} {rules} {routers} form c = record {
    segments = c.segments;
    subnet_owners = each-set (λ s. is_network_of networks s.project s.network ≡ true) subnets place new c.subnet_owners ((λ j. is_network_of networks (same.project j) (same.network j)) ∙ c.subnet_owners place old at);
    subnet_forms = each-set (λ s. is_subnet_form s ≡ true) subnets place new c.subnet_forms form;
    dhcp_owners = c.dhcp_owners;
    port_forms = c.port_forms;
    rule_owners = c.rule_owners;
    routes = c.routes;
  }

  -- a held address that was the port's own is still
  own_still : (p : PortRow) (x : Fixed) → is_owned_still old new p x ≡ true → ident_eq x.subnet old.id ≡ true → is_own_address p x.address old ≡ true → is_own_address p x.address new ≡ true
  own_still p x still inside was = by (ident_eq x.subnet old.id) (is_own_address p x.address old) still inside was
    where
      by : (a b : Bool) → not a || (not b || is_own_address p x.address new) ≡ true → a ≡ true → b ≡ true → is_own_address p x.address new ≡ true
      by true true h inside was = h
      by true false h inside was = cc
      by false b h inside was = cc

  host_still : (p : PortRow) (x : Fixed) → is_owned_still old new p x ≡ true → is_host_in subnets p x ≡ true → is_host_in (slice_set subnets place new) p x ≡ true
  host_still p x still = any-set_grows (λ t. ident_eq x.subnet t.id && (is_host_of t.prefix x.address && is_own_address p x.address t)) subnets place old new at
      (λ g.
      let both = and_both (ident_eq x.subnet old.id) _ g in
      let fits = and_both (is_host_of old.prefix x.address) _ both.1 in
      both_and _ _ ((λ j. ident_eq x.subnet (same.id j)) ∙ both.0) (both_and _ _ ((λ j. is_host_of (same.prefix j) x.address) ∙ fits.0) (own_still p x still both.0 fits.1)))

  pub are_hosts : AreHosts subnets all → AreHosts (slice_set subnets place new) all
  are_hosts c = record {
    addresses = λ k p h. at-all (is_host_in (slice_set subnets place new) p) p.fixed
        (λ n x at. host_still p x (all-at (is_owned_still old new p) p.fixed (same.own k p h) n x at) (all-at (is_host_in subnets p) p.fixed (c.addresses k p h) n x at));
  }

  reach_same : (p q : PortRow) → reach_alike (slice_set subnets place new) p q ≡ reach_alike subnets p q
  reach_same p q =
      any-agree (λ a. holds_in a.id p && list_any (λ b. holds_in b.id q && overlaps a.prefix b.prefix) (slice_set subnets place new)) (λ a. holds_in a.id p && list_any (λ b. holds_in b.id q && overlaps a.prefix b.prefix) subnets) (slice_set subnets place new)
      (λ a. ap (λ c. holds_in a.id p && c) (put (λ id network prefix. holds_in id q && overlaps a.prefix prefix)))
      ∙ put (λ id network prefix. holds_in id p && list_any (λ b. holds_in b.id q && overlaps prefix b.prefix) subnets)

  clash_same : (s : SubnetRow) → list_any (subnets_clash s) (slice_set subnets place new) ≡ list_any (subnets_clash s) subnets
  clash_same s = put (λ id network prefix. not (ident_eq s.id id) && (ident_eq s.network network && overlaps s.prefix prefix))

  new_clash : list_any (subnets_clash new) subnets ≡ list_any (subnets_clash old) subnets
  new_clash = any-agree (subnets_clash new) (subnets_clash old) subnets (λ t j. not (ident_eq (same.id j) t.id) && (ident_eq (same.network j) t.network && overlaps (same.prefix j) t.prefix))

  pub are_disjoint : {ports : List PortRow} {routers : List RouterRow}
      → AreDisjoint subnets ports routers → AreDisjoint (slice_set subnets place new) ports routers
  are_disjoint {ports} {routers} c = record {
    in_network = each-set (λ s. not (list_any (subnets_clash s) (slice_set subnets place new)) ≡ true) subnets place new
        (λ k s h. ap not (clash_same s) ∙ c.in_network k s h)
        (ap not (clash_same new ∙ new_clash) ∙ c.in_network place old at);
    at_router = λ k p h. ap not (any-agree (ports_clash routers (slice_set subnets place new) p) (ports_clash routers subnets p) ports
        (λ q. ap (λ b. not (ident_eq p.id q.id) && (share_router routers p q && b)) (reach_same p q))) ∙ c.at_router k p h;
  }

  -- where both are leased by DHCP or neither is
  pub dhcp_ports_serve : {networks : List NetworkRow} {ports : List PortRow}
      → new.dhcp ≡ old.dhcp → DhcpPortsServe networks subnets ports → DhcpPortsServe networks (slice_set subnets place new) ports
  dhcp_ports_serve {networks} {ports} leased c = record {
    there = λ k n h. c.there k n h ∙ ap (λ b. cond b 1 0) (sym (any-set_same (λ s. ident_eq n.id s.network && s.dhcp) subnets place old new at (λ j. ident_eq n.id (same.network j) && leased j)));
    holds = λ k p h. or_weaker (not (is_dhcp p.owner)) _ _ (λ g. set-all (leases p) subnets place new g
        ((λ j. not (ident_eq p.network (same.network j) && leased j) || (holds_count (same.id j) p == 1)) ∙ all-at (leases p) subnets g place old at)) (c.holds k p h);
    no_other = λ k p h. or_weaker (not (is_dhcp p.owner)) _ _ (all-weaker (is_leased subnets) (is_leased (slice_set subnets place new)) p.fixed
        (λ (x : Fixed) g. any-set_same (λ s. ident_eq x.subnet s.id && s.dhcp) subnets place old new at (λ j. ident_eq x.subnet (same.id j) && leased j) ∙ g)) (c.no_other k p h);
    unsecured = c.unsecured;
  }

  pub routes_lead : {ports : List PortRow} {routers : List RouterRow}
      → RoutesLead subnets ports routers → RoutesLead (slice_set subnets place new) ports routers
  routes_lead {ports} {routers} c = record {
    routes = λ k r h. all-weaker (is_reached subnets ports r) (is_reached (slice_set subnets place new) ports r) r.routes
        (λ hop. any-weaker _ _ ports (λ p. and_weaker (is_port_of r p) _ _ (λ g. put (λ id network prefix. holds_in id p && contains prefix hop.next) ∙ g))) (c.routes k r h);
  }

module _ (rows : RowLists) (place : ℕ) (old new : SubnetRow) (at : slice_get rows.subnets place ≡ Some old) (same : IsReplacedSubnet rows.ports old new) where
  pub are_drawn : AreDrawn rows → AreDrawn (with_subnet_at rows place new)
  are_drawn c = record {
    networks = c.networks;
    subnets = each-set (λ r. is_drawn rows.projects r.id ≡ true) rows.subnets place new c.subnets (ap (is_drawn rows.projects) same.id ∙ c.subnets place old at);
    ports = c.ports;
    groups = c.groups;
    rules = c.rules;
    routers = c.routers;
    floatings = c.floatings;
    policies = c.policies;
  }

  pub projects_stand : ProjectsStand rows → ProjectsStand (with_subnet_at rows place new)
  projects_stand c = record {
    of_networks = c.of_networks;
    of_subnets = each-set (λ r. is_registered rows.projects r.project ≡ true) rows.subnets place new c.of_subnets (ap (is_registered rows.projects) same.project ∙ c.of_subnets place old at);
    of_ports = c.of_ports;
    of_groups = c.of_groups;
    of_rules = c.of_rules;
    of_routers = c.of_routers;
    of_floatings = c.of_floatings;
    of_policies = c.of_policies;
  }

  -- one that is leased by DHCP as the old one is
  pub subnet_replaced : new.dhcp ≡ old.dhcp → is_subnet_form new ≡ true → IsConsistent rows → IsConsistent (with_subnet_at rows place new)
  subnet_replaced leased form c = record {
    numbered = record {
      projects = c.numbered.projects;
      ids = λ i. let e = count-set (λ s. ident_eq i s.id) rows.subnets place old new at (ap (ident_eq i) same.id) in omega (arith, e, c.numbered.ids i);
      drawn = are_drawn c.numbered.drawn;
    };
    named = record {
      networks = networks_stand rows.subnets rows.ports place old new at same c.named.networks;
      subnets = subnets_stand rows.subnets rows.ports place old new at same c.named.subnets;
      ports = c.named.ports;
      groups = c.named.groups;
      routers = c.named.routers;
      projects = projects_stand c.named.projects;
    };
    in_form = in_form rows.subnets rows.ports place old new at same form c.in_form;
    held_once = c.held_once;
    hosts = are_hosts rows.subnets rows.ports place old new at same c.hosts;
    disjoint = are_disjoint rows.subnets rows.ports place old new at same c.disjoint;
    segments = c.segments;
    on_hosts = c.on_hosts;
    services = record {
      dhcp = dhcp_ports_serve rows.subnets rows.ports place old new at same leased c.services.dhcp;
      of_routers = c.services.of_routers;
      of_floatings = c.services.of_floatings;
    };
    floatings = c.floatings;
    groups = c.groups;
    allowed = c.allowed;
    outsides = c.outsides;
    routes = routes_lead rows.subnets rows.ports place old new at same c.routes;
  }

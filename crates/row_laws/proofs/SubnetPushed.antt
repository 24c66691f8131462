-- One more subnet keeps each clause that reads subnets, and one that is not leased by DHCP keeps rows consistent.
use Rattle.std.proofs.Common.{◌≡◌, ◌++◌, ◌∷◌, ◌∙◌, [], List, true, false, cond, ap, sym, arith}
use Rattle.std.specs.Prelude.{◌&&◌, not}
use Rattle.std.specs.List.{list_any}
use Rattle.net_addr.specs.Prefixes.{overlaps, contains, is_host_of}
use Rattle.api_types.specs.Table.{ident_eq}
use Rattle.api_types.specs.RowLists.{RowLists}
use Rattle.api_types.specs.Lists.{Each}
use Rattle.api_types.specs.Owners.{is_dhcp, is_port_of, holds_in}
use Rattle.api_types.specs.Consistent.Disjoint.{subnets_clash, share_router, reach_alike, ports_clash, AreDisjoint}
use Rattle.api_types.specs.Consistent.Hosts.{is_host_in, is_own_address, AreHosts}
use Rattle.api_types.specs.Consistent.InForm.{is_network_of, is_subnet_form, AreInForm}
use Rattle.api_types.specs.Consistent.Named.{is_network, is_registered, names_subnet, NetworksStand, SubnetsStand, ProjectsStand}
use Rattle.api_types.specs.Consistent.NextHops.{is_reached, RoutesLead}
use Rattle.api_types.specs.Consistent.Numbered.{is_drawn, times_in, AreDrawn}
use Rattle.api_types.specs.Consistent.Services.{leases, is_leased, DhcpPortsServe}
use Rattle.api_types.specs.Consistent.{IsConsistent}
use Rattle.api_types.specs.declared.network.NetworkRow.{NetworkRow}
use Rattle.api_types.specs.declared.subnet.SubnetRow.{SubnetRow}
use Rattle.api_types.specs.declared.port.PortRow.{PortRow}
use Rattle.api_types.specs.declared.port.Fixed.{Fixed}
use Rattle.api_types.specs.declared.group.GroupRow.{GroupRow}
use Rattle.api_types.specs.declared.group.RuleRow.{RuleRow}
use Rattle.api_types.specs.declared.router.RouterRow.{RouterRow}
use Rattle.api_types.specs.declared.floating.FloatingRow.{FloatingRow}
use Rattle.api_types.specs.declared.policy.PolicyRow.{PolicyRow}
use Rattle.row_laws.specs.NewRows.{with_subnet, IsNewSubnet}
use Rattle.api_types.proofs.ListLemmas.{and_both, each-push, any-grows, any-stays_none, any-none, none-any, any-weaker, none-counted}
use Rattle.api_types.proofs.NameLemmas.{ident_itself, or_weaker, all-weaker, unnamed, and_weaker, not_true, unless, all-at, and_fails, first_fails, push-all, any-agree, any-push_other}
use Rattle.api_types.proofs.IdLemmas.{ids-push}
use Rattle.row_laws.proofs.TimesLemmas.{times-subnet}

module _ (subnets : List SubnetRow) (s : SubnetRow) where
  pub networks_stand : {networks : List NetworkRow} {ports : List PortRow} {routers : List RouterRow} {floatings : List FloatingRow} {policies : List PolicyRow}
      → is_network networks s.network ≡ true → NetworksStand networks subnets ports routers floatings policies → NetworksStand networks (subnets ++ s ∷ []) ports routers floatings policies
  networks_stand {networks} {ports} {routers} {floatings} {policies} network c = record {
    of_subnets = each-push (λ t. is_network networks t.network ≡ true) subnets s c.of_subnets network;
    of_ports = c.of_ports;
    of_gateways = c.of_gateways;
    of_floatings = c.of_floatings;
    of_policies = c.of_policies;
  }

  pub subnets_stand : {ports : List PortRow}
      → SubnetsStand subnets ports → SubnetsStand (subnets ++ s ∷ []) ports
  subnets_stand {ports} c = record {
    of_ports = λ k p at. all-weaker (names_subnet subnets p) (names_subnet (subnets ++ s ∷ []) p) p.fixed
        (λ (x : Fixed). any-grows (λ t. ident_eq x.subnet t.id && ident_eq t.network p.network) subnets s) (c.of_ports k p at);
  }

  pub in_form : {networks : List NetworkRow} {ports : List PortRow} {groups : List GroupRow} {rules : List RuleRow} {routers : List RouterRow}
      → is_network_of networks s.project s.network ≡ true → is_subnet_form s ≡ true → AreInForm networks subnets ports groups rules routers → AreInForm networks (subnets ++ s ∷ []) ports groups rules routers
  in_form {networks} {ports} {groups} {rules} {routers} owner form c = record {
    segments = c.segments;
    subnet_owners = each-push (λ t. is_network_of networks t.project t.network ≡ true) subnets s c.subnet_owners owner;
    subnet_forms = each-push (λ t. is_subnet_form t ≡ true) subnets s c.subnet_forms form;
    dhcp_owners = c.dhcp_owners;
    port_forms = c.port_forms;
    rule_owners = c.rule_owners;
    routes = c.routes;
  }

  pub are_hosts : {ports : List PortRow}
      → AreHosts subnets ports → AreHosts (subnets ++ s ∷ []) ports
  are_hosts {ports} c = record {
    addresses = λ k p at. all-weaker (is_host_in subnets p) (is_host_in (subnets ++ s ∷ []) p) p.fixed
        (λ (x : Fixed). any-grows (λ t. ident_eq x.subnet t.id && (is_host_of t.prefix x.address && is_own_address p x.address t)) subnets s) (c.addresses k p at);
  }

  -- ports that hold no address in the subnet reach nothing more
  reach_same : (p q : PortRow) → holds_in s.id p ≡ false → holds_in s.id q ≡ false → reach_alike (subnets ++ s ∷ []) p q ≡ reach_alike subnets p q
  reach_same p q no_p no_q =
      any-push_other (λ a. holds_in a.id p && list_any (λ b. holds_in b.id q && overlaps a.prefix b.prefix) (subnets ++ s ∷ [])) subnets s
      (first_fails (holds_in s.id p) (list_any (λ b. holds_in b.id q && overlaps s.prefix b.prefix) (subnets ++ s ∷ [])) no_p)
      ∙ any-agree (λ a. holds_in a.id p && list_any (λ b. holds_in b.id q && overlaps a.prefix b.prefix) (subnets ++ s ∷ [])) (λ a. holds_in a.id p && list_any (λ b. holds_in b.id q && overlaps a.prefix b.prefix) subnets) subnets
      (λ a. ap (λ c. holds_in a.id p && c) (any-push_other (λ b. holds_in b.id q && overlaps a.prefix b.prefix) subnets s (first_fails (holds_in s.id q) (overlaps a.prefix s.prefix) no_q)))

  -- a subnet in which no port holds an address
  pub are_disjoint : {ports : List PortRow} {routers : List RouterRow}
      → Each (λ t. (subnets_clash t s ≡ false) × (subnets_clash s t ≡ false)) subnets → Each (λ p. holds_in s.id p ≡ false) ports → AreDisjoint subnets ports routers → AreDisjoint (subnets ++ s ∷ []) ports routers
  are_disjoint {ports} {routers} apart unheld c = record {
    in_network = each-push (λ t. not (list_any (subnets_clash t) (subnets ++ s ∷ [])) ≡ true) subnets s
        (λ k t at. ap not (any-stays_none (subnets_clash t) subnets s (not_true _ (c.in_network k t at)) (apart k t at).0))
        (ap not (any-stays_none (subnets_clash s) subnets s (any-none (subnets_clash s) subnets (λ k t at. (apart k t at).1))
        (first_fails (not (ident_eq s.id s.id)) (ident_eq s.network s.network && overlaps s.prefix s.prefix) (ap not (ident_itself s.id)))));
    at_router = λ k p at. ap not (any-none (ports_clash routers (subnets ++ s ∷ []) p) ports (λ l q at_q.
        ap (λ b. not (ident_eq p.id q.id) && (share_router routers p q && b)) (reach_same p q (unheld k p at) (unheld l q at_q))
        ∙ none-any (ports_clash routers subnets p) ports (not_true _ (c.at_router k p at)) l q at_q));
  }

  -- a subnet that is not leased by DHCP
  pub dhcp_ports_serve : {networks : List NetworkRow} {ports : List PortRow}
      → s.dhcp ≡ false → DhcpPortsServe networks subnets ports → DhcpPortsServe networks (subnets ++ s ∷ []) ports
  dhcp_ports_serve {networks} {ports} plain c = record {
    there = λ k n at. c.there k n at ∙ ap (λ b. cond b 1 0) (sym (any-push_other (λ t. ident_eq n.id t.network && t.dhcp) subnets s (and_fails (ident_eq n.id s.network) s.dhcp plain)));
    holds = λ k p at. or_weaker (not (is_dhcp p.owner)) _ _ (λ h. push-all (leases p) subnets s h
        (unless (ident_eq p.network s.network && s.dhcp) _ (and_fails (ident_eq p.network s.network) s.dhcp plain))) (c.holds k p at);
    no_other = λ k p at. or_weaker (not (is_dhcp p.owner)) _ _ (all-weaker (is_leased subnets) (is_leased (subnets ++ s ∷ [])) p.fixed
        (λ (x : Fixed). any-grows (λ t. ident_eq x.subnet t.id && t.dhcp) subnets s)) (c.no_other k p at);
    unsecured = c.unsecured;
  }

  pub routes_lead : {ports : List PortRow} {routers : List RouterRow}
      → RoutesLead subnets ports routers → RoutesLead (subnets ++ s ∷ []) ports routers
  routes_lead {ports} {routers} c = record {
    routes = λ k r at. all-weaker (is_reached subnets ports r) (is_reached (subnets ++ s ∷ []) ports r) r.routes
        (λ hop. any-weaker _ _ ports (λ p. and_weaker (is_port_of r p) _ _ (any-grows (λ t. holds_in t.id p && contains t.prefix hop.next) subnets s))) (c.routes k r at);
  }

module _ (rows : RowLists) (s : SubnetRow) where
  pub are_drawn : is_drawn rows.projects s.id ≡ true → AreDrawn rows → AreDrawn (with_subnet rows s)
  are_drawn drawn c = record {
    networks = c.networks;
    subnets = each-push (λ r. is_drawn rows.projects r.id ≡ true) rows.subnets s c.subnets drawn;
    ports = c.ports;
    groups = c.groups;
    rules = c.rules;
    routers = c.routers;
    floatings = c.floatings;
    policies = c.policies;
  }

  pub projects_stand : is_registered rows.projects s.project ≡ true → ProjectsStand rows → ProjectsStand (with_subnet rows s)
  projects_stand project c = record {
    of_networks = c.of_networks;
    of_subnets = each-push (λ r. is_registered rows.projects r.project ≡ true) rows.subnets s c.of_subnets project;
    of_ports = c.of_ports;
    of_groups = c.of_groups;
    of_rules = c.of_rules;
    of_routers = c.of_routers;
    of_floatings = c.of_floatings;
    of_policies = c.of_policies;
  }

  -- no port holds an address in a subnet of a new id
  pub unheld : times_in rows s.id ≡ 0 → SubnetsStand rows.subnets rows.ports → Each (λ p. holds_in s.id p ≡ false) rows.ports
  unheld fresh c k p at = any-none (λ (x : Fixed). ident_eq s.id x.subnet) p.fixed (unnamed (λ t. t.id) s.id rows.subnets (λ (x : Fixed). x.subnet) p.fixed
      (none-counted (λ t. ident_eq s.id t.id) rows.subnets (omega (arith, fresh)))
      (λ l x at_x. any-weaker (λ t. ident_eq x.subnet t.id && ident_eq t.network p.network) (λ t. ident_eq x.subnet t.id) rows.subnets (λ t h. (and_both (ident_eq x.subnet t.id) _ h).0)
      (all-at (names_subnet rows.subnets p) p.fixed (c.of_ports k p at) l x at_x)))

  pub subnet_pushed : IsNewSubnet rows s → IsConsistent rows → IsConsistent (with_subnet rows s)
  subnet_pushed new c = record {
    numbered = record {
      projects = c.numbered.projects;
      ids = ids-push rows (with_subnet rows s) s.id (λ i. times-subnet rows i s) new.fresh c.numbered.ids;
      drawn = are_drawn new.drawn c.numbered.drawn;
    };
    named = record {
      networks = networks_stand rows.subnets s new.network c.named.networks;
      subnets = subnets_stand rows.subnets s c.named.subnets;
      ports = c.named.ports;
      groups = c.named.groups;
      routers = c.named.routers;
      projects = projects_stand new.project c.named.projects;
    };
    in_form = in_form rows.subnets s new.owner new.form c.in_form;
    held_once = c.held_once;
    hosts = are_hosts rows.subnets s c.hosts;
    disjoint = are_disjoint rows.subnets s new.apart (unheld new.fresh c.named.subnets) c.disjoint;
    segments = c.segments;
    on_hosts = c.on_hosts;
    services = record {
      dhcp = dhcp_ports_serve rows.subnets s new.plain c.services.dhcp;
      of_routers = c.services.of_routers;
      of_floatings = c.services.of_floatings;
    };
    floatings = c.floatings;
    groups = c.groups;
    allowed = c.allowed;
    outsides = c.outsides;
    routes = routes_lead rows.subnets s c.routes;
  }

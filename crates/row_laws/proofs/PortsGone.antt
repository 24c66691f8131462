-- Fewer ports keep each clause that reads ports, and rows consistent where nothing needs those that go.
use Rattle.std.proofs.Common.{◌≡◌, ◌∙◌, ℕ, List, Bool, true, false, cond, ap, sym, arith}
use Rattle.std.specs.Prelude.{◌&&◌, ◌||◌, not, filter}
use Rattle.std.specs.List.{list_any}
use Rattle.std.specs.Str.{bytes_eq}
use Rattle.net_addr.specs.Addresses.{is_four}
use Rattle.net_addr.specs.Prefixes.{contains}
use Rattle.api_types.specs.Table.{ident_eq}
use Rattle.api_types.specs.RowLists.{RowLists}
use Rattle.api_types.specs.Lists.{Each, is_some_so}
use Rattle.api_types.specs.Owners.{is_interface, is_gateway, is_dhcp, is_router_port, device_is, is_port_of, holds_in, is_dhcp_of}
use Rattle.api_types.specs.Consistent.{IsConsistent}
use Rattle.api_types.specs.Consistent.Numbered.{IdsDiffer, AreDrawn}
use Rattle.api_types.specs.Consistent.Named.{is_port, is_own_port, NetworksStand, SubnetsStand, PortsStand, GroupsStand, ProjectsStand}
use Rattle.api_types.specs.Consistent.InForm.{AreInForm}
use Rattle.api_types.specs.Consistent.HeldOnce.{has_mac, holds_times, AreHeldOnce}
use Rattle.api_types.specs.Consistent.Hosts.{AreHosts}
use Rattle.api_types.specs.Consistent.Disjoint.{ports_clash, AreDisjoint}
use Rattle.api_types.specs.Consistent.Carried.{AreOnHosts, AreCarried}
use Rattle.api_types.specs.Consistent.Services.{DhcpPortsServe, is_gateway_of, is_named_gateway, RouterPortsServe, is_port_for, OwnPortsServe}
use Rattle.api_types.specs.Consistent.Floating.{is_target_port, leads_to, FloatingsLead}
use Rattle.api_types.specs.Consistent.Groups.{GroupsServe}
use Rattle.api_types.specs.Consistent.Access.{PortsAreAllowed}
use Rattle.api_types.specs.Consistent.NextHops.{is_reached, RoutesLead}
use Rattle.api_types.specs.declared.project.ProjectRow.{ProjectRow}
use Rattle.api_types.specs.declared.network.NetworkRow.{NetworkRow}
use Rattle.api_types.specs.declared.network.Segment.{Segment}
use Rattle.api_types.specs.declared.subnet.SubnetRow.{SubnetRow}
use Rattle.api_types.specs.declared.port.PortRow.{PortRow}
use Rattle.api_types.specs.declared.port.Fixed.{Fixed}
use Rattle.api_types.specs.declared.group.GroupRow.{GroupRow}
use Rattle.api_types.specs.declared.group.RuleRow.{RuleRow}
use Rattle.api_types.specs.declared.router.RouterRow.{RouterRow}
use Rattle.api_types.specs.declared.router.Gateway.{Gateway}
use Rattle.api_types.specs.declared.floating.FloatingRow.{FloatingRow}
use Rattle.api_types.specs.declared.floating.Target.{Target}
use Rattle.api_types.specs.declared.policy.PolicyRow.{PolicyRow}
use Rattle.row_laws.specs.Gone.{with_ports_kept, IsOfNoUse}
use Rattle.api_types.proofs.ListLemmas.{false_true, and_both, at-any, any-weaker, each-filter, any-filter_none, sum-filter, sum-filter-le, any-filter_kept}
use Rattle.api_types.proofs.NameLemmas.{ident_sym, by_test, if_some-weaker, all-weaker, and_weaker, and_left_weaker, not_true, and_fails, first_fails, count-filter, if_some-weaker_at}

module _ (keep : PortRow → Bool) (ports : List PortRow) where
  left : (P : PortRow → Type 0) → Each P ports → Each P (filter keep ports)
  left P = each-filter keep P P ports (λ r kept h. h)

  -- a port that has to stay stays
  stays : (p : PortRow) → (keep p ≡ false → false ≡ true) → keep p ≡ true
  stays p h = by_test (keep p) (keep p ≡ true) (λ passes. passes) (λ fails. false_true _ (h fails))

  pub networks_stand : {networks : List NetworkRow} {subnets : List SubnetRow} {routers : List RouterRow} {floatings : List FloatingRow} {policies : List PolicyRow}
      → NetworksStand networks subnets ports routers floatings policies → NetworksStand networks subnets (filter keep ports) routers floatings policies
  networks_stand {networks} {subnets} {routers} {floatings} {policies} c = record {
    of_subnets = c.of_subnets;
    of_ports = left _ c.of_ports;
    of_gateways = c.of_gateways;
    of_floatings = c.of_floatings;
    of_policies = c.of_policies;
  }

  pub subnets_stand : {subnets : List SubnetRow}
      → SubnetsStand subnets ports → SubnetsStand subnets (filter keep ports)
  subnets_stand {subnets} c = record {
    of_ports = left _ c.of_ports;
  }

  -- where no gateway port goes, no floating address's own port, and no port that one leads to
  pub ports_stand : {routers : List RouterRow} {floatings : List FloatingRow}
      → Each (λ p. keep p ≡ false → is_gateway p.owner ≡ false) ports → Each (λ p. keep p ≡ false → is_own_port floatings p.id ≡ false) ports
      → Each (λ p. keep p ≡ false → list_any (λ f. is_some_so (λ (t : Target). ident_eq p.id t.port) f.target) floatings ≡ false) ports
      → RouterPortsServe ports routers → PortsStand ports routers floatings → PortsStand (filter keep ports) routers floatings
  ports_stand {routers} {floatings} gateways owns targets serve c = record {
    of_gateways = λ k r at. if_some-weaker (λ (g : Gateway). list_any (is_named_gateway r g) ports) (λ (g : Gateway). is_port (filter keep ports) g.port) r.gateway
        (λ (g : Gateway). any-filter_kept keep (is_named_gateway r g) (λ p. ident_eq g.port p.id) ports
        (λ l p at_p h. let named = and_both (is_gateway_of r.id p) (ident_eq g.network p.network && ident_eq g.port p.id) h in (
          stays p (λ gone. sym (gateways l p at_p gone) ∙ (and_both (is_gateway p.owner) (device_is p.device r.id) named.0).0),
          (and_both (ident_eq g.network p.network) (ident_eq g.port p.id) named.1).1,
        ))) (serve.named k r at);
    of_floatings = λ k f at. any-filter_kept keep (λ p. ident_eq f.own_port p.id) (λ p. ident_eq f.own_port p.id) ports
        (λ l p at_p h. (stays p (λ gone. sym (owns l p at_p gone) ∙ at-any (λ g. ident_eq p.id g.own_port) floatings k f at (ident_sym f.own_port p.id h)), h)) (c.of_floatings k f at);
    of_targets = λ k f at. if_some-weaker_at (λ (t : Target). is_port ports t.port) (λ (t : Target). is_port (filter keep ports) t.port) f.target
        (λ (t : Target) is. any-filter_kept keep (λ p. ident_eq t.port p.id) (λ p. ident_eq t.port p.id) ports
        (λ l p at_p h. (
          stays p (λ gone. sym (targets l p at_p gone) ∙ at-any (λ e. is_some_so (λ (u : Target). ident_eq p.id u.port) e.target) floatings k f at
              (ap (is_some_so (λ (u : Target). ident_eq p.id u.port)) is ∙ ident_sym t.port p.id h)),
          h,
        ))) (c.of_targets k f at);
  }

  pub groups_stand : {groups : List GroupRow} {rules : List RuleRow}
      → GroupsStand groups ports rules → GroupsStand groups (filter keep ports) rules
  groups_stand {groups} {rules} c = record {
    of_ports = left _ c.of_ports;
    of_rules = c.of_rules;
    of_remotes = c.of_remotes;
  }

  pub in_form : {networks : List NetworkRow} {subnets : List SubnetRow} {groups : List GroupRow} {rules : List RuleRow} {routers : List RouterRow}
      → AreInForm networks subnets ports groups rules routers → AreInForm networks subnets (filter keep ports) groups rules routers
  in_form {networks} {subnets} {groups} {rules} {routers} c = record {
    segments = c.segments;
    subnet_owners = c.subnet_owners;
    subnet_forms = c.subnet_forms;
    dhcp_owners = left _ c.dhcp_owners;
    port_forms = left _ c.port_forms;
    rule_owners = c.rule_owners;
    routes = c.routes;
  }

  pub are_held_once : AreHeldOnce ports → AreHeldOnce (filter keep ports)
  are_held_once c = record {
    macs = λ network mac. count-filter keep (has_mac network mac) ports 1 (c.macs network mac);
    addresses = λ network x. let a = sum-filter-le keep (holds_times network x) ports in omega (arith, a, c.addresses network x);
  }

  pub are_hosts : {subnets : List SubnetRow}
      → AreHosts subnets ports → AreHosts subnets (filter keep ports)
  are_hosts {subnets} c = record {
    addresses = left _ c.addresses;
  }

  pub are_disjoint : {subnets : List SubnetRow} {routers : List RouterRow}
      → AreDisjoint subnets ports routers → AreDisjoint subnets (filter keep ports) routers
  are_disjoint {subnets} {routers} c = record {
    in_network = c.in_network;
    at_router = each-filter keep (λ p. not (list_any (ports_clash routers subnets p) ports) ≡ true) (λ p. not (list_any (ports_clash routers subnets p) (filter keep ports)) ≡ true) ports
        (λ p kept h. ap not (any-filter_none keep (ports_clash routers subnets p) ports (not_true _ h))) c.at_router;
  }

  pub are_on_hosts : {routers : List RouterRow}
      → AreOnHosts ports routers → AreOnHosts (filter keep ports) routers
  are_on_hosts {routers} c = record {
    at_router = left _ c.at_router;
  }

  -- what the settings let the hosts carry
  pub are_carried : (carries : List ℕ → Segment → Bool) {networks : List NetworkRow} → AreCarried carries networks ports → AreCarried carries networks (filter keep ports)
  are_carried carries c = record { at_host = left _ c.at_host }

  pub groups_serve : {projects : List ProjectRow} {groups : List GroupRow} {rules : List RuleRow}
      → GroupsServe projects ports groups rules → GroupsServe projects (filter keep ports) groups rules
  groups_serve {projects} {groups} {rules} c = record {
    defaults = c.defaults;
    of_ports = left _ c.of_ports;
    bare = left _ c.bare;
    remotes = c.remotes;
    apart = c.apart;
  }

  pub ports_are_allowed : {networks : List NetworkRow} {policies : List PolicyRow}
      → PortsAreAllowed networks ports policies → PortsAreAllowed networks (filter keep ports) policies
  ports_are_allowed {networks} {policies} c = record {
    of_ports = left _ c.of_ports;
  }

  -- where no DHCP port goes
  pub dhcp_ports_serve : {networks : List NetworkRow} {subnets : List SubnetRow}
      → Each (λ p. keep p ≡ false → is_dhcp p.owner ≡ false) ports → DhcpPortsServe networks subnets ports → DhcpPortsServe networks subnets (filter keep ports)
  dhcp_ports_serve {networks} {subnets} goes c = record {
    there = λ k n at. sum-filter keep (λ p. cond (is_dhcp_of n.id p) 1 0) ports (λ l p at_p gone. ap (λ b. cond b 1 0) (and_fails (ident_eq n.id p.network) (is_dhcp p.owner) (goes l p at_p gone))) ∙ c.there k n at;
    holds = left _ c.holds;
    no_other = left _ c.no_other;
    unsecured = left _ c.unsecured;
  }

  -- where no gateway port goes
  pub router_ports_serve : {routers : List RouterRow}
      → Each (λ p. keep p ≡ false → is_gateway p.owner ≡ false) ports → RouterPortsServe ports routers → RouterPortsServe (filter keep ports) routers
  router_ports_serve {routers} goes c = record {
    devices = left _ c.devices;
    interfaces = left _ c.interfaces;
    gateways = left _ c.gateways;
    unsecured = left _ c.unsecured;
    counts = λ k r at. sum-filter keep (λ p. cond (is_gateway_of r.id p) 1 0) ports (λ l p at_p gone. ap (λ b. cond b 1 0) (first_fails (is_gateway p.owner) (device_is p.device r.id) (goes l p at_p gone))) ∙ c.counts k r at;
    named = λ k r at. if_some-weaker _ _ r.gateway (λ (g : Gateway). any-filter_kept keep (is_named_gateway r g) (is_named_gateway r g) ports
        (λ l p at_p h. (stays p (λ gone. sym (goes l p at_p gone) ∙ (and_both (is_gateway p.owner) (device_is p.device r.id) (and_both (is_gateway_of r.id p) _ h).0).0), h))) (c.named k r at);
  }

  -- where no floating address's own port goes
  pub own_ports_serve : {floatings : List FloatingRow}
      → Each (λ p. keep p ≡ false → is_own_port floatings p.id ≡ false) ports → OwnPortsServe ports floatings → OwnPortsServe (filter keep ports) floatings
  own_ports_serve {floatings} goes c = record {
    once = c.once;
    there = λ k f at. any-filter_kept keep (λ p. ident_eq f.own_port p.id && is_port_for f p) (λ p. ident_eq f.own_port p.id && is_port_for f p) ports
        (λ l p at_p h. (stays p (λ gone. sym (goes l p at_p gone) ∙ at-any (λ g. ident_eq p.id g.own_port) floatings k f at (ident_sym f.own_port p.id (and_both (ident_eq f.own_port p.id) _ h).0)), h)) (c.there k f at);
    unsecured = left _ c.unsecured;
  }

  -- where no router's port goes
  pub routes_lead : {subnets : List SubnetRow} {routers : List RouterRow}
      → Each (λ p. keep p ≡ false → is_router_port p.owner ≡ false) ports → RoutesLead subnets ports routers → RoutesLead subnets (filter keep ports) routers
  routes_lead {subnets} {routers} goes c = record {
    routes = λ k r at. all-weaker (is_reached subnets ports r) (is_reached subnets (filter keep ports) r) r.routes
        (λ hop. any-filter_kept keep (λ p. is_port_of r p && list_any (λ s. holds_in s.id p && contains s.prefix hop.next) subnets) (λ p. is_port_of r p && list_any (λ s. holds_in s.id p && contains s.prefix hop.next) subnets) ports
        (λ l p at_p h. (stays p (λ gone. sym (goes l p at_p gone) ∙ (and_both (is_router_port p.owner) (device_is p.device r.id) (and_both (is_port_of r p) _ h).0).0), h))) (c.routes k r at);
  }

  -- where no router's interface goes, and no port that a floating address leads to
  pub floatings_lead : {routers : List RouterRow} {floatings : List FloatingRow}
      → Each (λ p. keep p ≡ false → is_interface p.owner ≡ false) ports → Each (λ p. keep p ≡ false → list_any (λ f. is_some_so (λ (t : Target). ident_eq p.id t.port) f.target) floatings ≡ false) ports → FloatingsLead ports routers floatings → FloatingsLead (filter keep ports) routers floatings
  floatings_lead {routers} {floatings} goes targets c = record {
    once = c.once;
    targets = λ k f at. if_some-weaker_at (leads_to ports routers f) (leads_to (filter keep ports) routers f) f.target
        (λ (t : Target) is h. and_left_weaker _ _ _ (any-filter_kept keep (λ p. ident_eq t.port p.id && is_target_port ports f t p) (λ p. ident_eq t.port p.id && is_target_port (filter keep ports) f t p) ports
        (λ l p at_p g. (
          stays p (λ gone. sym (targets l p at_p gone) ∙ at-any (λ e. is_some_so (λ (u : Target). ident_eq p.id u.port) e.target) floatings k f at
              (ap (is_some_so (λ (u : Target). ident_eq p.id u.port)) is ∙ ident_sym t.port p.id (and_both (ident_eq t.port p.id) _ g).0)),
          and_weaker (ident_eq t.port p.id) _ _ (and_weaker (bytes_eq p.project f.project) _ _ (any-weaker _ _ p.fixed (λ (x : Fixed). and_weaker (is_four x.address t.fixed) _ _
              (any-filter_kept keep (λ q. is_interface q.owner && (device_is q.device t.router && holds_in x.subnet q)) (λ q. is_interface q.owner && (device_is q.device t.router && holds_in x.subnet q)) ports
              (λ m q at_q e. (stays q (λ gone. sym (goes m q at_q gone) ∙ (and_both (is_interface q.owner) _ e).0), e)))))) g,
        ))) h) (c.targets k f at);
  }

module _ (keep : PortRow → Bool) (rows : RowLists) where
  pub are_drawn : AreDrawn rows → AreDrawn (with_ports_kept keep rows)
  are_drawn c = record {
    networks = c.networks;
    subnets = c.subnets;
    ports = left keep rows.ports _ c.ports;
    groups = c.groups;
    rules = c.rules;
    routers = c.routers;
    floatings = c.floatings;
    policies = c.policies;
  }

  pub projects_stand : ProjectsStand rows → ProjectsStand (with_ports_kept keep rows)
  projects_stand c = record {
    of_networks = c.of_networks;
    of_subnets = c.of_subnets;
    of_ports = left keep rows.ports _ c.of_ports;
    of_groups = c.of_groups;
    of_rules = c.of_rules;
    of_routers = c.of_routers;
    of_floatings = c.of_floatings;
    of_policies = c.of_policies;
  }

  -- ids still differ
  pub ids_differ : IdsDiffer rows → IdsDiffer (with_ports_kept keep rows)
  ids_differ once i = let a = sum-filter-le keep (λ (p : PortRow). cond {A = ℕ} (ident_eq i p.id) 1 0) rows.ports in omega (arith, a, once i)

  module _ (goes : Each (λ p. keep p ≡ false → IsOfNoUse rows.floatings p) rows.ports) (c : IsConsistent rows) where
    -- ports that nothing needs may go
    pub ports_gone : IsConsistent (with_ports_kept keep rows)
    ports_gone = record {
      numbered = record {
        projects = c.numbered.projects;
        ids = ids_differ c.numbered.ids;
        drawn = are_drawn c.numbered.drawn;
      };
      named = record {
        networks = networks_stand keep rows.ports c.named.networks;
        subnets = subnets_stand keep rows.ports c.named.subnets;
        ports = ports_stand keep rows.ports (λ k p at gone. (goes k p at gone).no_gateway) (λ k p at gone. (goes k p at gone).no_own_port) (λ k p at gone. (goes k p at gone).no_target)
            c.services.of_routers c.named.ports;
        groups = groups_stand keep rows.ports c.named.groups;
        routers = c.named.routers;
        projects = projects_stand c.named.projects;
      };
      in_form = in_form keep rows.ports c.in_form;
      held_once = are_held_once keep rows.ports c.held_once;
      hosts = are_hosts keep rows.ports c.hosts;
      disjoint = are_disjoint keep rows.ports c.disjoint;
      segments = c.segments;
      on_hosts = are_on_hosts keep rows.ports c.on_hosts;
      services = record {
        dhcp = dhcp_ports_serve keep rows.ports (λ k p at gone. (goes k p at gone).no_dhcp) c.services.dhcp;
        of_routers = router_ports_serve keep rows.ports (λ k p at gone. (goes k p at gone).no_gateway) c.services.of_routers;
        of_floatings = own_ports_serve keep rows.ports (λ k p at gone. (goes k p at gone).no_own_port) c.services.of_floatings;
      };
      floatings = floatings_lead keep rows.ports (λ k p at gone. (goes k p at gone).no_interface) (λ k p at gone. (goes k p at gone).no_target) c.floatings;
      groups = groups_serve keep rows.ports c.groups;
      allowed = ports_are_allowed keep rows.ports c.allowed;
      outsides = c.outsides;
      routes = routes_lead keep rows.ports (λ k p at gone j. (goes k p at gone).no_interface j || (goes k p at gone).no_gateway j) c.routes;
    }

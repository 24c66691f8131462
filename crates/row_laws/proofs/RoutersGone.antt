-- Fewer routers keep each clause that reads routers, and rows consistent where nothing uses those that go.
use Rattle.std.proofs.Common.{◌≡◌, ◌∙◌, ℕ, List, Bool, true, false, cond, Some, slice_get, refl, ap, sym, arith}
use Rattle.std.specs.Prelude.{◌&&◌, ◌||◌, not, filter}
use Rattle.std.specs.List.{list_any}
use Rattle.std.specs.Str.{bytes_eq}
use Rattle.api_types.specs.Table.{ident_eq}
use Rattle.api_types.specs.RowLists.{RowLists}
use Rattle.api_types.specs.Lists.{Each, stands_so, is_some_so}
use Rattle.api_types.specs.Owners.{is_router_port, is_port_of}
use Rattle.api_types.specs.Consistent.Carried.{is_bound, AreOnHosts}
use Rattle.api_types.specs.Consistent.Disjoint.{reach_alike, ports_clash, AreDisjoint}
use Rattle.api_types.specs.Consistent.Floating.{is_target_port, is_target_router, leads_to, FloatingsLead}
use Rattle.api_types.specs.Consistent.InForm.{AreInForm}
use Rattle.api_types.specs.Consistent.Named.{is_router, NetworksStand, PortsStand, RoutersStand, ProjectsStand}
use Rattle.api_types.specs.Consistent.NextHops.{RoutesLead}
use Rattle.api_types.specs.Consistent.Numbered.{IdsDiffer, AreDrawn}
use Rattle.api_types.specs.Consistent.Permitted.{OutsidesAreAllowed}
use Rattle.api_types.specs.Consistent.Services.{RouterPortsServe}
use Rattle.api_types.specs.Consistent.{IsConsistent}
use Rattle.api_types.specs.declared.network.NetworkRow.{NetworkRow}
use Rattle.api_types.specs.declared.subnet.SubnetRow.{SubnetRow}
use Rattle.api_types.specs.declared.port.PortRow.{PortRow}
use Rattle.api_types.specs.declared.group.GroupRow.{GroupRow}
use Rattle.api_types.specs.declared.group.RuleRow.{RuleRow}
use Rattle.api_types.specs.declared.router.RouterRow.{RouterRow}
use Rattle.api_types.specs.declared.floating.FloatingRow.{FloatingRow}
use Rattle.api_types.specs.declared.floating.Target.{Target}
use Rattle.api_types.specs.declared.policy.PolicyRow.{PolicyRow}
use Rattle.row_laws.specs.Gone.{with_routers_kept, IsUnusedRouter}
use Rattle.api_types.proofs.ListLemmas.{false_true, and_both, both_and, at-any, any-weaker, each-filter, sum-filter-le, any-filter_kept, any-filter_back}
use Rattle.api_types.proofs.NameLemmas.{by_test, or_weaker, and_weaker, and_left_weaker, not_true, fails_by, ident_sym, filter-all_of, if_some-weaker_at}

module _ (keep : RouterRow → Bool) (routers : List RouterRow) where
  left : (P : RouterRow → Type 0) → Each P routers → Each P (filter keep routers)
  left P = each-filter keep P P routers (λ r kept h. h)

  -- a router that has to stay stays
  stays : (r : RouterRow) → (keep r ≡ false → false ≡ true) → keep r ≡ true
  stays r h = by_test (keep r) (keep r ≡ true) (λ passes. passes) (λ fails. false_true _ (h fails))

  -- a router that a floating address leads by stays
  target_stays : (floatings : List FloatingRow) → Each (λ r. keep r ≡ false → list_any (λ f. is_some_so (λ (t : Target). ident_eq r.id t.router) f.target) floatings ≡ false) routers → (test : RouterRow → Bool) (k : ℕ) (f : FloatingRow) → slice_get floatings k ≡ Some f → (t : Target) → f.target ≡ Some t
      → list_any (λ r. ident_eq t.router r.id && test r) routers ≡ true → list_any (λ r. ident_eq t.router r.id && test r) (filter keep routers) ≡ true
  target_stays floatings unled test k f at t is = any-filter_kept keep (λ r. ident_eq t.router r.id && test r) (λ r. ident_eq t.router r.id && test r) routers
      (λ l r at_r h. (
        stays r (λ gone. sym (unled l r at_r gone) ∙ at-any (λ e. is_some_so (λ (u : Target). ident_eq r.id u.router) e.target) floatings k f at
            (ap (is_some_so (λ (u : Target). ident_eq r.id u.router)) is ∙ ident_sym t.router r.id (and_both (ident_eq t.router r.id) (test r) h).0)),
        h,
      ))

  pub networks_stand : {networks : List NetworkRow} {subnets : List SubnetRow} {ports : List PortRow} {floatings : List FloatingRow} {policies : List PolicyRow}
      → NetworksStand networks subnets ports routers floatings policies → NetworksStand networks subnets ports (filter keep routers) floatings policies
  networks_stand {networks} {subnets} {ports} {floatings} {policies} c = record {
    of_subnets = c.of_subnets;
    of_ports = c.of_ports;
    of_gateways = left _ c.of_gateways;
    of_floatings = c.of_floatings;
    of_policies = c.of_policies;
  }

  pub ports_stand : {ports : List PortRow} {floatings : List FloatingRow}
      → PortsStand ports routers floatings → PortsStand ports (filter keep routers) floatings
  ports_stand {ports} {floatings} c = record {
    of_gateways = left _ c.of_gateways;
    of_floatings = c.of_floatings;
    of_targets = c.of_targets;
  }

  -- where no floating address leads by one that goes
  pub routers_stand : {floatings : List FloatingRow}
      → Each (λ r. keep r ≡ false → list_any (λ f. is_some_so (λ (t : Target). ident_eq r.id t.router) f.target) floatings ≡ false) routers → RoutersStand routers floatings → RoutersStand (filter keep routers) floatings
  routers_stand {floatings} unled c = record {
    of_targets = λ k f at. if_some-weaker_at (λ (t : Target). is_router routers t.router) (λ (t : Target). is_router (filter keep routers) t.router) f.target (λ (t : Target) is h.
        any-weaker (λ r. ident_eq t.router r.id && true) (λ r. ident_eq t.router r.id) (filter keep routers) (λ r g. (and_both (ident_eq t.router r.id) true g).0)
        (target_stays floatings unled (λ r. true) k f at t is (any-weaker (λ r. ident_eq t.router r.id) (λ r. ident_eq t.router r.id && true) routers (λ r g. both_and (ident_eq t.router r.id) true g refl) h))) (c.of_targets k f at);
  }

  pub in_form : {networks : List NetworkRow} {subnets : List SubnetRow} {ports : List PortRow} {groups : List GroupRow} {rules : List RuleRow}
      → AreInForm networks subnets ports groups rules routers → AreInForm networks subnets ports groups rules (filter keep routers)
  in_form {networks} {subnets} {ports} {groups} {rules} c = record {
    segments = c.segments;
    subnet_owners = c.subnet_owners;
    subnet_forms = c.subnet_forms;
    dhcp_owners = c.dhcp_owners;
    port_forms = c.port_forms;
    rule_owners = c.rule_owners;
    routes = left _ c.routes;
  }

  pub are_disjoint : {subnets : List SubnetRow} {ports : List PortRow}
      → AreDisjoint subnets ports routers → AreDisjoint subnets ports (filter keep routers)
  are_disjoint {subnets} {ports} c = record {
    in_network = c.in_network;
    at_router = λ k p at. ap not (fails_by (list_any (ports_clash (filter keep routers) subnets p) ports) (list_any (ports_clash routers subnets p) ports)
        (any-weaker _ _ ports (λ q. and_weaker (not (ident_eq p.id q.id)) _ _ (and_left_weaker _ _ (reach_alike subnets p q) (any-filter_back keep (λ r. is_port_of r p && is_port_of r q) routers)))) (not_true _ (c.at_router k p at)));
  }

  pub are_on_hosts : {ports : List PortRow}
      → AreOnHosts ports routers → AreOnHosts ports (filter keep routers)
  are_on_hosts {ports} c = record {
    at_router = λ k p at. or_weaker (not (is_bound p.vif)) _ _ (filter-all_of keep (λ r. not (is_port_of r p) || is_some_so (bytes_eq p.host) r.host) routers) (c.at_router k p at);
  }

  -- where no port names one that goes
  pub router_ports_serve : {ports : List PortRow}
      → Each (λ r. keep r ≡ false → Each (λ p. is_port_of r p ≡ false) ports) routers → RouterPortsServe ports routers → RouterPortsServe ports (filter keep routers)
  router_ports_serve {ports} free c = record {
    devices = λ k p at. or_weaker (not (is_router_port p.owner)) _ _ (any-filter_kept keep (λ r. is_port_of r p) (λ r. is_port_of r p) routers
        (λ l r at_r h. (stays r (λ gone. sym (free l r at_r gone k p at) ∙ h), h))) (c.devices k p at);
    interfaces = c.interfaces;
    gateways = c.gateways;
    unsecured = c.unsecured;
    counts = left _ c.counts;
    named = left _ c.named;
  }

  -- where no floating address leads by one that goes
  pub floatings_lead : {ports : List PortRow} {floatings : List FloatingRow}
      → Each (λ r. keep r ≡ false → list_any (λ f. is_some_so (λ (t : Target). ident_eq r.id t.router) f.target) floatings ≡ false) routers → FloatingsLead ports routers floatings → FloatingsLead ports (filter keep routers) floatings
  floatings_lead {ports} {floatings} unled c = record {
    once = c.once;
    targets = λ k f at. if_some-weaker_at (leads_to ports routers f) (leads_to ports (filter keep routers) f) f.target (λ (t : Target) is.
        and_weaker (stands_so (λ p. p.id) t.port (is_target_port ports f t) ports) _ _ (target_stays floatings unled (is_target_router f) k f at t is)) (c.targets k f at);
  }

  pub outsides_are_allowed : {floatings : List FloatingRow} {policies : List PolicyRow}
      → OutsidesAreAllowed routers floatings policies → OutsidesAreAllowed (filter keep routers) floatings policies
  outsides_are_allowed {floatings} {policies} c = record {
    gateways = left _ c.gateways;
    addresses = c.addresses;
    once = c.once;
  }

  pub routes_lead : {subnets : List SubnetRow} {ports : List PortRow}
      → RoutesLead subnets ports routers → RoutesLead subnets ports (filter keep routers)
  routes_lead {subnets} {ports} c = record {
    routes = left _ c.routes;
  }

module _ (keep : RouterRow → Bool) (rows : RowLists) where
  pub are_drawn : AreDrawn rows → AreDrawn (with_routers_kept keep rows)
  are_drawn c = record {
    networks = c.networks;
    subnets = c.subnets;
    ports = c.ports;
    groups = c.groups;
    rules = c.rules;
    routers = left keep rows.routers _ c.routers;
    floatings = c.floatings;
    policies = c.policies;
  }

  pub projects_stand : ProjectsStand rows → ProjectsStand (with_routers_kept keep rows)
  projects_stand c = record {
    of_networks = c.of_networks;
    of_subnets = c.of_subnets;
    of_ports = c.of_ports;
    of_groups = c.of_groups;
    of_rules = c.of_rules;
    of_routers = left keep rows.routers _ c.of_routers;
    of_floatings = c.of_floatings;
    of_policies = c.of_policies;
  }

  -- ids still differ
  pub ids_differ : IdsDiffer rows → IdsDiffer (with_routers_kept keep rows)
  ids_differ once i = let a = sum-filter-le keep (λ (r : RouterRow). cond {A = ℕ} (ident_eq i r.id) 1 0) rows.routers in omega (arith, a, once i)

  -- routers that nothing uses may go
  pub routers_gone : Each (λ r. keep r ≡ false → IsUnusedRouter rows.ports rows.floatings r) rows.routers → IsConsistent rows → IsConsistent (with_routers_kept keep rows)
  routers_gone goes c = record {
    numbered = record {
      projects = c.numbered.projects;
      ids = ids_differ c.numbered.ids;
      drawn = are_drawn c.numbered.drawn;
    };
    named = record {
      networks = networks_stand keep rows.routers c.named.networks;
      subnets = c.named.subnets;
      ports = ports_stand keep rows.routers c.named.ports;
      groups = c.named.groups;
      routers = routers_stand keep rows.routers (λ k r at gone. (goes k r at gone).unled) c.named.routers;
      projects = projects_stand c.named.projects;
    };
    in_form = in_form keep rows.routers c.in_form;
    held_once = c.held_once;
    hosts = c.hosts;
    disjoint = are_disjoint keep rows.routers c.disjoint;
    segments = c.segments;
    on_hosts = are_on_hosts keep rows.routers c.on_hosts;
    services = record {
      dhcp = c.services.dhcp;
      of_routers = router_ports_serve keep rows.routers (λ k r at gone. (goes k r at gone).unnamed) c.services.of_routers;
      of_floatings = c.services.of_floatings;
    };
    floatings = floatings_lead keep rows.routers (λ k r at gone. (goes k r at gone).unled) c.floatings;
    groups = c.groups;
    allowed = c.allowed;
    outsides = outsides_are_allowed keep rows.routers c.outsides;
    routes = routes_lead keep rows.routers c.routes;
  }

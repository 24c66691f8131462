-- A router that is replaced by one of the same id keeps each clause that reads routers, and one with the same gateway keeps rows consistent.
use Rattle.std.proofs.Common.{◌≡◌, ◌∙◌, ℕ, List, Bool, true, Option, None, Some, slice_get, slice_set, refl, ap, sym, arith, length}
use Rattle.std.specs.Prelude.{◌&&◌, ◌||◌, not, count_by, nat_le}
use Rattle.std.specs.List.{list_any, list_all}
use Rattle.std.specs.Str.{bytes_eq}
use Rattle.api_types.specs.Ident.{Ident}
use Rattle.api_types.specs.Table.{ident_eq}
use Rattle.api_types.specs.RowLists.{RowLists}
use Rattle.api_types.specs.Lists.{Each, stands_so, if_some, is_some_so}
use Rattle.api_types.specs.Owners.{is_router_port, device_is, is_port_of}
use Rattle.api_types.specs.Sharing.{is_external_to}
use Rattle.api_types.specs.Consistent.Carried.{is_bound, AreOnHosts}
use Rattle.api_types.specs.Consistent.Disjoint.{reach_alike, ports_clash, AreDisjoint}
use Rattle.api_types.specs.Consistent.Floating.{is_target_port, is_target_router, leads_to, FloatingsLead}
use Rattle.api_types.specs.Consistent.InForm.{AreInForm}
use Rattle.api_types.specs.Consistent.Named.{is_network, is_port, is_registered, serves, NetworksStand, PortsStand, RoutersStand, ProjectsStand}
use Rattle.api_types.specs.Consistent.NextHops.{is_reached, RoutesLead}
use Rattle.api_types.specs.Consistent.Numbered.{is_drawn, AreDrawn}
use Rattle.api_types.specs.Consistent.Permitted.{OutsidesAreAllowed}
use Rattle.api_types.specs.Consistent.Services.{is_gateway_of, is_named_gateway, wanted_gateways, RouterPortsServe}
use Rattle.api_types.specs.Consistent.{IsConsistent}
use Rattle.api_types.specs.declared.network.NetworkRow.{NetworkRow}
use Rattle.api_types.specs.declared.subnet.SubnetRow.{SubnetRow}
use Rattle.api_types.specs.declared.port.PortRow.{PortRow}
use Rattle.api_types.specs.declared.group.GroupRow.{GroupRow}
use Rattle.api_types.specs.declared.group.RuleRow.{RuleRow}
use Rattle.api_types.specs.declared.router.RouterRow.{RouterRow}
use Rattle.api_types.specs.declared.router.Gateway.{Gateway}
use Rattle.api_types.specs.declared.floating.FloatingRow.{FloatingRow}
use Rattle.api_types.specs.declared.floating.Target.{Target}
use Rattle.api_types.specs.declared.policy.PolicyRow.{PolicyRow}
use Rattle.row_laws.specs.Replaced.{with_router_at, gateways_agree, IsReplacedRouter, IsRerouted}
use Rattle.api_types.proofs.ListLemmas.{false_true, and_both, both_and, each-set, any-set_same, any-set_grows}
use Rattle.api_types.proofs.NameLemmas.{ident_same, or_weaker, if_some-weaker, and_weaker, all-at, set-all, any-agree, count-set, if_some-weaker_at}

-- what is asked of a gateway's network and port alone
if_same : (test : Ident → Ident → Bool) (a b : Option Gateway) → gateways_agree a b ≡ true → if_some (λ (g : Gateway). test g.network g.port) b ≡ if_some (λ (g : Gateway). test g.network g.port) a
if_same test None None h = refl
if_same test (Some g) (Some k) h = let both = and_both (ident_eq g.network k.network) _ h in sym (λ j. test (ident_same g.network k.network both.0 j) (ident_same g.port k.port both.1 j))
if_same test None (Some k) h = false_true _ h
if_same test (Some g) None h = false_true _ h

led_same : (test : Ident → Ident → Bool) (a b : Option Gateway) → gateways_agree a b ≡ true → is_some_so (λ (g : Gateway). test g.network g.port) b ≡ is_some_so (λ (g : Gateway). test g.network g.port) a
led_same test None None h = refl
led_same test (Some g) (Some k) h = if_same test (Some g) (Some k) h
led_same test None (Some k) h = false_true _ h
led_same test (Some g) None h = false_true _ h

wanted_same : (a b : Option Gateway) → gateways_agree a b ≡ true → wanted_gateways a ≡ wanted_gateways b
wanted_same None None h = refl
wanted_same (Some g) (Some k) h = refl
wanted_same None (Some k) h = false_true _ h
wanted_same (Some g) None h = false_true _ h

module _ (routers : List RouterRow) (place : ℕ) (old new : RouterRow) (at : slice_get routers place ≡ Some old) (same : new.id ≡ old.id) where
  -- a test that reads the id alone is the same on both rows
  pub put : (test : Ident → Bool) → list_any (λ r. test r.id) (slice_set routers place new) ≡ list_any (λ r. test r.id) routers
  put test = any-set_same (λ r. test r.id) routers place old new at (ap test same)

  pub networks_stand : {networks : List NetworkRow} {subnets : List SubnetRow} {ports : List PortRow} {floatings : List FloatingRow} {policies : List PolicyRow}
      → if_some (λ (g : Gateway). is_network networks g.network) new.gateway ≡ true → NetworksStand networks subnets ports routers floatings policies → NetworksStand networks subnets ports (slice_set routers place new) floatings policies
  networks_stand {networks} {subnets} {ports} {floatings} {policies} network c = record {
    of_subnets = c.of_subnets;
    of_ports = c.of_ports;
    of_gateways = each-set (λ q. if_some (λ (g : Gateway). is_network networks g.network) q.gateway ≡ true) routers place new c.of_gateways network;
    of_floatings = c.of_floatings;
    of_policies = c.of_policies;
  }

  pub ports_stand : {ports : List PortRow} {floatings : List FloatingRow}
      → if_some (λ (g : Gateway). is_port ports g.port) new.gateway ≡ true → PortsStand ports routers floatings → PortsStand ports (slice_set routers place new) floatings
  ports_stand {ports} {floatings} port c = record {
    of_gateways = each-set (λ q. if_some (λ (g : Gateway). is_port ports g.port) q.gateway ≡ true) routers place new c.of_gateways port;
    of_floatings = c.of_floatings;
    of_targets = c.of_targets;
  }

  pub routers_stand : {floatings : List FloatingRow}
      → RoutersStand routers floatings → RoutersStand (slice_set routers place new) floatings
  routers_stand {floatings} c = record {
    of_targets = λ k f h. if_some-weaker _ _ f.target (λ (t : Target) g. put (ident_eq t.router) ∙ g) (c.of_targets k f h);
  }

  pub in_form : {networks : List NetworkRow} {subnets : List SubnetRow} {ports : List PortRow} {groups : List GroupRow} {rules : List RuleRow}
      → nat_le (length new.routes) 30 ≡ true → AreInForm networks subnets ports groups rules routers → AreInForm networks subnets ports groups rules (slice_set routers place new)
  in_form {networks} {subnets} {ports} {groups} {rules} few c = record {
    segments = c.segments;
    subnet_owners = c.subnet_owners;
    subnet_forms = c.subnet_forms;
    dhcp_owners = c.dhcp_owners;
    port_forms = c.port_forms;
    rule_owners = c.rule_owners;
    routes = each-set (λ q. nat_le (length q.routes) 30 ≡ true) routers place new c.routes few;
  }

  pub are_disjoint : {subnets : List SubnetRow} {ports : List PortRow}
      → AreDisjoint subnets ports routers → AreDisjoint subnets ports (slice_set routers place new)
  are_disjoint {subnets} {ports} c = record {
    in_network = c.in_network;
    at_router = λ k p h. ap not (any-agree (ports_clash (slice_set routers place new) subnets p) (ports_clash routers subnets p) ports
        (λ q. ap (λ b. not (ident_eq p.id q.id) && (b && reach_alike subnets p q)) (put (λ i. (is_router_port p.owner && device_is p.device i) && (is_router_port q.owner && device_is q.device i))))) ∙ c.at_router k p h;
  }

  -- on the same host
  pub are_on_hosts : {ports : List PortRow}
      → new.host ≡ old.host → AreOnHosts ports routers → AreOnHosts ports (slice_set routers place new)
  are_on_hosts {ports} host c = record {
    at_router = λ k p h. or_weaker (not (is_bound p.vif)) _ _ (λ g. set-all (λ q. not (is_port_of q p) || is_some_so (bytes_eq p.host) q.host) routers place new g
        ((λ j. not (is_router_port p.owner && device_is p.device (same j)) || is_some_so (bytes_eq p.host) (host j)) ∙ all-at (λ q. not (is_port_of q p) || is_some_so (bytes_eq p.host) q.host) routers g place old at)) (c.at_router k p h);
  }

  pub router_ports_serve : {ports : List PortRow}
      → count_by (is_gateway_of new.id) ports ≡ wanted_gateways new.gateway → if_some (λ g. list_any (is_named_gateway new g) ports) new.gateway ≡ true → RouterPortsServe ports routers → RouterPortsServe ports (slice_set routers place new)
  router_ports_serve {ports} count named c = record {
    devices = λ k p h. or_weaker (not (is_router_port p.owner)) _ _ (λ g. put (λ i. is_router_port p.owner && device_is p.device i) ∙ g) (c.devices k p h);
    interfaces = c.interfaces;
    gateways = c.gateways;
    unsecured = c.unsecured;
    counts = each-set (λ q. count_by (is_gateway_of q.id) ports ≡ wanted_gateways q.gateway) routers place new c.counts count;
    named = each-set (λ q. if_some (λ g. list_any (is_named_gateway q g) ports) q.gateway ≡ true) routers place new c.named named;
  }

  -- where it serves the floating addresses that lead by it
  pub floatings_lead : {ports : List PortRow} {floatings : List FloatingRow}
      → Each (λ f. (t : Target) → f.target ≡ Some t → ident_eq t.router old.id ≡ true → is_target_router f old ≡ true → is_target_router f new ≡ true) floatings → FloatingsLead ports routers floatings → FloatingsLead ports (slice_set routers place new) floatings
  floatings_lead {ports} {floatings} serves c = record {
    once = c.once;
    targets = λ k f h. if_some-weaker_at (leads_to ports routers f) (leads_to ports (slice_set routers place new) f) f.target (λ (t : Target) is.
        and_weaker (stands_so (λ p. p.id) t.port (is_target_port ports f t) ports) _ _ (any-set_grows (λ q. ident_eq t.router q.id && is_target_router f q) routers place old new at
        (λ e. let parts = and_both (ident_eq t.router old.id) (is_target_router f old) e in both_and (ident_eq t.router new.id) (is_target_router f new) (ap (ident_eq t.router) same ∙ parts.0) (serves k f h t is parts.0 parts.1)))) (c.targets k f h);
  }

  pub outsides_are_allowed : {floatings : List FloatingRow} {policies : List PolicyRow}
      → if_some (λ (g : Gateway). is_external_to policies g.network new.project) new.gateway ≡ true → OutsidesAreAllowed routers floatings policies → OutsidesAreAllowed (slice_set routers place new) floatings policies
  outsides_are_allowed {floatings} {policies} permitted c = record {
    gateways = each-set (λ q. if_some (λ (g : Gateway). is_external_to policies g.network q.project) q.gateway ≡ true) routers place new c.gateways permitted;
    addresses = c.addresses;
    once = c.once;
  }

  pub routes_lead : {subnets : List SubnetRow} {ports : List PortRow}
      → list_all (is_reached subnets ports new) new.routes ≡ true → RoutesLead subnets ports routers → RoutesLead subnets ports (slice_set routers place new)
  routes_lead {subnets} {ports} reached c = record {
    routes = each-set (λ q. list_all (is_reached subnets ports q) q.routes ≡ true) routers place new c.routes reached;
  }

module _ (rows : RowLists) (place : ℕ) (old new : RouterRow) (at : slice_get rows.routers place ≡ Some old) (same : IsReplacedRouter old new) where
  pub are_drawn : AreDrawn rows → AreDrawn (with_router_at rows place new)
  are_drawn c = record {
    networks = c.networks;
    subnets = c.subnets;
    ports = c.ports;
    groups = c.groups;
    rules = c.rules;
    routers = each-set (λ r. is_drawn rows.projects r.id ≡ true) rows.routers place new c.routers (ap (is_drawn rows.projects) same.id ∙ c.routers place old at);
    floatings = c.floatings;
    policies = c.policies;
  }

  pub projects_stand : ProjectsStand rows → ProjectsStand (with_router_at rows place new)
  projects_stand c = record {
    of_networks = c.of_networks;
    of_subnets = c.of_subnets;
    of_ports = c.of_ports;
    of_groups = c.of_groups;
    of_rules = c.of_rules;
    of_routers = each-set (λ r. is_registered rows.projects r.project ≡ true) rows.routers place new c.of_routers (ap (is_registered rows.projects) same.project ∙ c.of_routers place old at);
    of_floatings = c.of_floatings;
    of_policies = c.of_policies;
  }

  -- one with the same gateway
  pub router_replaced : IsRerouted rows old new → IsConsistent rows → IsConsistent (with_router_at rows place new)
  router_replaced is c = record {
    numbered = record {
      projects = c.numbered.projects;
      ids = λ i. let e = count-set (λ s. ident_eq i s.id) rows.routers place old new at (ap (ident_eq i) same.id) in omega (arith, e, c.numbered.ids i);
      drawn = are_drawn c.numbered.drawn;
    };
    named = record {
      networks = networks_stand rows.routers place old new at same.id (kept (λ n i. is_network rows.networks n) (c.named.networks.of_gateways place old at)) c.named.networks;
      subnets = c.named.subnets;
      ports = ports_stand rows.routers place old new at same.id (kept (λ n i. is_port rows.ports i) (c.named.ports.of_gateways place old at)) c.named.ports;
      groups = c.named.groups;
      routers = routers_stand rows.routers place old new at same.id c.named.routers;
      projects = projects_stand c.named.projects;
    };
    in_form = in_form rows.routers place old new at same.id is.few c.in_form;
    held_once = c.held_once;
    hosts = c.hosts;
    disjoint = are_disjoint rows.routers place old new at same.id c.disjoint;
    segments = c.segments;
    on_hosts = are_on_hosts rows.routers place old new at same.id same.host c.on_hosts;
    services = record {
      dhcp = c.services.dhcp;
      of_routers = router_ports_serve rows.routers place old new at same.id
          ((λ j. count_by (is_gateway_of (same.id j)) rows.ports) ∙ (c.services.of_routers.counts place old at ∙ wanted_same old.gateway new.gateway is.gateway))
          (kept (λ n i. list_any (λ p. is_gateway_of new.id p && (ident_eq n p.network && ident_eq i p.id)) rows.ports)
          ((λ j. if_some (λ (g : Gateway). list_any (λ p. is_gateway_of (same.id j) p && (ident_eq g.network p.network && ident_eq g.port p.id)) rows.ports) old.gateway) ∙ c.services.of_routers.named place old at)) c.services.of_routers;
      of_floatings = c.services.of_floatings;
    };
    floatings = floatings_lead rows.routers place old new at same.id (λ k f h t told e served.
        let both = and_both (bytes_eq old.project f.project) _ served in
        both_and (bytes_eq new.project f.project) _ (ap (λ n. bytes_eq n f.project) same.project ∙ both.0)
        (led_same (λ n i. ident_eq n f.network) old.gateway new.gateway is.gateway ∙ both.1)) c.floatings;
    groups = c.groups;
    allowed = c.allowed;
    outsides = outsides_are_allowed rows.routers place old new at same.id
        (kept (λ n i. is_external_to rows.policies n new.project) ((λ j. if_some (λ (g : Gateway). is_external_to rows.policies g.network (same.project j)) old.gateway) ∙ c.outsides.gateways place old at)) c.outsides;
    routes = routes_lead rows.routers place old new at same.id is.reached c.routes;
  }
    where
      kept : (test : Ident → Ident → Bool) → if_some (λ (g : Gateway). test g.network g.port) old.gateway ≡ true → if_some (λ (g : Gateway). test g.network g.port) new.gateway ≡ true
      kept test h = if_same test old.gateway new.gateway is.gateway ∙ h

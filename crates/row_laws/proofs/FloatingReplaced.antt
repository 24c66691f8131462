-- A floating address that is replaced by one of the same address, project and own port keeps each clause that reads floating addresses, and one that leads in order, or nowhere, keeps rows consistent.
use Rattle.std.proofs.Common.{◌≡◌, ◌≤◌, ◌∙◌, ℕ, List, Bool, true, false, cond, Some, None, slice_get, slice_set, ap, arith}
use Rattle.std.specs.Prelude.{◌==◌, ◌&&◌, ◌||◌, not, count_by}
use Rattle.std.specs.List.{list_any}
use Rattle.api_types.specs.Ident.{Ident}
use Rattle.api_types.specs.Table.{ident_eq}
use Rattle.api_types.specs.RowLists.{RowLists}
use Rattle.api_types.specs.Lists.{stands_so, if_some, is_some_so, is_empty}
use Rattle.api_types.specs.Owners.{is_gateway, is_floating}
use Rattle.api_types.specs.Sharing.{is_external_to}
use Rattle.api_types.specs.Consistent.Carried.{is_unbound}
use Rattle.api_types.specs.Consistent.Floating.{is_target_port, is_target_router, leads_to, stands_for, FloatingsLead}
use Rattle.api_types.specs.Consistent.Named.{is_network, is_port, is_router, is_registered, is_own_port, NetworksStand, PortsStand, RoutersStand, ProjectsStand}
use Rattle.api_types.specs.Consistent.Numbered.{is_drawn, AreDrawn}
use Rattle.api_types.specs.Consistent.Permitted.{OutsidesAreAllowed}
use Rattle.api_types.specs.Consistent.Services.{holds_just, is_port_for, OwnPortsServe}
use Rattle.api_types.specs.Consistent.{IsConsistent}
use Rattle.api_types.specs.declared.network.NetworkRow.{NetworkRow}
use Rattle.api_types.specs.declared.subnet.SubnetRow.{SubnetRow}
use Rattle.api_types.specs.declared.port.PortRow.{PortRow}
use Rattle.api_types.specs.declared.router.RouterRow.{RouterRow}
use Rattle.api_types.specs.declared.floating.FloatingRow.{FloatingRow}
use Rattle.api_types.specs.declared.floating.Target.{Target}
use Rattle.api_types.specs.declared.policy.PolicyRow.{PolicyRow}
use Rattle.row_laws.specs.Replaced.{with_floating_at, IsReplacedFloating, IsRedirected}
use Rattle.api_types.proofs.ListLemmas.{and_both, any-weaker, each-set, any-set_same, sum-set}
use Rattle.api_types.proofs.NameLemmas.{and_fails, count-set, if_some-weaker}

-- the port and the router of a target in order are there
pub port_there : (rows : RowLists) (f : FloatingRow) (t : Target) → leads_to rows.ports rows.routers f t ≡ true → is_port rows.ports t.port ≡ true
port_there rows f t h = any-weaker (λ p. ident_eq t.port p.id && is_target_port rows.ports f t p) (λ p. ident_eq t.port p.id) rows.ports (λ p g. (and_both (ident_eq t.port p.id) _ g).0)
    (and_both _ (stands_so (λ r. r.id) t.router (is_target_router f) rows.routers) h).0

pub router_there : (rows : RowLists) (f : FloatingRow) (t : Target) → leads_to rows.ports rows.routers f t ≡ true → is_router rows.routers t.router ≡ true
router_there rows f t h = any-weaker (λ r. ident_eq t.router r.id && is_target_router f r) (λ r. ident_eq t.router r.id) rows.routers (λ r g. (and_both (ident_eq t.router r.id) _ g).0)
    (and_both (stands_so (λ p. p.id) t.port (is_target_port rows.ports f t) rows.ports) _ h).1

module _ (floatings : List FloatingRow) (place : ℕ) (old new : FloatingRow) (at : slice_get floatings place ≡ Some old) (same : IsReplacedFloating old new) where
  -- what is a port's own stays its own
  own_same : (i : Ident) → is_own_port (slice_set floatings place new) i ≡ is_own_port floatings i
  own_same i = any-set_same (λ f. ident_eq i f.own_port) floatings place old new at (ap (ident_eq i) same.own_port)

  pub networks_stand : {networks : List NetworkRow} {subnets : List SubnetRow} {ports : List PortRow} {routers : List RouterRow} {policies : List PolicyRow}
      → NetworksStand networks subnets ports routers floatings policies → NetworksStand networks subnets ports routers (slice_set floatings place new) policies
  networks_stand {networks} {subnets} {ports} {routers} {policies} c = record {
    of_subnets = c.of_subnets;
    of_ports = c.of_ports;
    of_gateways = c.of_gateways;
    of_floatings = each-set (λ g. is_network networks g.network ≡ true) floatings place new c.of_floatings (ap (is_network networks) same.network ∙ c.of_floatings place old at);
    of_policies = c.of_policies;
  }

  pub ports_stand : {ports : List PortRow} {routers : List RouterRow}
      → if_some (λ (t : Target). is_port ports t.port) new.target ≡ true → PortsStand ports routers floatings → PortsStand ports routers (slice_set floatings place new)
  ports_stand {ports} {routers} target c = record {
    of_gateways = c.of_gateways;
    of_floatings = each-set (λ g. is_port ports g.own_port ≡ true) floatings place new c.of_floatings (ap (is_port ports) same.own_port ∙ c.of_floatings place old at);
    of_targets = each-set (λ g. if_some (λ (t : Target). is_port ports t.port) g.target ≡ true) floatings place new c.of_targets target;
  }

  pub routers_stand : {routers : List RouterRow}
      → if_some (λ (t : Target). is_router routers t.router) new.target ≡ true → RoutersStand routers floatings → RoutersStand routers (slice_set floatings place new)
  routers_stand {routers} target c = record {
    of_targets = each-set (λ g. if_some (λ (t : Target). is_router routers t.router) g.target ≡ true) floatings place new c.of_targets target;
  }

  pub own_ports_serve : {ports : List PortRow}
      → OwnPortsServe ports floatings → OwnPortsServe ports (slice_set floatings place new)
  own_ports_serve {ports} c = record {
    once = λ i. let e = count-set (λ g. ident_eq i g.own_port) floatings place old new at (ap (ident_eq i) same.own_port) in omega (arith, e, c.once i);
    there = each-set (λ g. stands_so (λ p. p.id) g.own_port (is_port_for g) ports ≡ true) floatings place new c.there
        ((λ j. list_any (λ p. ident_eq (same.own_port j) p.id && (ident_eq (same.network j) p.network && is_floating p.owner && holds_just (same.address j) p.fixed && is_unbound p.vif)) ports) ∙ c.there place old at);
    unsecured = λ k p h. ap (λ b. not b || not p.secured) (own_same p.id) ∙ c.unsecured k p h;
  }

  pub floatings_lead : {ports : List PortRow} {routers : List RouterRow}
      → ((network port : Ident) (x : ℕ) → count_by (stands_for network port x) (slice_set floatings place new) ≤ 1) → if_some (leads_to ports routers new) new.target ≡ true → FloatingsLead ports routers floatings → FloatingsLead ports routers (slice_set floatings place new)
  floatings_lead {ports} {routers} once leads c = record {
    once = once;
    targets = each-set (λ g. if_some (leads_to ports routers g) g.target ≡ true) floatings place new c.targets leads;
  }

  pub outsides_are_allowed : {routers : List RouterRow} {policies : List PolicyRow}
      → OutsidesAreAllowed routers floatings policies → OutsidesAreAllowed routers (slice_set floatings place new) policies
  outsides_are_allowed {routers} {policies} c = record {
    gateways = c.gateways;
    addresses = each-set (λ g. is_external_to policies g.network g.project ≡ true) floatings place new c.addresses ((λ j. is_external_to policies (same.network j) (same.project j)) ∙ c.addresses place old at);
    once = c.once;
  }

  -- a floating address that leads nowhere stands for none
  pub leads_nowhere : new.target ≡ None → ((network port : Ident) (x : ℕ) → count_by (stands_for network port x) floatings ≤ 1)
      → (network port : Ident) (x : ℕ) → count_by (stands_for network port x) (slice_set floatings place new) ≤ 1
  leads_nowhere none once network port x =
      let fails : stands_for network port x new ≡ false = and_fails (ident_eq network new.network) _ (ap (is_some_so (λ (t : Target). ident_eq port t.port && (t.fixed == x))) none) in
      let zero : cond {A = ℕ} (stands_for network port x new) 1 0 ≡ 0 = ap (λ (b : Bool). cond {A = ℕ} b 1 0) fails in
      omega (arith, sum-set (λ g. cond {A = ℕ} (stands_for network port x g) 1 0) floatings place old new at, zero, once network port x)

module _ (rows : RowLists) (place : ℕ) (old new : FloatingRow) (at : slice_get rows.floatings place ≡ Some old) (same : IsReplacedFloating old new) where
  pub are_drawn : AreDrawn rows → AreDrawn (with_floating_at rows place new)
  are_drawn c = record {
    networks = c.networks;
    subnets = c.subnets;
    ports = c.ports;
    groups = c.groups;
    rules = c.rules;
    routers = c.routers;
    floatings = each-set (λ r. is_drawn rows.projects r.id ≡ true) rows.floatings place new c.floatings (ap (is_drawn rows.projects) same.id ∙ c.floatings place old at);
    policies = c.policies;
  }

  pub projects_stand : ProjectsStand rows → ProjectsStand (with_floating_at rows place new)
  projects_stand c = record {
    of_networks = c.of_networks;
    of_subnets = c.of_subnets;
    of_ports = λ k p h. (λ j. cond (is_gateway p.owner || own_same rows.floatings place old new at same p.id j) (is_empty p.project) (is_registered rows.projects p.project)) ∙ c.of_ports k p h;
    of_groups = c.of_groups;
    of_rules = c.of_rules;
    of_routers = c.of_routers;
    of_floatings = each-set (λ r. is_registered rows.projects r.project ≡ true) rows.floatings place new c.of_floatings (ap (is_registered rows.projects) same.project ∙ c.of_floatings place old at);
    of_policies = c.of_policies;
  }

  -- one that leads in order or nowhere
  pub floating_replaced : IsRedirected rows place new → IsConsistent rows → IsConsistent (with_floating_at rows place new)
  floating_replaced is c = record {
    numbered = record {
      projects = c.numbered.projects;
      ids = λ i. let e = count-set (λ s. ident_eq i s.id) rows.floatings place old new at (ap (ident_eq i) same.id) in omega (arith, e, c.numbered.ids i);
      drawn = are_drawn c.numbered.drawn;
    };
    named = record {
      networks = networks_stand rows.floatings place old new at same c.named.networks;
      subnets = c.named.subnets;
      ports = ports_stand rows.floatings place old new at same (if_some-weaker (leads_to rows.ports rows.routers new) (λ (t : Target). is_port rows.ports t.port) new.target (λ t h. port_there rows new t h) is.leads) c.named.ports;
      groups = c.named.groups;
      routers = routers_stand rows.floatings place old new at same (if_some-weaker (leads_to rows.ports rows.routers new) (λ (t : Target). is_router rows.routers t.router) new.target (λ t h. router_there rows new t h) is.leads) c.named.routers;
      projects = projects_stand c.named.projects;
    };
    in_form = c.in_form;
    held_once = c.held_once;
    hosts = c.hosts;
    disjoint = c.disjoint;
    segments = c.segments;
    on_hosts = c.on_hosts;
    services = record {
      dhcp = c.services.dhcp;
      of_routers = c.services.of_routers;
      of_floatings = own_ports_serve rows.floatings place old new at same c.services.of_floatings;
    };
    floatings = floatings_lead rows.floatings place old new at same is.once is.leads c.floatings;
    groups = c.groups;
    allowed = c.allowed;
    outsides = outsides_are_allowed rows.floatings place old new at same c.outsides;
    routes = c.routes;
  }

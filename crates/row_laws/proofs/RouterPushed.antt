-- One more router keeps each clause that reads routers, and one without gateway and routes keeps rows consistent.
use Rattle.std.proofs.Common.{◌≡◌, ◌++◌, ◌∷◌, ◌∙◌, [], List, Bool, true, false, None, ap, sym, arith, subst, length}
use Rattle.std.specs.Prelude.{◌&&◌, ◌||◌, not, count_by, nat_le}
use Rattle.std.specs.List.{list_any, list_all}
use Rattle.std.specs.Str.{bytes_eq}
use Rattle.api_types.specs.Ident.{ident_text, IsDrawable}
use Rattle.api_types.specs.Table.{ident_eq}
use Rattle.api_types.specs.RowLists.{RowLists}
use Rattle.api_types.specs.Lists.{Each, stands_so, if_some, is_some_so}
use Rattle.api_types.specs.Owners.{is_interface, is_gateway, is_router_port, device_is, is_port_of}
use Rattle.api_types.specs.Sharing.{is_external_to}
use Rattle.api_types.specs.Consistent.Carried.{is_bound, AreOnHosts}
use Rattle.api_types.specs.Consistent.Disjoint.{reach_alike, ports_clash, AreDisjoint}
use Rattle.api_types.specs.Consistent.Floating.{is_target_port, is_target_router, leads_to, FloatingsLead}
use Rattle.api_types.specs.Consistent.InForm.{AreInForm}
use Rattle.api_types.specs.Consistent.Named.{is_network, is_port, is_registered, NetworksStand, PortsStand, RoutersStand, ProjectsStand}
use Rattle.api_types.specs.Consistent.NextHops.{is_reached, RoutesLead}
use Rattle.api_types.specs.Consistent.Numbered.{is_drawn, times_in, AreDrawn}
use Rattle.api_types.specs.Consistent.Permitted.{OutsidesAreAllowed}
use Rattle.api_types.specs.Consistent.Services.{is_gateway_of, is_named_gateway, wanted_gateways, RouterPortsServe}
use Rattle.api_types.specs.Consistent.{IsConsistent}
use Rattle.api_types.specs.declared.network.NetworkRow.{NetworkRow}
use Rattle.api_types.specs.declared.subnet.SubnetRow.{SubnetRow}
use Rattle.api_types.specs.declared.subnet.Hop.{Hop}
use Rattle.api_types.specs.declared.port.PortRow.{PortRow}
use Rattle.api_types.specs.declared.group.GroupRow.{GroupRow}
use Rattle.api_types.specs.declared.group.RuleRow.{RuleRow}
use Rattle.api_types.specs.declared.router.RouterRow.{RouterRow}
use Rattle.api_types.specs.declared.router.Gateway.{Gateway}
use Rattle.api_types.specs.declared.floating.FloatingRow.{FloatingRow}
use Rattle.api_types.specs.declared.floating.Target.{Target}
use Rattle.api_types.specs.declared.policy.PolicyRow.{PolicyRow}
use Rattle.row_laws.specs.NewRows.{with_router, IsNewRouter}
use Rattle.api_types.proofs.ListLemmas.{false_true, or_true, and_both, each-push, any-grows, any-none, none-any, count-none, any-at, none-counted}
use Rattle.api_types.proofs.NameLemmas.{ident_itself, bytes_same, by_test, or_weaker, if_some-weaker, unnamed, and_weaker, and_left_weaker, not_true, unless, fails_by, first_fails, must, push-all, any-push_other}
use Rattle.api_types.proofs.IdLemmas.{ids-push}
use Rattle.row_laws.proofs.TimesLemmas.{times-router}
use Rattle.api_types.proofs.IdTexts.{one-text}

module _ (routers : List RouterRow) (r : RouterRow) where
  pub networks_stand : {networks : List NetworkRow} {subnets : List SubnetRow} {ports : List PortRow} {floatings : List FloatingRow} {policies : List PolicyRow}
      → if_some (λ (g : Gateway). is_network networks g.network) r.gateway ≡ true → NetworksStand networks subnets ports routers floatings policies → NetworksStand networks subnets ports (routers ++ r ∷ []) floatings policies
  networks_stand {networks} {subnets} {ports} {floatings} {policies} network c = record {
    of_subnets = c.of_subnets;
    of_ports = c.of_ports;
    of_gateways = each-push (λ q. if_some (λ (g : Gateway). is_network networks g.network) q.gateway ≡ true) routers r c.of_gateways network;
    of_floatings = c.of_floatings;
    of_policies = c.of_policies;
  }

  pub ports_stand : {ports : List PortRow} {floatings : List FloatingRow}
      → if_some (λ (g : Gateway). is_port ports g.port) r.gateway ≡ true → PortsStand ports routers floatings → PortsStand ports (routers ++ r ∷ []) floatings
  ports_stand {ports} {floatings} port c = record {
    of_gateways = each-push (λ q. if_some (λ (g : Gateway). is_port ports g.port) q.gateway ≡ true) routers r c.of_gateways port;
    of_floatings = c.of_floatings;
    of_targets = c.of_targets;
  }

  pub routers_stand : {floatings : List FloatingRow}
      → RoutersStand routers floatings → RoutersStand (routers ++ r ∷ []) floatings
  routers_stand {floatings} c = record {
    of_targets = λ k f at. if_some-weaker _ _ f.target (λ (t : Target). any-grows (λ q. ident_eq t.router q.id) routers r) (c.of_targets k f at);
  }

  pub in_form : {networks : List NetworkRow} {subnets : List SubnetRow} {ports : List PortRow} {groups : List GroupRow} {rules : List RuleRow}
      → nat_le (length r.routes) 30 ≡ true → AreInForm networks subnets ports groups rules routers → AreInForm networks subnets ports groups rules (routers ++ r ∷ [])
  in_form {networks} {subnets} {ports} {groups} {rules} few c = record {
    segments = c.segments;
    subnet_owners = c.subnet_owners;
    subnet_forms = c.subnet_forms;
    dhcp_owners = c.dhcp_owners;
    port_forms = c.port_forms;
    rule_owners = c.rule_owners;
    routes = each-push (λ q. nat_le (length q.routes) 30 ≡ true) routers r c.routes few;
  }

  -- a router that no port names
  pub are_disjoint : {subnets : List SubnetRow} {ports : List PortRow}
      → Each (λ p. is_port_of r p ≡ false) ports → AreDisjoint subnets ports routers → AreDisjoint subnets ports (routers ++ r ∷ [])
  are_disjoint {subnets} {ports} unnamed c = record {
    in_network = c.in_network;
    at_router = λ k p at. ap not (any-none (ports_clash (routers ++ r ∷ []) subnets p) ports (λ l q at_q.
        ap (λ b. not (ident_eq p.id q.id) && (b && reach_alike subnets p q)) (any-push_other (λ s. is_port_of s p && is_port_of s q) routers r (first_fails (is_port_of r p) (is_port_of r q) (unnamed k p at)))
        ∙ none-any (ports_clash routers subnets p) ports (not_true _ (c.at_router k p at)) l q at_q));
  }

  -- a router that no port names
  pub are_on_hosts : {ports : List PortRow}
      → Each (λ p. is_port_of r p ≡ false) ports → AreOnHosts ports routers → AreOnHosts ports (routers ++ r ∷ [])
  are_on_hosts {ports} unnamed c = record {
    at_router = λ k p at. or_weaker (not (is_bound p.vif)) _ _ (λ h. push-all (λ q. not (is_port_of q p) || is_some_so (bytes_eq p.host) q.host) routers r h
        (unless (is_port_of r p) _ (unnamed k p at))) (c.at_router k p at);
  }

  pub router_ports_serve : {ports : List PortRow}
      → count_by (is_gateway_of r.id) ports ≡ wanted_gateways r.gateway → if_some (λ g. list_any (is_named_gateway r g) ports) r.gateway ≡ true → RouterPortsServe ports routers → RouterPortsServe ports (routers ++ r ∷ [])
  router_ports_serve {ports} count named c = record {
    devices = λ k p at. or_weaker (not (is_router_port p.owner)) _ _ (any-grows (λ q. is_port_of q p) routers r) (c.devices k p at);
    interfaces = c.interfaces;
    gateways = c.gateways;
    unsecured = c.unsecured;
    counts = each-push (λ q. count_by (is_gateway_of q.id) ports ≡ wanted_gateways q.gateway) routers r c.counts count;
    named = each-push (λ q. if_some (λ g. list_any (is_named_gateway q g) ports) q.gateway ≡ true) routers r c.named named;
  }

  pub floatings_lead : {ports : List PortRow} {floatings : List FloatingRow}
      → FloatingsLead ports routers floatings → FloatingsLead ports (routers ++ r ∷ []) floatings
  floatings_lead {ports} {floatings} c = record {
    once = c.once;
    targets = λ k f at. if_some-weaker (leads_to ports routers f) (leads_to ports (routers ++ r ∷ []) f) f.target (λ (t : Target).
        and_weaker (stands_so (λ p. p.id) t.port (is_target_port ports f t) ports) _ _ (any-grows (λ q. ident_eq t.router q.id && is_target_router f q) routers r)) (c.targets k f at);
  }

  pub outsides_are_allowed : {floatings : List FloatingRow} {policies : List PolicyRow}
      → if_some (λ (g : Gateway). is_external_to policies g.network r.project) r.gateway ≡ true → OutsidesAreAllowed routers floatings policies → OutsidesAreAllowed (routers ++ r ∷ []) floatings policies
  outsides_are_allowed {floatings} {policies} permitted c = record {
    gateways = each-push (λ q. if_some (λ (g : Gateway). is_external_to policies g.network q.project) q.gateway ≡ true) routers r c.gateways permitted;
    addresses = c.addresses;
    once = c.once;
  }

  pub routes_lead : {subnets : List SubnetRow} {ports : List PortRow}
      → list_all (is_reached subnets ports r) r.routes ≡ true → RoutesLead subnets ports routers → RoutesLead subnets ports (routers ++ r ∷ [])
  routes_lead {subnets} {ports} reached c = record {
    routes = each-push (λ q. list_all (is_reached subnets ports q) q.routes ≡ true) routers r c.routes reached;
  }

  -- a router that no port names has no gateway port
  pub no_gateway_port : (ports : List PortRow) → Each (λ p. is_port_of r p ≡ false) ports → count_by (is_gateway_of r.id) ports ≡ 0
  no_gateway_port ports unnamed = count-none (is_gateway_of r.id) ports (λ k p at. fails_by (is_gateway_of r.id p) (is_port_of r p)
      (and_left_weaker (is_gateway p.owner) (is_router_port p.owner) (device_is p.device r.id) (λ h. ap (λ b. is_interface p.owner || b) h ∙ or_true (is_interface p.owner))) (unnamed k p at))

module _ (rows : RowLists) (r : RouterRow) where
  pub are_drawn : is_drawn rows.projects r.id ≡ true → AreDrawn rows → AreDrawn (with_router rows r)
  are_drawn drawn c = record {
    networks = c.networks;
    subnets = c.subnets;
    ports = c.ports;
    groups = c.groups;
    rules = c.rules;
    routers = each-push (λ q. is_drawn rows.projects q.id ≡ true) rows.routers r c.routers drawn;
    floatings = c.floatings;
    policies = c.policies;
  }

  pub projects_stand : is_registered rows.projects r.project ≡ true → ProjectsStand rows → ProjectsStand (with_router rows r)
  projects_stand project c = record {
    of_networks = c.of_networks;
    of_subnets = c.of_subnets;
    of_ports = c.of_ports;
    of_groups = c.of_groups;
    of_rules = c.of_rules;
    of_routers = each-push (λ q. is_registered rows.projects q.project ≡ true) rows.routers r c.of_routers project;
    of_floatings = c.of_floatings;
    of_policies = c.of_policies;
  }

  -- where ids are printed apart, no port names a router of a new id
  pub unnamed_port : IsDrawable r.id → Each (λ q. IsDrawable q.id) rows.routers → times_in rows r.id ≡ 0 → RouterPortsServe rows.ports rows.routers → Each (λ p. is_port_of r p ≡ false) rows.ports
  unfolding device_is
  unnamed_port mine others fresh c k p at = by_test (is_port_of r p) (is_port_of r p ≡ false)
      (λ is.
      let named = and_both (is_router_port p.owner) (device_is p.device r.id) is in
      let found = any-at (λ q. is_port_of q p) rows.routers (must (is_router_port p.owner) _ named.0 (c.devices k p at)) in
      let q : RouterRow = found.1 in
      let its = and_both (is_router_port p.owner) (device_is p.device q.id) found.3 in
      let same : r.id ≡ q.id = one-text r.id q.id mine (others found.0 q found.2) (sym (bytes_same p.device (ident_text r.id) named.1) ∙ bytes_same p.device (ident_text q.id) its.1) in
      let absent : ident_eq r.id q.id ≡ false = none-any (λ s. ident_eq r.id s.id) rows.routers (none-counted (λ s. ident_eq r.id s.id) rows.routers (omega (arith, fresh))) found.0 q found.2 in
      false_true _ (sym absent ∙ subst (λ i. ident_eq r.id i ≡ true) same (ident_itself r.id)))
      (λ fails. fails)

  -- a test of the gateway that isn't there
  no_gateway : (test : Gateway → Bool) → r.gateway ≡ None → if_some test r.gateway ≡ true
  no_gateway test none = ap (if_some test) none

  pub router_pushed : IsNewRouter rows r → IsConsistent rows → IsConsistent (with_router rows r)
  router_pushed new c = record {
    numbered = record {
      projects = c.numbered.projects;
      ids = ids-push rows (with_router rows r) r.id (λ i. times-router rows i r) new.fresh c.numbered.ids;
      drawn = are_drawn new.drawn c.numbered.drawn;
    };
    named = record {
      networks = networks_stand rows.routers r (no_gateway _ new.no_gateway) c.named.networks;
      subnets = c.named.subnets;
      ports = ports_stand rows.routers r (no_gateway _ new.no_gateway) c.named.ports;
      groups = c.named.groups;
      routers = routers_stand rows.routers r c.named.routers;
      projects = projects_stand new.project c.named.projects;
    };
    in_form = in_form rows.routers r (ap (λ (routes : List Hop). nat_le (length routes) 30) new.no_routes) c.in_form;
    held_once = c.held_once;
    hosts = c.hosts;
    disjoint = are_disjoint rows.routers r new.unnamed c.disjoint;
    segments = c.segments;
    on_hosts = are_on_hosts rows.routers r new.unnamed c.on_hosts;
    services = record {
      dhcp = c.services.dhcp;
      of_routers = router_ports_serve rows.routers r (no_gateway_port rows.routers r rows.ports new.unnamed ∙ sym (ap wanted_gateways new.no_gateway)) (no_gateway _ new.no_gateway) c.services.of_routers;
      of_floatings = c.services.of_floatings;
    };
    floatings = floatings_lead rows.routers r c.floatings;
    groups = c.groups;
    allowed = c.allowed;
    outsides = outsides_are_allowed rows.routers r (no_gateway _ new.no_gateway) c.outsides;
    routes = routes_lead rows.routers r (ap (list_all (is_reached rows.subnets rows.ports r)) new.no_routes) c.routes;
  }

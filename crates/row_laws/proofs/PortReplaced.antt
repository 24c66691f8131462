-- A port that is replaced by one of the same id and network keeps each clause that reads ports, and one that serves nothing keeps rows consistent.
use Rattle.std.proofs.Common.{◌≡◌, ◌∙◌, ℕ, List, Bool, true, false, cond, Some, slice_get, slice_set, ap, sym, arith, subst}
use Rattle.std.specs.Prelude.{◌&&◌, ◌||◌, not, count_by}
use Rattle.std.specs.List.{list_any, list_all}
use Rattle.std.specs.Str.{bytes_eq}
use Rattle.net_addr.specs.Addresses.{is_four}
use Rattle.api_types.specs.Ident.{Ident}
use Rattle.api_types.specs.Table.{ident_eq}
use Rattle.api_types.specs.RowLists.{RowLists}
use Rattle.api_types.specs.Lists.{Each, stands_so, if_some, is_some_so, is_empty, is_one}
use Rattle.api_types.specs.Owners.{is_interface, is_gateway, is_dhcp, is_floating, is_router_port, device_is, is_port_of, holds_in, is_dhcp_of}
use Rattle.api_types.specs.Sharing.{is_shared_with}
use Rattle.api_types.specs.Consistent.{IsConsistent}
use Rattle.api_types.specs.Consistent.Numbered.{is_drawn, AreDrawn}
use Rattle.api_types.specs.Consistent.Named.{is_network, is_port, is_group, is_registered, names_subnet, is_own_port, serves, port_project_stands, NetworksStand, SubnetsStand, PortsStand, GroupsStand, ProjectsStand}
use Rattle.api_types.specs.Consistent.InForm.{is_network_of, is_group_of, is_port_form, AreInForm}
use Rattle.api_types.specs.Consistent.Hosts.{is_host_in, AreHosts}
use Rattle.api_types.specs.Consistent.Disjoint.{ports_clash, AreDisjoint}
use Rattle.api_types.specs.Consistent.Carried.{is_bound, is_unbound, AreOnHosts, AreCarried}
use Rattle.api_types.specs.Consistent.Services.{leases, is_leased, DhcpPortsServe, is_gateway_of, is_named_gateway, RouterPortsServe, holds_just, is_port_for, OwnPortsServe}
use Rattle.api_types.specs.Consistent.Floating.{has_interface, is_target_port, leads_to, FloatingsLead}
use Rattle.api_types.specs.Consistent.Groups.{GroupsServe}
use Rattle.api_types.specs.Consistent.Access.{may_be_there, PortsAreAllowed}
use Rattle.api_types.specs.Consistent.NextHops.{is_reached, RoutesLead}
use Rattle.api_types.specs.declared.project.ProjectRow.{ProjectRow}
use Rattle.api_types.specs.declared.network.NetworkRow.{NetworkRow}
use Rattle.api_types.specs.declared.network.Segment.{Segment}
use Rattle.api_types.specs.declared.subnet.SubnetRow.{SubnetRow}
use Rattle.api_types.specs.declared.port.PortRow.{PortRow}
use Rattle.api_types.specs.declared.port.Fixed.{Fixed}
use Rattle.api_types.specs.declared.group.GroupRow.{GroupRow}
use Rattle.api_types.specs.declared.group.RuleRow.{RuleRow}
use Rattle.api_types.specs.declared.router.RouterRow.{RouterRow}
use Rattle.api_types.specs.declared.router.Gateway.{Gateway}
use Rattle.api_types.specs.declared.floating.FloatingRow.{FloatingRow}
use Rattle.api_types.specs.declared.floating.Target.{Target}
use Rattle.api_types.specs.declared.policy.PolicyRow.{PolicyRow}
use Rattle.row_laws.specs.Replaced.{with_port_at, is_held_still, IsReplacedPort}
use Rattle.api_types.proofs.ListLemmas.{false_true, or_true, and_both, both_and, each-set, any-set_same, any-none, any-at, any-set_grows, any-weaker, one_row}
use Rattle.api_types.proofs.NameLemmas.{ident_same, ident_itself, by_test, or_weaker, if_some-weaker, all-weaker, and_weaker, and_left_weaker, unless, all-true, all-at, both_if, and_fails, first_fails, must, any-agree, count-set}

module _ (ports : List PortRow) (place : ℕ) (old new : PortRow) (at : slice_get ports place ≡ Some old) where
  -- a test that neither row passes sees no difference
  neither : (test : PortRow → Bool) → test old ≡ false → test new ≡ false → list_any test (slice_set ports place new) ≡ list_any test ports
  neither test h g = any-set_same test ports place old new at (g ∙ sym h)

  counted_same : (test : PortRow → Bool) → test old ≡ false → test new ≡ false → count_by test (slice_set ports place new) ≡ count_by test ports
  counted_same test h g = count-set test ports place old new at (g ∙ sym h)

  no_port_of : (p : PortRow) → is_router_port p.owner ≡ false → (r : RouterRow) → is_port_of r p ≡ false
  no_port_of p h r = first_fails (is_router_port p.owner) (device_is p.device r.id) h

  pub still : new.id ≡ old.id → (i : Ident) → is_port ports i ≡ true → is_port (slice_set ports place new) i ≡ true
  still same i h = any-set_same (λ q. ident_eq i q.id) ports place old new at (ap (ident_eq i) same) ∙ h

  pub networks_stand : {networks : List NetworkRow} {subnets : List SubnetRow} {routers : List RouterRow} {floatings : List FloatingRow} {policies : List PolicyRow}
      → new.network ≡ old.network → NetworksStand networks subnets ports routers floatings policies → NetworksStand networks subnets (slice_set ports place new) routers floatings policies
  networks_stand {networks} {subnets} {routers} {floatings} {policies} same c = record {
    of_subnets = c.of_subnets;
    of_ports = each-set (λ q. is_network networks q.network ≡ true) ports place new c.of_ports (ap (is_network networks) same ∙ c.of_ports place old at);
    of_gateways = c.of_gateways;
    of_floatings = c.of_floatings;
    of_policies = c.of_policies;
  }

  pub subnets_stand : {subnets : List SubnetRow}
      → list_all (names_subnet subnets new) new.fixed ≡ true → SubnetsStand subnets ports → SubnetsStand subnets (slice_set ports place new)
  subnets_stand {subnets} named c = record {
    of_ports = each-set (λ q. list_all (names_subnet subnets q) q.fixed ≡ true) ports place new c.of_ports named;
  }

  pub ports_stand : {routers : List RouterRow} {floatings : List FloatingRow}
      → new.id ≡ old.id → PortsStand ports routers floatings → PortsStand (slice_set ports place new) routers floatings
  ports_stand {routers} {floatings} same c = record {
    of_gateways = λ k r h. if_some-weaker _ _ r.gateway (λ (g : Gateway). still same g.port) (c.of_gateways k r h);
    of_floatings = λ k f h. still same f.own_port (c.of_floatings k f h);
    of_targets = λ k f h. if_some-weaker _ _ f.target (λ (t : Target). still same t.port) (c.of_targets k f h);
  }

  pub groups_stand : {groups : List GroupRow} {rules : List RuleRow}
      → list_all (is_group groups) new.groups ≡ true → GroupsStand groups ports rules → GroupsStand groups (slice_set ports place new) rules
  groups_stand {groups} {rules} named c = record {
    of_ports = each-set (λ q. list_all (is_group groups) q.groups ≡ true) ports place new c.of_ports named;
    of_rules = c.of_rules;
    of_remotes = c.of_remotes;
  }

  pub in_form : {networks : List NetworkRow} {subnets : List SubnetRow} {groups : List GroupRow} {rules : List RuleRow} {routers : List RouterRow}
      → not (is_dhcp new.owner) || is_network_of networks new.project new.network ≡ true → is_port_form new ≡ true → AreInForm networks subnets ports groups rules routers → AreInForm networks subnets (slice_set ports place new) groups rules routers
  in_form {networks} {subnets} {groups} {rules} {routers} owner form c = record {
    segments = c.segments;
    subnet_owners = c.subnet_owners;
    subnet_forms = c.subnet_forms;
    dhcp_owners = each-set (λ q. not (is_dhcp q.owner) || is_network_of networks q.project q.network ≡ true) ports place new c.dhcp_owners owner;
    port_forms = each-set (λ q. is_port_form q ≡ true) ports place new c.port_forms form;
    rule_owners = c.rule_owners;
    routes = c.routes;
  }

  pub are_hosts : {subnets : List SubnetRow}
      → list_all (is_host_in subnets new) new.fixed ≡ true → AreHosts subnets ports → AreHosts subnets (slice_set ports place new)
  are_hosts {subnets} hosts c = record {
    addresses = each-set (λ q. list_all (is_host_in subnets q) q.fixed ≡ true) ports place new c.addresses hosts;
  }

  -- neither the old port nor the new one is a router's
  pub are_disjoint : {subnets : List SubnetRow} {routers : List RouterRow}
      → is_router_port old.owner ≡ false → is_router_port new.owner ≡ false → AreDisjoint subnets ports routers → AreDisjoint subnets (slice_set ports place new) routers
  are_disjoint {subnets} {routers} before after c = record {
    in_network = c.in_network;
    at_router = each-set (λ q. not (list_any (ports_clash routers subnets q) (slice_set ports place new)) ≡ true) ports place new
        (λ k q h. ap not (neither (ports_clash routers subnets q)
        (and_fails _ _ (first_fails _ _ (any-none (λ r. is_port_of r q && is_port_of r old) routers (λ l r at_r. and_fails (is_port_of r q) (is_port_of r old) (no_port_of old before r)))))
        (and_fails _ _ (first_fails _ _ (any-none (λ r. is_port_of r q && is_port_of r new) routers (λ l r at_r. and_fails (is_port_of r q) (is_port_of r new) (no_port_of new after r)))))) ∙ c.at_router k q h)
        (ap not (any-none (ports_clash routers subnets new) (slice_set ports place new) (λ k q h. and_fails _ _ (first_fails _ _ (any-none (λ r. is_port_of r new && is_port_of r q) routers
        (λ l r at_r. first_fails (is_port_of r new) (is_port_of r q) (no_port_of new after r)))))));
  }

  pub are_on_hosts : {routers : List RouterRow}
      → not (is_bound new.vif) || list_all (λ r. not (is_port_of r new) || is_some_so (bytes_eq new.host) r.host) routers ≡ true → AreOnHosts ports routers → AreOnHosts (slice_set ports place new) routers
  are_on_hosts {routers} placed c = record {
    at_router = each-set (λ q. not (is_bound q.vif) || list_all (λ r. not (is_port_of r q) || is_some_so (bytes_eq q.host) r.host) routers ≡ true) ports place new c.at_router placed;
  }

  -- what the settings let the hosts carry
  pub are_carried : (carries : List ℕ → Segment → Bool) {networks : List NetworkRow} → not (is_bound new.vif) || stands_so (λ n. n.id) new.network (λ n. carries new.host n.segment) networks ≡ true
      → AreCarried carries networks ports → AreCarried carries networks (slice_set ports place new)
  are_carried carries {networks} bound c = record {
    at_host = each-set (λ q. not (is_bound q.vif) || stands_so (λ n. n.id) q.network (λ n. carries q.host n.segment) networks ≡ true) ports place new c.at_host bound;
  }

  pub dhcp_ports_serve : {networks : List NetworkRow} {subnets : List SubnetRow}
      → is_dhcp old.owner ≡ false → is_dhcp new.owner ≡ false → DhcpPortsServe networks subnets ports → DhcpPortsServe networks subnets (slice_set ports place new)
  dhcp_ports_serve {networks} {subnets} before after c = record {
    there = λ k n h. counted_same (is_dhcp_of n.id) (and_fails (ident_eq n.id old.network) _ before) (and_fails (ident_eq n.id new.network) _ after) ∙ c.there k n h;
    holds = each-set (λ q. not (is_dhcp q.owner) || list_all (leases q) subnets ≡ true) ports place new c.holds (unless (is_dhcp new.owner) _ after);
    no_other = each-set (λ q. not (is_dhcp q.owner) || list_all (is_leased subnets) q.fixed ≡ true) ports place new c.no_other (unless (is_dhcp new.owner) _ after);
    unsecured = each-set (λ q. not (is_dhcp q.owner) || not q.secured ≡ true) ports place new c.unsecured (unless (is_dhcp new.owner) _ after);
  }

  pub router_ports_serve : {routers : List RouterRow}
      → is_gateway old.owner ≡ false → is_gateway new.owner ≡ false → not (is_router_port new.owner) || list_any (λ r. is_port_of r new) routers ≡ true → not (is_interface new.owner) || is_one new.fixed ≡ true → not (is_router_port new.owner) || not new.secured ≡ true → RouterPortsServe ports routers → RouterPortsServe (slice_set ports place new) routers
  router_ports_serve {routers} before after device one unfiltered c = record {
    devices = each-set (λ q. not (is_router_port q.owner) || list_any (λ r. is_port_of r q) routers ≡ true) ports place new c.devices device;
    interfaces = each-set (λ q. not (is_interface q.owner) || is_one q.fixed ≡ true) ports place new c.interfaces one;
    gateways = each-set (λ q. not (is_gateway q.owner) || not (is_empty q.fixed) ≡ true) ports place new c.gateways (unless (is_gateway new.owner) _ after);
    unsecured = each-set (λ q. not (is_router_port q.owner) || not q.secured ≡ true) ports place new c.unsecured unfiltered;
    counts = λ k r h. counted_same (is_gateway_of r.id) (first_fails (is_gateway old.owner) _ before) (first_fails (is_gateway new.owner) _ after) ∙ c.counts k r h;
    named = λ k r h. if_some-weaker _ _ r.gateway (λ (g : Gateway) e. neither (is_named_gateway r g)
        (first_fails (is_gateway_of r.id old) _ (first_fails (is_gateway old.owner) _ before)) (first_fails (is_gateway_of r.id new) _ (first_fails (is_gateway new.owner) _ after)) ∙ e) (c.named k r h);
  }

  own_false : (f : FloatingRow) (p : PortRow) → is_floating p.owner ≡ false → ident_eq f.own_port p.id && is_port_for f p ≡ false
  own_false f p h = and_fails (ident_eq f.own_port p.id) _ (first_fails _ (is_unbound p.vif) (first_fails _ (holds_just f.address p.fixed) (and_fails (ident_eq f.network p.network) _ h)))

  pub own_ports_serve : {floatings : List FloatingRow}
      → is_floating old.owner ≡ false → is_floating new.owner ≡ false → not (is_own_port floatings new.id) || not new.secured ≡ true → OwnPortsServe ports floatings → OwnPortsServe (slice_set ports place new) floatings
  own_ports_serve {floatings} before after unfiltered c = record {
    once = c.once;
    there = λ k f h. neither (λ q. ident_eq f.own_port q.id && is_port_for f q) (own_false f old before) (own_false f new after) ∙ c.there k f h;
    unsecured = each-set (λ q. not (is_own_port floatings q.id) || not q.secured ≡ true) ports place new c.unsecured unfiltered;
  }

  abbrev through : Ident → Ident → PortRow → Bool
  through router subnet q = is_interface q.owner && (device_is q.device router && holds_in subnet q)

  through_same : is_interface old.owner ≡ false → is_interface new.owner ≡ false → (router subnet : Ident) → has_interface (slice_set ports place new) router subnet ≡ has_interface ports router subnet
  through_same before after router subnet = neither (through router subnet) (first_fails (is_interface old.owner) _ before) (first_fails (is_interface new.owner) _ after)

  abbrev target_test : FloatingRow → Target → List PortRow → PortRow → Bool
  target_test f t all p = ident_eq t.port p.id && is_target_port all f t p

  -- the old port's address is the new port's too
  moves : new.id ≡ old.id → new.project ≡ old.project → (f : FloatingRow) (t : Target) → not (ident_eq t.port old.id) || list_all (is_held_still new t) old.fixed ≡ true
      → target_test f t ports old ≡ true → target_test f t ports new ≡ true
  moves same_id same_project f t keeps h =
      let a = and_both (ident_eq t.port old.id) _ h in
      let b = and_both (bytes_eq old.project f.project) _ a.1 in
      let found = any-at (λ (x : Fixed). is_four x.address t.fixed && has_interface ports t.router x.subnet) old.fixed b.1 in
      let x : Fixed = found.1 in
      let at_x = and_both (is_four x.address t.fixed) _ found.3 in
      let all = must (ident_eq t.port old.id) _ a.0 keeps in
      let kept = must (is_four x.address t.fixed) _ at_x.0 (all-at (is_held_still new t) old.fixed all found.0 x found.2) in
      both_and (ident_eq t.port new.id) _ (ap (ident_eq t.port) same_id ∙ a.0) (both_and (bytes_eq new.project f.project) _ (ap (λ n. bytes_eq n f.project) same_project ∙ b.0)
      (any-weaker (λ (y : Fixed). is_four y.address t.fixed && ident_eq x.subnet y.subnet) (λ (y : Fixed). is_four y.address t.fixed && has_interface ports t.router y.subnet) new.fixed
      (λ (y : Fixed). and_weaker (is_four y.address t.fixed) _ _ (λ e. subst (λ i. has_interface ports t.router i ≡ true) (ident_same x.subnet y.subnet e) at_x.1)) kept))

  pub floatings_lead : {routers : List RouterRow} {floatings : List FloatingRow}
      → new.id ≡ old.id → new.project ≡ old.project → is_interface old.owner ≡ false → is_interface new.owner ≡ false → Each (λ f. if_some (λ (t : Target). not (ident_eq t.port old.id) || list_all (is_held_still new t) old.fixed) f.target ≡ true) floatings → FloatingsLead ports routers floatings → FloatingsLead (slice_set ports place new) routers floatings
  floatings_lead {routers} {floatings} same_id same_project before after targets c = record {
    once = c.once;
    targets = λ k f at_f. both_if f.target (λ (t : Target). not (ident_eq t.port old.id) || list_all (is_held_still new t) old.fixed) (leads_to ports routers f) (leads_to (slice_set ports place new) routers f)
        (λ (t : Target) keeps h. and_left_weaker _ _ _ (λ g. any-agree (target_test f t (slice_set ports place new)) (target_test f t ports) (slice_set ports place new)
        (λ p. ap (λ b. ident_eq t.port p.id && (bytes_eq p.project f.project && b)) (any-agree _ _ p.fixed (λ (x : Fixed). ap (λ b. is_four x.address t.fixed && b) (through_same before after t.router x.subnet))))
        ∙ any-set_grows (target_test f t ports) ports place old new at (moves same_id same_project f t keeps) g) h)
        (targets k f at_f) (c.targets k f at_f);
  }

  pub groups_serve : {projects : List ProjectRow} {groups : List GroupRow} {rules : List RuleRow}
      → list_all (is_group_of groups new.project) new.groups ≡ true → new.secured || (is_empty new.groups && is_empty new.pairs) ≡ true → GroupsServe projects ports groups rules → GroupsServe projects (slice_set ports place new) groups rules
  groups_serve {projects} {groups} {rules} mine bare c = record {
    defaults = c.defaults;
    of_ports = each-set (λ q. list_all (is_group_of groups q.project) q.groups ≡ true) ports place new c.of_ports mine;
    bare = each-set (λ q. q.secured || (is_empty q.groups && is_empty q.pairs) ≡ true) ports place new c.bare bare;
    remotes = c.remotes;
    apart = c.apart;
  }

  pub ports_are_allowed : {networks : List NetworkRow} {policies : List PolicyRow}
      → may_be_there networks policies new ≡ true → PortsAreAllowed networks ports policies → PortsAreAllowed networks (slice_set ports place new) policies
  ports_are_allowed {networks} {policies} allowed c = record {
    of_ports = each-set (λ q. may_be_there networks policies q ≡ true) ports place new c.of_ports allowed;
  }

  -- neither the old port nor the new one is a router's
  pub routes_lead : {subnets : List SubnetRow} {routers : List RouterRow}
      → is_router_port old.owner ≡ false → is_router_port new.owner ≡ false → RoutesLead subnets ports routers → RoutesLead subnets (slice_set ports place new) routers
  routes_lead {subnets} {routers} before after c = record {
    routes = λ k r at_r. all-weaker (is_reached subnets ports r) (is_reached subnets (slice_set ports place new) r) r.routes
        (λ hop h. neither _ (first_fails (is_port_of r old) _ (no_port_of old before r)) (first_fails (is_port_of r new) _ (no_port_of new after r)) ∙ h) (c.routes k r at_r);
  }

module _ (rows : RowLists) (place : ℕ) (old new : PortRow) (at : slice_get rows.ports place ≡ Some old) where
  pub are_drawn : new.id ≡ old.id → AreDrawn rows → AreDrawn (with_port_at rows place new)
  are_drawn same c = record {
    networks = c.networks;
    subnets = c.subnets;
    ports = each-set (λ r. is_drawn rows.projects r.id ≡ true) rows.ports place new c.ports (ap (is_drawn rows.projects) same ∙ c.ports place old at);
    groups = c.groups;
    rules = c.rules;
    routers = c.routers;
    floatings = c.floatings;
    policies = c.policies;
  }

  pub projects_stand : port_project_stands rows.projects rows.floatings new ≡ true → ProjectsStand rows → ProjectsStand (with_port_at rows place new)
  projects_stand project c = record {
    of_networks = c.of_networks;
    of_subnets = c.of_subnets;
    of_ports = each-set (λ q. port_project_stands rows.projects rows.floatings q ≡ true) rows.ports place new c.of_ports project;
    of_groups = c.of_groups;
    of_rules = c.of_rules;
    of_routers = c.of_routers;
    of_floatings = c.of_floatings;
    of_policies = c.of_policies;
  }

  -- a group of the project is a group
  weak : (i : Ident) → is_group_of rows.groups new.project i ≡ true → is_group rows.groups i ≡ true
  weak i h = any-weaker (λ m. ident_eq i m.id && bytes_eq m.project new.project) (λ m. ident_eq i m.id) rows.groups (λ m g. (and_both _ _ g).0) h

  -- the port is no floating address's own one, since those have an owner of their own
  pub no_own_port : is_floating old.owner ≡ false → IsConsistent rows → is_own_port rows.floatings old.id ≡ false
  no_own_port other c = any-none (λ f. ident_eq old.id f.own_port) rows.floatings (λ k f at_f.
      by_test (ident_eq old.id f.own_port) (ident_eq old.id f.own_port ≡ false)
      (λ mine.
      let found = any-at (λ p. ident_eq f.own_port p.id && is_port_for f p) rows.ports (c.services.of_floatings.there k f at_f) in
      let p : PortRow = found.1 in
      let own = and_both (ident_eq f.own_port p.id) _ found.3 in
      let same = one_row (λ q. ident_eq old.id q.id) rows.ports (omega (arith, c.numbered.ids old.id)) place found.0 old p at found.2
      (ident_itself old.id) (ap (λ i. ident_eq i p.id) (ident_same old.id f.own_port mine) ∙ own.0) in
      let floats = (and_both (ident_eq f.network p.network) _ (and_both _ _ (and_both _ _ own.1).0).0).1 in
      false_true _ (sym other ∙ (ap (λ (q : PortRow). is_floating q.owner) same ∙ floats)))
      (λ fails. fails))

  pub port_replaced : IsReplacedPort rows place old new → IsConsistent rows → IsConsistent (with_port_at rows place new)
  port_replaced is c =
      let no_router : is_router_port new.owner ≡ false = λ j. is.after.no_interface j || is.after.no_gateway j in
      let old_router : is_router_port old.owner ≡ false = λ j. is.before.no_interface j || is.before.no_gateway j in
      let old_own : is_own_port rows.floatings old.id ≡ false = no_own_port is.before.no_floating c in
      let no_own : is_own_port rows.floatings new.id ≡ false = ap (is_own_port rows.floatings) is.id ∙ old_own in
      let same_serves : serves rows.floatings new ≡ serves rows.floatings old = (λ j. is.after.no_gateway j || no_own j) ∙ sym (λ j. is.before.no_gateway j || old_own j) in
      record {
        numbered = record {
          projects = c.numbered.projects;
          ids = λ i. let e = count-set (λ q. ident_eq i q.id) rows.ports place old new at (ap (ident_eq i) is.id) in omega (arith, e, c.numbered.ids i);
          drawn = are_drawn is.id c.numbered.drawn;
        };
        named = record {
          networks = networks_stand rows.ports place old new at is.network c.named.networks;
          subnets = subnets_stand rows.ports place old new at is.subnets c.named.subnets;
          ports = ports_stand rows.ports place old new at is.id c.named.ports;
          groups = groups_stand rows.ports place old new at (all-weaker (is_group_of rows.groups new.project) (is_group rows.groups) new.groups weak is.groups) c.named.groups;
          routers = c.named.routers;
          projects = projects_stand ((λ j. cond (same_serves j) (is_empty (is.project j)) (is_registered rows.projects (is.project j))) ∙ c.named.projects.of_ports place old at) c.named.projects;
        };
        in_form = in_form rows.ports place old new at (unless (is_dhcp new.owner) _ is.after.no_dhcp) is.form c.in_form;
        held_once = is.held_once;
        hosts = are_hosts rows.ports place old new at is.hosts c.hosts;
        disjoint = are_disjoint rows.ports place old new at old_router no_router c.disjoint;
        segments = c.segments;
        on_hosts = are_on_hosts rows.ports place old new at (or_weaker (not (is_bound new.vif)) true _ (λ h. all-true (λ r. not (is_port_of r new) || is_some_so (bytes_eq new.host) r.host) rows.routers
            (λ r. unless (is_port_of r new) _ (first_fails (is_router_port new.owner) (device_is new.device r.id) no_router))) (or_true (not (is_bound new.vif)))) c.on_hosts;
        services = record {
          dhcp = dhcp_ports_serve rows.ports place old new at is.before.no_dhcp is.after.no_dhcp c.services.dhcp;
          of_routers = router_ports_serve rows.ports place old new at is.before.no_gateway is.after.no_gateway (unless (is_router_port new.owner) _ no_router) (unless (is_interface new.owner) _ is.after.no_interface) (unless (is_router_port new.owner) _ no_router) c.services.of_routers;
          of_floatings = own_ports_serve rows.ports place old new at is.before.no_floating is.after.no_floating (unless (is_own_port rows.floatings new.id) _ no_own) c.services.of_floatings;
        };
        floatings = floatings_lead rows.ports place old new at is.id is.project is.before.no_interface is.after.no_interface is.targets c.floatings;
        groups = groups_serve rows.ports place old new at is.groups is.bare c.groups;
        allowed = ports_are_allowed rows.ports place old new at ((λ j. is_empty (is.project j) || (is.by_admin j || (is_shared_with rows.policies (is.network j) (is.project j) || is_network_of rows.networks (is.project j) (is.network j)))) ∙ c.allowed.of_ports place old at) c.allowed;
        outsides = c.outsides;
        routes = routes_lead rows.ports place old new at old_router no_router c.routes;
      }

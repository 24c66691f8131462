-- One more port keeps each clause that reads ports, and one that serves nothing keeps rows consistent.
use Rattle.std.proofs.Common.{◌≡◌, ◌+◌, ◌≤◌, ◌++◌, ◌∷◌, ◌∙◌, ℕ, [], List, Bool, true, false, cond, ap, sym, arith, subst, sum_by}
use Rattle.std.specs.Prelude.{◌==◌, ◌&&◌, ◌||◌, not, count_by}
use Rattle.std.specs.List.{list_any, list_all}
use Rattle.std.specs.Str.{bytes_eq}
use Rattle.std.proofs.lemmas.List.Sums.{sum_by_push}
use Rattle.std.proofs.lemmas.Bool.Decides.{Decides-eqb}
use Rattle.net_addr.specs.Addresses.{is_four, addr_eq}
use Rattle.net_addr.specs.declared.address.Addr.{Addr}
use Rattle.api_types.specs.Ident.{Ident}
use Rattle.api_types.specs.Table.{ident_eq}
use Rattle.api_types.specs.RowLists.{RowLists}
use Rattle.api_types.specs.Lists.{Each, stands_so, is_some_so, is_empty, is_one}
use Rattle.api_types.specs.Owners.{is_interface, is_gateway, is_dhcp, is_router_port, device_is, is_port_of, holds_in, is_dhcp_of}
use Rattle.api_types.specs.Consistent.{IsConsistent}
use Rattle.api_types.specs.Consistent.Numbered.{is_drawn, times_in, AreDrawn}
use Rattle.api_types.specs.Consistent.Named.{is_network, is_port, is_group, is_registered, names_subnet, is_own_port, port_project_stands, NetworksStand, SubnetsStand, PortsStand, GroupsStand, ProjectsStand}
use Rattle.api_types.specs.Consistent.InForm.{is_network_of, is_group_of, is_port_form, AreInForm}
use Rattle.api_types.specs.Consistent.HeldOnce.{has_mac, holds_times, AreHeldOnce}
use Rattle.api_types.specs.Consistent.Hosts.{is_host_in, AreHosts}
use Rattle.api_types.specs.Consistent.Disjoint.{share_router, reach_alike, ports_clash, AreDisjoint}
use Rattle.api_types.specs.Consistent.Carried.{is_bound, AreOnHosts, AreCarried}
use Rattle.api_types.specs.Consistent.Services.{leases, is_leased, DhcpPortsServe, is_gateway_of, is_named_gateway, RouterPortsServe, is_port_for, OwnPortsServe}
use Rattle.api_types.specs.Consistent.Floating.{is_target_port, leads_to, FloatingsLead}
use Rattle.api_types.specs.Consistent.Groups.{GroupsServe}
use Rattle.api_types.specs.Consistent.Access.{may_be_there, PortsAreAllowed}
use Rattle.api_types.specs.Consistent.NextHops.{is_reached, RoutesLead}
use Rattle.api_types.specs.declared.project.ProjectRow.{ProjectRow}
use Rattle.api_types.specs.declared.network.NetworkRow.{NetworkRow}
use Rattle.api_types.specs.declared.network.Segment.{Segment}
use Rattle.api_types.specs.declared.subnet.SubnetRow.{SubnetRow}
use Rattle.api_types.specs.declared.port.PortRow.{PortRow}
use Rattle.api_types.specs.declared.port.Fixed.{Fixed}
use Rattle.api_types.specs.declared.group.GroupRow.{GroupRow}
use Rattle.api_types.specs.declared.group.RuleRow.{RuleRow}
use Rattle.api_types.specs.declared.router.RouterRow.{RouterRow}
use Rattle.api_types.specs.declared.router.Gateway.{Gateway}
use Rattle.api_types.specs.declared.floating.FloatingRow.{FloatingRow}
use Rattle.api_types.specs.declared.floating.Target.{Target}
use Rattle.api_types.specs.declared.policy.PolicyRow.{PolicyRow}
use Rattle.row_laws.specs.NewRows.{with_port, IsNewPort}
use Rattle.api_types.proofs.ListLemmas.{or_true, and_both, each-push, any-grows, any-stays_none, any-none, once-push, any-weaker, none-counted}
use Rattle.api_types.proofs.NameLemmas.{ident_same, ident_itself, by_test, or_weaker, if_some-weaker, all-weaker, unnamed, and_weaker, and_left_weaker, not_true, unless, all-true, and_fails, first_fails, count-push}
use Rattle.api_types.proofs.IdLemmas.{ids-push}
use Rattle.row_laws.proofs.TimesLemmas.{times-port}

module _ (ports : List PortRow) (p : PortRow) where
  still : (i : Ident) → is_port ports i ≡ true → is_port (ports ++ p ∷ []) i ≡ true
  still i h = any-grows (λ q. ident_eq i q.id) ports p h

  pub still_so : (i : Ident) (test : PortRow → Bool) → stands_so (λ q. q.id) i test ports ≡ true → stands_so (λ q. q.id) i test (ports ++ p ∷ []) ≡ true
  still_so i test h = any-grows (λ q. ident_eq i q.id && test q) ports p h

  pub networks_stand : {networks : List NetworkRow} {subnets : List SubnetRow} {routers : List RouterRow} {floatings : List FloatingRow} {policies : List PolicyRow}
      → is_network networks p.network ≡ true → NetworksStand networks subnets ports routers floatings policies → NetworksStand networks subnets (ports ++ p ∷ []) routers floatings policies
  networks_stand {networks} {subnets} {routers} {floatings} {policies} network c = record {
    of_subnets = c.of_subnets;
    of_ports = each-push (λ q. is_network networks q.network ≡ true) ports p c.of_ports network;
    of_gateways = c.of_gateways;
    of_floatings = c.of_floatings;
    of_policies = c.of_policies;
  }

  pub subnets_stand : {subnets : List SubnetRow}
      → list_all (names_subnet subnets p) p.fixed ≡ true → SubnetsStand subnets ports → SubnetsStand subnets (ports ++ p ∷ [])
  subnets_stand {subnets} named c = record {
    of_ports = each-push (λ q. list_all (names_subnet subnets q) q.fixed ≡ true) ports p c.of_ports named;
  }

  pub ports_stand : {routers : List RouterRow} {floatings : List FloatingRow}
      → PortsStand ports routers floatings → PortsStand (ports ++ p ∷ []) routers floatings
  ports_stand {routers} {floatings} c = record {
    of_gateways = λ k r at. if_some-weaker _ _ r.gateway (λ (g : Gateway) h. still g.port h) (c.of_gateways k r at);
    of_floatings = λ k f at. still f.own_port (c.of_floatings k f at);
    of_targets = λ k f at. if_some-weaker _ _ f.target (λ (t : Target) h. still t.port h) (c.of_targets k f at);
  }

  pub groups_stand : {groups : List GroupRow} {rules : List RuleRow}
      → list_all (is_group groups) p.groups ≡ true → GroupsStand groups ports rules → GroupsStand groups (ports ++ p ∷ []) rules
  groups_stand {groups} {rules} named c = record {
    of_ports = each-push (λ q. list_all (is_group groups) q.groups ≡ true) ports p c.of_ports named;
    of_rules = c.of_rules;
    of_remotes = c.of_remotes;
  }

  pub in_form : {networks : List NetworkRow} {subnets : List SubnetRow} {groups : List GroupRow} {rules : List RuleRow} {routers : List RouterRow}
      → not (is_dhcp p.owner) || is_network_of networks p.project p.network ≡ true → is_port_form p ≡ true → AreInForm networks subnets ports groups rules routers → AreInForm networks subnets (ports ++ p ∷ []) groups rules routers
  in_form {networks} {subnets} {groups} {rules} {routers} owner form c = record {
    segments = c.segments;
    subnet_owners = c.subnet_owners;
    subnet_forms = c.subnet_forms;
    dhcp_owners = each-push (λ q. not (is_dhcp q.owner) || is_network_of networks q.project q.network ≡ true) ports p c.dhcp_owners owner;
    port_forms = each-push (λ q. is_port_form q ≡ true) ports p c.port_forms form;
    rule_owners = c.rule_owners;
    routes = c.routes;
  }

  pub are_held_once : count_by (has_mac p.network p.mac) ports ≡ 0 → ((x : Addr) → sum_by (holds_times p.network x) ports + holds_times p.network x p ≤ 1) → AreHeldOnce ports → AreHeldOnce (ports ++ p ∷ [])
  are_held_once free alone c = record {
    macs = λ network mac. once-push (has_mac network mac) ports p (c.macs network mac) (λ h.
        let both = and_both (ident_eq network p.network) (p.mac == mac) h in
        let m = (Decides-eqb p.mac mac).0 both.1 in
        (λ j. count_by (has_mac (ident_same network p.network both.0 j) (sym m j)) ports) ∙ free);
    addresses = λ network x. let push = sum_by_push (holds_times network x) ports p in
        by_test (ident_eq network p.network) (sum_by (holds_times network x) (ports ++ p ∷ []) ≤ 1)
        (λ is. let same = ident_same network p.network is in
        let most : sum_by (holds_times network x) ports + holds_times network x p ≤ 1 = subst (λ n. sum_by (holds_times n x) ports + holds_times n x p ≤ 1) (sym same) (alone x) in
        omega (arith, push, most))
        (λ fails. let zero : holds_times network x p ≡ 0 = ap (λ b. cond {A = ℕ} b (count_by (λ (f : Fixed). addr_eq f.address x) p.fixed) 0) fails in
        let before : sum_by (holds_times network x) ports ≤ 1 = c.addresses network x in
        omega (arith, push, zero, before));
  }

  pub are_hosts : {subnets : List SubnetRow}
      → list_all (is_host_in subnets p) p.fixed ≡ true → AreHosts subnets ports → AreHosts subnets (ports ++ p ∷ [])
  are_hosts {subnets} hosts c = record {
    addresses = each-push (λ q. list_all (is_host_in subnets q) q.fixed ≡ true) ports p c.addresses hosts;
  }

  pub are_disjoint : {subnets : List SubnetRow} {routers : List RouterRow}
      → Each (λ q. (ports_clash routers subnets q p ≡ false) × (ports_clash routers subnets p q ≡ false)) ports → AreDisjoint subnets ports routers → AreDisjoint subnets (ports ++ p ∷ []) routers
  are_disjoint {subnets} {routers} apart c = record {
    in_network = c.in_network;
    at_router = each-push (λ q. not (list_any (ports_clash routers subnets q) (ports ++ p ∷ [])) ≡ true) ports p
        (λ k q at. ap not (any-stays_none (ports_clash routers subnets q) ports p (not_true _ (c.at_router k q at)) (apart k q at).0))
        (ap not (any-stays_none (ports_clash routers subnets p) ports p (any-none (ports_clash routers subnets p) ports (λ k q at. (apart k q at).1))
        (first_fails (not (ident_eq p.id p.id)) (share_router routers p p && reach_alike subnets p p) (ap not (ident_itself p.id)))));
  }

  pub are_on_hosts : {routers : List RouterRow}
      → not (is_bound p.vif) || list_all (λ r. not (is_port_of r p) || is_some_so (bytes_eq p.host) r.host) routers ≡ true → AreOnHosts ports routers → AreOnHosts (ports ++ p ∷ []) routers
  are_on_hosts {routers} placed c = record {
    at_router = each-push (λ q. not (is_bound q.vif) || list_all (λ r. not (is_port_of r q) || is_some_so (bytes_eq q.host) r.host) routers ≡ true) ports p c.at_router placed;
  }

  -- what the settings let the hosts carry
  pub are_carried : (carries : List ℕ → Segment → Bool) {networks : List NetworkRow} → not (is_bound p.vif) || stands_so (λ n. n.id) p.network (λ n. carries p.host n.segment) networks ≡ true
      → AreCarried carries networks ports → AreCarried carries networks (ports ++ p ∷ [])
  are_carried carries {networks} bound c = record {
    at_host = each-push (λ q. not (is_bound q.vif) || stands_so (λ n. n.id) q.network (λ n. carries q.host n.segment) networks ≡ true) ports p c.at_host bound;
  }

  pub dhcp_ports_serve : {networks : List NetworkRow} {subnets : List SubnetRow}
      → is_dhcp p.owner ≡ false → DhcpPortsServe networks subnets ports → DhcpPortsServe networks subnets (ports ++ p ∷ [])
  dhcp_ports_serve {networks} {subnets} no_dhcp c = record {
    there = λ k n at. count-push (is_dhcp_of n.id) ports p (and_fails (ident_eq n.id p.network) (is_dhcp p.owner) no_dhcp) ∙ c.there k n at;
    holds = each-push (λ q. not (is_dhcp q.owner) || list_all (leases q) subnets ≡ true) ports p c.holds (unless (is_dhcp p.owner) _ no_dhcp);
    no_other = each-push (λ q. not (is_dhcp q.owner) || list_all (is_leased subnets) q.fixed ≡ true) ports p c.no_other (unless (is_dhcp p.owner) _ no_dhcp);
    unsecured = each-push (λ q. not (is_dhcp q.owner) || not q.secured ≡ true) ports p c.unsecured (unless (is_dhcp p.owner) _ no_dhcp);
  }

  -- a port that is no gateway port
  pub router_ports_serve : {routers : List RouterRow}
      → is_gateway p.owner ≡ false → not (is_router_port p.owner) || list_any (λ r. is_port_of r p) routers ≡ true → not (is_interface p.owner) || is_one p.fixed ≡ true → not (is_router_port p.owner) || not p.secured ≡ true → RouterPortsServe ports routers → RouterPortsServe (ports ++ p ∷ []) routers
  router_ports_serve {routers} no_gateway device one unfiltered c = record {
    devices = each-push (λ q. not (is_router_port q.owner) || list_any (λ r. is_port_of r q) routers ≡ true) ports p c.devices device;
    interfaces = each-push (λ q. not (is_interface q.owner) || is_one q.fixed ≡ true) ports p c.interfaces one;
    gateways = each-push (λ q. not (is_gateway q.owner) || not (is_empty q.fixed) ≡ true) ports p c.gateways (unless (is_gateway p.owner) _ no_gateway);
    unsecured = each-push (λ q. not (is_router_port q.owner) || not q.secured ≡ true) ports p c.unsecured unfiltered;
    counts = λ k r at. count-push (is_gateway_of r.id) ports p (first_fails (is_gateway p.owner) (device_is p.device r.id) no_gateway) ∙ c.counts k r at;
    named = λ k r at. if_some-weaker _ _ r.gateway (λ (g : Gateway) h. any-grows (is_named_gateway r g) ports p h) (c.named k r at);
  }

  pub own_ports_serve : {floatings : List FloatingRow}
      → not (is_own_port floatings p.id) || not p.secured ≡ true → OwnPortsServe ports floatings → OwnPortsServe (ports ++ p ∷ []) floatings
  own_ports_serve {floatings} unfiltered c = record {
    once = c.once;
    there = λ k f at. still_so f.own_port (is_port_for f) (c.there k f at);
    unsecured = each-push (λ q. not (is_own_port floatings q.id) || not q.secured ≡ true) ports p c.unsecured unfiltered;
  }

  pub floatings_lead : {routers : List RouterRow} {floatings : List FloatingRow}
      → FloatingsLead ports routers floatings → FloatingsLead (ports ++ p ∷ []) routers floatings
  floatings_lead {routers} {floatings} c = record {
    once = c.once;
    targets = λ k f at. if_some-weaker (leads_to ports routers f) (leads_to (ports ++ p ∷ []) routers f) f.target (λ (t : Target) h.
        and_left_weaker _ _ _ (λ g. still_so t.port (is_target_port (ports ++ p ∷ []) f t) (any-weaker _ _ ports
        (λ q. and_weaker (ident_eq t.port q.id) _ _ (and_weaker (bytes_eq q.project f.project) _ _
        (any-weaker _ _ q.fixed (λ (x : Fixed). and_weaker (is_four x.address t.fixed) _ _ (any-grows (λ r. is_interface r.owner && (device_is r.device t.router && holds_in x.subnet r)) ports p))))) g)) h) (c.targets k f at);
  }

  pub groups_serve : {projects : List ProjectRow} {groups : List GroupRow} {rules : List RuleRow}
      → list_all (is_group_of groups p.project) p.groups ≡ true → p.secured || (is_empty p.groups && is_empty p.pairs) ≡ true → GroupsServe projects ports groups rules → GroupsServe projects (ports ++ p ∷ []) groups rules
  groups_serve {projects} {groups} {rules} mine bare c = record {
    defaults = c.defaults;
    of_ports = each-push (λ q. list_all (is_group_of groups q.project) q.groups ≡ true) ports p c.of_ports mine;
    bare = each-push (λ q. q.secured || (is_empty q.groups && is_empty q.pairs) ≡ true) ports p c.bare bare;
    remotes = c.remotes;
    apart = c.apart;
  }

  pub ports_are_allowed : {networks : List NetworkRow} {policies : List PolicyRow}
      → may_be_there networks policies p ≡ true → PortsAreAllowed networks ports policies → PortsAreAllowed networks (ports ++ p ∷ []) policies
  ports_are_allowed {networks} {policies} allowed c = record {
    of_ports = each-push (λ q. may_be_there networks policies q ≡ true) ports p c.of_ports allowed;
  }

  pub routes_lead : {subnets : List SubnetRow} {routers : List RouterRow}
      → RoutesLead subnets ports routers → RoutesLead subnets (ports ++ p ∷ []) routers
  routes_lead {subnets} {routers} c = record {
    routes = λ k r at. all-weaker (is_reached subnets ports r) (is_reached subnets (ports ++ p ∷ []) r) r.routes (λ hop h. any-grows _ ports p h) (c.routes k r at);
  }

  -- a port that is no router's clashes with none
  pub apart_from_routers : (subnets : List SubnetRow) (routers : List RouterRow) → is_router_port p.owner ≡ false
      → Each (λ q. (ports_clash routers subnets q p ≡ false) × (ports_clash routers subnets p q ≡ false)) ports
  apart_from_routers subnets routers no_router k q at = (
    and_fails _ _ (first_fails _ _ (any-none (λ r. is_port_of r q && is_port_of r p) routers (λ l r at_r. and_fails (is_port_of r q) (is_port_of r p) (no_port_of r)))),
    and_fails _ _ (first_fails _ _ (any-none (λ r. is_port_of r p && is_port_of r q) routers (λ l r at_r. first_fails (is_port_of r p) (is_port_of r q) (no_port_of r)))),
  )
    where
      no_port_of : (r : RouterRow) → is_port_of r p ≡ false
      no_port_of r = first_fails (is_router_port p.owner) (device_is p.device r.id) no_router

module _ (rows : RowLists) (p : PortRow) where
  pub are_drawn : is_drawn rows.projects p.id ≡ true → AreDrawn rows → AreDrawn (with_port rows p)
  are_drawn drawn c = record {
    networks = c.networks;
    subnets = c.subnets;
    ports = each-push (λ r. is_drawn rows.projects r.id ≡ true) rows.ports p c.ports drawn;
    groups = c.groups;
    rules = c.rules;
    routers = c.routers;
    floatings = c.floatings;
    policies = c.policies;
  }

  pub projects_stand : port_project_stands rows.projects rows.floatings p ≡ true → ProjectsStand rows → ProjectsStand (with_port rows p)
  projects_stand project c = record {
    of_networks = c.of_networks;
    of_subnets = c.of_subnets;
    of_ports = each-push (λ q. port_project_stands rows.projects rows.floatings q ≡ true) rows.ports p c.of_ports project;
    of_groups = c.of_groups;
    of_rules = c.of_rules;
    of_routers = c.of_routers;
    of_floatings = c.of_floatings;
    of_policies = c.of_policies;
  }

  unknown : times_in rows p.id ≡ 0 → is_port rows.ports p.id ≡ false
  unknown fresh = none-counted (λ q. ident_eq p.id q.id) rows.ports (omega (arith, fresh))

  -- a new id is no floating address's own port
  pub no_own_port : times_in rows p.id ≡ 0 → PortsStand rows.ports rows.routers rows.floatings → is_own_port rows.floatings p.id ≡ false
  no_own_port fresh names = any-none (λ f. ident_eq p.id f.own_port) rows.floatings (unnamed (λ q. q.id) p.id rows.ports (λ f. f.own_port) rows.floatings (unknown fresh) names.of_floatings)

  no_router_port : IsNewPort rows p → is_router_port p.owner ≡ false
  no_router_port new = λ j. new.no_interface j || new.no_gateway j

  -- a group of the project is a group
  weak : (i : Ident) → is_group_of rows.groups p.project i ≡ true → is_group rows.groups i ≡ true
  weak i h = any-weaker (λ m. ident_eq i m.id && bytes_eq m.project p.project) (λ m. ident_eq i m.id) rows.groups (λ m g. (and_both _ _ g).0) h

  pub port_pushed : IsNewPort rows p → IsConsistent rows → IsConsistent (with_port rows p)
  port_pushed new c =
      let own = no_own_port new.fresh c.named.ports in
      let no_router = no_router_port new in
      record {
        numbered = record {
          projects = c.numbered.projects;
          ids = ids-push rows (with_port rows p) p.id (λ i. times-port rows i p) new.fresh c.numbered.ids;
          drawn = are_drawn new.drawn c.numbered.drawn;
        };
        named = record {
          networks = networks_stand rows.ports p new.network c.named.networks;
          subnets = subnets_stand rows.ports p new.subnets c.named.subnets;
          ports = ports_stand rows.ports p c.named.ports;
          groups = groups_stand rows.ports p (all-weaker (is_group_of rows.groups p.project) (is_group rows.groups) p.groups weak new.groups) c.named.groups;
          routers = c.named.routers;
          projects = projects_stand ((λ j. cond (new.no_gateway j || own j) (is_empty p.project) (is_registered rows.projects p.project)) ∙ new.project) c.named.projects;
        };
        in_form = in_form rows.ports p (unless (is_dhcp p.owner) _ new.no_dhcp) new.form c.in_form;
        held_once = are_held_once rows.ports p new.mac new.addresses c.held_once;
        hosts = are_hosts rows.ports p new.hosts c.hosts;
        disjoint = are_disjoint rows.ports p (apart_from_routers rows.ports p rows.subnets rows.routers no_router) c.disjoint;
        segments = c.segments;
        on_hosts = are_on_hosts rows.ports p (or_weaker (not (is_bound p.vif)) true _ (λ h. all-true (λ r. not (is_port_of r p) || is_some_so (bytes_eq p.host) r.host) rows.routers
            (λ r. unless (is_port_of r p) _ (first_fails (is_router_port p.owner) (device_is p.device r.id) no_router))) (or_true (not (is_bound p.vif)))) c.on_hosts;
        services = record {
          dhcp = dhcp_ports_serve rows.ports p new.no_dhcp c.services.dhcp;
          of_routers = router_ports_serve rows.ports p new.no_gateway (unless (is_router_port p.owner) _ no_router) (unless (is_interface p.owner) _ new.no_interface) (unless (is_router_port p.owner) _ no_router) c.services.of_routers;
          of_floatings = own_ports_serve rows.ports p (unless (is_own_port rows.floatings p.id) _ own) c.services.of_floatings;
        };
        floatings = floatings_lead rows.ports p c.floatings;
        groups = groups_serve rows.ports p new.groups new.bare c.groups;
        allowed = ports_are_allowed rows.ports p new.allowed c.allowed;
        outsides = c.outsides;
        routes = routes_lead rows.ports p c.routes;
      }

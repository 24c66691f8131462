-- A port of any owner that is given another name or description keeps rows consistent: no clause reads them.
use Rattle.std.proofs.Common.{◌≡◌, ◌∙◌, ℕ, List, Bool, true, Some, slice_get, slice_set, refl, ap, sym, arith, subst}
use Rattle.std.specs.Prelude.{◌&&◌, ◌||◌, not, count_by}
use Rattle.std.specs.List.{list_any, list_all}
use Rattle.std.specs.Str.{bytes_eq}
use Rattle.net_addr.specs.Addresses.{is_four}
use Rattle.api_types.specs.Ident.{Ident}
use Rattle.api_types.specs.Table.{ident_eq}
use Rattle.api_types.specs.RowLists.{RowLists}
use Rattle.api_types.specs.Lists.{Each, is_empty, is_one}
use Rattle.api_types.specs.Owners.{is_interface, is_gateway, is_dhcp, is_router_port, device_is, is_port_of, holds_in, is_dhcp_of}
use Rattle.api_types.specs.Consistent.{IsConsistent}
use Rattle.api_types.specs.Consistent.Named.{is_own_port}
use Rattle.api_types.specs.Consistent.HeldOnce.{has_mac, holds_times, AreHeldOnce}
use Rattle.api_types.specs.Consistent.Disjoint.{ports_clash, AreDisjoint}
use Rattle.api_types.specs.Consistent.Services.{leases, is_leased, DhcpPortsServe, is_gateway_of, is_named_gateway, RouterPortsServe, is_port_for, OwnPortsServe}
use Rattle.api_types.specs.Consistent.Floating.{has_interface, is_target_port, leads_to, FloatingsLead}
use Rattle.api_types.specs.Consistent.NextHops.{is_reached, RoutesLead}
use Rattle.api_types.specs.declared.network.NetworkRow.{NetworkRow}
use Rattle.api_types.specs.declared.subnet.SubnetRow.{SubnetRow}
use Rattle.api_types.specs.declared.port.PortRow.{PortRow}
use Rattle.api_types.specs.declared.port.Fixed.{Fixed}
use Rattle.api_types.specs.declared.router.RouterRow.{RouterRow}
use Rattle.api_types.specs.declared.router.Gateway.{Gateway}
use Rattle.api_types.specs.declared.floating.FloatingRow.{FloatingRow}
use Rattle.api_types.specs.declared.floating.Target.{Target}
use Rattle.row_laws.specs.Replaced.{with_port_at, IsRenamedPort}
use Rattle.api_types.proofs.ListLemmas.{each-set, any-set_same, sum-set_same}
use Rattle.api_types.proofs.NameLemmas.{if_some-weaker, all-weaker, and_left_weaker, any-agree, count-set}
use Rattle.row_laws.proofs.PortReplaced.{are_drawn, are_hosts, are_on_hosts, groups_serve, groups_stand, in_form, networks_stand, ports_are_allowed, ports_stand, projects_stand, subnets_stand}

module _ (ports : List PortRow) (place : ℕ) (old : PortRow) (name description : List ℕ) (at : slice_get ports place ≡ Some old) where
  abbrev pub renamed : PortRow
  renamed = record old { name = name; description = description }

  abbrev others : List PortRow
  others = slice_set ports place renamed

  -- a test that reads neither sees no difference
  look : (test : PortRow → Bool) → test renamed ≡ test old → list_any test others ≡ list_any test ports
  look test same = any-set_same test ports place old renamed at same

  counted : (test : PortRow → Bool) → test renamed ≡ test old → count_by test others ≡ count_by test ports
  counted test same = count-set test ports place old renamed at same

  -- a fact that reads neither
  each : (P : PortRow → Type 0) → (P old → P renamed) → Each P ports → Each P others
  each P still all = each-set P ports place renamed all (still (all place old at))

  pub are_held_once : AreHeldOnce ports → AreHeldOnce others
  are_held_once c = record {
    macs = λ network mac. let e = counted (has_mac network mac) refl in omega (arith, e, c.macs network mac);
    addresses = λ network x. let e = sum-set_same (holds_times network x) ports place old renamed at refl in omega (arith, e, c.addresses network x);
  }

  pub are_disjoint : {subnets : List SubnetRow} {routers : List RouterRow} → AreDisjoint subnets ports routers → AreDisjoint subnets others routers
  are_disjoint {subnets} {routers} c = record {
    in_network = c.in_network;
    at_router = each-set (λ q. not (list_any (ports_clash routers subnets q) others) ≡ true) ports place renamed
        (λ k q h. ap not (look (ports_clash routers subnets q) refl) ∙ c.at_router k q h)
        (ap not (look (ports_clash routers subnets renamed) refl) ∙ c.at_router place old at);
  }

  pub dhcp_ports_serve : {networks : List NetworkRow} {subnets : List SubnetRow} → DhcpPortsServe networks subnets ports → DhcpPortsServe networks subnets others
  dhcp_ports_serve {networks} {subnets} c = record {
    there = λ k n h. counted (is_dhcp_of n.id) refl ∙ c.there k n h;
    holds = each (λ q. not (is_dhcp q.owner) || list_all (leases q) subnets ≡ true) (λ h. h) c.holds;
    no_other = each (λ q. not (is_dhcp q.owner) || list_all (is_leased subnets) q.fixed ≡ true) (λ h. h) c.no_other;
    unsecured = each (λ q. not (is_dhcp q.owner) || not q.secured ≡ true) (λ h. h) c.unsecured;
  }

  pub router_ports_serve : {routers : List RouterRow} → RouterPortsServe ports routers → RouterPortsServe others routers
  router_ports_serve {routers} c = record {
    devices = each (λ q. not (is_router_port q.owner) || list_any (λ r. is_port_of r q) routers ≡ true) (λ h. h) c.devices;
    interfaces = each (λ q. not (is_interface q.owner) || is_one q.fixed ≡ true) (λ h. h) c.interfaces;
    gateways = each (λ q. not (is_gateway q.owner) || not (is_empty q.fixed) ≡ true) (λ h. h) c.gateways;
    unsecured = each (λ q. not (is_router_port q.owner) || not q.secured ≡ true) (λ h. h) c.unsecured;
    counts = λ k r h. counted (is_gateway_of r.id) refl ∙ c.counts k r h;
    named = λ k r h. if_some-weaker _ _ r.gateway (λ (g : Gateway) e. look (is_named_gateway r g) refl ∙ e) (c.named k r h);
  }

  pub own_ports_serve : {floatings : List FloatingRow} → OwnPortsServe ports floatings → OwnPortsServe others floatings
  own_ports_serve {floatings} c = record {
    once = c.once;
    there = λ k f h. look (λ q. ident_eq f.own_port q.id && is_port_for f q) refl ∙ c.there k f h;
    unsecured = each (λ q. not (is_own_port floatings q.id) || not q.secured ≡ true) (λ h. h) c.unsecured;
  }

  -- whether a router has an interface on a subnet is as it was
  through_same : (router subnet : Ident) → has_interface others router subnet ≡ has_interface ports router subnet
  through_same router subnet = look (λ q. is_interface q.owner && (device_is q.device router && holds_in subnet q)) refl

  pub floatings_lead : {routers : List RouterRow} {floatings : List FloatingRow} → FloatingsLead ports routers floatings → FloatingsLead others routers floatings
  floatings_lead {routers} {floatings} c = record {
    once = c.once;
    targets = λ k f at_f. if_some-weaker (leads_to ports routers f) (leads_to others routers f) f.target
        (λ (t : Target) h. and_left_weaker _ _ _ (λ g. any-agree (λ p. ident_eq t.port p.id && is_target_port others f t p) (λ p. ident_eq t.port p.id && is_target_port ports f t p) others
        (λ p. ap (λ b. ident_eq t.port p.id && (bytes_eq p.project f.project && b)) (any-agree _ _ p.fixed (λ (x : Fixed). ap (λ b. is_four x.address t.fixed && b) (through_same t.router x.subnet))))
        ∙ (look (λ p. ident_eq t.port p.id && is_target_port ports f t p) refl ∙ g)) h)
        (c.targets k f at_f);
  }

  pub routes_lead : {subnets : List SubnetRow} {routers : List RouterRow} → RoutesLead subnets ports routers → RoutesLead subnets others routers
  routes_lead {subnets} {routers} c = record {
    routes = λ k r at_r. all-weaker (is_reached subnets ports r) (is_reached subnets others r) r.routes (λ hop h. look _ refl ∙ h) (c.routes k r at_r);
  }

module _ (rows : RowLists) (place : ℕ) (old : PortRow) (at : slice_get rows.ports place ≡ Some old) where
  renamed_kept : (name description : List ℕ) → IsConsistent rows → IsConsistent (with_port_at rows place (record old { name = name; description = description }))
  renamed_kept name description c =
      let new : PortRow = record old { name = name; description = description } in
      record {
        numbered = record {
          projects = c.numbered.projects;
          ids = λ i. let e = count-set (λ q. ident_eq i q.id) rows.ports place old new at refl in omega (arith, e, c.numbered.ids i);
          drawn = are_drawn rows place old new at refl c.numbered.drawn;
        };
        named = record {
          networks = networks_stand rows.ports place old new at refl c.named.networks;
          subnets = subnets_stand rows.ports place old new at (c.named.subnets.of_ports place old at) c.named.subnets;
          ports = ports_stand rows.ports place old new at refl c.named.ports;
          groups = groups_stand rows.ports place old new at (c.named.groups.of_ports place old at) c.named.groups;
          routers = c.named.routers;
          projects = projects_stand rows place old new at (c.named.projects.of_ports place old at) c.named.projects;
        };
        in_form = in_form rows.ports place old new at (c.in_form.dhcp_owners place old at) (c.in_form.port_forms place old at) c.in_form;
        held_once = are_held_once rows.ports place old name description at c.held_once;
        hosts = are_hosts rows.ports place old new at (c.hosts.addresses place old at) c.hosts;
        disjoint = are_disjoint rows.ports place old name description at c.disjoint;
        segments = c.segments;
        on_hosts = are_on_hosts rows.ports place old new at (c.on_hosts.at_router place old at) c.on_hosts;
        services = record {
          dhcp = dhcp_ports_serve rows.ports place old name description at c.services.dhcp;
          of_routers = router_ports_serve rows.ports place old name description at c.services.of_routers;
          of_floatings = own_ports_serve rows.ports place old name description at c.services.of_floatings;
        };
        floatings = floatings_lead rows.ports place old name description at c.floatings;
        groups = groups_serve rows.ports place old new at (c.groups.of_ports place old at) (c.groups.bare place old at) c.groups;
        allowed = ports_are_allowed rows.ports place old new at (c.allowed.of_ports place old at) c.allowed;
        outsides = c.outsides;
        routes = routes_lead rows.ports place old name description at c.routes;
      }

  pub port_renamed : (new : PortRow) → IsRenamedPort old new → IsConsistent rows → IsConsistent (with_port_at rows place new)
  port_renamed new is c =
      let same : new ≡ record old { name = new.name; description = new.description } = λ j. record {
        id = is.id j;
        project = is.project j;
        network = is.network j;
        name = new.name;
        description = new.description;
        up = is.up j;
        mac = is.mac j;
        fixed = is.fixed j;
        pairs = is.pairs j;
        secured = is.secured j;
        groups = is.groups j;
        device = is.device j;
        owner = is.owner j;
        host = is.host j;
        vif = is.vif j;
        by_admin = is.by_admin j;
      } in
      subst (λ p. IsConsistent (with_port_at rows place p)) (sym same) (renamed_kept new.name new.description c)

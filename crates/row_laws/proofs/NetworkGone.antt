-- A network that goes with its subnets, its policies and its DHCP port, where no other port is on it, keeps rows consistent.
use Rattle.std.proofs.Common.{◌≡◌, ◌≤◌, ◌∙◌, ℕ, List, Bool, true, false, cond, Some, slice_get, refl, ap, sym, arith, subst}
use Rattle.std.specs.Prelude.{◌&&◌, ◌||◌, not, count_by, filter}
use Rattle.std.specs.List.{list_any, list_all}
use Rattle.std.specs.Str.{bytes_eq}
use Rattle.net_addr.specs.Addresses.{is_four}
use Rattle.net_addr.specs.declared.address.Addr.{Addr}
use Rattle.net_addr.specs.Prefixes.{contains, overlaps, is_host_of}
use Rattle.api_types.specs.Ident.{Ident}
use Rattle.api_types.specs.Table.{ident_eq}
use Rattle.api_types.specs.RowLists.{RowLists}
use Rattle.api_types.specs.Lists.{Each, stands, stands_so, is_empty}
use Rattle.api_types.specs.Owners.{is_interface, is_gateway, is_dhcp, is_floating, is_router_port, device_is, is_port_of, holds_in, is_dhcp_of}
use Rattle.api_types.specs.Sharing.{is_action, everyone, grants, is_granted, is_shared_with, is_external_to}
use Rattle.api_types.specs.Consistent.{IsConsistent}
use Rattle.api_types.specs.Consistent.Numbered.{times_in, IdsDiffer, AreDrawn}
use Rattle.api_types.specs.Consistent.Named.{is_network, is_port, names_subnet, NetworksStand, SubnetsStand, PortsStand, GroupsStand, ProjectsStand}
use Rattle.api_types.specs.Consistent.InForm.{is_network_of, AreInForm}
use Rattle.api_types.specs.Consistent.HeldOnce.{has_mac, holds_times}
use Rattle.api_types.specs.Consistent.Hosts.{is_host_in, is_own_address, AreHosts}
use Rattle.api_types.specs.Consistent.Disjoint.{subnets_clash, share_router, ports_clash, AreDisjoint}
use Rattle.api_types.specs.Consistent.Segments.{same_segment}
use Rattle.api_types.specs.Consistent.Carried.{is_bound, is_unbound, AreCarried}
use Rattle.api_types.specs.Consistent.Services.{wants_dhcp, leases, is_leased, DhcpPortsServe, is_gateway_of, is_named_gateway, RouterPortsServe, holds_just, is_port_for, OwnPortsServe}
use Rattle.api_types.specs.Consistent.Floating.{has_interface, leads_to, FloatingsLead}
use Rattle.api_types.specs.Consistent.Access.{may_be_there, PortsAreAllowed}
use Rattle.api_types.specs.Consistent.Permitted.{same_policy, OutsidesAreAllowed}
use Rattle.api_types.specs.Consistent.NextHops.{is_reached, RoutesLead}
use Rattle.api_types.specs.declared.network.NetworkRow.{NetworkRow}
use Rattle.api_types.specs.declared.network.Segment.{Segment}
use Rattle.api_types.specs.declared.subnet.SubnetRow.{SubnetRow}
use Rattle.api_types.specs.declared.port.PortRow.{PortRow}
use Rattle.api_types.specs.declared.port.Fixed.{Fixed}
use Rattle.api_types.specs.declared.router.RouterRow.{RouterRow}
use Rattle.api_types.specs.declared.router.Gateway.{Gateway}
use Rattle.api_types.specs.declared.floating.FloatingRow.{FloatingRow}
use Rattle.api_types.specs.declared.floating.Target.{Target}
use Rattle.api_types.specs.declared.policy.PolicyRow.{PolicyRow}
use Rattle.api_types.specs.declared.policy.Action.{Action}
use Rattle.api_types.specs.declared.policy.Action.TheVariants.{Shared, External}
use Rattle.row_laws.specs.Gone.{without_network, IsUnused}
use Rattle.api_types.proofs.ListLemmas.{and_both, both_and, any-at, any-weaker, at_filter, each-filter, any-filter, any-filter_none, sum-filter, sum-filter-le, any-filter_kept, any-filter_back, length-filter-le, one_row, both_of}
use Rattle.api_types.proofs.NameLemmas.{ident_same, ident_itself, by_test, or_weaker, if_some-weaker, all-weaker, and_weaker, not_true, fails_by, other_name, dhcp_alone, all-at, all-both, both_if, filter-all_of, count-filter}

module _ (rows : RowLists) (i : Ident) (c : IsConsistent rows) (unused : IsUnused rows i) where
  abbrev away : Ident → Bool
  away j = not (ident_eq i j)

  abbrev networks : List NetworkRow
  networks = filter (λ n. away n.id) rows.networks

  abbrev subnets : List SubnetRow
  subnets = filter (λ s. away s.network) rows.subnets

  abbrev ports : List PortRow
  ports = filter (λ p. away p.network) rows.ports

  abbrev policies : List PolicyRow
  policies = filter (λ l. away l.object) rows.policies

  -- a port that is no DHCP port stays
  stays : (k : ℕ) (p : PortRow) → slice_get rows.ports k ≡ Some p → is_dhcp p.owner ≡ false → away p.network ≡ true
  stays k p at h = ap not (fails_by (ident_eq i p.network) (is_dhcp p.owner) (unused k p at) h)

  gateway_stays : (k : ℕ) (p : PortRow) → slice_get rows.ports k ≡ Some p → is_gateway p.owner ≡ true → away p.network ≡ true
  gateway_stays k p at h = stays k p at (fails_by (is_dhcp p.owner) false (λ d. sym (dhcp_alone p.owner d).1 ∙ h) refl)

  interface_stays : (k : ℕ) (p : PortRow) → slice_get rows.ports k ≡ Some p → is_interface p.owner ≡ true → away p.network ≡ true
  interface_stays k p at h = stays k p at (fails_by (is_dhcp p.owner) false (λ d. sym (dhcp_alone p.owner d).0 ∙ h) refl)

  floating_stays : (k : ℕ) (p : PortRow) → slice_get rows.ports k ≡ Some p → is_floating p.owner ≡ true → away p.network ≡ true
  floating_stays k p at h = stays k p at (fails_by (is_dhcp p.owner) false (λ d. sym (dhcp_alone p.owner d).2 ∙ h) refl)

  router_port_stays : (k : ℕ) (p : PortRow) → slice_get rows.ports k ≡ Some p → is_router_port p.owner ≡ true → away p.network ≡ true
  router_port_stays k p at h = by_test (is_interface p.owner) (away p.network ≡ true) (interface_stays k p at)
      (λ fails. gateway_stays k p at (sym (ap (λ b. b || is_gateway p.owner) fails) ∙ h))

  once : (j : Ident) → count_by (λ s. ident_eq j s.id) rows.subnets ≤ 1
  once j = let all = c.numbered.ids j in omega (arith, all)

  -- a subnet in which a port holds an address is of the port's network
  held_here : (k : ℕ) (p : PortRow) (l : ℕ) (s : SubnetRow) → slice_get rows.ports k ≡ Some p → slice_get rows.subnets l ≡ Some s → holds_in s.id p ≡ true → s.network ≡ p.network
  held_here k p l s at_p at_s h =
      let found = any-at (λ (f : Fixed). ident_eq s.id f.subnet) p.fixed h in
      let f : Fixed = found.1 in
      let named = any-at (λ t. ident_eq f.subnet t.id && ident_eq t.network p.network) rows.subnets (all-at (names_subnet rows.subnets p) p.fixed (c.named.subnets.of_ports k p at_p) found.0 f found.2) in
      let t : SubnetRow = named.1 in
      let both = and_both (ident_eq f.subnet t.id) (ident_eq t.network p.network) named.3 in
      let one : s ≡ t = one_row (λ x. ident_eq s.id x.id) rows.subnets (once s.id) l named.0 s t at_s named.2 (ident_itself s.id) (subst (λ j. ident_eq j t.id ≡ true) (sym (ident_same s.id f.subnet found.3)) both.0) in
      ap (λ (x : SubnetRow). x.network) one ∙ ident_same t.network p.network both.1

  same_network : (k : ℕ) (p : PortRow) (m : ℕ) (x : Fixed) (l : ℕ) (q : PortRow) → slice_get rows.ports k ≡ Some p → slice_get p.fixed m ≡ Some x → slice_get rows.ports l ≡ Some q
      → holds_in x.subnet q ≡ true → q.network ≡ p.network
  same_network k p m x l q at_p at_x at_q h =
      let named = any-at (λ t. ident_eq x.subnet t.id && ident_eq t.network p.network) rows.subnets (all-at (names_subnet rows.subnets p) p.fixed (c.named.subnets.of_ports k p at_p) m x at_x) in
      let t : SubnetRow = named.1 in
      let both = and_both (ident_eq x.subnet t.id) (ident_eq t.network p.network) named.3 in
      sym (held_here l q named.0 t at_q named.2 (subst (λ j. holds_in j q ≡ true) (ident_same x.subnet t.id both.0) h)) ∙ ident_same t.network p.network both.1

  -- what is said of the subnet of a port that stays is said of one that stays
  subnet_stays : (p : PortRow) (f : Fixed) (test : SubnetRow → Bool) → away p.network ≡ true → names_subnet rows.subnets p f ≡ true
      → stands_so (λ s. s.id) f.subnet test rows.subnets ≡ true → stands_so (λ s. s.id) f.subnet test subnets ≡ true
  subnet_stays p f test kept names h = any-filter_kept (λ s. away s.network) (λ s. ident_eq f.subnet s.id && (ident_eq s.network p.network && test s)) (λ s. ident_eq f.subnet s.id && test s) rows.subnets
      (λ k s at g.
      let outer = and_both (ident_eq f.subnet s.id) (ident_eq s.network p.network && test s) g in
      let inner = and_both (ident_eq s.network p.network) (test s) outer.1 in
      (ap away (ident_same s.network p.network inner.0) ∙ kept, both_and (ident_eq f.subnet s.id) (test s) outer.0 inner.1))
      (both_of (λ s. ident_eq f.subnet s.id) (λ s. ident_eq s.network p.network) test rows.subnets (once f.subnet) names h)

  -- a network of another id stays, with what is said of it
  network_stays : (j : Ident) (test : NetworkRow → Bool) → away j ≡ true → stands_so (λ n. n.id) j test rows.networks ≡ true → stands_so (λ n. n.id) j test networks ≡ true
  network_stays j test kept h = any-filter (λ n. away n.id) (λ n. ident_eq j n.id && test n) rows.networks (λ k n at gone. ap (λ b. b && test n) (other_name i j n.id kept gone)) ∙ h

  stands_still : (j : Ident) → away j ≡ true → stands (λ n. n.id) j rows.networks ≡ true → stands (λ n. n.id) j networks ≡ true
  stands_still j kept h = any-filter (λ n. away n.id) (λ n. ident_eq j n.id) rows.networks (λ k n at gone. other_name i j n.id kept gone) ∙ h

  -- grants on another network stay
  granted_still : (action : Action) (j : Ident) (project : List ℕ) → away j ≡ true → is_granted policies action j project ≡ is_granted rows.policies action j project
  granted_still action j project kept = any-filter (λ l. away l.object) (grants action j project) rows.policies
      (λ k l at gone. ap (λ b. b && (is_action action l.action && (bytes_eq l.target project || bytes_eq l.target everyone))) (other_name i j l.object kept gone))

  -- the networks of gateways and of floating addresses stay
  gateway_parts : (r : RouterRow) (g : Gateway) (p : PortRow) → is_named_gateway r g p ≡ true → (is_gateway p.owner ≡ true) × (g.network ≡ p.network) × (ident_eq g.port p.id ≡ true)
  gateway_parts r g p h =
      let a = and_both (is_gateway_of r.id p) (ident_eq g.network p.network && ident_eq g.port p.id) h in
      let b = and_both (is_gateway p.owner) (device_is p.device r.id) a.0 in
      let d = and_both (ident_eq g.network p.network) (ident_eq g.port p.id) a.1 in
      (b.0, ident_same g.network p.network d.0, d.1)

  gateway_away : (r : RouterRow) (g : Gateway) → list_any (is_named_gateway r g) rows.ports ≡ true → away g.network ≡ true
  gateway_away r g h =
      let found = any-at (is_named_gateway r g) rows.ports h in
      let parts = gateway_parts r g found.1 found.3 in
      ap away parts.1 ∙ gateway_stays found.0 found.1 found.2 parts.0

  abbrev own_test : FloatingRow → PortRow → Bool
  own_test f p = is_port_for f p

  own_parts : (f : FloatingRow) (p : PortRow) → own_test f p ≡ true → (p.network ≡ f.network) × (is_floating p.owner ≡ true)
  own_parts f p h =
      let first = and_both (ident_eq f.network p.network && is_floating p.owner && holds_just f.address p.fixed) (is_unbound p.vif) h in
      let second = and_both (ident_eq f.network p.network && is_floating p.owner) (holds_just f.address p.fixed) first.0 in
      let third = and_both (ident_eq f.network p.network) (is_floating p.owner) second.0 in
      (sym (ident_same f.network p.network third.0), third.1)

  own_stays : (k : ℕ) (f : FloatingRow) → slice_get rows.floatings k ≡ Some f → Each (λ p. ident_eq f.own_port p.id && own_test f p ≡ true → away p.network ≡ true) rows.ports
  own_stays k f at l p at_p h = floating_stays l p at_p (own_parts f p (and_both (ident_eq f.own_port p.id) (own_test f p) h).1).1

  floating_away : (k : ℕ) (f : FloatingRow) → slice_get rows.floatings k ≡ Some f → away f.network ≡ true
  floating_away k f at =
      let found = any-at (λ p. ident_eq f.own_port p.id && own_test f p) rows.ports (c.services.of_floatings.there k f at) in
      let parts = own_parts f found.1 (and_both (ident_eq f.own_port found.1.id) (own_test f found.1) found.3).1 in
      sym (ap away parts.0) ∙ own_stays k f at found.0 found.1 found.2 found.3

  -- what holds of each row holds of those that stay
  left_networks : (P : NetworkRow → Type 0) → Each P rows.networks → Each P networks
  left_networks P = each-filter (λ n. away n.id) P P rows.networks (λ r kept h. h)

  left_subnets : (P : SubnetRow → Type 0) → Each P rows.subnets → Each P subnets
  left_subnets P = each-filter (λ s. away s.network) P P rows.subnets (λ r kept h. h)

  left_ports : (P : PortRow → Type 0) → Each P rows.ports → Each P ports
  left_ports P = each-filter (λ p. away p.network) P P rows.ports (λ r kept h. h)

  left_policies : (P : PolicyRow → Type 0) → Each P rows.policies → Each P policies
  left_policies P = each-filter (λ l. away l.object) P P rows.policies (λ r kept h. h)

  -- the port that a floating address leads to stays
  abbrev target_test : FloatingRow → Target → List PortRow → PortRow → Bool
  target_test f t all p = bytes_eq p.project f.project && list_any (λ (x : Fixed). is_four x.address t.fixed && has_interface all t.router x.subnet) p.fixed

  abbrev interface_at : Ident → Ident → PortRow → Bool
  interface_at router subnet q = is_interface q.owner && (device_is q.device router && holds_in subnet q)

  interface_parts : (router subnet : Ident) (q : PortRow) → interface_at router subnet q ≡ true → (is_interface q.owner ≡ true) × (holds_in subnet q ≡ true)
  interface_parts router subnet q h =
      let a = and_both (is_interface q.owner) (device_is q.device router && holds_in subnet q) h in
      (a.0, (and_both (device_is q.device router) (holds_in subnet q) a.1).1)

  target_stays : (f : FloatingRow) (t : Target) → stands_so (λ p. p.id) t.port (target_test f t rows.ports) rows.ports ≡ true → stands_so (λ p. p.id) t.port (target_test f t ports) ports ≡ true
  target_stays f t = any-filter_kept (λ p. away p.network) (λ p. ident_eq t.port p.id && target_test f t rows.ports p) (λ p. ident_eq t.port p.id && target_test f t ports p) rows.ports
      (λ k p at h.
      let a = and_both (ident_eq t.port p.id) (target_test f t rows.ports p) h in
      let b = and_both (bytes_eq p.project f.project) _ a.1 in
      let found = any-at (λ (x : Fixed). is_four x.address t.fixed && list_any (interface_at t.router x.subnet) rows.ports) p.fixed b.1 in
      let x : Fixed = found.1 in
      let at_x = and_both (is_four x.address t.fixed) _ found.3 in
      let through = any-at (interface_at t.router x.subnet) rows.ports at_x.1 in
      let q : PortRow = through.1 in
      let parts = interface_parts t.router x.subnet q through.3 in
      let kept : away p.network ≡ true = sym (ap away (same_network k p found.0 x through.0 q at found.2 through.2 parts.1)) ∙ interface_stays through.0 q through.2 parts.0 in (
        kept,
        both_and (ident_eq t.port p.id) _ a.0 (both_and (bytes_eq p.project f.project) _ b.0
            (any-weaker _ _ p.fixed (λ (y : Fixed). and_weaker (is_four y.address t.fixed) _ _ (any-filter_kept (λ q. away q.network) (interface_at t.router y.subnet) (interface_at t.router y.subnet) rows.ports
            (λ l r at_r g. (interface_stays l r at_r (interface_parts t.router y.subnet r g).0, g)))) b.1)),
      ))

  abbrev reach_test : RouterRow → Addr → List SubnetRow → PortRow → Bool
  reach_test r x all p = is_port_of r p && list_any (λ s. holds_in s.id p && contains s.prefix x) all

  are_drawn : AreDrawn (without_network rows i)
  are_drawn = record {
    networks = left_networks _ c.numbered.drawn.networks;
    subnets = left_subnets _ c.numbered.drawn.subnets;
    ports = left_ports _ c.numbered.drawn.ports;
    groups = c.numbered.drawn.groups;
    rules = c.numbered.drawn.rules;
    routers = c.numbered.drawn.routers;
    floatings = c.numbered.drawn.floatings;
    policies = left_policies _ c.numbered.drawn.policies;
  }

  ids_differ : IdsDiffer (without_network rows i)
  ids_differ j =
      let a = sum-filter-le (λ n. away n.id) (λ (n : NetworkRow). cond {A = ℕ} (ident_eq j n.id) 1 0) rows.networks in
      let b = sum-filter-le (λ s. away s.network) (λ (s : SubnetRow). cond {A = ℕ} (ident_eq j s.id) 1 0) rows.subnets in
      let d = sum-filter-le (λ p. away p.network) (λ (p : PortRow). cond {A = ℕ} (ident_eq j p.id) 1 0) rows.ports in
      let e = sum-filter-le (λ l. away l.object) (λ (l : PolicyRow). cond {A = ℕ} (ident_eq j l.id) 1 0) rows.policies in
      let all : times_in rows j ≤ 1 = c.numbered.ids j in
      omega (arith, a, b, d, e, all)

  networks_stand : NetworksStand networks subnets ports rows.routers rows.floatings policies
  networks_stand = record {
    of_subnets = each-filter (λ s. away s.network) (λ s. is_network rows.networks s.network ≡ true) (λ s. is_network networks s.network ≡ true) rows.subnets (λ s kept h. stands_still s.network kept h) c.named.networks.of_subnets;
    of_ports = each-filter (λ p. away p.network) (λ p. is_network rows.networks p.network ≡ true) (λ p. is_network networks p.network ≡ true) rows.ports (λ p kept h. stands_still p.network kept h) c.named.networks.of_ports;
    of_gateways = λ k r at. both_if r.gateway (λ (g : Gateway). list_any (is_named_gateway r g) rows.ports) (λ (g : Gateway). is_network rows.networks g.network) (λ (g : Gateway). is_network networks g.network)
        (λ (g : Gateway) found h. stands_still g.network (gateway_away r g found) h) (c.services.of_routers.named k r at) (c.named.networks.of_gateways k r at);
    of_floatings = λ k f at. stands_still f.network (floating_away k f at) (c.named.networks.of_floatings k f at);
    of_policies = each-filter (λ l. away l.object) (λ l. is_network rows.networks l.object ≡ true) (λ l. is_network networks l.object ≡ true) rows.policies (λ l kept h. stands_still l.object kept h) c.named.networks.of_policies;
  }

  subnets_stand : SubnetsStand subnets ports
  subnets_stand = record {
    of_ports = each-filter (λ p. away p.network) (λ p. list_all (names_subnet rows.subnets p) p.fixed ≡ true) (λ p. list_all (names_subnet subnets p) p.fixed ≡ true) rows.ports
        (λ p kept h. all-weaker (names_subnet rows.subnets p) (names_subnet subnets p) p.fixed (λ (f : Fixed) g. subnet_stays p f (λ s. ident_eq s.network p.network) kept g g) h) c.named.subnets.of_ports;
  }

  ports_stand : PortsStand ports rows.routers rows.floatings
  ports_stand = record {
    of_gateways = λ k r at. if_some-weaker (λ (g : Gateway). list_any (is_named_gateway r g) rows.ports) (λ (g : Gateway). is_port ports g.port) r.gateway
        (λ (g : Gateway). any-filter_kept (λ p. away p.network) (is_named_gateway r g) (λ p. ident_eq g.port p.id) rows.ports
        (λ l p at_p h. (gateway_stays l p at_p (gateway_parts r g p h).0, (gateway_parts r g p h).2))) (c.services.of_routers.named k r at);
    of_floatings = λ k f at. any-filter_kept (λ p. away p.network) (λ p. ident_eq f.own_port p.id && own_test f p) (λ p. ident_eq f.own_port p.id) rows.ports
        (λ l p at_p h. (own_stays k f at l p at_p h, (and_both (ident_eq f.own_port p.id) (own_test f p) h).0)) (c.services.of_floatings.there k f at);
    of_targets = λ k f at. if_some-weaker (leads_to rows.ports rows.routers f) (λ (t : Target). is_port ports t.port) f.target
        (λ (t : Target) h. any-weaker (λ p. ident_eq t.port p.id && target_test f t ports p) (λ p. ident_eq t.port p.id) ports
        (λ p g. (and_both (ident_eq t.port p.id) _ g).0) (target_stays f t (and_both (stands_so (λ p. p.id) t.port (target_test f t rows.ports) rows.ports) _ h).0)) (c.floatings.targets k f at);
  }

  groups_stand : GroupsStand rows.groups ports rows.rules
  groups_stand = record { of_ports = left_ports _ c.named.groups.of_ports; of_rules = c.named.groups.of_rules; of_remotes = c.named.groups.of_remotes }

  projects_stand : ProjectsStand (without_network rows i)
  projects_stand = record {
    of_networks = left_networks _ c.named.projects.of_networks;
    of_subnets = left_subnets _ c.named.projects.of_subnets;
    of_ports = left_ports _ c.named.projects.of_ports;
    of_groups = c.named.projects.of_groups;
    of_rules = c.named.projects.of_rules;
    of_routers = c.named.projects.of_routers;
    of_floatings = c.named.projects.of_floatings;
    of_policies = left_policies _ c.named.projects.of_policies;
  }

  in_form : AreInForm networks subnets ports rows.groups rows.rules rows.routers
  in_form = record {
    segments = left_networks _ c.in_form.segments;
    subnet_owners = each-filter (λ s. away s.network) (λ s. is_network_of rows.networks s.project s.network ≡ true) (λ s. is_network_of networks s.project s.network ≡ true) rows.subnets
        (λ s kept h. network_stays s.network (λ n. bytes_eq n.project s.project) kept h) c.in_form.subnet_owners;
    subnet_forms = left_subnets _ c.in_form.subnet_forms;
    dhcp_owners = each-filter (λ p. away p.network) (λ p. not (is_dhcp p.owner) || is_network_of rows.networks p.project p.network ≡ true)
        (λ p. not (is_dhcp p.owner) || is_network_of networks p.project p.network ≡ true) rows.ports
        (λ p kept h. or_weaker (not (is_dhcp p.owner)) _ _ (network_stays p.network (λ n. bytes_eq n.project p.project) kept) h) c.in_form.dhcp_owners;
    port_forms = left_ports _ c.in_form.port_forms;
    rule_owners = c.in_form.rule_owners;
    routes = c.in_form.routes;
  }

  disjoint : AreDisjoint subnets ports rows.routers
  disjoint = record {
    in_network = each-filter (λ s. away s.network) (λ s. not (list_any (subnets_clash s) rows.subnets) ≡ true) (λ s. not (list_any (subnets_clash s) subnets) ≡ true) rows.subnets
        (λ s kept h. ap not (any-filter_none (λ t. away t.network) (subnets_clash s) rows.subnets (not_true _ h))) c.disjoint.in_network;
    at_router = each-filter (λ p. away p.network) (λ p. not (list_any (ports_clash rows.routers rows.subnets p) rows.ports) ≡ true) (λ p. not (list_any (ports_clash rows.routers subnets p) ports) ≡ true) rows.ports
        (λ p kept h. ap not (fails_by (list_any (ports_clash rows.routers subnets p) ports) (list_any (ports_clash rows.routers rows.subnets p) rows.ports)
        (λ g. any-weaker (ports_clash rows.routers subnets p) (ports_clash rows.routers rows.subnets p) rows.ports
        (λ q. and_weaker (not (ident_eq p.id q.id)) _ _ (and_weaker (share_router rows.routers p q) _ _
        (λ b. any-weaker _ _ rows.subnets (λ s. and_weaker (holds_in s.id p) _ _ (any-filter_back (λ t. away t.network) (λ t. holds_in t.id q && overlaps s.prefix t.prefix) rows.subnets))
        (any-filter_back (λ t. away t.network) (λ s. holds_in s.id p && list_any (λ t. holds_in t.id q && overlaps s.prefix t.prefix) subnets) rows.subnets b))))
        (any-filter_back (λ q. away q.network) (ports_clash rows.routers subnets p) rows.ports g)) (not_true _ h))) c.disjoint.at_router;
  }

  dhcp_ports_serve : DhcpPortsServe networks subnets ports
  dhcp_ports_serve = record {
    there = each-filter (λ n. away n.id) (λ n. count_by (is_dhcp_of n.id) rows.ports ≡ cond (wants_dhcp rows.subnets n.id) 1 0) (λ n. count_by (is_dhcp_of n.id) ports ≡ cond (wants_dhcp subnets n.id) 1 0) rows.networks
        (λ n kept h. sum-filter (λ p. away p.network) (λ p. cond (is_dhcp_of n.id p) 1 0) rows.ports (λ k p at gone. ap (λ b. cond (b && is_dhcp p.owner) 1 0) (other_name i n.id p.network kept gone))
        ∙ (h ∙ ap (λ b. cond b 1 0) (sym (any-filter (λ s. away s.network) (λ s. ident_eq n.id s.network && s.dhcp) rows.subnets (λ k s at gone. ap (λ b. b && s.dhcp) (other_name i n.id s.network kept gone)))))) c.services.dhcp.there;
    holds = each-filter (λ p. away p.network) (λ p. not (is_dhcp p.owner) || list_all (leases p) rows.subnets ≡ true) (λ p. not (is_dhcp p.owner) || list_all (leases p) subnets ≡ true) rows.ports
        (λ p kept h. or_weaker (not (is_dhcp p.owner)) _ _ (filter-all_of (λ s. away s.network) (leases p) rows.subnets) h) c.services.dhcp.holds;
    no_other = λ k p at.
        let here = at_filter (λ p. away p.network) rows.ports k p at in
        or_weaker (not (is_dhcp p.owner)) _ _ (all-both (names_subnet rows.subnets p) (is_leased rows.subnets) (is_leased subnets) p.fixed
        (λ (f : Fixed). subnet_stays p f (λ s. s.dhcp) here.2) (c.named.subnets.of_ports here.0 p here.1)) (c.services.dhcp.no_other here.0 p here.1);
    unsecured = left_ports _ c.services.dhcp.unsecured;
  }

  router_ports_serve : RouterPortsServe ports rows.routers
  router_ports_serve = record {
    devices = left_ports _ c.services.of_routers.devices;
    interfaces = left_ports _ c.services.of_routers.interfaces;
    gateways = left_ports _ c.services.of_routers.gateways;
    unsecured = left_ports _ c.services.of_routers.unsecured;
    counts = λ k r at. sum-filter (λ p. away p.network) (λ p. cond (is_gateway_of r.id p) 1 0) rows.ports
        (λ l p at_p gone. ap (λ b. cond b 1 0) (fails_by (is_gateway_of r.id p) (away p.network) (λ h. gateway_stays l p at_p (and_both (is_gateway p.owner) (device_is p.device r.id) h).0) gone)) ∙ c.services.of_routers.counts k r at;
    named = λ k r at. if_some-weaker _ _ r.gateway (λ (g : Gateway). any-filter_kept (λ p. away p.network) (is_named_gateway r g) (is_named_gateway r g) rows.ports
        (λ l p at_p h. (gateway_stays l p at_p (gateway_parts r g p h).0, h))) (c.services.of_routers.named k r at);
  }

  own_ports_serve : OwnPortsServe ports rows.floatings
  own_ports_serve = record {
    once = c.services.of_floatings.once;
    there = λ k f at. any-filter_kept (λ p. away p.network) (λ p. ident_eq f.own_port p.id && own_test f p) (λ p. ident_eq f.own_port p.id && own_test f p) rows.ports
        (λ l p at_p h. (own_stays k f at l p at_p h, h)) (c.services.of_floatings.there k f at);
    unsecured = left_ports _ c.services.of_floatings.unsecured;
  }

  floatings_lead : FloatingsLead ports rows.routers rows.floatings
  floatings_lead = record {
    once = c.floatings.once;
    targets = λ k f at. if_some-weaker (leads_to rows.ports rows.routers f) (leads_to ports rows.routers f) f.target
        (λ (t : Target) h. let both = and_both (stands_so (λ p. p.id) t.port (target_test f t rows.ports) rows.ports) _ h in both_and _ _ (target_stays f t both.0) both.1) (c.floatings.targets k f at);
  }

  routes_lead : RoutesLead subnets ports rows.routers
  routes_lead = record {
    routes = λ k r at. all-weaker (is_reached rows.subnets rows.ports r) (is_reached subnets ports r) r.routes
        (λ hop. any-filter_kept (λ p. away p.network) (reach_test r hop.next rows.subnets) (reach_test r hop.next subnets) rows.ports
        (λ l p at_p h.
        let both = and_both (is_port_of r p) _ h in
        let kept = router_port_stays l p at_p (and_both (is_router_port p.owner) (device_is p.device r.id) both.0).0 in (
          kept,
          both_and _ _ both.0 (any-filter_kept (λ s. away s.network) (λ s. holds_in s.id p && contains s.prefix hop.next) (λ s. holds_in s.id p && contains s.prefix hop.next) rows.subnets
              (λ m s at_s g. (ap away (held_here l p m s at_p at_s (and_both (holds_in s.id p) _ g).0) ∙ kept, g)) both.1),
        ))) (c.routes.routes k r at);
  }

  are_hosts : AreHosts subnets ports
  are_hosts = record {
    addresses = λ k p at. let here = at_filter (λ p. away p.network) rows.ports k p at in
        all-both (names_subnet rows.subnets p) (is_host_in rows.subnets p) (is_host_in subnets p) p.fixed
        (λ (f : Fixed). subnet_stays p f (λ s. is_host_of s.prefix f.address && is_own_address p f.address s) here.2) (c.named.subnets.of_ports here.0 p here.1) (c.hosts.addresses here.0 p here.1);
  }

  ports_are_allowed : PortsAreAllowed networks ports policies
  ports_are_allowed = record {
    of_ports = each-filter (λ p. away p.network) (λ p. may_be_there rows.networks rows.policies p ≡ true) (λ p. may_be_there networks policies p ≡ true) rows.ports
        (λ p kept h. or_weaker (is_empty p.project) _ _ (or_weaker p.by_admin _ _ (λ g.
        ap (λ b. b || is_network_of networks p.project p.network) (granted_still Shared p.network p.project kept)
        ∙ or_weaker (is_shared_with rows.policies p.network p.project) _ _ (network_stays p.network (λ n. bytes_eq n.project p.project) kept) g)) h) c.allowed.of_ports;
  }

  outsides_are_allowed : OutsidesAreAllowed rows.routers rows.floatings policies
  outsides_are_allowed = record {
    gateways = λ k r at. both_if r.gateway (λ (g : Gateway). list_any (is_named_gateway r g) rows.ports) (λ (g : Gateway). is_external_to rows.policies g.network r.project) (λ (g : Gateway). is_external_to policies g.network r.project)
        (λ (g : Gateway) found h. granted_still External g.network r.project (gateway_away r g found) ∙ h) (c.services.of_routers.named k r at) (c.outsides.gateways k r at);
    addresses = λ k f at. granted_still External f.network f.project (floating_away k f at) ∙ c.outsides.addresses k f at;
    once = λ l. count-filter (λ m. away m.object) (same_policy l) rows.policies 1 (c.outsides.once l);
  }

  -- what the settings let the hosts carry
  pub gone_carried : (carries : List ℕ → Segment → Bool) → AreCarried carries rows.networks rows.ports → AreCarried carries networks ports
  gone_carried carries d = record {
    at_host = each-filter (λ p. away p.network) (λ p. not (is_bound p.vif) || stands_so (λ n. n.id) p.network (λ n. carries p.host n.segment) rows.networks ≡ true)
        (λ p. not (is_bound p.vif) || stands_so (λ n. n.id) p.network (λ n. carries p.host n.segment) networks ≡ true) rows.ports
        (λ p kept h. or_weaker (not (is_bound p.vif)) _ _ (network_stays p.network (λ n. carries p.host n.segment) kept) h) d.at_host;
  }

  pub network_gone : IsConsistent (without_network rows i)
  network_gone = record {
    numbered = record {
      projects = c.numbered.projects;
      ids = ids_differ;
      drawn = are_drawn;
    };
    named = record {
      networks = networks_stand;
      subnets = subnets_stand;
      ports = ports_stand;
      groups = groups_stand;
      routers = c.named.routers;
      projects = projects_stand;
    };
    in_form = in_form;
    held_once = record {
      macs = λ network mac. count-filter (λ p. away p.network) (has_mac network mac) rows.ports 1 (c.held_once.macs network mac);
      addresses = λ network x. let a = sum-filter-le (λ p. away p.network) (holds_times network x) rows.ports in omega (arith, a, c.held_once.addresses network x);
    };
    hosts = are_hosts;
    disjoint = disjoint;
    segments = record {
      apart = λ segment. count-filter (λ n. away n.id) (λ n. same_segment segment n.segment) rows.networks 1 (c.segments.apart segment);
      few = let a = length-filter-le (λ n. away n.id) rows.networks in omega (arith, a, c.segments.few);
    };
    on_hosts = record { at_router = left_ports _ c.on_hosts.at_router };
    services = record {
      dhcp = dhcp_ports_serve;
      of_routers = router_ports_serve;
      of_floatings = own_ports_serve;
    };
    floatings = floatings_lead;
    groups = record { defaults = c.groups.defaults; of_ports = left_ports _ c.groups.of_ports; bare = left_ports _ c.groups.bare; remotes = c.groups.remotes; apart = c.groups.apart };
    allowed = ports_are_allowed;
    outsides = outsides_are_allowed;
    routes = routes_lead;
  }

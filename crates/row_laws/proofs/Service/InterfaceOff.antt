-- A router's interface that goes, where no route and no floating address needs it, keeps rows consistent.
use Rattle.std.proofs.Common.{◌≡◌, ◌∙◌, ℕ, List, Bool, true, false, Some, slice_get, ap, sym, subst}
use Rattle.std.specs.Prelude.{◌==◌, ◌&&◌, not, filter}
use Rattle.std.specs.List.{list_any, list_all}
use Rattle.std.specs.Str.{bytes_eq}
use Rattle.net_addr.specs.Addresses.{is_four, number}
use Rattle.net_addr.specs.Prefixes.{contains, is_host_of, Prefix}
use Rattle.net_addr.specs.declared.address.Addr.{Addr}
use Rattle.net_addr.specs.declared.address.Addr.TheVariants.{V4}
use Rattle.api_types.specs.Ident.{Ident}
use Rattle.api_types.specs.Table.{ident_eq}
use Rattle.api_types.specs.RowLists.{RowLists}
use Rattle.api_types.specs.Lists.{stands_so, is_some_so}
use Rattle.api_types.specs.Owners.{is_interface, is_gateway, is_dhcp, is_router_port, device_is, is_port_of, holds_in}
use Rattle.api_types.specs.Consistent.{IsConsistent}
use Rattle.api_types.specs.Consistent.Named.{is_port, is_own_port, PortsStand}
use Rattle.api_types.specs.Consistent.Hosts.{is_host_in, is_own_address}
use Rattle.api_types.specs.Consistent.Services.{is_gateway_of, is_named_gateway}
use Rattle.api_types.specs.Consistent.Floating.{has_interface, is_target_port, is_target_router, leads_to, FloatingsLead}
use Rattle.api_types.specs.Consistent.NextHops.{is_reached, RoutesLead}
use Rattle.api_types.specs.declared.subnet.SubnetRow.{SubnetRow}
use Rattle.api_types.specs.declared.port.PortRow.{PortRow}
use Rattle.api_types.specs.declared.port.Fixed.{Fixed}
use Rattle.api_types.specs.declared.router.RouterRow.{RouterRow}
use Rattle.api_types.specs.declared.router.Gateway.{Gateway}
use Rattle.api_types.specs.declared.floating.FloatingRow.{FloatingRow}
use Rattle.api_types.specs.declared.floating.Target.{Target}
use Rattle.net_addr.proofs.AddrLemmas.{addr_same}
use Rattle.row_laws.specs.Gone.{with_ports_kept}
use Rattle.row_laws.specs.Interfaces.{IsFreeInterface, is_led_through}
use Rattle.api_types.proofs.ListLemmas.{and_both, any-at, any-weaker, at-any, both_and, false_true, none-any, some_equal}
use Rattle.api_types.proofs.NameLemmas.{all-at, all-weaker, and_left_weaker, by_test, first_fails, ident_itself, ident_same, ident_sym, if_some-weaker, if_some-weaker_at}
use Rattle.row_laws.proofs.PlaceLemmas.{one_device, one_router, router_drawable}
use Rattle.row_laws.proofs.PortLeaves.{any_same, each_gone, no_own, none_is_some_so, other_way}
use Rattle.row_laws.proofs.Service.ServiceLemmas.{interface_alone}
use Rattle.row_laws.proofs.PortsGone as gone

-- a host address of a prefix is contained in it
host_within : (p : Prefix) (x : Addr) → is_host_of p x ≡ true → contains p x ≡ true
unfolding is_host_of
host_within p x h = (and_both (contains p x) _ (and_both (contains p x && not (number x == number p.base)) _ h).0).0

module _ (rows : RowLists) (place : ℕ) (r : RouterRow) (at : slice_get rows.routers place ≡ Some r) (k : ℕ) (p : PortRow) (at_p : slice_get rows.ports k ≡ Some p) (is : IsFreeInterface rows r p) (c : IsConsistent rows) where
  abbrev left : PortRow → Bool
  left q = not (ident_eq p.id q.id)

  abbrev ports : List PortRow
  ports = filter left rows.ports

  device : device_is p.device r.id ≡ true
  device = (and_both (is_router_port p.owner) (device_is p.device r.id) is.mine).1

  no_gateway : is_gateway p.owner ≡ false
  no_gateway = (interface_alone p.owner is.owner).0

  no_own_port : is_own_port rows.floatings p.id ≡ false
  no_own_port = no_own rows c k p at_p (interface_alone p.owner is.owner).2

  not_target : (l : ℕ) (f : FloatingRow) → slice_get rows.floatings l ≡ Some f → (t : Target) → f.target ≡ Some t → ident_eq t.port p.id ≡ false
  not_target l f at_f t told = other_way p.id t.port (none_is_some_so (λ (u : Target). ident_eq p.id u.port) f.target t told
      (none-any (λ g. is_some_so (λ (u : Target). ident_eq p.id u.port) g.target) rows.floatings is.no_target l f at_f))

  ports_stand : PortsStand ports rows.routers rows.floatings
  ports_stand = record {
    of_gateways = λ l q at_q. if_some-weaker (λ (g : Gateway). list_any (is_named_gateway q g) rows.ports) (λ (g : Gateway). is_port ports g.port) q.gateway
        (λ (g : Gateway) h. any-weaker (is_named_gateway q g) (λ s. ident_eq g.port s.id) ports
        (λ s e. (and_both (ident_eq g.network s.network) (ident_eq g.port s.id) (and_both (is_gateway_of q.id s) _ e).1).1)
        (any_same rows c k p at_p (is_named_gateway q g) (first_fails (is_gateway_of q.id p) _ (first_fails (is_gateway p.owner) _ no_gateway)) ∙ h))
        (c.services.of_routers.named l q at_q);
    of_floatings = λ l f at_f. any_same rows c k p at_p (λ q. ident_eq f.own_port q.id)
        (other_way p.id f.own_port (none-any (λ g. ident_eq p.id g.own_port) rows.floatings no_own_port l f at_f)) ∙ c.named.ports.of_floatings l f at_f;
    of_targets = λ l f at_f. if_some-weaker_at (λ (t : Target). is_port rows.ports t.port) (λ (t : Target). is_port ports t.port) f.target
        (λ (t : Target) told h. any_same rows c k p at_p (λ q. ident_eq t.port q.id) (not_target l f at_f t told) ∙ h) (c.named.ports.of_targets l f at_f);
  }

  -- a port's address that is a floating address's target lies in a subnet that contains it
  in_subnet : (m : ℕ) (q : PortRow) → slice_get rows.ports m ≡ Some q → (n : ℕ) (x : Fixed) → slice_get q.fixed n ≡ Some x → (t : Target) → is_four x.address t.fixed ≡ true → holds_in x.subnet p ≡ true
      → list_any (λ s. holds_in s.id p && contains s.prefix (V4 t.fixed)) rows.subnets ≡ true
  in_subnet m q at_q n x at_x t four held =
      let host = all-at (is_host_in rows.subnets q) q.fixed (c.hosts.addresses m q at_q) n x at_x in
      let found = any-at (λ s. ident_eq x.subnet s.id && (is_host_of s.prefix x.address && is_own_address q x.address s)) rows.subnets host in
      let s : SubnetRow = found.1 in
      let both = and_both (ident_eq x.subnet s.id) _ found.3 in
      let within = host_within s.prefix x.address (and_both (is_host_of s.prefix x.address) (is_own_address q x.address s) both.1).0 in
      let here : contains s.prefix (V4 t.fixed) ≡ true = ap (contains s.prefix) (sym (addr_same x.address (V4 t.fixed) four)) ∙ within in
      at-any (λ s. holds_in s.id p && contains s.prefix (V4 t.fixed)) rows.subnets found.0 s found.2
      (both_and (holds_in s.id p) _ (ap (λ i. holds_in i p) (sym (ident_same x.subnet s.id both.0)) ∙ held) here)

  -- no floating address leads by the interface
  unneeded : (l : ℕ) (f : FloatingRow) → slice_get rows.floatings l ≡ Some f → (t : Target) → f.target ≡ Some t → leads_to rows.ports rows.routers f t ≡ true
      → (m : ℕ) (q : PortRow) → slice_get rows.ports m ≡ Some q → (n : ℕ) (x : Fixed) → slice_get q.fixed n ≡ Some x → is_four x.address t.fixed ≡ true
      → is_interface p.owner && (device_is p.device t.router && holds_in x.subnet p) ≡ false
  unneeded l f at_f t told leads m q at_q n x at_x four = by_test (is_interface p.owner && (device_is p.device t.router && holds_in x.subnet p)) (is_interface p.owner && (device_is p.device t.router && holds_in x.subnet p) ≡ false)
      (λ h.
      let parts = and_both (device_is p.device t.router) (holds_in x.subnet p) (and_both (is_interface p.owner) _ h).1 in
      let found = any-at (λ s. ident_eq t.router s.id && is_target_router f s) rows.routers (and_both _ (stands_so (λ s. s.id) t.router (is_target_router f) rows.routers) leads).1 in
      let s : RouterRow = found.1 in
      let named : t.router ≡ s.id = ident_same t.router s.id (and_both (ident_eq t.router s.id) _ found.3).0 in
      let same : s.id ≡ r.id = one_device p.device s.id r.id (router_drawable rows c found.0 s found.2) (router_drawable rows c place r at) (ap (device_is p.device) (sym named) ∙ parts.0) device in
      let mine : ident_eq r.id t.router ≡ true = ap (ident_eq r.id) (named ∙ same) ∙ ident_itself r.id in
      let through : is_led_through rows.subnets r.id p f ≡ true =
      ap (is_some_so (λ (u : Target). ident_eq r.id u.router && list_any (λ s. holds_in s.id p && contains s.prefix (V4 u.fixed)) rows.subnets)) told
      ∙ both_and (ident_eq r.id t.router) _ mine (in_subnet m q at_q n x at_x t four parts.1) in
      false_true _ (sym (none-any (is_led_through rows.subnets r.id p) rows.floatings is.unled l f at_f) ∙ through))
      (λ fails. fails)

  floatings_lead : FloatingsLead ports rows.routers rows.floatings
  floatings_lead = record {
    once = c.floatings.once;
    targets = λ l f at_f. if_some-weaker_at (leads_to rows.ports rows.routers f) (leads_to ports rows.routers f) f.target
        (λ (t : Target) told h. and_left_weaker _ _ _ (λ g. kept l f at_f t told h g) h) (c.floatings.targets l f at_f);
  }
    where
      kept : (l : ℕ) (f : FloatingRow) → slice_get rows.floatings l ≡ Some f → (t : Target) → f.target ≡ Some t → leads_to rows.ports rows.routers f t ≡ true
          → stands_so (λ q. q.id) t.port (is_target_port rows.ports f t) rows.ports ≡ true → stands_so (λ q. q.id) t.port (is_target_port ports f t) ports ≡ true
      kept l f at_f t told leads h =
          let found = any-at (λ q. ident_eq t.port q.id && is_target_port rows.ports f t q) rows.ports h in
          let q : PortRow = found.1 in
          let both = and_both (ident_eq t.port q.id) (is_target_port rows.ports f t q) found.3 in
          let target = and_both (bytes_eq q.project f.project) _ both.1 in
          let held = any-at (λ (x : Fixed). is_four x.address t.fixed && has_interface rows.ports t.router x.subnet) q.fixed target.1 in
          let x : Fixed = held.1 in
          let parts = and_both (is_four x.address t.fixed) (has_interface rows.ports t.router x.subnet) held.3 in
          let still : has_interface ports t.router x.subnet ≡ true =
          any_same rows c k p at_p (λ s. is_interface s.owner && (device_is s.device t.router && holds_in x.subnet s)) (unneeded l f at_f t told leads found.0 q found.2 held.0 x held.2 parts.0) ∙ parts.1 in
          any_same rows c k p at_p (λ s. ident_eq t.port s.id && is_target_port ports f t s) (first_fails (ident_eq t.port p.id) _ (not_target l f at_f t told))
          ∙ at-any (λ s. ident_eq t.port s.id && is_target_port ports f t s) rows.ports found.0 q found.2
          (both_and (ident_eq t.port q.id) _ both.0 (both_and (bytes_eq q.project f.project) _ target.0
          (at-any (λ (y : Fixed). is_four y.address t.fixed && has_interface ports t.router y.subnet) q.fixed held.0 x held.2 (both_and (is_four x.address t.fixed) _ parts.0 still))))

  routes_lead : RoutesLead rows.subnets ports rows.routers
  routes_lead = record {
    routes = λ l q at_q. by_test (is_port_of q p) (list_all (is_reached rows.subnets ports q) q.routes ≡ true)
        (λ its. let same : l ≡ place = one_router rows c p.device l place q r at_q at (and_both (is_router_port p.owner) _ its).1 device in
        let it : q ≡ r = some_equal q r (sym at_q ∙ (ap (slice_get rows.routers) same ∙ at)) in
        subst (λ s. list_all (is_reached rows.subnets ports s) s.routes ≡ true) (sym it) is.reached)
        (λ other. all-weaker (is_reached rows.subnets rows.ports q) (is_reached rows.subnets ports q) q.routes
        (λ hop h. any_same rows c k p at_p (λ s. is_port_of q s && list_any (λ u. holds_in u.id s && contains u.prefix hop.next) rows.subnets) (first_fails (is_port_of q p) _ other) ∙ h) (c.routes.routes l q at_q));
  }

  pub interface_off : IsConsistent (with_ports_kept left rows)
  interface_off =
      let alone = interface_alone p.owner is.owner in
      record {
        numbered = record {
          projects = c.numbered.projects;
          ids = gone.ids_differ left rows c.numbered.ids;
          drawn = gone.are_drawn left rows c.numbered.drawn;
        };
        named = record {
          networks = gone.networks_stand left rows.ports c.named.networks;
          subnets = gone.subnets_stand left rows.ports c.named.subnets;
          ports = ports_stand;
          groups = gone.groups_stand left rows.ports c.named.groups;
          routers = c.named.routers;
          projects = gone.projects_stand left rows c.named.projects;
        };
        in_form = gone.in_form left rows.ports c.in_form;
        held_once = gone.are_held_once left rows.ports c.held_once;
        hosts = gone.are_hosts left rows.ports c.hosts;
        disjoint = gone.are_disjoint left rows.ports c.disjoint;
        segments = c.segments;
        on_hosts = gone.are_on_hosts left rows.ports c.on_hosts;
        services = record {
          dhcp = gone.dhcp_ports_serve left rows.ports (each_gone rows c k p at_p (λ q. is_dhcp q.owner ≡ false) alone.1) c.services.dhcp;
          of_routers = gone.router_ports_serve left rows.ports (each_gone rows c k p at_p (λ q. is_gateway q.owner ≡ false) alone.0) c.services.of_routers;
          of_floatings = gone.own_ports_serve left rows.ports (each_gone rows c k p at_p (λ q. is_own_port rows.floatings q.id ≡ false) no_own_port) c.services.of_floatings;
        };
        floatings = floatings_lead;
        groups = gone.groups_serve left rows.ports c.groups;
        allowed = gone.ports_are_allowed left rows.ports c.allowed;
        outsides = c.outsides;
        routes = routes_lead;
      }

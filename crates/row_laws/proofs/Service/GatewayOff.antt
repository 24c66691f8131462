-- A router that is put without its gateway, whose port goes, keeps rows consistent.
use Rattle.std.proofs.Common.{◌≡◌, ◌∙◌, ◌≤◌, ℕ, List, Bool, true, false, cond, Option, None, Some, slice_get, slice_set, refl, sym, subst, arith}
use Rattle.std.specs.Prelude.{◌&&◌, ◌||◌, not, count_by, filter}
use Rattle.std.specs.List.{list_any, list_all}
use Rattle.net_addr.specs.Prefixes.{contains}
use Rattle.api_types.specs.Ident.{Ident}
use Rattle.api_types.specs.Table.{ident_eq}
use Rattle.api_types.specs.RowLists.{RowLists}
use Rattle.api_types.specs.Lists.{Each, if_some, is_some_so, is_empty}
use Rattle.api_types.specs.Owners.{is_interface, is_gateway, is_dhcp, is_router_port, device_is, is_port_of, holds_in}
use Rattle.api_types.specs.Consistent.{IsConsistent}
use Rattle.api_types.specs.Consistent.Named.{is_port, is_registered, is_own_port, PortsStand}
use Rattle.api_types.specs.Consistent.Services.{is_gateway_of, is_named_gateway, wanted_gateways, RouterPortsServe}
use Rattle.api_types.specs.Consistent.NextHops.{is_reached, RoutesLead}
use Rattle.api_types.specs.declared.port.PortRow.{PortRow}
use Rattle.api_types.specs.declared.router.RouterRow.{RouterRow}
use Rattle.api_types.specs.declared.router.Gateway.{Gateway}
use Rattle.api_types.specs.declared.floating.FloatingRow.{FloatingRow}
use Rattle.api_types.specs.declared.floating.Target.{Target}
use Rattle.api_types.specs.RouterWays.{other_ports}
use Rattle.row_laws.specs.Gateways.{IsFreeGateway, unled, with_gateway_off}
use Rattle.row_laws.specs.Gone.{with_ports_kept}
use Rattle.row_laws.specs.Replaced.{IsReplacedRouter}
use Rattle.api_types.proofs.ListLemmas.{and_both, any-at, any-weaker, each-filter, false_true, none-any}
use Rattle.api_types.proofs.NameLemmas.{all-weaker, and_fails, count-set, first_fails, ident_same, ident_sym, if_some-weaker, if_some-weaker_at, or_weaker}
use Rattle.row_laws.proofs.PlaceLemmas.{each-set_other, no_other_router}
use Rattle.row_laws.proofs.PortLeaves.{any_same, count_less, count_same, each_gone, if_some-at, no_own, no_target, none_is_some_so, other_way}
use Rattle.row_laws.proofs.Service.ServiceLemmas.{gateway_alone}
use Rattle.row_laws.proofs.PortsGone as gone
use Rattle.row_laws.proofs.RouterReplaced as router

module _ (rows : RowLists) (c : IsConsistent rows) (place : ℕ) (old : RouterRow) (at : slice_get rows.routers place ≡ Some old) (k : ℕ) (p : PortRow) (at_p : slice_get rows.ports k ≡ Some p) (mine : is_gateway_of old.id p ≡ true) where
  abbrev new : RouterRow
  new = unled old

  abbrev left : PortRow → Bool
  left q = not (ident_eq p.id q.id)

  abbrev ports : List PortRow
  ports = filter left rows.ports

  abbrev routers : List RouterRow
  routers = slice_set rows.routers place new

  owner : is_gateway p.owner ≡ true
  owner = (and_both (is_gateway p.owner) (device_is p.device old.id) mine).0

  device : device_is p.device old.id ≡ true
  device = (and_both (is_gateway p.owner) (device_is p.device old.id) mine).1

  nobody : is_empty p.project ≡ true
  nobody = sym (λ j. cond (owner j || is_own_port rows.floatings p.id) (is_empty p.project) (is_registered rows.projects p.project)) ∙ c.named.projects.of_ports k p at_p

  others : (l : ℕ) (r : RouterRow) → slice_get rows.routers l ≡ Some r → (l ≡ place → ⊥) → device_is p.device r.id ≡ false
  others = no_other_router rows c p.device place old at device

  no_own_port : is_own_port rows.floatings p.id ≡ false
  no_own_port = no_own rows c k p at_p (gateway_alone p.owner owner).2

  ports_stand : PortsStand ports routers rows.floatings
  ports_stand = record {
    of_gateways = each-set_other (λ r. if_some (λ (g : Gateway). is_port ports g.port) r.gateway ≡ true) rows.routers place new
        (λ l r at_r differs. if_some-weaker (λ (g : Gateway). list_any (is_named_gateway r g) rows.ports) (λ (g : Gateway). is_port ports g.port) r.gateway
        (λ (g : Gateway) h. any-weaker (is_named_gateway r g) (λ q. ident_eq g.port q.id) ports
        (λ q e. (and_both (ident_eq g.network q.network) (ident_eq g.port q.id) (and_both (is_gateway_of r.id q) _ e).1).1)
        (any_same rows c k p at_p (is_named_gateway r g) (first_fails (is_gateway_of r.id p) _ (and_fails (is_gateway p.owner) _ (others l r at_r differs))) ∙ h))
        (c.services.of_routers.named l r at_r))
        refl;
    of_floatings = λ l f at_f. any_same rows c k p at_p (λ q. ident_eq f.own_port q.id) (not_own l f at_f) ∙ c.named.ports.of_floatings l f at_f;
    of_targets = λ l f at_f. if_some-weaker_at (λ (t : Target). is_port rows.ports t.port) (λ (t : Target). is_port ports t.port) f.target
        (λ (t : Target) is h. any_same rows c k p at_p (λ q. ident_eq t.port q.id) (not_target l f at_f t is) ∙ h) (c.named.ports.of_targets l f at_f);
  }
    where
      not_own : (l : ℕ) (f : FloatingRow) → slice_get rows.floatings l ≡ Some f → ident_eq f.own_port p.id ≡ false
      not_own l f at_f = other_way p.id f.own_port (none-any (λ g. ident_eq p.id g.own_port) rows.floatings no_own_port l f at_f)

      not_target : (l : ℕ) (f : FloatingRow) → slice_get rows.floatings l ≡ Some f → (t : Target) → f.target ≡ Some t → ident_eq t.port p.id ≡ false
      not_target l f at_f t is = other_way p.id t.port (none_is_some_so (λ (u : Target). ident_eq p.id u.port) f.target t is
          (none-any (λ g. is_some_so (λ (u : Target). ident_eq p.id u.port) g.target) rows.floatings (no_target rows c k p at_p nobody) l f at_f))

  router_ports_serve : RouterPortsServe ports routers
  router_ports_serve = record {
    devices = each-filter left (λ q. not (is_router_port q.owner) || list_any (λ r. is_port_of r q) rows.routers ≡ true) (λ q. not (is_router_port q.owner) || list_any (λ r. is_port_of r q) routers ≡ true) rows.ports
        (λ q kept h. or_weaker (not (is_router_port q.owner)) _ _ (λ g. router.put rows.routers place old new at refl (λ i. is_router_port q.owner && device_is q.device i) ∙ g) h) c.services.of_routers.devices;
    interfaces = stay _ c.services.of_routers.interfaces;
    gateways = stay _ c.services.of_routers.gateways;
    unsecured = stay _ c.services.of_routers.unsecured;
    counts = each-set_other (λ r. count_by (is_gateway_of r.id) ports ≡ wanted_gateways r.gateway) rows.routers place new
        (λ l r at_r differs. count_same rows c k p at_p (is_gateway_of r.id) (and_fails (is_gateway p.owner) _ (others l r at_r differs)) ∙ c.services.of_routers.counts l r at_r)
        (let less = count_less rows c k p at_p (is_gateway_of old.id) mine in
        let most : count_by (is_gateway_of old.id) rows.ports ≤ 1 = at_most old.gateway (c.services.of_routers.counts place old at) in
        omega (arith, less, most));
    named = each-set_other (λ r. if_some (λ g. list_any (is_named_gateway r g) ports) r.gateway ≡ true) rows.routers place new
        (λ l r at_r differs. if_some-weaker _ _ r.gateway (λ (g : Gateway) h. any_same rows c k p at_p (is_named_gateway r g) (first_fails (is_gateway_of r.id p) _ (and_fails (is_gateway p.owner) _ (others l r at_r differs))) ∙ h)
        (c.services.of_routers.named l r at_r))
        refl;
  }
    where
      stay : (P : PortRow → Type 0) → Each P rows.ports → Each P ports
      stay P = each-filter left P P rows.ports (λ q kept h. h)

      at_most : (o : Option Gateway) → count_by (is_gateway_of old.id) rows.ports ≡ wanted_gateways o → count_by (is_gateway_of old.id) rows.ports ≤ 1
      at_most None h = omega (arith, h)
      at_most (Some g) h = omega (arith, h)

  routes_lead : list_all (is_reached rows.subnets ports old) old.routes ≡ true → RoutesLead rows.subnets ports routers
  routes_lead reached = record {
    routes = each-set_other (λ r. list_all (is_reached rows.subnets ports r) r.routes ≡ true) rows.routers place new
        (λ l r at_r differs. all-weaker (is_reached rows.subnets rows.ports r) (is_reached rows.subnets ports r) r.routes
        (λ hop h. any_same rows c k p at_p (λ q. is_port_of r q && list_any (λ s. holds_in s.id q && contains s.prefix hop.next) rows.subnets)
        (first_fails (is_port_of r p) _ (and_fails (is_router_port p.owner) _ (others l r at_r differs))) ∙ h) (c.routes.routes l r at_r))
        reached;
  }

  port_off : list_any (λ f. is_some_so (λ (t : Target). ident_eq old.id t.router) f.target) rows.floatings ≡ false → list_all (is_reached rows.subnets ports old) old.routes ≡ true
      → IsConsistent (record rows { ports = ports; routers = routers })
  port_off free reached =
      let alone = gateway_alone p.owner owner in
      let same : IsReplacedRouter old new = record { id = refl; project = refl; host = refl } in
      record {
        numbered = record {
          projects = c.numbered.projects;
          ids = λ i.
              let fewer = gone.ids_differ left rows c.numbered.ids i in
              let put = count-set (λ q. ident_eq i q.id) rows.routers place old new at refl in
              omega (arith, fewer, put);
          drawn = router.are_drawn (with_ports_kept left rows) place old new at same (gone.are_drawn left rows c.numbered.drawn);
        };
        named = record {
          networks = router.networks_stand rows.routers place old new at refl refl (gone.networks_stand left rows.ports c.named.networks);
          subnets = gone.subnets_stand left rows.ports c.named.subnets;
          ports = ports_stand;
          groups = gone.groups_stand left rows.ports c.named.groups;
          routers = router.routers_stand rows.routers place old new at refl c.named.routers;
          projects = router.projects_stand (with_ports_kept left rows) place old new at same (gone.projects_stand left rows c.named.projects);
        };
        in_form = router.in_form rows.routers place old new at refl (c.in_form.routes place old at) (gone.in_form left rows.ports c.in_form);
        held_once = gone.are_held_once left rows.ports c.held_once;
        hosts = gone.are_hosts left rows.ports c.hosts;
        disjoint = router.are_disjoint rows.routers place old new at refl (gone.are_disjoint left rows.ports c.disjoint);
        segments = c.segments;
        on_hosts = router.are_on_hosts rows.routers place old new at refl refl (gone.are_on_hosts left rows.ports c.on_hosts);
        services = record {
          dhcp = gone.dhcp_ports_serve left rows.ports (each_gone rows c k p at_p (λ q. is_dhcp q.owner ≡ false) alone.1) c.services.dhcp;
          of_routers = router_ports_serve;
          of_floatings = gone.own_ports_serve left rows.ports (each_gone rows c k p at_p (λ q. is_own_port rows.floatings q.id ≡ false) no_own_port) c.services.of_floatings;
        };
        floatings = router.floatings_lead rows.routers place old new at refl
            (λ l f h t told e served. false_true _ (sym (none_is_some_so (λ (u : Target). ident_eq old.id u.router) f.target t told
            (none-any (λ g. is_some_so (λ (u : Target). ident_eq old.id u.router) g.target) rows.floatings free l f h)) ∙ ident_sym t.router old.id e))
            (gone.floatings_lead left rows.ports (each_gone rows c k p at_p (λ q. is_interface q.owner ≡ false) alone.0)
            (each_gone rows c k p at_p (λ q. list_any (λ f. is_some_so (λ (t : Target). ident_eq q.id t.port) f.target) rows.floatings ≡ false) (no_target rows c k p at_p nobody)) c.floatings);
        groups = gone.groups_serve left rows.ports c.groups;
        allowed = gone.ports_are_allowed left rows.ports c.allowed;
        outsides = router.outsides_are_allowed rows.routers place old new at refl refl c.outsides;
        routes = routes_lead reached;
      }

pub gateway_off : (rows : RowLists) (place : ℕ) (old : RouterRow) (g : Gateway) → slice_get rows.routers place ≡ Some old → IsFreeGateway rows old g → IsConsistent rows → IsConsistent (with_gateway_off rows place old g)
gateway_off rows place old g at is c =
    let found = any-at (is_named_gateway old g) rows.ports (if_some-at (λ (h : Gateway). list_any (is_named_gateway old h) rows.ports) old.gateway g is.gateway (c.services.of_routers.named place old at)) in
    let p : PortRow = found.1 in
    let both = and_both (is_gateway_of old.id p) (ident_eq g.network p.network && ident_eq g.port p.id) found.3 in
    let same : g.port ≡ p.id = ident_same g.port p.id (and_both (ident_eq g.network p.network) (ident_eq g.port p.id) both.1).1 in
    subst (λ i. IsConsistent (record rows { ports = other_ports i rows.ports; routers = slice_set rows.routers place (unled old) })) (sym same)
    (port_off rows c place old at found.0 p found.2 both.0 is.unled (subst (λ i. list_all (is_reached rows.subnets (other_ports i rows.ports) old) old.routes ≡ true) same is.reached))

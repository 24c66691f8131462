-- A gateway's port that is added, and its router put with it, keep rows consistent.
use Rattle.std.proofs.Common.{◌≡◌, ◌∙◌, ◌≤◌, ◌++◌, ◌∷◌, [], ℕ, List, Bool, true, false, cond, Some, slice_get, slice_set, refl, ap, sym, arith}
use Rattle.std.specs.Prelude.{◌&&◌, ◌||◌, not, count_by}
use Rattle.std.specs.List.{list_any}
use Rattle.std.specs.Str.{bytes_eq}
use Rattle.api_types.specs.Table.{ident_eq}
use Rattle.api_types.specs.RowLists.{RowLists}
use Rattle.api_types.specs.Lists.{if_some, is_some_so, is_empty, is_one}
use Rattle.api_types.specs.Owners.{is_interface, is_gateway, is_dhcp, is_router_port, device_is, is_port_of}
use Rattle.api_types.specs.Sharing.{is_shared_with}
use Rattle.api_types.specs.Consistent.{IsConsistent}
use Rattle.api_types.specs.Consistent.Numbered.{times_in}
use Rattle.api_types.specs.Consistent.Named.{is_group, is_registered, is_own_port}
use Rattle.api_types.specs.Consistent.InForm.{is_network_of, is_group_of}
use Rattle.api_types.specs.Consistent.Services.{is_gateway_of, is_named_gateway, wanted_gateways, RouterPortsServe}
use Rattle.api_types.specs.Consistent.NextHops.{is_reached}
use Rattle.api_types.specs.declared.port.PortRow.{PortRow}
use Rattle.api_types.specs.declared.router.RouterRow.{RouterRow}
use Rattle.api_types.specs.declared.router.Gateway.{Gateway}
use Rattle.row_laws.specs.Gateways.{IsNewGateway, led_by, with_gateway_on}
use Rattle.row_laws.specs.NewRows.{with_port}
use Rattle.row_laws.specs.Replaced.{IsReplacedRouter}
use Rattle.api_types.proofs.ListLemmas.{any-grows, any-last, both_and, each-push, false_true, or_true, set-any}
use Rattle.api_types.proofs.NameLemmas.{all-weaker, and_fails, count-push, count-set, ident_itself, if_some-weaker, or_weaker, unless}
use Rattle.api_types.proofs.IdLemmas.{ids-push}
use Rattle.row_laws.proofs.TimesLemmas.{times-port}
use Rattle.row_laws.proofs.PlaceLemmas.{count-push_one, each-set_other, no_other_router}
use Rattle.row_laws.proofs.Service.ServiceLemmas.{bare, by_gateway, gateway_alone, named, placed, unclashed, unfiltered, ungrouped}
use Rattle.row_laws.proofs.PortPushed as port
use Rattle.row_laws.proofs.RouterReplaced as router

module _ (rows : RowLists) (place : ℕ) (old : RouterRow) (p : PortRow) (snat : Bool) (at : slice_get rows.routers place ≡ Some old) (is : IsNewGateway rows old p) (c : IsConsistent rows) where
  abbrev new : RouterRow
  new = led_by old p snat

  abbrev ports : List PortRow
  ports = rows.ports ++ p ∷ []

  abbrev routers : List RouterRow
  routers = slice_set rows.routers place new

  mine : is_gateway_of old.id p ≡ true
  mine = both_and (is_gateway p.owner) (device_is p.device old.id) is.owner (named rows c place old at p is.at_router)

  -- the port is no other router's gateway port
  others : (k : ℕ) (r : RouterRow) → slice_get rows.routers k ≡ Some r → (k ≡ place → ⊥) → is_gateway_of r.id p ≡ false
  others k r at_r differs = and_fails (is_gateway p.owner) (device_is p.device r.id) (no_other_router rows c p.device place old at (named rows c place old at p is.at_router) k r at_r differs)

  router_ports_serve : RouterPortsServe ports routers
  router_ports_serve = record {
    devices = each-push (λ q. not (is_router_port q.owner) || list_any (λ r. is_port_of r q) routers ≡ true) rows.ports p
        (λ k q at_q. or_weaker (not (is_router_port q.owner)) _ _ (λ h. router.put rows.routers place old new at refl (λ i. is_router_port q.owner && device_is q.device i) ∙ h) (c.services.of_routers.devices k q at_q))
        (ap (λ b. not (is_router_port p.owner) || b) (set-any (λ r. is_port_of r p) rows.routers place old new at
        (both_and (is_router_port p.owner) (device_is p.device old.id) (by_gateway p.owner is.owner) (named rows c place old at p is.at_router))) ∙ or_true (not (is_router_port p.owner)));
    interfaces = each-push (λ q. not (is_interface q.owner) || is_one q.fixed ≡ true) rows.ports p c.services.of_routers.interfaces (unless (is_interface p.owner) _ (gateway_alone p.owner is.owner).0);
    gateways = each-push (λ q. not (is_gateway q.owner) || not (is_empty q.fixed) ≡ true) rows.ports p c.services.of_routers.gateways
        (ap (λ b. not (is_gateway p.owner) || b) is.some_address ∙ or_true (not (is_gateway p.owner)));
    unsecured = each-push (λ q. not (is_router_port q.owner) || not q.secured ≡ true) rows.ports p c.services.of_routers.unsecured (unfiltered rows p is.service (is_router_port p.owner));
    counts = each-set_other (λ r. count_by (is_gateway_of r.id) ports ≡ wanted_gateways r.gateway) rows.routers place new
        (λ k r at_r differs. count-push (is_gateway_of r.id) rows.ports p (others k r at_r differs) ∙ c.services.of_routers.counts k r at_r)
        (let before : count_by (is_gateway_of old.id) rows.ports ≡ 0 = c.services.of_routers.counts place old at ∙ ap wanted_gateways is.bare in
        omega (arith, count-push_one (is_gateway_of old.id) rows.ports p mine, before));
    named = each-set_other (λ r. if_some (λ g. list_any (is_named_gateway r g) ports) r.gateway ≡ true) rows.routers place new
        (λ k r at_r differs. if_some-weaker _ _ r.gateway (λ (g : Gateway) h. any-grows (is_named_gateway r g) rows.ports p h) (c.services.of_routers.named k r at_r))
        (any-last (λ q. is_gateway_of old.id q && (ident_eq p.network q.network && ident_eq p.id q.id)) rows.ports p
        (both_and (is_gateway_of old.id p) _ mine (both_and (ident_eq p.network p.network) (ident_eq p.id p.id) (ident_itself p.network) (ident_itself p.id))));
  }

  pub gateway_on : IsConsistent (with_gateway_on rows place old p snat)
  gateway_on =
      let s = is.service in
      let alone = gateway_alone p.owner is.owner in
      let own = port.no_own_port rows p s.fresh c.named.ports in
      let same : IsReplacedRouter old new = record { id = refl; project = refl; host = refl } in
      record {
        numbered = record {
          projects = c.numbered.projects;
          ids = λ i.
              let push : times_in (with_port rows p) i ≤ 1 = ids-push rows (with_port rows p) p.id (λ k. times-port rows k p) s.fresh c.numbered.ids i in
              let put = count-set (λ q. ident_eq i q.id) rows.routers place old new at refl in
              omega (arith, push, put);
          drawn = router.are_drawn (with_port rows p) place old new at same (port.are_drawn rows p s.drawn c.numbered.drawn);
        };
        named = record {
          networks = router.networks_stand rows.routers place old new at refl s.network (port.networks_stand rows.ports p s.network c.named.networks);
          subnets = port.subnets_stand rows.ports p s.subnets c.named.subnets;
          ports = router.ports_stand rows.routers place old new at refl (any-last (λ q. ident_eq p.id q.id) rows.ports p (ident_itself p.id)) (port.ports_stand rows.ports p c.named.ports);
          groups = port.groups_stand rows.ports p (ungrouped rows p s (is_group rows.groups)) c.named.groups;
          routers = router.routers_stand rows.routers place old new at refl c.named.routers;
          projects = router.projects_stand (with_port rows p) place old new at same
              (port.projects_stand rows p ((λ j. cond (is.owner j || is_own_port rows.floatings p.id) (is_empty p.project) (is_registered rows.projects p.project)) ∙ is.nobody) c.named.projects);
        };
        in_form = router.in_form rows.routers place old new at refl (c.in_form.routes place old at) (port.in_form rows.ports p (unless (is_dhcp p.owner) _ alone.1) s.form c.in_form);
        held_once = port.are_held_once rows.ports p s.mac s.addresses c.held_once;
        hosts = port.are_hosts rows.ports p s.hosts c.hosts;
        disjoint = router.are_disjoint rows.routers place old new at refl (port.are_disjoint rows.ports p (unclashed rows c place old at p is.at_router) c.disjoint);
        segments = c.segments;
        on_hosts = router.are_on_hosts rows.routers place old new at refl refl (port.are_on_hosts rows.ports p (placed rows c place old at p is.at_router) c.on_hosts);
        services = record {
          dhcp = port.dhcp_ports_serve rows.ports p alone.1 c.services.dhcp;
          of_routers = router_ports_serve;
          of_floatings = port.own_ports_serve rows.ports p (unless (is_own_port rows.floatings p.id) _ own) c.services.of_floatings;
        };
        floatings = router.floatings_lead rows.routers place old new at refl
            (λ k f h t told e served. false_true _ (sym (and_fails (bytes_eq old.project f.project) _ (ap (is_some_so (λ (g : Gateway). ident_eq g.network f.network)) is.bare)) ∙ served))
            (port.floatings_lead rows.ports p c.floatings);
        groups = port.groups_serve rows.ports p (ungrouped rows p s (is_group_of rows.groups p.project)) (bare rows p s) c.groups;
        allowed = port.ports_are_allowed rows.ports p (ap (λ b. b || (p.by_admin || (is_shared_with rows.policies p.network p.project || is_network_of rows.networks p.project p.network))) is.nobody) c.allowed;
        outsides = router.outsides_are_allowed rows.routers place old new at refl is.external c.outsides;
        routes = router.routes_lead rows.routers place old new at refl
            (all-weaker (is_reached rows.subnets rows.ports old) (is_reached rows.subnets ports old) old.routes (λ hop h. any-grows _ rows.ports p h) (c.routes.routes place old at))
            (port.routes_lead rows.ports p c.routes);
      }

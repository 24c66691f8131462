-- A floating address that is added with the port that holds it keeps rows consistent.
use Rattle.std.proofs.Common.{◌≡◌, ◌∙◌, ◌++◌, ◌∷◌, [], ℕ, List, true, false, cond, Some, slice_get, refl, ap, sym, arith}
use Rattle.std.specs.Prelude.{◌&&◌, ◌||◌, not, count_by}
use Rattle.std.specs.Str.{bytes_eq}
use Rattle.net_addr.specs.Addresses.{is_four}
use Rattle.api_types.specs.Table.{ident_eq}
use Rattle.api_types.specs.RowLists.{RowLists}
use Rattle.api_types.specs.Lists.{Each, is_some_so, is_empty}
use Rattle.api_types.specs.Owners.{is_interface, is_gateway, is_dhcp, is_floating, is_router_port, device_is, is_port_of, holds_in}
use Rattle.api_types.specs.Sharing.{is_shared_with}
use Rattle.api_types.specs.Consistent.{IsConsistent}
use Rattle.api_types.specs.Consistent.Named.{is_network, is_port, is_router, is_group, is_registered, is_own_port, port_project_stands}
use Rattle.api_types.specs.Consistent.InForm.{is_network_of, is_group_of}
use Rattle.api_types.specs.Consistent.Carried.{is_bound, is_unbound}
use Rattle.api_types.specs.Consistent.Services.{holds_just, is_port_for}
use Rattle.api_types.specs.Consistent.Floating.{is_target_port, leads_to}
use Rattle.api_types.specs.declared.port.PortRow.{PortRow}
use Rattle.api_types.specs.declared.port.Fixed.{Fixed}
use Rattle.api_types.specs.declared.floating.FloatingRow.{FloatingRow}
use Rattle.api_types.specs.declared.floating.Target.{Target}
use Rattle.row_laws.specs.NewRows.{with_port}
use Rattle.row_laws.specs.OwnPorts.{IsNewFloating, with_own_port}
use Rattle.api_types.proofs.ListLemmas.{and_both, count-none, any-grows, any-last, any-weaker, both_and, each-push, false_true, none-any, none-counted, or_true}
use Rattle.api_types.proofs.NameLemmas.{all-true, and_left_weaker, and_weaker, any-push_other, by_test, first_fails, ident_itself, ident_same, ident_sym, if_some-weaker, or_weaker, unless}
use Rattle.api_types.proofs.IdLemmas.{ids-push}
use Rattle.row_laws.proofs.TimesLemmas.{times-port, times-floating}
use Rattle.row_laws.proofs.Service.ServiceLemmas.{bare, floating_alone, no_router_port, ungrouped}
use Rattle.row_laws.proofs.FloatingReplaced.{port_there, router_there}
use Rattle.row_laws.proofs.FloatingPushed as floating
use Rattle.row_laws.proofs.PortPushed as port

module _ (rows : RowLists) (f : FloatingRow) (p : PortRow) (is : IsNewFloating rows f p) (c : IsConsistent rows) where
  abbrev ports : List PortRow
  ports = rows.ports ++ p ∷ []

  owner : is_floating p.owner ≡ true
  owner =
      let bound = and_both (ident_eq f.network p.network && is_floating p.owner && holds_just f.address p.fixed) (is_unbound p.vif) is.serves in
      let holds = and_both (ident_eq f.network p.network && is_floating p.owner) (holds_just f.address p.fixed) bound.0 in
      (and_both (ident_eq f.network p.network) (is_floating p.owner) holds.0).1

  network : is_network rows.networks f.network ≡ true
  network =
      let bound = and_both (ident_eq f.network p.network && is_floating p.owner && holds_just f.address p.fixed) (is_unbound p.vif) is.serves in
      let holds = and_both (ident_eq f.network p.network && is_floating p.owner) (holds_just f.address p.fixed) bound.0 in
      let same = ident_same f.network p.network (and_both (ident_eq f.network p.network) (is_floating p.owner) holds.0).0 in
      ap (is_network rows.networks) same ∙ is.service.network

  no_router : is_router_port p.owner ≡ false
  no_router = no_router_port p.owner (floating_alone p.owner owner).0 (floating_alone p.owner owner).1

  -- no floating address has the port yet
  unowned : is_own_port rows.floatings p.id ≡ false
  unowned = port.no_own_port rows p is.service.fresh c.named.ports

  own_alone : count_by (λ g. ident_eq f.own_port g.own_port) rows.floatings ≡ 0
  own_alone = (λ j. count_by (λ g. ident_eq (is.own j) g.own_port) rows.floatings) ∙ count-none (λ g. ident_eq p.id g.own_port) rows.floatings (none-any (λ g. ident_eq p.id g.own_port) rows.floatings unowned)

  -- of the ports none but the new one has the new id
  only_new : Each (λ q. ident_eq q.id f.own_port ≡ true → q ≡ p) ports
  only_new = each-push (λ q. ident_eq q.id f.own_port ≡ true → q ≡ p) rows.ports p
      (λ k q at_q h. false_true _ (sym (none-any (λ s. ident_eq p.id s.id) rows.ports (none-counted (λ s. ident_eq p.id s.id) rows.ports (omega (arith, is.service.fresh))) k q at_q)
      ∙ (ap (λ i. ident_eq i q.id) (sym is.own) ∙ ident_sym q.id f.own_port h)))
      (λ h. refl)

  grown : (t : Target) → leads_to rows.ports rows.routers f t ≡ true → leads_to ports rows.routers f t ≡ true
  grown t = and_left_weaker _ _ _ (λ g. any-grows (λ q. ident_eq t.port q.id && is_target_port ports f t q) rows.ports p (any-weaker _ _ rows.ports
      (λ q. and_weaker (ident_eq t.port q.id) _ _ (and_weaker (bytes_eq q.project f.project) _ _ (any-weaker _ _ q.fixed (λ (x : Fixed). and_weaker (is_four x.address t.fixed) _ _
      (any-grows (λ r. is_interface r.owner && (device_is r.device t.router && holds_in x.subnet r)) rows.ports p))))) g))

  pub floating_on : IsConsistent (with_own_port rows f p)
  floating_on =
      let s = is.service in
      let alone = floating_alone p.owner owner in
      record {
        numbered = record {
          projects = c.numbered.projects;
          ids = ids-push (with_port rows p) (with_own_port rows f p) f.id (λ i. times-floating (with_port rows p) i f) is.fresh
              (ids-push rows (with_port rows p) p.id (λ i. times-port rows i p) s.fresh c.numbered.ids);
          drawn = floating.are_drawn (with_port rows p) f is.drawn (port.are_drawn rows p s.drawn c.numbered.drawn);
        };
        named = record {
          networks = floating.networks_stand rows.floatings f network (port.networks_stand rows.ports p s.network c.named.networks);
          subnets = port.subnets_stand rows.ports p s.subnets c.named.subnets;
          ports = floating.ports_stand rows.floatings f (any-last (λ q. ident_eq f.own_port q.id) rows.ports p (ap (λ i. ident_eq i p.id) is.own ∙ ident_itself p.id))
              (if_some-weaker (leads_to rows.ports rows.routers f) (λ (t : Target). is_port ports t.port) f.target
              (λ t h. any-grows (λ q. ident_eq t.port q.id) rows.ports p (port_there rows f t h)) is.leads) (port.ports_stand rows.ports p c.named.ports);
          groups = port.groups_stand rows.ports p (ungrouped rows p s (is_group rows.groups)) c.named.groups;
          routers = floating.routers_stand rows.floatings f (if_some-weaker (leads_to rows.ports rows.routers f) (λ (t : Target). is_router rows.routers t.router) f.target (λ t h. router_there rows f t h) is.leads) c.named.routers;
          projects = record {
            of_networks = c.named.projects.of_networks;
            of_subnets = c.named.projects.of_subnets;
            of_ports = each-push (λ q. port_project_stands rows.projects (rows.floatings ++ f ∷ []) q ≡ true) rows.ports p
                (λ k q at_q. (λ j. cond (is_gateway q.owner || any-push_other (λ g. ident_eq q.id g.own_port) rows.floatings f (not_new k q at_q) j) (is_empty q.project) (is_registered rows.projects q.project)) ∙ c.named.projects.of_ports k q at_q)
                ((λ j. cond (is_gateway p.owner || any-last (λ g. ident_eq p.id g.own_port) rows.floatings f (ap (ident_eq p.id) is.own ∙ ident_itself p.id) j) (is_empty p.project) (is_registered rows.projects p.project))
                ∙ ((λ j. cond (or_true (is_gateway p.owner) j) (is_empty p.project) (is_registered rows.projects p.project)) ∙ is.nobody));
            of_groups = c.named.projects.of_groups;
            of_rules = c.named.projects.of_rules;
            of_routers = c.named.projects.of_routers;
            of_floatings = each-push (λ g. is_registered rows.projects g.project ≡ true) rows.floatings f c.named.projects.of_floatings is.project;
            of_policies = c.named.projects.of_policies;
          };
        };
        in_form = port.in_form rows.ports p (unless (is_dhcp p.owner) _ alone.2) s.form c.in_form;
        held_once = port.are_held_once rows.ports p s.mac s.addresses c.held_once;
        hosts = port.are_hosts rows.ports p s.hosts c.hosts;
        disjoint = port.are_disjoint rows.ports p (port.apart_from_routers rows.ports p rows.subnets rows.routers no_router) c.disjoint;
        segments = c.segments;
        on_hosts = port.are_on_hosts rows.ports p (or_weaker (not (is_bound p.vif)) true _ (λ h. all-true (λ r. not (is_port_of r p) || is_some_so (bytes_eq p.host) r.host) rows.routers
            (λ r. unless (is_port_of r p) _ (first_fails (is_router_port p.owner) (device_is p.device r.id) no_router))) (or_true (not (is_bound p.vif)))) c.on_hosts;
        services = record {
          dhcp = port.dhcp_ports_serve rows.ports p alone.2 c.services.dhcp;
          of_routers = port.router_ports_serve rows.ports p alone.1 (unless (is_router_port p.owner) _ no_router) (unless (is_interface p.owner) _ alone.0) (unless (is_router_port p.owner) _ no_router) c.services.of_routers;
          of_floatings = floating.own_ports_serve rows.floatings f own_alone
              (any-last (λ q. ident_eq f.own_port q.id && is_port_for f q) rows.ports p (both_and (ident_eq f.own_port p.id) (is_port_for f p) (ap (λ i. ident_eq i p.id) is.own ∙ ident_itself p.id) is.serves))
              (λ k q at_q. by_test (ident_eq q.id f.own_port) (not (ident_eq q.id f.own_port) || not q.secured ≡ true)
              (λ same. ap (λ b. not (ident_eq q.id f.own_port) || b) (ap (λ t. not t.secured) (only_new k q at_q same) ∙ ap not s.unsecured) ∙ or_true (not (ident_eq q.id f.own_port)))
              (λ other. unless (ident_eq q.id f.own_port) _ other))
              (port.own_ports_serve rows.ports p (unless (is_own_port rows.floatings p.id) _ unowned) c.services.of_floatings);
        };
        floatings = floating.floatings_lead rows.floatings f is.once (if_some-weaker (leads_to rows.ports rows.routers f) (leads_to ports rows.routers f) f.target grown is.leads) (port.floatings_lead rows.ports p c.floatings);
        groups = port.groups_serve rows.ports p (ungrouped rows p s (is_group_of rows.groups p.project)) (bare rows p s) c.groups;
        allowed = port.ports_are_allowed rows.ports p (ap (λ b. b || (p.by_admin || (is_shared_with rows.policies p.network p.project || is_network_of rows.networks p.project p.network))) is.nobody) c.allowed;
        outsides = floating.outsides_are_allowed rows.floatings f is.external c.outsides;
        routes = port.routes_lead rows.ports p c.routes;
      }
    where
      -- a port that stood has another id
      not_new : (k : ℕ) (q : PortRow) → slice_get rows.ports k ≡ Some q → ident_eq q.id f.own_port ≡ false
      not_new k q at_q = by_test (ident_eq q.id f.own_port) (ident_eq q.id f.own_port ≡ false)
          (λ h. false_true _ (sym (none-any (λ s. ident_eq p.id s.id) rows.ports (none-counted (λ s. ident_eq p.id s.id) rows.ports (omega (arith, is.service.fresh))) k q at_q)
          ∙ (ap (λ i. ident_eq i q.id) (sym is.own) ∙ ident_sym q.id f.own_port h)))
          (λ other. other)

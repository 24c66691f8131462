-- One more floating address keeps each clause that reads floating addresses.
use Rattle.std.proofs.Common.{◌≡◌, ◌++◌, ◌∷◌, ◌∙◌, ℕ, [], List, true, cond, None, ap, sym}
use Rattle.std.specs.Prelude.{◌==◌, ◌&&◌, ◌||◌, not, count_by}
use Rattle.api_types.specs.Ident.{Ident}
use Rattle.api_types.specs.Table.{ident_eq}
use Rattle.api_types.specs.RowLists.{RowLists}
use Rattle.api_types.specs.Lists.{Each, stands_so, if_some, is_some_so, is_empty}
use Rattle.api_types.specs.Owners.{is_gateway}
use Rattle.api_types.specs.Sharing.{is_external_to}
use Rattle.api_types.specs.Consistent.Floating.{leads_to, stands_for, FloatingsLead}
use Rattle.api_types.specs.Consistent.Named.{is_network, is_port, is_router, is_registered, is_own_port, port_project_stands, NetworksStand, PortsStand, RoutersStand, ProjectsStand}
use Rattle.api_types.specs.Consistent.Numbered.{is_drawn, times_in, IdsDiffer, AreDrawn}
use Rattle.api_types.specs.Consistent.Permitted.{OutsidesAreAllowed}
use Rattle.api_types.specs.Consistent.Services.{is_port_for, OwnPortsServe}
use Rattle.api_types.specs.declared.network.NetworkRow.{NetworkRow}
use Rattle.api_types.specs.declared.subnet.SubnetRow.{SubnetRow}
use Rattle.api_types.specs.declared.port.PortRow.{PortRow}
use Rattle.api_types.specs.declared.router.RouterRow.{RouterRow}
use Rattle.api_types.specs.declared.floating.FloatingRow.{FloatingRow}
use Rattle.api_types.specs.declared.floating.Target.{Target}
use Rattle.api_types.specs.declared.policy.PolicyRow.{PolicyRow}
use Rattle.row_laws.specs.NewRows.{with_floating}
use Rattle.api_types.proofs.ListLemmas.{false_true, or_true, each-push, any-last, once-push}
use Rattle.api_types.proofs.NameLemmas.{ident_same, by_test, or_weaker, and_fails, must, unless_weaker, any-push_other}
use Rattle.api_types.proofs.IdLemmas.{ids-push}
use Rattle.row_laws.proofs.TimesLemmas.{times-floating}

module _ (floatings : List FloatingRow) (f : FloatingRow) where
  pub networks_stand : {networks : List NetworkRow} {subnets : List SubnetRow} {ports : List PortRow} {routers : List RouterRow} {policies : List PolicyRow}
      → is_network networks f.network ≡ true → NetworksStand networks subnets ports routers floatings policies → NetworksStand networks subnets ports routers (floatings ++ f ∷ []) policies
  networks_stand {networks} {subnets} {ports} {routers} {policies} network c = record {
    of_subnets = c.of_subnets;
    of_ports = c.of_ports;
    of_gateways = c.of_gateways;
    of_floatings = each-push (λ g. is_network networks g.network ≡ true) floatings f c.of_floatings network;
    of_policies = c.of_policies;
  }

  pub ports_stand : {ports : List PortRow} {routers : List RouterRow}
      → is_port ports f.own_port ≡ true → if_some (λ (t : Target). is_port ports t.port) f.target ≡ true → PortsStand ports routers floatings → PortsStand ports routers (floatings ++ f ∷ [])
  ports_stand {ports} {routers} port target c = record {
    of_gateways = c.of_gateways;
    of_floatings = each-push (λ g. is_port ports g.own_port ≡ true) floatings f c.of_floatings port;
    of_targets = each-push (λ g. if_some (λ (t : Target). is_port ports t.port) g.target ≡ true) floatings f c.of_targets target;
  }

  pub routers_stand : {routers : List RouterRow}
      → if_some (λ (t : Target). is_router routers t.router) f.target ≡ true → RoutersStand routers floatings → RoutersStand routers (floatings ++ f ∷ [])
  routers_stand {routers} target c = record {
    of_targets = each-push (λ g. if_some (λ (t : Target). is_router routers t.router) g.target ≡ true) floatings f c.of_targets target;
  }

  pub own_ports_serve : {ports : List PortRow}
      → count_by (λ g. ident_eq f.own_port g.own_port) floatings ≡ 0 → stands_so (λ p. p.id) f.own_port (is_port_for f) ports ≡ true → Each (λ p. not (ident_eq p.id f.own_port) || not p.secured ≡ true) ports → OwnPortsServe ports floatings → OwnPortsServe ports (floatings ++ f ∷ [])
  own_ports_serve {ports} alone served unsecured c = record {
    once = λ i. once-push (λ g. ident_eq i g.own_port) floatings f (c.once i) (λ h. ap (λ j. count_by (λ g. ident_eq j g.own_port) floatings) (ident_same i f.own_port h) ∙ alone);
    there = each-push (λ g. stands_so (λ p. p.id) g.own_port (is_port_for g) ports ≡ true) floatings f c.there served;
    unsecured = λ k p at. by_test (ident_eq p.id f.own_port) (not (is_own_port (floatings ++ f ∷ []) p.id) || not p.secured ≡ true)
        (λ is. or_weaker (not (is_own_port (floatings ++ f ∷ []) p.id)) true (not p.secured) (λ h. must (ident_eq p.id f.own_port) _ is (unsecured k p at)) (or_true (not (is_own_port (floatings ++ f ∷ []) p.id))))
        (λ fails. unless_weaker (is_own_port floatings p.id) (is_own_port (floatings ++ f ∷ []) p.id) (not p.secured)
        (λ h. sym (any-push_other (λ g. ident_eq p.id g.own_port) floatings f fails) ∙ h) (c.unsecured k p at));
  }

  pub floatings_lead : {ports : List PortRow} {routers : List RouterRow}
      → ((network port : Ident) (x : ℕ) → stands_for network port x f ≡ true → count_by (stands_for network port x) floatings ≡ 0) → if_some (leads_to ports routers f) f.target ≡ true → FloatingsLead ports routers floatings → FloatingsLead ports routers (floatings ++ f ∷ [])
  floatings_lead {ports} {routers} alone leads c = record {
    once = λ network port x. once-push (stands_for network port x) floatings f (c.once network port x) (alone network port x);
    targets = each-push (λ g. if_some (leads_to ports routers g) g.target ≡ true) floatings f c.targets leads;
  }

  pub outsides_are_allowed : {routers : List RouterRow} {policies : List PolicyRow}
      → is_external_to policies f.network f.project ≡ true → OutsidesAreAllowed routers floatings policies → OutsidesAreAllowed routers (floatings ++ f ∷ []) policies
  outsides_are_allowed {routers} {policies} permitted c = record {
    gateways = c.gateways;
    addresses = each-push (λ g. is_external_to policies g.network g.project ≡ true) floatings f c.addresses permitted;
    once = c.once;
  }

  -- a floating address that leads nowhere stands for none
  pub leads_nowhere : f.target ≡ None → (network port : Ident) (x : ℕ) → stands_for network port x f ≡ true → count_by (stands_for network port x) floatings ≡ 0
  leads_nowhere none network port x h = false_true _ (sym (and_fails (ident_eq network f.network) _ (ap (is_some_so (λ (t : Target). ident_eq port t.port && (t.fixed == x))) none)) ∙ h)

module _ (rows : RowLists) (f : FloatingRow) where
  pub are_drawn : is_drawn rows.projects f.id ≡ true → AreDrawn rows → AreDrawn (with_floating rows f)
  are_drawn drawn c = record {
    networks = c.networks;
    subnets = c.subnets;
    ports = c.ports;
    groups = c.groups;
    rules = c.rules;
    routers = c.routers;
    floatings = each-push (λ g. is_drawn rows.projects g.id ≡ true) rows.floatings f c.floatings drawn;
    policies = c.policies;
  }

  -- whose own port has the empty project
  pub projects_stand : is_registered rows.projects f.project ≡ true → Each (λ p. ident_eq p.id f.own_port ≡ true → is_empty p.project ≡ true) rows.ports → ProjectsStand rows → ProjectsStand (with_floating rows f)
  projects_stand project own c = record {
    of_networks = c.of_networks;
    of_subnets = c.of_subnets;
    of_ports = λ k p at. by_test (ident_eq p.id f.own_port) (port_project_stands rows.projects (rows.floatings ++ f ∷ []) p ≡ true)
        (λ is. (λ j. cond (is_gateway p.owner || any-last (λ g. ident_eq p.id g.own_port) rows.floatings f is j) (is_empty p.project) (is_registered rows.projects p.project))
        ∙ ((λ j. cond (or_true (is_gateway p.owner) j) (is_empty p.project) (is_registered rows.projects p.project)) ∙ own k p at is))
        (λ fails. (λ j. cond (is_gateway p.owner || any-push_other (λ g. ident_eq p.id g.own_port) rows.floatings f fails j) (is_empty p.project) (is_registered rows.projects p.project)) ∙ c.of_ports k p at);
    of_groups = c.of_groups;
    of_rules = c.of_rules;
    of_routers = c.of_routers;
    of_floatings = each-push (λ g. is_registered rows.projects g.project ≡ true) rows.floatings f c.of_floatings project;
    of_policies = c.of_policies;
  }

  -- ids still differ
  pub ids_differ : times_in rows f.id ≡ 0 → IdsDiffer rows → IdsDiffer (with_floating rows f)
  ids_differ fresh = ids-push rows (with_floating rows f) f.id (λ i. times-floating rows i f) fresh

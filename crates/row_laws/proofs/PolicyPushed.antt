-- One more policy keeps each clause that reads policies, and rows consistent.
use Rattle.std.proofs.Common.{◌≡◌, ◌++◌, ◌∷◌, ℕ, [], List, true}
use Rattle.std.specs.Prelude.{count_by}
use Rattle.api_types.specs.Ident.{Ident}
use Rattle.api_types.specs.RowLists.{RowLists}
use Rattle.api_types.specs.Lists.{is_empty}
use Rattle.api_types.specs.Sharing.{grants, is_granted, is_shared_with}
use Rattle.api_types.specs.Consistent.Access.{PortsAreAllowed}
use Rattle.api_types.specs.Consistent.Named.{is_network, is_registered, NetworksStand, ProjectsStand}
use Rattle.api_types.specs.Consistent.Numbered.{is_drawn, AreDrawn}
use Rattle.api_types.specs.Consistent.Permitted.{same_policy, OutsidesAreAllowed}
use Rattle.api_types.specs.Consistent.{IsConsistent}
use Rattle.api_types.specs.declared.network.NetworkRow.{NetworkRow}
use Rattle.api_types.specs.declared.subnet.SubnetRow.{SubnetRow}
use Rattle.api_types.specs.declared.port.PortRow.{PortRow}
use Rattle.api_types.specs.declared.router.RouterRow.{RouterRow}
use Rattle.api_types.specs.declared.router.Gateway.{Gateway}
use Rattle.api_types.specs.declared.floating.FloatingRow.{FloatingRow}
use Rattle.api_types.specs.declared.policy.PolicyRow.{PolicyRow}
use Rattle.api_types.specs.declared.policy.Action.{Action}
use Rattle.api_types.specs.declared.policy.Action.TheVariants.{Shared, External}
use Rattle.row_laws.specs.NewRows.{with_policy, IsNewPolicy}
use Rattle.api_types.proofs.ListLemmas.{each-push, any-grows, once-push}
use Rattle.api_types.proofs.NameLemmas.{or_weaker, if_some-weaker, or_left_weaker}
use Rattle.api_types.proofs.IdLemmas.{ids-push}
use Rattle.row_laws.proofs.TimesLemmas.{times-policy}

module _ (policies : List PolicyRow) (l : PolicyRow) where
  granted : (action : Action) (network : Ident) (project : List ℕ) → is_granted policies action network project ≡ true → is_granted (policies ++ l ∷ []) action network project ≡ true
  granted action network project h = any-grows (grants action network project) policies l h

  pub networks_stand : {networks : List NetworkRow} {subnets : List SubnetRow} {ports : List PortRow} {routers : List RouterRow} {floatings : List FloatingRow}
      → is_network networks l.object ≡ true → NetworksStand networks subnets ports routers floatings policies → NetworksStand networks subnets ports routers floatings (policies ++ l ∷ [])
  networks_stand {networks} {subnets} {ports} {routers} {floatings} network c = record {
    of_subnets = c.of_subnets;
    of_ports = c.of_ports;
    of_gateways = c.of_gateways;
    of_floatings = c.of_floatings;
    of_policies = each-push (λ m. is_network networks m.object ≡ true) policies l c.of_policies network;
  }

  pub ports_are_allowed : {networks : List NetworkRow} {ports : List PortRow}
      → PortsAreAllowed networks ports policies → PortsAreAllowed networks ports (policies ++ l ∷ [])
  ports_are_allowed {networks} {ports} c = record {
    of_ports = λ k p at. or_weaker (is_empty p.project) _ _ (or_weaker p.by_admin _ _ (or_left_weaker (is_shared_with policies p.network p.project) (is_shared_with (policies ++ l ∷ []) p.network p.project) _
        (granted Shared p.network p.project))) (c.of_ports k p at);
  }

  pub outsides_are_allowed : {routers : List RouterRow} {floatings : List FloatingRow}
      → ((p : PolicyRow) → same_policy p l ≡ true → count_by (same_policy p) policies ≡ 0) → OutsidesAreAllowed routers floatings policies → OutsidesAreAllowed routers floatings (policies ++ l ∷ [])
  outsides_are_allowed {routers} {floatings} alone c = record {
    gateways = λ k r at. if_some-weaker _ _ r.gateway (λ (g : Gateway). granted External g.network r.project) (c.gateways k r at);
    addresses = λ k r at. granted External r.network r.project (c.addresses k r at);
    once = λ p. once-push (same_policy p) policies l (c.once p) (alone p);
  }

module _ (rows : RowLists) (l : PolicyRow) where
  pub are_drawn : is_drawn rows.projects l.id ≡ true → AreDrawn rows → AreDrawn (with_policy rows l)
  are_drawn drawn c = record {
    networks = c.networks;
    subnets = c.subnets;
    ports = c.ports;
    groups = c.groups;
    rules = c.rules;
    routers = c.routers;
    floatings = c.floatings;
    policies = each-push (λ r. is_drawn rows.projects r.id ≡ true) rows.policies l c.policies drawn;
  }

  pub projects_stand : is_registered rows.projects l.project ≡ true → ProjectsStand rows → ProjectsStand (with_policy rows l)
  projects_stand project c = record {
    of_networks = c.of_networks;
    of_subnets = c.of_subnets;
    of_ports = c.of_ports;
    of_groups = c.of_groups;
    of_rules = c.of_rules;
    of_routers = c.of_routers;
    of_floatings = c.of_floatings;
    of_policies = each-push (λ r. is_registered rows.projects r.project ≡ true) rows.policies l c.of_policies project;
  }

  pub policy_pushed : IsNewPolicy rows l → IsConsistent rows → IsConsistent (with_policy rows l)
  policy_pushed new c = record {
    numbered = record {
      projects = c.numbered.projects;
      ids = ids-push rows (with_policy rows l) l.id (λ i. times-policy rows i l) new.fresh c.numbered.ids;
      drawn = are_drawn new.drawn c.numbered.drawn;
    };
    named = record {
      networks = networks_stand rows.policies l new.network c.named.networks;
      subnets = c.named.subnets;
      ports = c.named.ports;
      groups = c.named.groups;
      routers = c.named.routers;
      projects = projects_stand new.project c.named.projects;
    };
    in_form = c.in_form;
    held_once = c.held_once;
    hosts = c.hosts;
    disjoint = c.disjoint;
    segments = c.segments;
    on_hosts = c.on_hosts;
    services = c.services;
    floatings = c.floatings;
    groups = c.groups;
    allowed = ports_are_allowed rows.policies l c.allowed;
    outsides = outsides_are_allowed rows.policies l new.alone c.outsides;
    routes = c.routes;
  }

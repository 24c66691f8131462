-- A policy that is replaced by one of the same network keeps each clause that reads policies, and rows consistent, where what was permitted to rows that stand still is.
use Rattle.std.proofs.Common.{◌≡◌, ◌≤◌, ◌∙◌, ℕ, List, true, Some, slice_get, slice_set, ap, arith}
use Rattle.std.specs.Prelude.{count_by}
use Rattle.api_types.specs.Table.{ident_eq}
use Rattle.api_types.specs.RowLists.{RowLists}
use Rattle.api_types.specs.Lists.{Each}
use Rattle.api_types.specs.Sharing.{is_external_to}
use Rattle.api_types.specs.Consistent.Access.{may_be_there, PortsAreAllowed}
use Rattle.api_types.specs.Consistent.Named.{is_network, is_registered, NetworksStand, ProjectsStand}
use Rattle.api_types.specs.Consistent.Numbered.{is_drawn, IdsDiffer, AreDrawn}
use Rattle.api_types.specs.Consistent.Permitted.{same_policy, OutsidesAreAllowed}
use Rattle.api_types.specs.Consistent.{IsConsistent}
use Rattle.api_types.specs.declared.network.NetworkRow.{NetworkRow}
use Rattle.api_types.specs.declared.subnet.SubnetRow.{SubnetRow}
use Rattle.api_types.specs.declared.port.PortRow.{PortRow}
use Rattle.api_types.specs.declared.router.RouterRow.{RouterRow}
use Rattle.api_types.specs.declared.router.Gateway.{Gateway}
use Rattle.api_types.specs.declared.floating.FloatingRow.{FloatingRow}
use Rattle.api_types.specs.declared.policy.PolicyRow.{PolicyRow}
use Rattle.row_laws.specs.Replaced.{with_policy_at, IsRetargetedPolicy}
use Rattle.api_types.proofs.ListLemmas.{each-set}
use Rattle.api_types.proofs.NameLemmas.{count-set, if_some-weaker_at}

module _ (policies : List PolicyRow) (place : ℕ) (old new : PolicyRow) (at : slice_get policies place ≡ Some old) where
  pub networks_stand : {networks : List NetworkRow} {subnets : List SubnetRow} {ports : List PortRow} {routers : List RouterRow} {floatings : List FloatingRow}
      → new.object ≡ old.object → NetworksStand networks subnets ports routers floatings policies → NetworksStand networks subnets ports routers floatings (slice_set policies place new)
  networks_stand {networks} {subnets} {ports} {routers} {floatings} same c = record {
    of_subnets = c.of_subnets;
    of_ports = c.of_ports;
    of_gateways = c.of_gateways;
    of_floatings = c.of_floatings;
    of_policies = each-set (λ m. is_network networks m.object ≡ true) policies place new c.of_policies (ap (is_network networks) same ∙ c.of_policies place old at);
  }

  -- where ports may still be on their networks
  pub ports_are_allowed : {networks : List NetworkRow} {ports : List PortRow}
      → Each (λ p. may_be_there networks policies p ≡ true → may_be_there networks (slice_set policies place new) p ≡ true) ports
      → PortsAreAllowed networks ports policies → PortsAreAllowed networks ports (slice_set policies place new)
  ports_are_allowed still c = record { of_ports = λ k p h. still k p h (c.of_ports k p h) }

  -- where networks that were external to the projects of their gateways and floating addresses still are
  pub outsides_are_allowed : {routers : List RouterRow} {floatings : List FloatingRow}
      → Each (λ r. (g : Gateway) → r.gateway ≡ Some g → is_external_to policies g.network r.project ≡ true → is_external_to (slice_set policies place new) g.network r.project ≡ true) routers → Each (λ f. is_external_to policies f.network f.project ≡ true → is_external_to (slice_set policies place new) f.network f.project ≡ true) floatings → ((p : PolicyRow) → count_by (same_policy p) (slice_set policies place new) ≤ 1) → OutsidesAreAllowed routers floatings policies → OutsidesAreAllowed routers floatings (slice_set policies place new)
  outsides_are_allowed {routers} {floatings} gateways addresses once c = record {
    gateways = λ k r h. if_some-weaker_at (λ (g : Gateway). is_external_to policies g.network r.project) (λ (g : Gateway). is_external_to (slice_set policies place new) g.network r.project) r.gateway (gateways k r h) (c.gateways k r h);
    addresses = λ k r h. addresses k r h (c.addresses k r h);
    once = once;
  }

module _ (rows : RowLists) (place : ℕ) (old new : PolicyRow) (at : slice_get rows.policies place ≡ Some old) where
  pub are_drawn : new.id ≡ old.id → AreDrawn rows → AreDrawn (with_policy_at rows place new)
  are_drawn same c = record {
    networks = c.networks;
    subnets = c.subnets;
    ports = c.ports;
    groups = c.groups;
    rules = c.rules;
    routers = c.routers;
    floatings = c.floatings;
    policies = each-set (λ r. is_drawn rows.projects r.id ≡ true) rows.policies place new c.policies (ap (is_drawn rows.projects) same ∙ c.policies place old at);
  }

  pub projects_stand : new.project ≡ old.project → ProjectsStand rows → ProjectsStand (with_policy_at rows place new)
  projects_stand same c = record {
    of_networks = c.of_networks;
    of_subnets = c.of_subnets;
    of_ports = c.of_ports;
    of_groups = c.of_groups;
    of_rules = c.of_rules;
    of_routers = c.of_routers;
    of_floatings = c.of_floatings;
    of_policies = each-set (λ r. is_registered rows.projects r.project ≡ true) rows.policies place new c.of_policies (ap (is_registered rows.projects) same ∙ c.of_policies place old at);
  }

  -- ids still differ
  pub ids_differ : new.id ≡ old.id → IdsDiffer rows → IdsDiffer (with_policy_at rows place new)
  ids_differ same once i = let e = count-set (λ s. ident_eq i s.id) rows.policies place old new at (ap (ident_eq i) same) in omega (arith, e, once i)

  -- one for another target
  pub policy_replaced : IsRetargetedPolicy rows place old new → IsConsistent rows → IsConsistent (with_policy_at rows place new)
  policy_replaced is c = record {
    numbered = record {
      projects = c.numbered.projects;
      ids = ids_differ is.id c.numbered.ids;
      drawn = are_drawn is.id c.numbered.drawn;
    };
    named = record {
      networks = networks_stand rows.policies place old new at is.object c.named.networks;
      subnets = c.named.subnets;
      ports = c.named.ports;
      groups = c.named.groups;
      routers = c.named.routers;
      projects = projects_stand is.project c.named.projects;
    };
    in_form = c.in_form;
    held_once = c.held_once;
    hosts = c.hosts;
    disjoint = c.disjoint;
    segments = c.segments;
    on_hosts = c.on_hosts;
    services = c.services;
    floatings = c.floatings;
    groups = c.groups;
    allowed = ports_are_allowed rows.policies place old new at is.permitted.ports c.allowed;
    outsides = outsides_are_allowed rows.policies place old new at is.permitted.gateways is.permitted.addresses is.once c.outsides;
    routes = c.routes;
  }

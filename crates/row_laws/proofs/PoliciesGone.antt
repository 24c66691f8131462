-- Fewer policies keep each clause that reads policies, and rows consistent, where what was permitted to rows that stand still is.
use Rattle.std.proofs.Common.{◌≡◌, ℕ, List, Bool, true, cond, Some, arith}
use Rattle.std.specs.Prelude.{filter}
use Rattle.api_types.specs.Table.{ident_eq}
use Rattle.api_types.specs.RowLists.{RowLists}
use Rattle.api_types.specs.Lists.{Each}
use Rattle.api_types.specs.Sharing.{is_external_to}
use Rattle.api_types.specs.Consistent.Access.{may_be_there, PortsAreAllowed}
use Rattle.api_types.specs.Consistent.Named.{NetworksStand, ProjectsStand}
use Rattle.api_types.specs.Consistent.Numbered.{IdsDiffer, AreDrawn}
use Rattle.api_types.specs.Consistent.Permitted.{same_policy, OutsidesAreAllowed}
use Rattle.api_types.specs.Consistent.{IsConsistent}
use Rattle.api_types.specs.declared.network.NetworkRow.{NetworkRow}
use Rattle.api_types.specs.declared.subnet.SubnetRow.{SubnetRow}
use Rattle.api_types.specs.declared.port.PortRow.{PortRow}
use Rattle.api_types.specs.declared.router.RouterRow.{RouterRow}
use Rattle.api_types.specs.declared.router.Gateway.{Gateway}
use Rattle.api_types.specs.declared.floating.FloatingRow.{FloatingRow}
use Rattle.api_types.specs.declared.policy.PolicyRow.{PolicyRow}
use Rattle.row_laws.specs.Gone.{with_policies_kept, ArePermittedStill}
use Rattle.api_types.proofs.ListLemmas.{each-filter, sum-filter-le}
use Rattle.api_types.proofs.NameLemmas.{count-filter, if_some-weaker_at}

module _ (keep : PolicyRow → Bool) (policies : List PolicyRow) where
  left : (P : PolicyRow → Type 0) → Each P policies → Each P (filter keep policies)
  left P = each-filter keep P P policies (λ r kept h. h)

  pub networks_stand : {networks : List NetworkRow} {subnets : List SubnetRow} {ports : List PortRow} {routers : List RouterRow} {floatings : List FloatingRow}
      → NetworksStand networks subnets ports routers floatings policies → NetworksStand networks subnets ports routers floatings (filter keep policies)
  networks_stand {networks} {subnets} {ports} {routers} {floatings} c = record {
    of_subnets = c.of_subnets;
    of_ports = c.of_ports;
    of_gateways = c.of_gateways;
    of_floatings = c.of_floatings;
    of_policies = left _ c.of_policies;
  }

  -- where ports may still be on their networks
  pub ports_are_allowed : {networks : List NetworkRow} {ports : List PortRow}
      → Each (λ p. may_be_there networks policies p ≡ true → may_be_there networks (filter keep policies) p ≡ true) ports
      → PortsAreAllowed networks ports policies → PortsAreAllowed networks ports (filter keep policies)
  ports_are_allowed still c = record { of_ports = λ k p h. still k p h (c.of_ports k p h) }

  -- where networks that were external to the projects of their gateways and floating addresses still are
  pub outsides_are_allowed : {routers : List RouterRow} {floatings : List FloatingRow}
      → Each (λ r. (g : Gateway) → r.gateway ≡ Some g → is_external_to policies g.network r.project ≡ true → is_external_to (filter keep policies) g.network r.project ≡ true) routers → Each (λ f. is_external_to policies f.network f.project ≡ true → is_external_to (filter keep policies) f.network f.project ≡ true) floatings → OutsidesAreAllowed routers floatings policies → OutsidesAreAllowed routers floatings (filter keep policies)
  outsides_are_allowed {routers} {floatings} gateways addresses c = record {
    gateways = λ k r h. if_some-weaker_at (λ (g : Gateway). is_external_to policies g.network r.project) (λ (g : Gateway). is_external_to (filter keep policies) g.network r.project) r.gateway (gateways k r h) (c.gateways k r h);
    addresses = λ k r h. addresses k r h (c.addresses k r h);
    once = λ p. count-filter keep (same_policy p) policies 1 (c.once p);
  }

module _ (keep : PolicyRow → Bool) (rows : RowLists) where
  pub are_drawn : AreDrawn rows → AreDrawn (with_policies_kept keep rows)
  are_drawn c = record {
    networks = c.networks;
    subnets = c.subnets;
    ports = c.ports;
    groups = c.groups;
    rules = c.rules;
    routers = c.routers;
    floatings = c.floatings;
    policies = left keep rows.policies _ c.policies;
  }

  pub projects_stand : ProjectsStand rows → ProjectsStand (with_policies_kept keep rows)
  projects_stand c = record {
    of_networks = c.of_networks;
    of_subnets = c.of_subnets;
    of_ports = c.of_ports;
    of_groups = c.of_groups;
    of_rules = c.of_rules;
    of_routers = c.of_routers;
    of_floatings = c.of_floatings;
    of_policies = left keep rows.policies _ c.of_policies;
  }

  -- ids still differ
  pub ids_differ : IdsDiffer rows → IdsDiffer (with_policies_kept keep rows)
  ids_differ once i = let a = sum-filter-le keep (λ (p : PolicyRow). cond {A = ℕ} (ident_eq i p.id) 1 0) rows.policies in omega (arith, a, once i)

  pub policies_gone : ArePermittedStill rows (filter keep rows.policies) → IsConsistent rows → IsConsistent (with_policies_kept keep rows)
  policies_gone still c = record {
    numbered = record {
      projects = c.numbered.projects;
      ids = ids_differ c.numbered.ids;
      drawn = are_drawn c.numbered.drawn;
    };
    named = record {
      networks = networks_stand keep rows.policies c.named.networks;
      subnets = c.named.subnets;
      ports = c.named.ports;
      groups = c.named.groups;
      routers = c.named.routers;
      projects = projects_stand c.named.projects;
    };
    in_form = c.in_form;
    held_once = c.held_once;
    hosts = c.hosts;
    disjoint = c.disjoint;
    segments = c.segments;
    on_hosts = c.on_hosts;
    services = c.services;
    floatings = c.floatings;
    groups = c.groups;
    allowed = ports_are_allowed keep rows.policies still.ports c.allowed;
    outsides = outsides_are_allowed keep rows.policies still.gateways still.addresses c.outsides;
    routes = c.routes;
  }

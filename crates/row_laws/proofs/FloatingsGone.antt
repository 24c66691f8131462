-- Fewer floating addresses keep each clause that reads floating addresses.
use Rattle.std.proofs.Common.{◌≡◌, ◌∙◌, ℕ, List, Bool, false, cond, arith}
use Rattle.std.specs.Prelude.{◌||◌, not, filter}
use Rattle.api_types.specs.Table.{ident_eq}
use Rattle.api_types.specs.RowLists.{RowLists}
use Rattle.api_types.specs.Lists.{Each, is_empty}
use Rattle.api_types.specs.Owners.{is_gateway}
use Rattle.api_types.specs.Consistent.Floating.{stands_for, FloatingsLead}
use Rattle.api_types.specs.Consistent.Named.{is_registered, is_own_port, NetworksStand, PortsStand, RoutersStand, ProjectsStand}
use Rattle.api_types.specs.Consistent.Numbered.{IdsDiffer, AreDrawn}
use Rattle.api_types.specs.Consistent.Permitted.{OutsidesAreAllowed}
use Rattle.api_types.specs.Consistent.Services.{OwnPortsServe}
use Rattle.api_types.specs.declared.network.NetworkRow.{NetworkRow}
use Rattle.api_types.specs.declared.subnet.SubnetRow.{SubnetRow}
use Rattle.api_types.specs.declared.port.PortRow.{PortRow}
use Rattle.api_types.specs.declared.router.RouterRow.{RouterRow}
use Rattle.api_types.specs.declared.floating.FloatingRow.{FloatingRow}
use Rattle.api_types.specs.declared.policy.PolicyRow.{PolicyRow}
use Rattle.row_laws.specs.Gone.{with_floatings_kept}
use Rattle.api_types.proofs.ListLemmas.{each-filter, any-filter, sum-filter-le, any-filter_back}
use Rattle.api_types.proofs.NameLemmas.{count-filter, unless_weaker}

module _ (keep : FloatingRow → Bool) (floatings : List FloatingRow) where
  left : (P : FloatingRow → Type 0) → Each P floatings → Each P (filter keep floatings)
  left P = each-filter keep P P floatings (λ r kept h. h)

  pub networks_stand : {networks : List NetworkRow} {subnets : List SubnetRow} {ports : List PortRow} {routers : List RouterRow} {policies : List PolicyRow}
      → NetworksStand networks subnets ports routers floatings policies → NetworksStand networks subnets ports routers (filter keep floatings) policies
  networks_stand {networks} {subnets} {ports} {routers} {policies} c = record {
    of_subnets = c.of_subnets;
    of_ports = c.of_ports;
    of_gateways = c.of_gateways;
    of_floatings = left _ c.of_floatings;
    of_policies = c.of_policies;
  }

  pub ports_stand : {ports : List PortRow} {routers : List RouterRow}
      → PortsStand ports routers floatings → PortsStand ports routers (filter keep floatings)
  ports_stand {ports} {routers} c = record {
    of_gateways = c.of_gateways;
    of_floatings = left _ c.of_floatings;
    of_targets = left _ c.of_targets;
  }

  pub routers_stand : {routers : List RouterRow}
      → RoutersStand routers floatings → RoutersStand routers (filter keep floatings)
  routers_stand {routers} c = record {
    of_targets = left _ c.of_targets;
  }

  pub own_ports_serve : {ports : List PortRow}
      → OwnPortsServe ports floatings → OwnPortsServe ports (filter keep floatings)
  own_ports_serve {ports} c = record {
    once = λ i. count-filter keep (λ g. ident_eq i g.own_port) floatings 1 (c.once i);
    there = left _ c.there;
    unsecured = λ k p at. unless_weaker (is_own_port floatings p.id) (is_own_port (filter keep floatings) p.id) (not p.secured) (any-filter_back keep (λ g. ident_eq p.id g.own_port) floatings) (c.unsecured k p at);
  }

  pub floatings_lead : {ports : List PortRow} {routers : List RouterRow}
      → FloatingsLead ports routers floatings → FloatingsLead ports routers (filter keep floatings)
  floatings_lead {ports} {routers} c = record {
    once = λ network port x. count-filter keep (stands_for network port x) floatings 1 (c.once network port x);
    targets = left _ c.targets;
  }

  pub outsides_are_allowed : {routers : List RouterRow} {policies : List PolicyRow}
      → OutsidesAreAllowed routers floatings policies → OutsidesAreAllowed routers (filter keep floatings) policies
  outsides_are_allowed {routers} {policies} c = record {
    gateways = c.gateways;
    addresses = left _ c.addresses;
    once = c.once;
  }

module _ (keep : FloatingRow → Bool) (rows : RowLists) where
  pub are_drawn : AreDrawn rows → AreDrawn (with_floatings_kept keep rows)
  are_drawn c = record {
    networks = c.networks;
    subnets = c.subnets;
    ports = c.ports;
    groups = c.groups;
    rules = c.rules;
    routers = c.routers;
    floatings = left keep rows.floatings _ c.floatings;
    policies = c.policies;
  }

  -- where the own ports of those that go are gone
  pub projects_stand : Each (λ g. keep g ≡ false → Each (λ p. ident_eq p.id g.own_port ≡ false) rows.ports) rows.floatings → ProjectsStand rows → ProjectsStand (with_floatings_kept keep rows)
  projects_stand goes c = record {
    of_networks = c.of_networks;
    of_subnets = c.of_subnets;
    of_ports = λ k p at. (λ j. cond (is_gateway p.owner || any-filter keep (λ g. ident_eq p.id g.own_port) rows.floatings (λ l g at_g gone. goes l g at_g gone k p at) j) (is_empty p.project) (is_registered rows.projects p.project)) ∙ c.of_ports k p at;
    of_groups = c.of_groups;
    of_rules = c.of_rules;
    of_routers = c.of_routers;
    of_floatings = left keep rows.floatings _ c.of_floatings;
    of_policies = c.of_policies;
  }

  -- ids still differ
  pub ids_differ : IdsDiffer rows → IdsDiffer (with_floatings_kept keep rows)
  ids_differ once i = let a = sum-filter-le keep (λ (f : FloatingRow). cond {A = ℕ} (ident_eq i f.id) 1 0) rows.floatings in omega (arith, a, once i)

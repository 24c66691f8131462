-- No rows are consistent.
use Rattle.std.proofs.Common.{◌≡◌, List, [], arith}
use Rattle.api_types.specs.Consistent.{IsConsistent}
use Rattle.api_types.specs.Lists.{Each}
use Rattle.api_types.specs.Rows.{no_rows}
use Rattle.api_types.proofs.ListLemmas.{none_some}

pub nothing_there : {R : Type 0} (P : R → Type 0) → Each P []
nothing_there P k r at = none_some r (P r) at

pub no_rows_consistent : IsConsistent no_rows
no_rows_consistent = record {
  numbered = record {
    projects = record { ordered = λ k p at. none_some p _ at; names = λ name. omega arith; named = nothing_there _; few = omega arith };
    ids = λ i. omega arith;
    drawn = record { networks = nothing_there _; subnets = nothing_there _; ports = nothing_there _; groups = nothing_there _; rules = nothing_there _; routers = nothing_there _; floatings = nothing_there _; policies = nothing_there _ };
  };
  named = record {
    networks = record { of_subnets = nothing_there _; of_ports = nothing_there _; of_gateways = nothing_there _; of_floatings = nothing_there _; of_policies = nothing_there _ };
    subnets = record { of_ports = nothing_there _ };
    ports = record { of_gateways = nothing_there _; of_floatings = nothing_there _; of_targets = nothing_there _ };
    groups = record { of_ports = nothing_there _; of_rules = nothing_there _; of_remotes = nothing_there _ };
    routers = record { of_targets = nothing_there _ };
    projects = record { of_networks = nothing_there _; of_subnets = nothing_there _; of_ports = nothing_there _; of_groups = nothing_there _; of_rules = nothing_there _; of_routers = nothing_there _; of_floatings = nothing_there _; of_policies = nothing_there _ };
  };
  in_form = record { segments = nothing_there _; subnet_owners = nothing_there _; subnet_forms = nothing_there _; dhcp_owners = nothing_there _; port_forms = nothing_there _; rule_owners = nothing_there _; routes = nothing_there _ };
  held_once = record { macs = λ n mac. omega arith; addresses = λ n x. omega arith };
  hosts = record { addresses = nothing_there _ };
  disjoint = record { in_network = nothing_there _; at_router = nothing_there _ };
  segments = record { apart = λ s. omega arith; few = omega arith };
  on_hosts = record { at_router = nothing_there _ };
  services = record {
    dhcp = record { there = nothing_there _; holds = nothing_there _; no_other = nothing_there _; unsecured = nothing_there _ };
    of_routers = record { devices = nothing_there _; interfaces = nothing_there _; gateways = nothing_there _; unsecured = nothing_there _; counts = nothing_there _; named = nothing_there _ };
    of_floatings = record { once = λ i. omega arith; there = nothing_there _; unsecured = nothing_there _ };
  };
  floatings = record { once = λ n p x. omega arith; targets = nothing_there _ };
  groups = record { defaults = nothing_there _; of_ports = nothing_there _; bare = nothing_there _; remotes = nothing_there _; apart = nothing_there _ };
  allowed = record { of_ports = nothing_there _ };
  outsides = record { gateways = nothing_there _; addresses = nothing_there _; once = λ p. omega arith };
  routes = record { routes = nothing_there _ };
}

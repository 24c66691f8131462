-- Migrated rows are numbered and named as the old ones, and are allowed where they are.
use Rattle.std.proofs.Common.{◌≡◌, ◌∙◌, ℕ, ◌+◌, List, [], ◌∷◌, Bool, true, false, Option, None, Some, map, refl, ap, sym, subst, arith}
use Rattle.std.specs.Prelude.{◌≤◌, ◌&&◌, ◌||◌, not, cond, count_by}
use Rattle.std.specs.List.{list_any, list_all}
use Rattle.api_types.specs.Ident.{Ident}
use Rattle.api_types.specs.Table.{ident_eq}
use Rattle.api_types.specs.Lists.{Pass, stands, stands_so, if_some, times}
use Rattle.api_types.specs.Consistent.Numbered.{AreNumbered, times_in, AreDrawn}
use Rattle.api_types.specs.Consistent.Named.{NamesStand, NetworksStand, SubnetsStand, PortsStand, GroupsStand, RoutersStand, ProjectsStand}
use Rattle.api_types.specs.Consistent.Access.{PortsAreAllowed}
use Rattle.api_types.specs.Consistent.Permitted.{OutsidesAreAllowed}
use Rattle.api_types.specs.declared.subnet.SubnetRow.{SubnetRow}
use Rattle.api_types.specs.declared.port.PortRow.{PortRow}
use Rattle.api_types.specs.declared.router.RouterRow.{RouterRow}
use Rattle.api_types.specs.declared.floating.FloatingRow.{FloatingRow}
use Rattle.api_types.specs.declared.floating.Target.{Target}
use Rattle.old_rows.specs.OldLists.{OldLists}
use Rattle.old_rows.specs.Migrated.{migrated, migrated_fixed, migrated_subnet, migrated_port, migrated_rule, migrated_router}
use Rattle.old_rows.specs.OldConsistent.Numbered as was_numbered
use Rattle.old_rows.specs.OldConsistent.Named as was_named
use Rattle.old_rows.specs.OldConsistent.Access as was_allowed
use Rattle.old_rows.specs.OldConsistent.Permitted as was_permitted
use Rattle.old_rows.proofs.MapLemmas.{any-map, all-map, count-map, pass-map, pass-agree, if_some-agree}

times_same : (old : OldLists) (i : Ident) → times_in (migrated old) i ≡ was_numbered.times_in old i
times_same old i =
    let subnets : times (λ r. r.id) i (map migrated_subnet old.subnets) ≡ times (λ r. r.id) i old.subnets = count-map migrated_subnet _ _ (λ r. refl) old.subnets in
    let ports : times (λ r. r.id) i (map migrated_port old.ports) ≡ times (λ r. r.id) i old.ports = count-map migrated_port _ _ (λ r. refl) old.ports in
    let rules : times (λ r. r.id) i (map migrated_rule old.rules) ≡ times (λ r. r.id) i old.rules = count-map migrated_rule _ _ (λ r. refl) old.rules in
    let routers : times (λ r. r.id) i (map migrated_router old.routers) ≡ times (λ r. r.id) i old.routers = count-map migrated_router _ _ (λ r. refl) old.routers in
    omega (arith, subnets, ports, rules, routers)

pub are_numbered : (old : OldLists) → was_numbered.AreNumbered old → AreNumbered (migrated old)
are_numbered old c = record {
  projects = c.projects;
  ids = λ i. subst (λ n. n ≤ 1) (sym (times_same old i)) (c.ids i);
  drawn = record {
    networks = c.drawn.networks;
    subnets = pass-map migrated_subnet _ _ (λ r. refl) old.subnets c.drawn.subnets;
    ports = pass-map migrated_port _ _ (λ r. refl) old.ports c.drawn.ports;
    groups = c.drawn.groups;
    rules = pass-map migrated_rule _ _ (λ r. refl) old.rules c.drawn.rules;
    routers = pass-map migrated_router _ _ (λ r. refl) old.routers c.drawn.routers;
    floatings = c.drawn.floatings;
    policies = c.drawn.policies;
  };
}

port_same : (old : OldLists) (i : Ident) → stands (λ (p : PortRow). p.id) i (map migrated_port old.ports) ≡ was_named.is_port old.ports i
port_same old i = any-map migrated_port _ _ (λ p. refl) old.ports

router_same : (old : OldLists) (i : Ident) → stands (λ (r : RouterRow). r.id) i (map migrated_router old.routers) ≡ was_named.is_router old.routers i
router_same old i = any-map migrated_router _ _ (λ r. refl) old.routers

pub names_stand : (old : OldLists) → was_named.NamesStand old → NamesStand (migrated old)
names_stand old c = record {
  networks = record {
    of_subnets = pass-map migrated_subnet _ _ (λ s. refl) old.subnets c.networks.of_subnets;
    of_ports = pass-map migrated_port _ _ (λ p. refl) old.ports c.networks.of_ports;
    of_gateways = pass-map migrated_router _ _ (λ r. refl) old.routers c.networks.of_gateways;
    of_floatings = c.networks.of_floatings;
    of_policies = c.networks.of_policies;
  };
  subnets = record {
    of_ports = pass-map migrated_port _ _ (λ p. all-map migrated_fixed _ _ (λ f. any-map migrated_subnet _ _ (λ s. refl) old.subnets) p.fixed) old.ports c.subnets;
  };
  ports = record {
    of_gateways = pass-map migrated_router _ _ (λ r. if_some-agree _ _ (λ g. port_same old g.port) r.gateway) old.routers c.ports.of_gateways;
    of_floatings = pass-agree _ _ (λ (f : FloatingRow). port_same old f.own_port) old.floatings c.ports.of_floatings;
    of_targets = pass-agree _ _ (λ (f : FloatingRow). if_some-agree _ _ (λ (t : Target). port_same old t.port) f.target) old.floatings c.ports.of_targets;
  };
  groups = record {
    of_ports = pass-map migrated_port _ _ (λ p. refl) old.ports c.groups.of_ports;
    of_rules = pass-map migrated_rule _ _ (λ r. refl) old.rules c.groups.of_rules;
    of_remotes = pass-map migrated_rule _ _ (λ r. refl) old.rules c.groups.of_remotes;
  };
  routers = record {
    of_targets = pass-agree _ _ (λ (f : FloatingRow). if_some-agree _ _ (λ (t : Target). router_same old t.router) f.target) old.floatings c.routers;
  };
  projects = record {
    of_networks = c.projects.of_networks;
    of_subnets = pass-map migrated_subnet _ _ (λ s. refl) old.subnets c.projects.of_subnets;
    of_ports = pass-map migrated_port _ _ (λ p. refl) old.ports c.projects.of_ports;
    of_groups = c.projects.of_groups;
    of_rules = pass-map migrated_rule _ _ (λ r. refl) old.rules c.projects.of_rules;
    of_routers = pass-map migrated_router _ _ (λ r. refl) old.routers c.projects.of_routers;
    of_floatings = c.projects.of_floatings;
    of_policies = c.projects.of_policies;
  };
}

pub ports_are_allowed : (old : OldLists) → was_allowed.PortsAreAllowed old → PortsAreAllowed old.networks (map migrated_port old.ports) old.policies
ports_are_allowed old c = record { of_ports = pass-map migrated_port _ _ (λ p. refl) old.ports c.of_ports }

pub outsides_are_allowed : (old : OldLists) → was_permitted.OutsidesAreAllowed old.routers old.floatings old.policies
    → OutsidesAreAllowed (map migrated_router old.routers) old.floatings old.policies
outsides_are_allowed old c = record {
  gateways = pass-map migrated_router _ _ (λ r. refl) old.routers c.gateways;
  addresses = c.addresses;
  once = c.once;
}

-- Tests of single rows that all rows pass, as the clauses that they make.
use Rattle.std.proofs.Common.{◌≡◌, ◌∙◌, ◌+◌, ◌<◌, ◌^◌, ℕ, List, Bool, true, Option, Some, None, slice_get, length, refl, ap, arith}
use Rattle.std.specs.Prelude.{◌==◌, ◌&&◌, ◌||◌, not, nat_lt, nat_le}
use Rattle.std.specs.List.{list_all}
use Rattle.std.proofs.lemmas.Bool.Decides.{nat_tests}
use Rattle.api_types.specs.Lists.{Pass, if_some, is_empty}
use Rattle.api_types.specs.Owners.{is_dhcp}
use Rattle.api_types.specs.RowLists.{RowLists}
use Rattle.api_types.specs.Consistent.Named.{is_network, is_port, is_group, is_router, is_registered, names_subnet, port_project_stands, NamesStand}
use Rattle.api_types.specs.Consistent.InForm.{is_segment, is_network_of, is_group_of, is_subnet_form, is_port_form, AreInForm}
use Rattle.api_types.specs.Consistent.Numbered.{AreOrdered, AreDrawn, is_drawn}
use Rattle.api_types.specs.declared.project.ProjectRow.{ProjectRow}
use Rattle.api_types.specs.declared.port.PortRow.{PortRow}
use Rattle.api_types.specs.declared.group.RuleRow.{RuleRow}
use Rattle.api_types.specs.declared.router.RouterRow.{RouterRow}
use Rattle.api_types.specs.declared.router.Gateway.{Gateway}
use Rattle.api_types.specs.declared.floating.FloatingRow.{FloatingRow}
use Rattle.api_types.specs.declared.floating.Target.{Target}
use Rattle.api_types.proofs.ListLemmas.{and_both}
use Rattle.api_types.proofs.NameLemmas.{all-at}
use Rattle.api_clauses.specs.Names.{subnet_named, port_named, rule_named, gateway_named, router_named, target_named, floating_named, policy_named}
use Rattle.api_clauses.specs.Forms.{subnet_formed, port_formed}
use Rattle.api_check.specs.Broken.{first_place}
use Rattle.api_check.proofs.FirstBrokenLaw.{no_place_passes}
use Rattle.api_consistency.specs.Keys.{names_stand, are_in_form, are_all_drawn, is_in_place}

-- each part of what is there, where it passes both tests
each_part : {X : Type 0} (p q : X → Bool) (o : Option X) → if_some (λ x. p x && q x) o ≡ true → (if_some p o ≡ true) × (if_some q o ≡ true)
each_part p q None h = (refl, refl)
each_part p q (Some x) h = and_both (p x) (q x) h

module _ (rows : RowLists) where
  port_parts : (p : PortRow) → port_named rows p ≡ true
      → (is_network rows.networks p.network ≡ true) × (list_all (names_subnet rows.subnets p) p.fixed ≡ true) × (list_all (is_group rows.groups) p.groups ≡ true) × (port_project_stands rows.projects rows.floatings p ≡ true)
  port_parts p h =
      let a = and_both (is_network rows.networks p.network) _ h in
      let b = and_both (list_all (names_subnet rows.subnets p) p.fixed) _ a.1 in
      let c = and_both (list_all (is_group rows.groups) p.groups) (port_project_stands rows.projects rows.floatings p) b.1 in
      (a.0, b.0, c.0, c.1)

  rule_parts : (r : RuleRow) → rule_named rows r ≡ true
      → (is_group rows.groups r.group ≡ true) × (if_some (is_group rows.groups) r.remote_group ≡ true) × (is_registered rows.projects r.project ≡ true)
  rule_parts r h =
      let a = and_both (is_group rows.groups r.group) _ h in
      let b = and_both (if_some (is_group rows.groups) r.remote_group) (is_registered rows.projects r.project) a.1 in
      (a.0, b.0, b.1)

  router_parts : (r : RouterRow) → router_named rows r ≡ true
      → (if_some (λ (g : Gateway). is_network rows.networks g.network) r.gateway ≡ true) × (if_some (λ (g : Gateway). is_port rows.ports g.port) r.gateway ≡ true) × (is_registered rows.projects r.project ≡ true)
  router_parts r h =
      let a = and_both (if_some (gateway_named rows) r.gateway) (is_registered rows.projects r.project) h in
      let b = each_part (λ (g : Gateway). is_network rows.networks g.network) (λ (g : Gateway). is_port rows.ports g.port) r.gateway a.0 in
      (b.0, b.1, a.1)

  floating_parts : (f : FloatingRow) → floating_named rows f ≡ true
      → (is_network rows.networks f.network ≡ true) × (is_port rows.ports f.own_port ≡ true) × (if_some (λ (t : Target). is_port rows.ports t.port) f.target ≡ true) × (if_some (λ (t : Target). is_router rows.routers t.router) f.target ≡ true)
      × (is_registered rows.projects f.project ≡ true)
  floating_parts f h =
      let a = and_both (is_network rows.networks f.network) _ h in
      let b = and_both (is_port rows.ports f.own_port) _ a.1 in
      let c = and_both (if_some (target_named rows) f.target) (is_registered rows.projects f.project) b.1 in
      let d = each_part (λ (t : Target). is_port rows.ports t.port) (λ (t : Target). is_router rows.routers t.router) f.target c.0 in
      (a.0, b.0, d.0, d.1, c.1)

  pub names_sound : names_stand rows ≡ true → NamesStand rows
  names_sound h =
      let s1 = and_both (list_all (λ r. is_registered rows.projects r.project) rows.networks) _ h in
      let s2 = and_both (list_all (subnet_named rows) rows.subnets) _ s1.1 in
      let s3 = and_both (list_all (port_named rows) rows.ports) _ s2.1 in
      let s4 = and_both (list_all (λ r. is_registered rows.projects r.project) rows.groups) _ s3.1 in
      let s5 = and_both (list_all (rule_named rows) rows.rules) _ s4.1 in
      let s6 = and_both (list_all (router_named rows) rows.routers) _ s5.1 in
      let s7 = and_both (list_all (floating_named rows) rows.floatings) (list_all (policy_named rows) rows.policies) s6.1 in
      let subnet = all-at (subnet_named rows) rows.subnets s2.0 in
      let port = all-at (port_named rows) rows.ports s3.0 in
      let rule = all-at (rule_named rows) rows.rules s5.0 in
      let router = all-at (router_named rows) rows.routers s6.0 in
      let floating = all-at (floating_named rows) rows.floatings s7.0 in
      let policy = all-at (policy_named rows) rows.policies s7.1 in
      record {
        networks = record {
          of_subnets = λ k r at. (and_both (is_network rows.networks r.network) (is_registered rows.projects r.project) (subnet k r at)).0;
          of_ports = λ k r at. (port_parts r (port k r at)).0;
          of_gateways = λ k r at. (router_parts r (router k r at)).0;
          of_floatings = λ k r at. (floating_parts r (floating k r at)).0;
          of_policies = λ k r at. (and_both (is_network rows.networks r.object) (is_registered rows.projects r.project) (policy k r at)).0;
        };
        subnets = record { of_ports = λ k r at. (port_parts r (port k r at)).1 };
        ports = record {
          of_gateways = λ k r at. (router_parts r (router k r at)).1;
          of_floatings = λ k r at. (floating_parts r (floating k r at)).1;
          of_targets = λ k r at. (floating_parts r (floating k r at)).2;
        };
        groups = record {
          of_ports = λ k r at. (port_parts r (port k r at)).2;
          of_rules = λ k r at. (rule_parts r (rule k r at)).0;
          of_remotes = λ k r at. (rule_parts r (rule k r at)).1;
        };
        routers = record { of_targets = λ k r at. (floating_parts r (floating k r at)).3 };
        projects = record {
          of_networks = all-at (λ r. is_registered rows.projects r.project) rows.networks s1.0;
          of_subnets = λ k r at. (and_both (is_network rows.networks r.network) (is_registered rows.projects r.project) (subnet k r at)).1;
          of_ports = λ k r at. (port_parts r (port k r at)).3;
          of_groups = all-at (λ r. is_registered rows.projects r.project) rows.groups s4.0;
          of_rules = λ k r at. (rule_parts r (rule k r at)).2;
          of_routers = λ k r at. (router_parts r (router k r at)).2;
          of_floatings = λ k r at. (floating_parts r (floating k r at)).4;
          of_policies = λ k r at. (and_both (is_network rows.networks r.object) (is_registered rows.projects r.project) (policy k r at)).1;
        };
      }

  pub forms_sound : are_in_form rows ≡ true → AreInForm rows.networks rows.subnets rows.ports rows.groups rows.rules rows.routers
  forms_sound h =
      let s1 = and_both (list_all (λ r. is_segment r.segment) rows.networks) _ h in
      let s2 = and_both (list_all (subnet_formed rows.networks) rows.subnets) _ s1.1 in
      let s3 = and_both (list_all (port_formed rows.networks) rows.ports) _ s2.1 in
      let s4 = and_both (list_all (λ r. is_group_of rows.groups r.project r.group) rows.rules) (list_all (λ r. nat_le (length r.routes) 30) rows.routers) s3.1 in
      let subnet = all-at (subnet_formed rows.networks) rows.subnets s2.0 in
      let port = all-at (port_formed rows.networks) rows.ports s3.0 in
      record {
        segments = all-at (λ r. is_segment r.segment) rows.networks s1.0;
        subnet_owners = λ k r at. (and_both (is_network_of rows.networks r.project r.network) (is_subnet_form r) (subnet k r at)).0;
        subnet_forms = λ k r at. (and_both (is_network_of rows.networks r.project r.network) (is_subnet_form r) (subnet k r at)).1;
        dhcp_owners = λ k r at. (and_both (not (is_dhcp r.owner) || is_network_of rows.networks r.project r.network) (is_port_form r) (port k r at)).0;
        port_forms = λ k r at. (and_both (not (is_dhcp r.owner) || is_network_of rows.networks r.project r.network) (is_port_form r) (port k r at)).1;
        rule_owners = all-at (λ r. is_group_of rows.groups r.project r.group) rows.rules s4.0;
        routes = all-at (λ r. nat_le (length r.routes) 30) rows.routers s4.1;
      }

  pub all_drawn : are_all_drawn rows ≡ true → AreDrawn rows
  all_drawn h =
      let s1 = and_both (list_all (λ r. is_drawn rows.projects r.id) rows.networks) _ h in
      let s2 = and_both (list_all (λ r. is_drawn rows.projects r.id) rows.subnets) _ s1.1 in
      let s3 = and_both (list_all (λ r. is_drawn rows.projects r.id) rows.ports) _ s2.1 in
      let s4 = and_both (list_all (λ r. is_drawn rows.projects r.id) rows.groups) _ s3.1 in
      let s5 = and_both (list_all (λ r. is_drawn rows.projects r.id) rows.rules) _ s4.1 in
      let s6 = and_both (list_all (λ r. is_drawn rows.projects r.id) rows.routers) _ s5.1 in
      let s7 = and_both (list_all (λ r. is_drawn rows.projects r.id) rows.floatings) _ s6.1 in
      record {
        networks = all-at (λ r. is_drawn rows.projects r.id) rows.networks s1.0;
        subnets = all-at (λ r. is_drawn rows.projects r.id) rows.subnets s2.0;
        ports = all-at (λ r. is_drawn rows.projects r.id) rows.ports s3.0;
        groups = all-at (λ r. is_drawn rows.projects r.id) rows.groups s4.0;
        rules = all-at (λ r. is_drawn rows.projects r.id) rows.rules s5.0;
        routers = all-at (λ r. is_drawn rows.projects r.id) rows.routers s6.0;
        floatings = all-at (λ r. is_drawn rows.projects r.id) rows.floatings s7.0;
        policies = all-at (λ r. is_drawn rows.projects r.id) rows.policies s7.1;
      }

below : (a b : ℕ) → nat_lt a b ≡ true → a < b
below a b h = grind (arith, nat_tests)

equal : (a b : ℕ) → (a == b) ≡ true → a ≡ b
equal a b h = grind (arith, nat_tests)

-- projects that each stand in their place
module _ (projects : List ProjectRow) (placed : first_place is_in_place 0 projects ≡ None) where
  at_place : (k : ℕ) (p : ProjectRow) → slice_get projects k ≡ Some p → is_in_place k p ≡ true
  at_place k p at = let z : k ≡ 0 + k = omega arith in ap (λ n. is_in_place n p) z ∙ no_place_passes is_in_place 0 projects placed k p at

  pub ordered : AreOrdered projects
  ordered k p at =
      let a = and_both (p.ordinal == k + 1) (nat_lt p.count (2 ^ 62) && (nat_lt (k + 1) (2 ^ 32) && not (is_empty p.name))) (at_place k p at) in
      let b = and_both (nat_lt p.count (2 ^ 62)) (nat_lt (k + 1) (2 ^ 32) && not (is_empty p.name)) a.1 in
      (equal p.ordinal (k + 1) a.0, below p.count (2 ^ 62) b.0)

  pub named : Pass (λ (p : ProjectRow). not (is_empty p.name)) projects
  named k p at =
      let a = and_both (p.ordinal == k + 1) (nat_lt p.count (2 ^ 62) && (nat_lt (k + 1) (2 ^ 32) && not (is_empty p.name))) (at_place k p at) in
      let b = and_both (nat_lt p.count (2 ^ 62)) (nat_lt (k + 1) (2 ^ 32) && not (is_empty p.name)) a.1 in
      (and_both (nat_lt (k + 1) (2 ^ 32)) (not (is_empty p.name)) b.1).1

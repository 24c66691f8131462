-- No clause is broken exactly where rows are consistent, clause by clause.
use Rattle.std.proofs.Common.{◌≡◌, ◌+◌, ◌<◌, ◌≤◌, ◌^◌, ◌∷◌, ◌∙◌, ℕ, zero, suc, slice_get, [], List, Bool, true, false, cond, Option, Some, None, length, refl, ap, sym, arith, subst, sum_by}
use Rattle.std.specs.Prelude.{◌==◌, ◌&&◌, ◌||◌, not, nat_lt, nat_le, count_by, position, min}
use Rattle.std.specs.List.{list_any, list_all}
use Rattle.std.specs.Str.{bytes_eq}
use Rattle.net_addr.specs.Addresses.{addr_eq}
use Rattle.net_addr.specs.declared.address.Addr.{Addr}
use Rattle.net_addr.proofs.AddrLemmas.{addr_same}
use Rattle.api_types.specs.Ident.{Ident}
use Rattle.api_types.specs.Table.{ident_eq}
use Rattle.api_types.specs.RowLists.{RowLists}
use Rattle.api_types.specs.Lists.{Pass, stands_so, times, if_some, is_some_so, is_empty, is_one}
use Rattle.api_types.specs.Owners.{is_interface, is_gateway, is_dhcp, is_router_port, is_port_of, is_dhcp_of}
use Rattle.api_types.specs.Sharing.{is_action, is_external_to}
use Rattle.api_types.specs.Registration.{is_named}
use Rattle.api_types.specs.Consistent.{IsConsistent}
use Rattle.api_types.specs.Consistent.Numbered.{is_drawn, times_in, AreNumbered}
use Rattle.api_types.specs.Consistent.Named.{is_network, is_port, is_group, is_router, is_registered, names_subnet, is_own_port, port_project_stands, NamesStand}
use Rattle.api_types.specs.Consistent.InForm.{is_segment, is_network_of, is_group_of, is_subnet_form, is_port_form, AreInForm}
use Rattle.api_types.specs.Consistent.HeldOnce.{has_mac, holds_times, AreHeldOnce}
use Rattle.api_types.specs.Consistent.Hosts.{is_host_in}
use Rattle.api_types.specs.Consistent.Disjoint.{subnets_clash, ports_clash, AreDisjoint}
use Rattle.api_types.specs.Consistent.Segments.{same_segment, most_networks, SegmentsDiffer}
use Rattle.api_types.specs.Consistent.Carried.{is_bound, AreOnHosts, AreCarried}
use Rattle.api_types.specs.Consistent.Services.{wants_dhcp, leases, is_leased, is_gateway_of, is_named_gateway, wanted_gateways, is_port_for, ServicesStand}
use Rattle.api_types.specs.Consistent.Floating.{leads_to, stands_for, FloatingsLead}
use Rattle.api_types.specs.Consistent.Groups.{is_default_of, rules_clash, GroupsServe}
use Rattle.api_types.specs.Consistent.Access.{may_be_there}
use Rattle.api_types.specs.Consistent.Permitted.{same_policy, OutsidesAreAllowed}
use Rattle.api_types.specs.Consistent.NextHops.{is_reached}
use Rattle.api_types.specs.declared.project.ProjectRow.{ProjectRow}
use Rattle.api_types.specs.declared.network.NetworkRow.{NetworkRow}
use Rattle.api_types.specs.declared.network.Segment.{Segment}
use Rattle.api_types.specs.declared.port.PortRow.{PortRow}
use Rattle.api_types.specs.declared.port.Fixed.{Fixed}
use Rattle.api_types.specs.declared.router.Gateway.{Gateway}
use Rattle.api_types.specs.declared.floating.FloatingRow.{FloatingRow}
use Rattle.api_types.specs.declared.floating.Target.{Target}
use Rattle.api_types.specs.declared.policy.PolicyRow.{PolicyRow}
use Rattle.api_types.specs.declared.policy.Action.{Action}
use Rattle.api_types.specs.declared.policy.Action.TheVariants.{Shared, External}
use Rattle.std.proofs.lemmas.Bool.Decides.{nat_tests}
use Rattle.std.proofs.lemmas.List.Sums.{sum_by-cons}
use Rattle.std.proofs.lemmas.Option.{slice_get_within}
use Rattle.api_types.specs.Rows.{project_id}
use Rattle.api_types.specs.declared.kind.Kind.TheVariants.{Project, Network, Subnet, Port, Group, Rule, Router, Floating, Policy}
use Rattle.api_types.specs.declared.network.Segment.TheVariants.{Local, Flat, Vlan, Vxlan}
use Rattle.net_settings.specs.declared.settings.Host.{Host}
use Rattle.api_check.specs.Broken.{told_at, breaks, first_place, earlier}
use Rattle.api_ml2.specs.Carrying.{carries}
use Rattle.api_clauses.specs.Numbers.{project_numbered, is_numbered}
use Rattle.api_clauses.specs.Names.{subnet_named, port_named, rule_named, gateway_named, router_named, target_named, floating_named, policy_named}
use Rattle.api_clauses.specs.Forms.{subnet_formed, port_formed}
use Rattle.api_clauses.specs.Held.{is_held_once, port_alone, segment_alone}
use Rattle.api_clauses.specs.Services.{network_served, dhcp_serves, router_port_serves, port_serves, router_served, floating_served}
use Rattle.api_clauses.specs.Floatings.{target_alone, floating_leads}
use Rattle.api_clauses.specs.Groups.{project_grouped, port_grouped, rule_grouped}
use Rattle.api_clauses.specs.Permits.{router_permitted, policy_alone}
use Rattle.api_check.specs.Placing.{port_placed}
use Rattle.api_check.specs.FirstBroken.{numbers_broken, names_broken, forms_broken, disjoint_broken, too_many, segments_broken, services_broken, groups_broken, outsides_broken, first_broken_of}
use Rattle.api_check.proofs.Places.{position_first}
use Rattle.api_check.proofs.FirstBrokenLaw.{at_most, is_at_most, equal_to, is_equal_to, all_none, none_all, no_place_passes, passes_no_place, place_within, there, told_within, told_none, placed_none, none_placed, breaks-none, pass-breaks, once_by_rows}
use Rattle.api_types.proofs.ListLemmas.{some_equal, none_some, false_true, and_both, both_and, none-any, sum-none, count-none, any-at}
use Rattle.api_types.proofs.NameLemmas.{ident_same, bytes_same, by_test, all-at, at-all}

module _ (rows : RowLists) where
  below : (a b : ℕ) → nat_lt a b ≡ true → a < b
  below a b h = grind (arith, nat_tests)

  is_below : (a b : ℕ) → a < b → nat_lt a b ≡ true
  is_below a b h = grind (arith, nat_tests)

  -- an id is in a list, and so few times in all, or is not in the list
  in_list : {R : Type 0} (id_of : R → Ident) (xs : List R) (i : Ident) → Pass (λ r. is_numbered rows (id_of r)) xs → (times id_of i xs ≡ 0 → times_in rows i ≤ 1) → times_in rows i ≤ 1
  in_list id_of xs i pass elsewhere =
      by_test (list_any (λ r. ident_eq i (id_of r)) xs) (times_in rows i ≤ 1)
      (λ found. let r = any-at (λ r. ident_eq i (id_of r)) xs found in
      let same : i ≡ id_of r.1 = ident_same i (id_of r.1) r.3 in
      at_most (times_in rows i) 1 (ap (λ j. nat_le (times_in rows j) 1) same ∙ (and_both (nat_le (times_in rows (id_of r.1)) 1) (is_drawn rows.projects (id_of r.1)) (pass r.0 r.1 r.2)).0))
      (λ fails. elsewhere (count-none (λ r. ident_eq i (id_of r)) xs (none-any (λ r. ident_eq i (id_of r)) xs fails)))

  drawn_of : {R : Type 0} (id_of : R → Ident) (xs : List R) → Pass (λ r. is_numbered rows (id_of r)) xs → Pass (λ r. is_drawn rows.projects (id_of r)) xs
  drawn_of id_of xs pass k r at = (and_both (nat_le (times_in rows (id_of r)) 1) (is_drawn rows.projects (id_of r)) (pass k r at)).1

  numbered_of : {R : Type 0} (id_of : R → Ident) (xs : List R) → ((i : Ident) → times_in rows i ≤ 1) → Pass (λ r. is_drawn rows.projects (id_of r)) xs → Pass (λ r. is_numbered rows (id_of r)) xs
  numbered_of id_of xs once drawn k r at = both_and (nat_le (times_in rows (id_of r)) 1) (is_drawn rows.projects (id_of r)) (is_at_most (times_in rows (id_of r)) 1 (once (id_of r))) (drawn k r at)

  project_parts : (k : ℕ) (p : ProjectRow) → project_numbered rows.projects k p ≡ true
      → (p.ordinal ≡ k + 1) × (p.count < 2 ^ 62) × (nat_le (count_by (is_named p.name) rows.projects) 1 ≡ true) × (k + 1 < 2 ^ 32) × (not (is_empty p.name) ≡ true)
  project_parts k p h =
      let a = and_both (p.ordinal == k + 1) (nat_lt p.count (2 ^ 62) && (nat_le (count_by (is_named p.name) rows.projects) 1 && (nat_lt (k + 1) (2 ^ 32) && not (is_empty p.name)))) h in
      let b = and_both (nat_lt p.count (2 ^ 62)) (nat_le (count_by (is_named p.name) rows.projects) 1 && (nat_lt (k + 1) (2 ^ 32) && not (is_empty p.name))) a.1 in
      let d = and_both (nat_le (count_by (is_named p.name) rows.projects) 1) (nat_lt (k + 1) (2 ^ 32) && not (is_empty p.name)) b.1 in
      let e = and_both (nat_lt (k + 1) (2 ^ 32)) (not (is_empty p.name)) d.1 in
      (equal_to p.ordinal (k + 1) a.0, below p.count (2 ^ 62) b.0, d.0, below (k + 1) (2 ^ 32) e.0, e.1)

  -- where each project's place has 32 bits, there are so few
  few_of_places : (xs : List ProjectRow) → ((k : ℕ) (p : ProjectRow) → slice_get xs k ≡ Some p → k + 1 < 2 ^ 32) → length xs < 2 ^ 32
  few_of_places xs all = by_length (length xs) refl
    where
      by_length : (n : ℕ) → length xs ≡ n → length xs < 2 ^ 32
      by_length zero e = omega (arith, e)
      by_length (suc n) e = let last = there xs n (omega (arith, e)) in let low = all n last.0 last.1 in omega (arith, e, low)

  place_fits : (k : ℕ) → k < length rows.projects → length rows.projects < 2 ^ 32 → k + 1 < 2 ^ 32
  place_fits k within few = omega (arith, within, few)

  pub numbers_holds : numbers_broken rows ≡ None → AreNumbered rows
  unfolding numbers_broken
  numbers_holds h =
      let s = all_none _ h in
      let p1 = placed_none 1 Project project_id (project_numbered rows.projects) rows.projects s.0 in
      let p2 = breaks-none _ _ _ _ _ s.1.0 in
      let p3 = breaks-none _ _ _ _ _ s.1.1.0 in
      let p4 = breaks-none _ _ _ _ _ s.1.1.1.0 in
      let p5 = breaks-none _ _ _ _ _ s.1.1.1.1.0 in
      let p6 = breaks-none _ _ _ _ _ s.1.1.1.1.1.0 in
      let p7 = breaks-none _ _ _ _ _ s.1.1.1.1.1.1.0 in
      let p8 = breaks-none _ _ _ _ _ s.1.1.1.1.1.1.1.0 in
      let p9 = breaks-none _ _ _ _ _ s.1.1.1.1.1.1.1.1.0 in
      record {
        projects = record {
          ordered = λ k p at. let parts = project_parts k p (p1 k p at) in (parts.0, parts.1);
          names = once_by_rows (λ (p : ProjectRow). p.name) is_named (λ name p e. sym (bytes_same p.name name e)) rows.projects (λ k p at. (project_parts k p (p1 k p at)).2);
          named = λ k p at. (project_parts k p (p1 k p at)).4;
          few = few_of_places rows.projects (λ k p at. (project_parts k p (p1 k p at)).3);
        };
        ids = λ i. in_list (λ r. r.id) rows.networks i p2 (λ z2. in_list (λ r. r.id) rows.subnets i p3 (λ z3. in_list (λ r. r.id) rows.ports i p4 (λ z4. in_list (λ r. r.id) rows.groups i p5 (λ z5. in_list (λ r. r.id) rows.rules i p6 (λ z6. in_list (λ r. r.id) rows.routers i p7 (λ z7. in_list (λ r. r.id) rows.floatings i p8 (λ z8. in_list (λ r. r.id) rows.policies i p9 (λ z9. omega (arith, z2, z3, z4, z5, z6, z7, z8, z9)))))))));
        drawn = record {
          networks = drawn_of (λ r. r.id) rows.networks p2;
          subnets = drawn_of (λ r. r.id) rows.subnets p3;
          ports = drawn_of (λ r. r.id) rows.ports p4;
          groups = drawn_of (λ r. r.id) rows.groups p5;
          rules = drawn_of (λ r. r.id) rows.rules p6;
          routers = drawn_of (λ r. r.id) rows.routers p7;
          floatings = drawn_of (λ r. r.id) rows.floatings p8;
          policies = drawn_of (λ r. r.id) rows.policies p9;
        };
      }

  pub numbers_none : AreNumbered rows → numbers_broken rows ≡ None
  unfolding numbers_broken
  numbers_none c =
      none_all _ (
        none_placed 1 Project project_id (project_numbered rows.projects) rows.projects (λ k p at. let o = c.projects.ordered k p at in
            both_and (p.ordinal == k + 1) _ (is_equal_to p.ordinal (k + 1) o.0) (both_and (nat_lt p.count (2 ^ 62)) _ (is_below p.count (2 ^ 62) o.1)
            (both_and (nat_le (count_by (is_named p.name) rows.projects) 1) _ (is_at_most (count_by (is_named p.name) rows.projects) 1 (c.projects.names p.name))
            (both_and (nat_lt (k + 1) (2 ^ 32)) (not (is_empty p.name)) (is_below (k + 1) (2 ^ 32) (place_fits k (slice_get_within rows.projects k p at) c.projects.few)) (c.projects.named k p at))))),
        (
          pass-breaks _ _ _ _ _ (numbered_of (λ r. r.id) rows.networks c.ids c.drawn.networks),
          (
            pass-breaks _ _ _ _ _ (numbered_of (λ r. r.id) rows.subnets c.ids c.drawn.subnets),
            (
              pass-breaks _ _ _ _ _ (numbered_of (λ r. r.id) rows.ports c.ids c.drawn.ports),
              (
                pass-breaks _ _ _ _ _ (numbered_of (λ r. r.id) rows.groups c.ids c.drawn.groups),
                (
                  pass-breaks _ _ _ _ _ (numbered_of (λ r. r.id) rows.rules c.ids c.drawn.rules),
                  (
                    pass-breaks _ _ _ _ _ (numbered_of (λ r. r.id) rows.routers c.ids c.drawn.routers),
                    (
                      pass-breaks _ _ _ _ _ (numbered_of (λ r. r.id) rows.floatings c.ids c.drawn.floatings),
                      (
                        pass-breaks _ _ _ _ _ (numbered_of (λ r. r.id) rows.policies c.ids c.drawn.policies),
                        tt,
                      ),
                    ),
                  ),
                ),
              ),
            ),
          ),
        ),
      )

  if_both : {X : Type 0} (p q : X → Bool) (o : Option X) → if_some (λ x. p x && q x) o ≡ true → (if_some p o ≡ true) × (if_some q o ≡ true)
  if_both p q None h = (refl, refl)
  if_both p q (Some x) h = and_both (p x) (q x) h

  both_of_if : {X : Type 0} (p q : X → Bool) (o : Option X) → if_some p o ≡ true → if_some q o ≡ true → if_some (λ x. p x && q x) o ≡ true
  both_of_if p q None a b = refl
  both_of_if p q (Some x) a b = both_and (p x) (q x) a b

  pub names_holds : names_broken rows ≡ None → NamesStand rows
  unfolding names_broken
  names_holds h =
      let s = all_none _ h in
      let p1 = breaks-none _ _ _ _ _ s.0 in
      let p2 = breaks-none _ _ _ _ _ s.1.0 in
      let p3 = breaks-none _ _ _ _ _ s.1.1.0 in
      let p4 = breaks-none _ _ _ _ _ s.1.1.1.0 in
      let p5 = breaks-none _ _ _ _ _ s.1.1.1.1.0 in
      let p6 = breaks-none _ _ _ _ _ s.1.1.1.1.1.0 in
      let p7 = breaks-none _ _ _ _ _ s.1.1.1.1.1.1.0 in
      let p8 = breaks-none _ _ _ _ _ s.1.1.1.1.1.1.1.0 in
      record {
        networks = record {
          of_subnets = λ k r at. (and_both (is_network rows.networks r.network) (is_registered rows.projects r.project) (p2 k r at)).0;
          of_ports = λ k r at. (and_both (is_network rows.networks r.network) (list_all (names_subnet rows.subnets r) r.fixed && (list_all (is_group rows.groups) r.groups && port_project_stands rows.projects rows.floatings r)) (p3 k r at)).0;
          of_gateways = λ k r at. (if_both (λ (g : Gateway). is_network rows.networks g.network) (λ (g : Gateway). is_port rows.ports g.port) r.gateway (and_both (if_some (gateway_named rows) r.gateway) (is_registered rows.projects r.project) (p6 k r at)).0).0;
          of_floatings = λ k r at. (and_both (is_network rows.networks r.network) (is_port rows.ports r.own_port && (if_some (target_named rows) r.target && is_registered rows.projects r.project)) (p7 k r at)).0;
          of_policies = λ k r at. (and_both (is_network rows.networks r.object) (is_registered rows.projects r.project) (p8 k r at)).0;
        };
        subnets = record { of_ports = λ k r at. (and_both (list_all (names_subnet rows.subnets r) r.fixed) (list_all (is_group rows.groups) r.groups && port_project_stands rows.projects rows.floatings r) ((and_both (is_network rows.networks r.network) (list_all (names_subnet rows.subnets r) r.fixed && (list_all (is_group rows.groups) r.groups && port_project_stands rows.projects rows.floatings r)) (p3 k r at)).1)).0 };
        ports = record {
          of_gateways = λ k r at. (if_both (λ (g : Gateway). is_network rows.networks g.network) (λ (g : Gateway). is_port rows.ports g.port) r.gateway (and_both (if_some (gateway_named rows) r.gateway) (is_registered rows.projects r.project) (p6 k r at)).0).1;
          of_floatings = λ k r at. (and_both (is_port rows.ports r.own_port) (if_some (target_named rows) r.target && is_registered rows.projects r.project) ((and_both (is_network rows.networks r.network) (is_port rows.ports r.own_port && (if_some (target_named rows) r.target && is_registered rows.projects r.project)) (p7 k r at)).1)).0;
          of_targets = λ k r at. (if_both (λ (t : Target). is_port rows.ports t.port) (λ (t : Target). is_router rows.routers t.router) r.target (and_both (if_some (target_named rows) r.target) (is_registered rows.projects r.project) ((and_both (is_port rows.ports r.own_port) (if_some (target_named rows) r.target && is_registered rows.projects r.project) ((and_both (is_network rows.networks r.network) (is_port rows.ports r.own_port && (if_some (target_named rows) r.target && is_registered rows.projects r.project)) (p7 k r at)).1)).1)).0).0;
        };
        groups = record {
          of_ports = λ k r at. (and_both (list_all (is_group rows.groups) r.groups) (port_project_stands rows.projects rows.floatings r) ((and_both (list_all (names_subnet rows.subnets r) r.fixed) (list_all (is_group rows.groups) r.groups && port_project_stands rows.projects rows.floatings r) ((and_both (is_network rows.networks r.network) (list_all (names_subnet rows.subnets r) r.fixed && (list_all (is_group rows.groups) r.groups && port_project_stands rows.projects rows.floatings r)) (p3 k r at)).1)).1)).0;
          of_rules = λ k r at. (and_both (is_group rows.groups r.group) (if_some (is_group rows.groups) r.remote_group && is_registered rows.projects r.project) (p5 k r at)).0;
          of_remotes = λ k r at. (and_both (if_some (is_group rows.groups) r.remote_group) (is_registered rows.projects r.project) ((and_both (is_group rows.groups r.group) (if_some (is_group rows.groups) r.remote_group && is_registered rows.projects r.project) (p5 k r at)).1)).0;
        };
        routers = record { of_targets = λ k r at. (if_both (λ (t : Target). is_port rows.ports t.port) (λ (t : Target). is_router rows.routers t.router) r.target (and_both (if_some (target_named rows) r.target) (is_registered rows.projects r.project) ((and_both (is_port rows.ports r.own_port) (if_some (target_named rows) r.target && is_registered rows.projects r.project) ((and_both (is_network rows.networks r.network) (is_port rows.ports r.own_port && (if_some (target_named rows) r.target && is_registered rows.projects r.project)) (p7 k r at)).1)).1)).0).1 };
        projects = record {
          of_networks = p1;
          of_subnets = λ k r at. (and_both (is_network rows.networks r.network) (is_registered rows.projects r.project) (p2 k r at)).1;
          of_ports = λ k r at. (and_both (list_all (is_group rows.groups) r.groups) (port_project_stands rows.projects rows.floatings r) ((and_both (list_all (names_subnet rows.subnets r) r.fixed) (list_all (is_group rows.groups) r.groups && port_project_stands rows.projects rows.floatings r) ((and_both (is_network rows.networks r.network) (list_all (names_subnet rows.subnets r) r.fixed && (list_all (is_group rows.groups) r.groups && port_project_stands rows.projects rows.floatings r)) (p3 k r at)).1)).1)).1;
          of_groups = p4;
          of_rules = λ k r at. (and_both (if_some (is_group rows.groups) r.remote_group) (is_registered rows.projects r.project) ((and_both (is_group rows.groups r.group) (if_some (is_group rows.groups) r.remote_group && is_registered rows.projects r.project) (p5 k r at)).1)).1;
          of_routers = λ k r at. (and_both (if_some (gateway_named rows) r.gateway) (is_registered rows.projects r.project) (p6 k r at)).1;
          of_floatings = λ k r at. (and_both (if_some (target_named rows) r.target) (is_registered rows.projects r.project) ((and_both (is_port rows.ports r.own_port) (if_some (target_named rows) r.target && is_registered rows.projects r.project) ((and_both (is_network rows.networks r.network) (is_port rows.ports r.own_port && (if_some (target_named rows) r.target && is_registered rows.projects r.project)) (p7 k r at)).1)).1)).1;
          of_policies = λ k r at. (and_both (is_network rows.networks r.object) (is_registered rows.projects r.project) (p8 k r at)).1;
        };
      }

  pub names_none : NamesStand rows → names_broken rows ≡ None
  unfolding names_broken
  names_none c =
      none_all _ (
        pass-breaks _ _ _ _ _ (c.projects.of_networks),
        (
          pass-breaks _ _ _ _ _ (λ k r at. both_and _ _ (c.networks.of_subnets k r at) (c.projects.of_subnets k r at)),
          (
            pass-breaks _ _ _ _ _ (λ k r at. both_and _ _ (c.networks.of_ports k r at) (both_and _ _ (c.subnets.of_ports k r at) (both_and _ _ (c.groups.of_ports k r at) (c.projects.of_ports k r at)))),
            (
              pass-breaks _ _ _ _ _ (c.projects.of_groups),
              (
                pass-breaks _ _ _ _ _ (λ k r at. both_and _ _ (c.groups.of_rules k r at) (both_and _ _ (c.groups.of_remotes k r at) (c.projects.of_rules k r at))),
                (
                  pass-breaks _ _ _ _ _ (λ k r at. both_and _ _ (both_of_if (λ (g : Gateway). is_network rows.networks g.network) (λ (g : Gateway). is_port rows.ports g.port) r.gateway (c.networks.of_gateways k r at) (c.ports.of_gateways k r at)) (c.projects.of_routers k r at)),
                  (
                    pass-breaks _ _ _ _ _ (λ k r at. both_and _ _ (c.networks.of_floatings k r at) (both_and _ _ (c.ports.of_floatings k r at) (both_and _ _ (both_of_if (λ (t : Target). is_port rows.ports t.port) (λ (t : Target). is_router rows.routers t.router) r.target (c.ports.of_targets k r at) (c.routers.of_targets k r at)) (c.projects.of_floatings k r at)))),
                    (
                      pass-breaks _ _ _ _ _ (λ k r at. both_and _ _ (c.networks.of_policies k r at) (c.projects.of_policies k r at)),
                      tt,
                    ),
                  ),
                ),
              ),
            ),
          ),
        ),
      )

  pub forms_holds : forms_broken rows ≡ None → AreInForm rows.networks rows.subnets rows.ports rows.groups rows.rules rows.routers
  unfolding forms_broken
  forms_holds h =
      let s = all_none _ h in
      let p1 = breaks-none _ _ _ _ _ s.0 in
      let p2 = breaks-none _ _ _ _ _ s.1.0 in
      let p3 = breaks-none _ _ _ _ _ s.1.1.0 in
      let p4 = breaks-none _ _ _ _ _ s.1.1.1.0 in
      let p5 = breaks-none _ _ _ _ _ s.1.1.1.1.0 in
      record {
        segments = p1;
        subnet_owners = λ k r at. (and_both (is_network_of rows.networks r.project r.network) (is_subnet_form r) (p2 k r at)).0;
        subnet_forms = λ k r at. (and_both (is_network_of rows.networks r.project r.network) (is_subnet_form r) (p2 k r at)).1;
        dhcp_owners = λ k r at. (and_both (not (is_dhcp r.owner) || is_network_of rows.networks r.project r.network) (is_port_form r) (p3 k r at)).0;
        port_forms = λ k r at. (and_both (not (is_dhcp r.owner) || is_network_of rows.networks r.project r.network) (is_port_form r) (p3 k r at)).1;
        rule_owners = p4;
        routes = p5;
      }

  pub forms_none : AreInForm rows.networks rows.subnets rows.ports rows.groups rows.rules rows.routers → forms_broken rows ≡ None
  unfolding forms_broken
  forms_none c =
      none_all _ (
        pass-breaks _ _ _ _ _ (c.segments),
        (
          pass-breaks _ _ _ _ _ (λ k r at. both_and _ _ (c.subnet_owners k r at) (c.subnet_forms k r at)),
          (
            pass-breaks _ _ _ _ _ (λ k r at. both_and _ _ (c.dhcp_owners k r at) (c.port_forms k r at)),
            (
              pass-breaks _ _ _ _ _ (c.rule_owners),
              (
                pass-breaks _ _ _ _ _ (c.routes),
                tt,
              ),
            ),
          ),
        ),
      )

  -- whether a held address is this one
  abbrev holds_at : Addr → Fixed → Bool
  holds_at x f = addr_eq f.address x

  -- an address that a port holds is among its fixed addresses
  sum_zero : (network : Ident) (x : Addr) (ports : List PortRow) → list_any (λ p. ident_eq network p.network && list_any (holds_at x) p.fixed) ports ≡ false → sum_by (holds_times network x) ports ≡ 0
  sum_zero network x ports none = sum-none (holds_times network x) ports (λ k p at. by_test (ident_eq network p.network) (holds_times network x p ≡ 0)
      (λ here. ap (λ b. cond {A = ℕ} b (count_by (holds_at x) p.fixed) 0) here
      ∙ count-none (holds_at x) p.fixed (none-any (holds_at x) p.fixed
      (sym (ap (λ b. b && list_any (holds_at x) p.fixed) here)
      ∙ none-any (λ p. ident_eq network p.network && list_any (holds_at x) p.fixed) ports none k p at)))
      (λ away. ap (λ b. cond {A = ℕ} b (count_by (holds_at x) p.fixed) 0) away))

  held_holds : breaks 4 Port (λ r. r.id) (port_alone rows.ports) rows.ports ≡ None → AreHeldOnce rows.ports
  held_holds h =
      let p1 = breaks-none _ _ _ _ _ h in
      record {
        macs = λ network mac. once_by_rows (λ (p : PortRow). (p.network, p.mac)) (λ (key : Ident × ℕ) p. has_mac key.0 key.1 p)
            (λ (key : Ident × ℕ) p e. let both = and_both (ident_eq key.0 p.network) (p.mac == key.1) e in
            let a = ident_same key.0 p.network both.0 in
            let b = equal_to p.mac key.1 both.1 in
            λ j. (a j, sym b j))
            rows.ports (λ k p at. (and_both (nat_le (count_by (has_mac p.network p.mac) rows.ports) 1) (list_all (is_held_once rows.ports p.network) p.fixed) (p1 k p at)).0) (network, mac);
        addresses = λ network x. by_test (list_any (λ p. ident_eq network p.network && list_any (holds_at x) p.fixed) rows.ports) (sum_by (holds_times network x) rows.ports ≤ 1)
            (λ found.
            let r = any-at (λ p. ident_eq network p.network && list_any (holds_at x) p.fixed) rows.ports found in
            let p : PortRow = r.1 in
            let both = and_both (ident_eq network p.network) (list_any (holds_at x) p.fixed) r.3 in
            let g = any-at (holds_at x) p.fixed both.1 in
            let f : Fixed = g.1 in
            let once = all-at (is_held_once rows.ports p.network) p.fixed (and_both (nat_le (count_by (has_mac p.network p.mac) rows.ports) 1) (list_all (is_held_once rows.ports p.network) p.fixed) (p1 r.0 p r.2)).1 g.0 f g.2 in
            let same : network ≡ p.network = ident_same network p.network both.0 in
            let there : f.address ≡ x = addr_same f.address x g.3 in
            at_most (sum_by (holds_times network x) rows.ports) 1 ((λ j. nat_le (sum_by (holds_times (same j) (sym there j)) rows.ports) 1) ∙ once))
            (λ none. let zeros : sum_by (holds_times network x) rows.ports ≡ 0 = sum_zero network x rows.ports none in omega (arith, zeros));
      }

  held_none : AreHeldOnce rows.ports → breaks 4 Port (λ r. r.id) (port_alone rows.ports) rows.ports ≡ None
  held_none c = pass-breaks _ _ _ _ _ (λ k p at. both_and _ _ (is_at_most (count_by (has_mac p.network p.mac) rows.ports) 1 (c.macs p.network p.mac))
      (at-all (is_held_once rows.ports p.network) p.fixed (λ l f at_f. is_at_most (sum_by (holds_times p.network f.address) rows.ports) 1 (c.addresses p.network f.address))))

  pub disjoint_holds : disjoint_broken rows ≡ None → AreDisjoint rows.subnets rows.ports rows.routers
  unfolding disjoint_broken
  disjoint_holds h =
      let s = all_none _ h in
      let p1 = breaks-none _ _ _ _ _ s.0 in
      let p2 = breaks-none _ _ _ _ _ s.1.0 in
      record { in_network = p1; at_router = p2 }

  pub disjoint_none : AreDisjoint rows.subnets rows.ports rows.routers → disjoint_broken rows ≡ None
  unfolding disjoint_broken
  disjoint_none c =
      none_all _ (
        pass-breaks _ _ _ _ _ (c.in_network),
        (
          pass-breaks _ _ _ _ _ (c.at_router),
          tt,
        ),
      )

  -- segments that meet a third one meet each other
  meets_own : (a b : Segment) → same_segment a b ≡ true → (c : Segment) → same_segment a c ≡ true → same_segment b c ≡ true
  meets_own Local b h c g = cc
  meets_own (Flat x) Local h c g = cc
  meets_own (Flat x) (Vlan y s) h c g = cc
  meets_own (Flat x) (Vxlan n) h c g = cc
  meets_own (Flat x) (Flat y) h Local g = cc
  meets_own (Flat x) (Flat y) h (Vlan z s) g = cc
  meets_own (Flat x) (Flat y) h (Vxlan n) g = cc
  meets_own (Flat x) (Flat y) h (Flat z) g = subst (λ t. bytes_eq t z ≡ true) (bytes_same x y h) g
  meets_own (Vlan x s) Local h c g = cc
  meets_own (Vlan x s) (Flat y) h c g = cc
  meets_own (Vlan x s) (Vxlan n) h c g = cc
  meets_own (Vlan x s) (Vlan y t) h Local g = cc
  meets_own (Vlan x s) (Vlan y t) h (Flat z) g = cc
  meets_own (Vlan x s) (Vlan y t) h (Vxlan n) g = cc
  meets_own (Vlan x s) (Vlan y t) h (Vlan z u) g =
      let a = and_both (bytes_eq x y) (s == t) h in
      let b = and_both (bytes_eq x z) (s == u) g in
      both_and (bytes_eq y z) (t == u) (subst (λ w. bytes_eq w z ≡ true) (bytes_same x y a.0) b.0) (is_equal_to t u (sym (equal_to s t a.1) ∙ equal_to s u b.1))
  meets_own (Vxlan m) Local h c g = cc
  meets_own (Vxlan m) (Flat y) h c g = cc
  meets_own (Vxlan m) (Vlan y s) h c g = cc
  meets_own (Vxlan m) (Vxlan n) h Local g = cc
  meets_own (Vxlan m) (Vxlan n) h (Flat z) g = cc
  meets_own (Vxlan m) (Vxlan n) h (Vlan z s) g = cc
  meets_own (Vxlan m) (Vxlan n) h (Vxlan k) g = is_equal_to n k (sym (equal_to m n h) ∙ equal_to m k g)

  segments_apart : Pass (segment_alone rows.networks) rows.networks → (segment : Segment) → count_by (λ n. same_segment segment n.segment) rows.networks ≤ 1
  segments_apart pass segment =
      by_test (list_any (λ n. same_segment segment n.segment) rows.networks) (count_by (λ n. same_segment segment n.segment) rows.networks ≤ 1)
      (λ found. let r = any-at (λ n. same_segment segment n.segment) rows.networks found in
      let n : NetworkRow = r.1 in
      let few : count_by (λ m. same_segment n.segment m.segment) rows.networks ≤ 1 = at_most (count_by (λ m. same_segment n.segment m.segment) rows.networks) 1 (pass r.0 n r.2) in
      let less = count-le (λ m. same_segment segment m.segment) (λ m. same_segment n.segment m.segment) rows.networks (λ m. meets_own segment n.segment r.3 m.segment) in
      omega (arith, few, less))
      (λ fails. let zeros : count_by (λ n. same_segment segment n.segment) rows.networks ≡ 0 = count-none (λ n. same_segment segment n.segment) rows.networks (none-any (λ n. same_segment segment n.segment) rows.networks fails) in omega (arith, zeros))
    where
      count-le : {R : Type 0} (p q : R → Bool) (xs : List R) → ((x : R) → p x ≡ true → q x ≡ true) → count_by p xs ≤ count_by q xs
      count-le p q [] w = omega arith
      count-le p q (x ∷ xs) w = by (p x) refl (q x) refl (count-le p q xs w) (w x)
        where
          by : (a : Bool) → p x ≡ a → (b : Bool) → q x ≡ b → count_by p xs ≤ count_by q xs → (p x ≡ true → q x ≡ true) → count_by p (x ∷ xs) ≤ count_by q (x ∷ xs)
          by false e b f rest imp = let zero : cond {A = ℕ} (p x) 1 0 ≡ 0 = ap (λ (c : Bool). cond {A = ℕ} c 1 0) e in omega (arith, sum_by-cons (λ y. cond {A = ℕ} (p y) 1 0) x xs, sum_by-cons (λ y. cond {A = ℕ} (q y) 1 0) x xs, zero, rest)
          by true e true f rest imp =
              let one : cond {A = ℕ} (p x) 1 0 ≡ 1 = ap (λ (c : Bool). cond {A = ℕ} c 1 0) e in
              let two : cond {A = ℕ} (q x) 1 0 ≡ 1 = ap (λ (c : Bool). cond {A = ℕ} c 1 0) f in
              omega (arith, sum_by-cons (λ y. cond {A = ℕ} (p y) 1 0) x xs, sum_by-cons (λ y. cond {A = ℕ} (q y) 1 0) x xs, one, two, rest)
          by true e false f rest imp = let clash : true ≡ false = sym (imp e) ∙ f in cc

  not_less : (a b : ℕ) → nat_lt a b ≡ false → b ≤ a
  not_less a b h = grind (arith, nat_tests)

  is_not_less : (a b : ℕ) → b ≤ a → nat_lt a b ≡ false
  is_not_less a b h = grind (arith, nat_tests)

  too_many_within : (n : ℕ) → too_many rows.networks ≡ Some n → n < length rows.networks
  unfolding too_many
  too_many_within n h = by (nat_lt most_networks (length rows.networks)) refl h
    where
      by : (b : Bool) → nat_lt most_networks (length rows.networks) ≡ b → cond {A = Option ℕ} b (Some most_networks) None ≡ Some n → n < length rows.networks
      by true e h = let same : most_networks ≡ n = some_equal most_networks n h in let lt : most_networks < length rows.networks = below most_networks (length rows.networks) e in omega (arith, same, lt)
      by false e h = none_some n _ h

  earlier_within : (a b : Option ℕ) (len : ℕ) → ((n : ℕ) → a ≡ Some n → n < len) → ((n : ℕ) → b ≡ Some n → n < len) → (n : ℕ) → earlier a b ≡ Some n → n < len
  unfolding earlier
  earlier_within None b len wa wb n h = wb n h
  earlier_within (Some x) None len wa wb n h = wa n h
  earlier_within (Some x) (Some y) len wa wb n h = let same : min x y ≡ n = some_equal (min x y) n h in let lx : x < len = wa x refl in omega (arith, same, lx)

  earlier_none : (a b : Option ℕ) → earlier a b ≡ None → (a ≡ None) × (b ≡ None)
  unfolding earlier
  earlier_none None b h = (refl, h)
  earlier_none (Some x) None h = cc
  earlier_none (Some x) (Some y) h = cc

  segments_holds : segments_broken rows ≡ None → SegmentsDiffer rows.networks
  unfolding segments_broken too_many
  segments_holds h =
      let first = position_first (segment_alone rows.networks) rows.networks in
      let nothing = told_within 7 Network (λ r. r.id) rows.networks (earlier (position (λ r. not (segment_alone rows.networks r)) rows.networks) (too_many rows.networks))
      (earlier_within (position (λ r. not (segment_alone rows.networks r)) rows.networks) (too_many rows.networks) (length rows.networks)
      (λ n e. let w = place_within (λ k. segment_alone rows.networks) 0 rows.networks n (sym first ∙ e) in omega (arith, w.1)) too_many_within) h in
      let parts = earlier_none (position (λ r. not (segment_alone rows.networks r)) rows.networks) (too_many rows.networks) nothing in
      record {
        apart = segments_apart (λ k n at. no_place_passes (λ k. segment_alone rows.networks) 0 rows.networks (sym first ∙ parts.0) k n at);
        few = few_of parts.1;
      }
    where
      few_of : too_many rows.networks ≡ None → length rows.networks ≤ most_networks
      few_of h = by (nat_lt most_networks (length rows.networks)) refl h
        where
          by : (b : Bool) → nat_lt most_networks (length rows.networks) ≡ b → cond {A = Option ℕ} b (Some most_networks) None ≡ None → length rows.networks ≤ most_networks
          by true e h = cc
          by false e h = not_less most_networks (length rows.networks) e

  segments_none : SegmentsDiffer rows.networks → segments_broken rows ≡ None
  unfolding segments_broken too_many earlier
  segments_none c = told_none 7 Network (λ r. r.id) rows.networks (earlier (position (λ r. not (segment_alone rows.networks r)) rows.networks) (too_many rows.networks))
      (λ j. earlier (alone j) (few j))
    where
      alone : position (λ r. not (segment_alone rows.networks r)) rows.networks ≡ None
      alone = position_first (segment_alone rows.networks) rows.networks
          ∙ passes_no_place (λ k. segment_alone rows.networks) 0 rows.networks (λ k n at. is_at_most (count_by (λ m. same_segment n.segment m.segment) rows.networks) 1 (c.apart n.segment))

      few : too_many rows.networks ≡ None
      few = ap (λ b. cond {A = Option ℕ} b (Some most_networks) None) (is_not_less most_networks (length rows.networks) c.few)

  either : (a b c : Bool) → a || (b && c) ≡ true → (a || b ≡ true) × (a || c ≡ true)
  either true b c h = (refl, refl)
  either false b c h = and_both b c h

  both_either : (a b c : Bool) → a || b ≡ true → a || c ≡ true → a || (b && c) ≡ true
  both_either true b c h g = refl
  both_either false b c h g = both_and b c h g

  placing_holds : (carried : List ℕ → Segment → Bool) → breaks 8 Port (λ r. r.id) (port_placed carried rows) rows.ports ≡ None → AreOnHosts rows.ports rows.routers × AreCarried carried rows.networks rows.ports
  placing_holds carried h =
      let p1 = breaks-none _ _ _ _ _ h in (
        record { at_router = λ k p at. (either (not (is_bound p.vif)) (stands_so (λ n. n.id) p.network (λ n. carried p.host n.segment) rows.networks) (list_all (λ r. not (is_port_of r p) || is_some_so (bytes_eq p.host) r.host) rows.routers) (p1 k p at)).1 },
        record { at_host = λ k p at. (either (not (is_bound p.vif)) (stands_so (λ n. n.id) p.network (λ n. carried p.host n.segment) rows.networks) (list_all (λ r. not (is_port_of r p) || is_some_so (bytes_eq p.host) r.host) rows.routers) (p1 k p at)).0 },
      )

  placing_none : (carried : List ℕ → Segment → Bool) → AreOnHosts rows.ports rows.routers → AreCarried carried rows.networks rows.ports → breaks 8 Port (λ r. r.id) (port_placed carried rows) rows.ports ≡ None
  placing_none carried c d = pass-breaks _ _ _ _ _ (λ k p at. both_either (not (is_bound p.vif)) (stands_so (λ n. n.id) p.network (λ n. carried p.host n.segment) rows.networks) (list_all (λ r. not (is_port_of r p) || is_some_so (bytes_eq p.host) r.host) rows.routers) (d.at_host k p at) (c.at_router k p at))

  pub services_holds : services_broken rows ≡ None → ServicesStand rows.networks rows.subnets rows.ports rows.routers rows.floatings
  unfolding services_broken
  services_holds h =
      let s = all_none _ h in
      let p1 = breaks-none _ _ _ _ _ s.0 in
      let p2 = breaks-none _ _ _ _ _ s.1.0 in
      let p3 = breaks-none _ _ _ _ _ s.1.1.0 in
      let p4 = breaks-none _ _ _ _ _ s.1.1.1.0 in
      record {
        dhcp = record {
          there = λ k n at. equal_to (count_by (is_dhcp_of n.id) rows.ports) (cond (wants_dhcp rows.subnets n.id) 1 0) (p1 k n at);
          holds = λ k r at. (either (not (is_dhcp r.owner)) (list_all (leases r) rows.subnets) (list_all (is_leased rows.subnets) r.fixed && not r.secured) ((and_both (dhcp_serves rows.subnets r) (router_port_serves rows.routers r && (not (is_own_port rows.floatings r.id) || not r.secured)) (p2 k r at)).0)).0;
          no_other = λ k r at. (either (not (is_dhcp r.owner)) (list_all (is_leased rows.subnets) r.fixed) (not r.secured) (either (not (is_dhcp r.owner)) (list_all (leases r) rows.subnets) (list_all (is_leased rows.subnets) r.fixed && not r.secured) ((and_both (dhcp_serves rows.subnets r) (router_port_serves rows.routers r && (not (is_own_port rows.floatings r.id) || not r.secured)) (p2 k r at)).0)).1).0;
          unsecured = λ k r at. (either (not (is_dhcp r.owner)) (list_all (is_leased rows.subnets) r.fixed) (not r.secured) (either (not (is_dhcp r.owner)) (list_all (leases r) rows.subnets) (list_all (is_leased rows.subnets) r.fixed && not r.secured) ((and_both (dhcp_serves rows.subnets r) (router_port_serves rows.routers r && (not (is_own_port rows.floatings r.id) || not r.secured)) (p2 k r at)).0)).1).1;
        };
        of_routers = record {
          devices = λ k r at. (either (not (is_router_port r.owner)) (list_any (λ q. is_port_of q r) rows.routers) (not r.secured) ((and_both (not (is_router_port r.owner) || (list_any (λ q. is_port_of q r) rows.routers && not r.secured)) ((not (is_interface r.owner) || is_one r.fixed) && (not (is_gateway r.owner) || not (is_empty r.fixed))) ((and_both (router_port_serves rows.routers r) (not (is_own_port rows.floatings r.id) || not r.secured) ((and_both (dhcp_serves rows.subnets r) (router_port_serves rows.routers r && (not (is_own_port rows.floatings r.id) || not r.secured)) (p2 k r at)).1)).0)).0)).0;
          interfaces = λ k r at. (and_both (not (is_interface r.owner) || is_one r.fixed) (not (is_gateway r.owner) || not (is_empty r.fixed)) ((and_both (not (is_router_port r.owner) || (list_any (λ q. is_port_of q r) rows.routers && not r.secured)) ((not (is_interface r.owner) || is_one r.fixed) && (not (is_gateway r.owner) || not (is_empty r.fixed))) ((and_both (router_port_serves rows.routers r) (not (is_own_port rows.floatings r.id) || not r.secured) ((and_both (dhcp_serves rows.subnets r) (router_port_serves rows.routers r && (not (is_own_port rows.floatings r.id) || not r.secured)) (p2 k r at)).1)).0)).1)).0;
          gateways = λ k r at. (and_both (not (is_interface r.owner) || is_one r.fixed) (not (is_gateway r.owner) || not (is_empty r.fixed)) ((and_both (not (is_router_port r.owner) || (list_any (λ q. is_port_of q r) rows.routers && not r.secured)) ((not (is_interface r.owner) || is_one r.fixed) && (not (is_gateway r.owner) || not (is_empty r.fixed))) ((and_both (router_port_serves rows.routers r) (not (is_own_port rows.floatings r.id) || not r.secured) ((and_both (dhcp_serves rows.subnets r) (router_port_serves rows.routers r && (not (is_own_port rows.floatings r.id) || not r.secured)) (p2 k r at)).1)).0)).1)).1;
          unsecured = λ k r at. (either (not (is_router_port r.owner)) (list_any (λ q. is_port_of q r) rows.routers) (not r.secured) ((and_both (not (is_router_port r.owner) || (list_any (λ q. is_port_of q r) rows.routers && not r.secured)) ((not (is_interface r.owner) || is_one r.fixed) && (not (is_gateway r.owner) || not (is_empty r.fixed))) ((and_both (router_port_serves rows.routers r) (not (is_own_port rows.floatings r.id) || not r.secured) ((and_both (dhcp_serves rows.subnets r) (router_port_serves rows.routers r && (not (is_own_port rows.floatings r.id) || not r.secured)) (p2 k r at)).1)).0)).0)).1;
          counts = λ k r at. equal_to (count_by (is_gateway_of r.id) rows.ports) (wanted_gateways r.gateway) (and_both (count_by (is_gateway_of r.id) rows.ports == wanted_gateways r.gateway) (if_some (λ g. list_any (is_named_gateway r g) rows.ports) r.gateway) (p3 k r at)).0;
          named = λ k r at. (and_both (count_by (is_gateway_of r.id) rows.ports == wanted_gateways r.gateway) (if_some (λ g. list_any (is_named_gateway r g) rows.ports) r.gateway) (p3 k r at)).1;
        };
        of_floatings = record {
          once = once_by_rows (λ (f : FloatingRow). f.own_port) (λ (i : Ident) (f : FloatingRow). ident_eq i f.own_port) (λ i f e. ident_same i f.own_port e) rows.floatings (λ k r at. (and_both (nat_le (count_by (λ g. ident_eq r.own_port g.own_port) rows.floatings) 1) (stands_so (λ p. p.id) r.own_port (is_port_for r) rows.ports) (p4 k r at)).0);
          there = λ k r at. (and_both (nat_le (count_by (λ g. ident_eq r.own_port g.own_port) rows.floatings) 1) (stands_so (λ p. p.id) r.own_port (is_port_for r) rows.ports) (p4 k r at)).1;
          unsecured = λ k r at. (and_both (router_port_serves rows.routers r) (not (is_own_port rows.floatings r.id) || not r.secured) ((and_both (dhcp_serves rows.subnets r) (router_port_serves rows.routers r && (not (is_own_port rows.floatings r.id) || not r.secured)) (p2 k r at)).1)).1;
        };
      }

  pub services_none : ServicesStand rows.networks rows.subnets rows.ports rows.routers rows.floatings → services_broken rows ≡ None
  unfolding services_broken
  services_none c =
      none_all _ (
        pass-breaks _ _ _ _ _ (λ k n at. is_equal_to (count_by (is_dhcp_of n.id) rows.ports) (cond (wants_dhcp rows.subnets n.id) 1 0) (c.dhcp.there k n at)),
        (
          pass-breaks _ _ _ _ _ (λ k r at. both_and (dhcp_serves rows.subnets r) (router_port_serves rows.routers r && (not (is_own_port rows.floatings r.id) || not r.secured))
              (both_either (not (is_dhcp r.owner)) (list_all (leases r) rows.subnets) (list_all (is_leased rows.subnets) r.fixed && not r.secured) (c.dhcp.holds k r at) (both_either (not (is_dhcp r.owner)) (list_all (is_leased rows.subnets) r.fixed) (not r.secured) (c.dhcp.no_other k r at) (c.dhcp.unsecured k r at)))
              (both_and (router_port_serves rows.routers r) (not (is_own_port rows.floatings r.id) || not r.secured)
              (both_and (not (is_router_port r.owner) || (list_any (λ q. is_port_of q r) rows.routers && not r.secured)) ((not (is_interface r.owner) || is_one r.fixed) && (not (is_gateway r.owner) || not (is_empty r.fixed))) (both_either (not (is_router_port r.owner)) (list_any (λ q. is_port_of q r) rows.routers) (not r.secured) (c.of_routers.devices k r at) (c.of_routers.unsecured k r at))
              (both_and (not (is_interface r.owner) || is_one r.fixed) (not (is_gateway r.owner) || not (is_empty r.fixed)) (c.of_routers.interfaces k r at) (c.of_routers.gateways k r at)))
              (c.of_floatings.unsecured k r at))),
          (
            pass-breaks _ _ _ _ _ (λ k r at. both_and (count_by (is_gateway_of r.id) rows.ports == wanted_gateways r.gateway) (if_some (λ g. list_any (is_named_gateway r g) rows.ports) r.gateway) (is_equal_to (count_by (is_gateway_of r.id) rows.ports) (wanted_gateways r.gateway) (c.of_routers.counts k r at)) (c.of_routers.named k r at)),
            (
              pass-breaks _ _ _ _ _ (λ k r at. both_and (nat_le (count_by (λ g. ident_eq r.own_port g.own_port) rows.floatings) 1) (stands_so (λ p. p.id) r.own_port (is_port_for r) rows.ports) (is_at_most (count_by (λ g. ident_eq r.own_port g.own_port) rows.floatings) 1 (c.of_floatings.once r.own_port)) (c.of_floatings.there k r at)),
              tt,
            ),
          ),
        ),
      )

  -- a floating address's target, as its own key
  stands_key : (network port : Ident) (x : ℕ) (f : FloatingRow) (t : Target) → f.target ≡ Some t → stands_for network port x f ≡ true → (network ≡ f.network) × (port ≡ t.port) × (t.fixed ≡ x)
  stands_key network port x f t is h =
      let a = and_both (ident_eq network f.network) (is_some_so (λ (t : Target). ident_eq port t.port && (t.fixed == x)) f.target) h in
      let b = and_both (ident_eq port t.port) (t.fixed == x) (sym (ap (is_some_so (λ (t : Target). ident_eq port t.port && (t.fixed == x))) is) ∙ a.1) in
      (ident_same network f.network a.0, ident_same port t.port b.0, equal_to t.fixed x b.1)

  target_once : Pass (floating_leads rows) rows.floatings → (network port : Ident) (x : ℕ) → count_by (stands_for network port x) rows.floatings ≤ 1
  target_once pass network port x =
      by_test (list_any (stands_for network port x) rows.floatings) (count_by (stands_for network port x) rows.floatings ≤ 1)
      (λ found. let r = any-at (stands_for network port x) rows.floatings found in at_target r.1 r.1.target refl r.3 (pass r.0 r.1 r.2))
      (λ fails. let zeros : count_by (stands_for network port x) rows.floatings ≡ 0 = count-none (stands_for network port x) rows.floatings (none-any (stands_for network port x) rows.floatings fails) in omega (arith, zeros))
    where
      at_target : (f : FloatingRow) (o : Option Target) → f.target ≡ o → stands_for network port x f ≡ true → floating_leads rows f ≡ true → count_by (stands_for network port x) rows.floatings ≤ 1
      at_target f None is h g =
          let a = and_both (ident_eq network f.network) (is_some_so (λ (t : Target). ident_eq port t.port && (t.fixed == x)) f.target) h in
          false_true _ (sym (ap (is_some_so (λ (t : Target). ident_eq port t.port && (t.fixed == x))) is) ∙ a.1)
      at_target f (Some t) is h g =
          let key = stands_key network port x f t is h in
          let both = and_both (target_alone rows.floatings f t) (leads_to rows.ports rows.routers f t) (sym (ap (if_some (λ (t : Target). target_alone rows.floatings f t && leads_to rows.ports rows.routers f t)) is) ∙ g) in
          at_most (count_by (stands_for network port x) rows.floatings) 1 ((λ j. nat_le (count_by (stands_for (key.0 j) (key.1 j) (sym key.2 j)) rows.floatings) 1) ∙ both.0)

  floatings_holds : breaks 10 Floating (λ r. r.id) (floating_leads rows) rows.floatings ≡ None → FloatingsLead rows.ports rows.routers rows.floatings
  floatings_holds h =
      let p1 = breaks-none _ _ _ _ _ h in
      record {
        once = target_once p1;
        targets = λ k f at. (if_both (target_alone rows.floatings f) (leads_to rows.ports rows.routers f) f.target (p1 k f at)).1;
      }

  floatings_none : FloatingsLead rows.ports rows.routers rows.floatings → breaks 10 Floating (λ r. r.id) (floating_leads rows) rows.floatings ≡ None
  floatings_none c = pass-breaks _ _ _ _ _ (λ k f at. both_of_if (target_alone rows.floatings f) (leads_to rows.ports rows.routers f) f.target
      (always f.target (λ (t : Target). is_at_most (count_by (stands_for f.network t.port t.fixed) rows.floatings) 1 (c.once f.network t.port t.fixed))) (c.targets k f at))
    where
      always : {X : Type 0} {p : X → Bool} (o : Option X) → ((x : X) → p x ≡ true) → if_some p o ≡ true
      always None w = refl
      always (Some x) w = w x

  pub groups_holds : groups_broken rows ≡ None → GroupsServe rows.projects rows.ports rows.groups rows.rules
  unfolding groups_broken
  groups_holds h =
      let s = all_none _ h in
      let p1 = breaks-none _ _ _ _ _ s.0 in
      let p2 = breaks-none _ _ _ _ _ s.1.0 in
      let p3 = breaks-none _ _ _ _ _ s.1.1.0 in
      record {
        defaults = λ k p at. equal_to (count_by (is_default_of p.name) rows.groups) 1 (p1 k p at);
        of_ports = λ k r at. (and_both (list_all (is_group_of rows.groups r.project) r.groups) (r.secured || (is_empty r.groups && is_empty r.pairs)) (p2 k r at)).0;
        bare = λ k r at. (and_both (list_all (is_group_of rows.groups r.project) r.groups) (r.secured || (is_empty r.groups && is_empty r.pairs)) (p2 k r at)).1;
        remotes = λ k r at. (and_both (if_some (is_group_of rows.groups r.project) r.remote_group) (not (list_any (rules_clash r) rows.rules)) (p3 k r at)).0;
        apart = λ k r at. (and_both (if_some (is_group_of rows.groups r.project) r.remote_group) (not (list_any (rules_clash r) rows.rules)) (p3 k r at)).1;
      }

  pub groups_none : GroupsServe rows.projects rows.ports rows.groups rows.rules → groups_broken rows ≡ None
  unfolding groups_broken
  groups_none c =
      none_all _ (
        pass-breaks _ _ _ _ _ (λ k p at. is_equal_to (count_by (is_default_of p.name) rows.groups) 1 (c.defaults k p at)),
        (
          pass-breaks _ _ _ _ _ (λ k r at. both_and _ _ (c.of_ports k r at) (c.bare k r at)),
          (
            pass-breaks _ _ _ _ _ (λ k r at. both_and _ _ (c.remotes k r at) (c.apart k r at)),
            tt,
          ),
        ),
      )

  same_key : (p q r : PolicyRow) → same_policy p q ≡ true → same_policy p r ≡ same_policy q r
  same_key p q r h =
      let a = and_both (ident_eq p.object q.object) (is_action p.action q.action && bytes_eq p.target q.target) h in
      let b = and_both (is_action p.action q.action) (bytes_eq p.target q.target) a.1 in
      let action = same_action p.action q.action b.0 in
      (λ j. ident_eq (ident_same p.object q.object a.0 j) r.object && (is_action (action j) r.action && bytes_eq (bytes_same p.target q.target b.1 j) r.target))
    where
      same_action : (a b : Action) → is_action a b ≡ true → a ≡ b
      same_action Shared Shared h = refl
      same_action External External h = refl
      same_action Shared External h = cc
      same_action External Shared h = cc

  policy_once : Pass (policy_alone rows.policies) rows.policies → (p : PolicyRow) → count_by (same_policy p) rows.policies ≤ 1
  policy_once pass p =
      by_test (list_any (same_policy p) rows.policies) (count_by (same_policy p) rows.policies ≤ 1)
      (λ found. let r = any-at (same_policy p) rows.policies found in
      let same : same_policy p ≡ same_policy r.1 = λ j q. same_key p r.1 q r.3 j in
      at_most (count_by (same_policy p) rows.policies) 1 (ap (λ test. nat_le (count_by test rows.policies) 1) same ∙ pass r.0 r.1 r.2))
      (λ fails. let zeros : count_by (same_policy p) rows.policies ≡ 0 = count-none (same_policy p) rows.policies (none-any (same_policy p) rows.policies fails) in omega (arith, zeros))

  pub outsides_holds : outsides_broken rows ≡ None → OutsidesAreAllowed rows.routers rows.floatings rows.policies
  unfolding outsides_broken
  outsides_holds h =
      let s = all_none _ h in
      let p1 = breaks-none _ _ _ _ _ s.0 in
      let p2 = breaks-none _ _ _ _ _ s.1.0 in
      let p3 = breaks-none _ _ _ _ _ s.1.1.0 in
      record { gateways = p1; addresses = p2; once = policy_once p3 }

  pub outsides_none : OutsidesAreAllowed rows.routers rows.floatings rows.policies → outsides_broken rows ≡ None
  unfolding outsides_broken
  outsides_none c =
      none_all _ (
        pass-breaks _ _ _ _ _ (c.gateways),
        (
          pass-breaks _ _ _ _ _ (c.addresses),
          (
            pass-breaks _ _ _ _ _ (λ k p at. is_at_most (count_by (same_policy p) rows.policies) 1 (c.once p)),
            tt,
          ),
        ),
      )

  pub consistent_holds : (hosts : List Host) → first_broken_of hosts rows ≡ None → IsConsistent rows × AreCarried (carries hosts) rows.networks rows.ports
  unfolding first_broken_of
  consistent_holds hosts h =
      let s = all_none _ h in
      let placed = placing_holds (carries hosts) s.1.1.1.1.1.1.1.0 in (
        record {
          numbered = numbers_holds s.0;
          named = names_holds s.1.0;
          in_form = forms_holds s.1.1.0;
          held_once = held_holds s.1.1.1.0;
          hosts = record { addresses = breaks-none _ _ _ _ _ s.1.1.1.1.0 };
          disjoint = disjoint_holds s.1.1.1.1.1.0;
          segments = segments_holds s.1.1.1.1.1.1.0;
          on_hosts = placed.0;
          services = services_holds s.1.1.1.1.1.1.1.1.0;
          floatings = floatings_holds s.1.1.1.1.1.1.1.1.1.0;
          groups = groups_holds s.1.1.1.1.1.1.1.1.1.1.0;
          allowed = record { of_ports = breaks-none _ _ _ _ _ s.1.1.1.1.1.1.1.1.1.1.1.0 };
          outsides = outsides_holds s.1.1.1.1.1.1.1.1.1.1.1.1.0;
          routes = record { routes = breaks-none _ _ _ _ _ s.1.1.1.1.1.1.1.1.1.1.1.1.1.0 };
        },
        placed.1,
      )

  pub consistent_none : (hosts : List Host) → IsConsistent rows → AreCarried (carries hosts) rows.networks rows.ports → first_broken_of hosts rows ≡ None
  unfolding first_broken_of
  consistent_none hosts c d =
      none_all _ (
        numbers_none c.numbered,
        (
          names_none c.named,
          (
            forms_none c.in_form,
            (
              held_none c.held_once,
              (
                pass-breaks _ _ _ _ _ c.hosts.addresses,
                (
                  disjoint_none c.disjoint,
                  (
                    segments_none c.segments,
                    (
                      placing_none (carries hosts) c.on_hosts d,
                      (
                        services_none c.services,
                        (
                          floatings_none c.floatings,
                          (
                            groups_none c.groups,
                            (
                              pass-breaks _ _ _ _ _ c.allowed.of_ports,
                              (
                                outsides_none c.outsides,
                                (
                                  pass-breaks _ _ _ _ _ c.routes.routes,
                                  tt,
                                ),
                              ),
                            ),
                          ),
                        ),
                      ),
                    ),
                  ),
                ),
              ),
            ),
          ),
        ),
      )

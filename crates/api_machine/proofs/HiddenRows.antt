-- What a footing leaves out beside networks: rows of other projects of each kind, where nothing of the caller's has to do with them.
use Rattle.std.proofs.Common.{◌≡◌, ℕ, [], ◌∷◌, ◌++◌, Bool, true, false, ap, sym, ◌∙◌, map}
use Rattle.std.specs.Prelude.{◌&&◌, ◌||◌, filter, find, option_map}
use Rattle.std.specs.List.{list_any}
use Rattle.std.specs.Option.{option_or}
use Rattle.std.specs.Str.{bytes_eq}
use Rattle.net_addr.specs.Addresses.{addr_eq}
use Rattle.api_types.specs.Consistent.Carried.{is_bound}
use Rattle.api_types.specs.Consistent.HeldOnce.{has_mac}
use Rattle.api_types.specs.Ident.{Ident}
use Rattle.api_types.specs.Lists.{Each, stands, stands_so}
use Rattle.api_types.specs.Owners.{is_port_of}
use Rattle.api_types.specs.RowLists.{RowLists}
use Rattle.api_types.specs.Sharing.{everyone, grants, is_action, is_granted}
use Rattle.api_types.specs.Table.{ident_eq}
use Rattle.api_types.specs.declared.call.Caller.{Caller}
use Rattle.api_types.specs.declared.floating.FloatingRow.{FloatingRow}
use Rattle.api_types.specs.declared.group.GroupRow.{GroupRow}
use Rattle.api_types.specs.declared.group.RuleRow.{RuleRow}
use Rattle.api_types.specs.declared.network.NetworkRow.{NetworkRow}
use Rattle.api_types.specs.declared.policy.Action.{Action}
use Rattle.api_types.specs.declared.policy.Action.TheVariants.{External, Shared}
use Rattle.api_types.specs.declared.policy.PolicyRow.{PolicyRow}
use Rattle.api_types.specs.declared.port.Fixed.{Fixed}
use Rattle.api_types.specs.declared.port.PortRow.{PortRow}
use Rattle.api_types.specs.declared.router.RouterRow.{RouterRow}
use Rattle.api_types.specs.declared.subnet.SubnetRow.{SubnetRow}
use Rattle.net_settings.specs.Settings.{SettingsParts}
use Rattle.row_laws.specs.NewRows.{with_floating, with_group, with_policy, with_port, with_router, with_rule, with_subnet}
use Rattle.api_policy.specs.Visibility.{owns_network, seen_networks, seen_ports, seen_subnets, sees_network, sees_port, sees_subnet, uses_network}
use Rattle.api_policy.specs.Networks.{is_open, permits_all}
use Rattle.apart_laws.specs.Footing.{blank, blank_port, blank_router, footing, guard, held_of, is_close, is_held_by, is_near, is_of_router, near_of}
use Rattle.api_policy.specs.Served.{held_port}
use Rattle.call_parts.specs.State.{State}
use Rattle.api_types.proofs.ListLemmas.{and_both, any-filter_kept, at_filter, or_none}
use Rattle.api_types.proofs.NameLemmas.{and_fails, any-push_other, by_test, fails_by, first_fails, ident_same}
use Rattle.api_machine.proofs.HiddenNetwork.{filter-push, find-push, guard_either}
use Rattle.apart_laws.proofs.ListLemmas.{filter-each, map-each, or_cases, or_left, or_right}

abbrev at : RowLists → ℕ → State
at rows version = record { rows = rows; version = version }

module _ (settings : SettingsParts) (caller : Caller) (tenant : caller.admin ≡ false) (rows : RowLists) (version : ℕ) where
  -- groups and rules

  pub hidden_group : (g : GroupRow) → bytes_eq g.project caller.project ≡ false → footing settings (at (with_group rows g) version) caller ≡ footing settings (at rows version) caller
  hidden_group g others = λ j. record (footing settings (at rows version) caller) { groups = filter-push (λ (r : GroupRow). bytes_eq r.project caller.project) rows.groups g others j }

  pub hidden_rule : (r : RuleRow) → bytes_eq r.project caller.project ≡ false → footing settings (at (with_rule rows r) version) caller ≡ footing settings (at rows version) caller
  hidden_rule r others = λ j. record (footing settings (at rows version) caller) { rules = filter-push (λ (q : RuleRow). bytes_eq q.project caller.project) rows.rules r others j }

  -- a router without ports

  pub hidden_router : (r : RouterRow) → bytes_eq r.project caller.project ≡ false → Each (λ p. is_port_of r p ≡ false) rows.ports
      → footing settings (at (with_router rows r) version) caller ≡ footing settings (at rows version) caller
  hidden_router r others unnamed = λ j. record (footing settings (at rows version) caller) {
    routers = map blank_router (filter-push (λ (q : RouterRow). bytes_eq q.project caller.project) rows.routers r others j);
    served_ports = map blank_port (filter (λ p. routed p j) rows.ports);
    near = λ i. guard (stands (λ (n : NetworkRow). n.id) i (seen_networks rows caller) || list_any (λ p. ident_eq i p.network && (bytes_eq p.project caller.project || routed p j)) rows.ports) (near_of rows caller.project i);
    held = λ i. guard (is_held_by rows caller.project i) (record (held_of rows i) { ports = ports i j });
  }
    where
      routed : (p : PortRow) → is_of_router (rows.routers ++ r ∷ []) caller.project p ≡ is_of_router rows.routers caller.project p
      routed p = any-push_other (λ (q : RouterRow). bytes_eq q.project caller.project && is_port_of q p) rows.routers r (first_fails _ _ others)

      ports : (i : Ident) → map (held_port (with_router rows r)) (filter (λ (p : PortRow). ident_eq i p.network) rows.ports) ≡ map (held_port rows) (filter (λ (p : PortRow). ident_eq i p.network) rows.ports)
      ports i = map-each (held_port (with_router rows r)) (held_port rows) (filter (λ (p : PortRow). ident_eq i p.network) rows.ports)
          (λ k p at_p. let here = at_filter (λ (q : PortRow). ident_eq i q.network) rows.ports k p at_p in
          (λ j. record (held_port rows p) {
            served = option_or (option_map (λ (q : RouterRow). q.project) (find-push (λ (q : RouterRow). is_port_of q p) rows.routers r (unnamed here.0 p here.1) j))
                (option_map (λ (f : FloatingRow). f.project) (find (λ (f : FloatingRow). ident_eq f.own_port p.id) rows.floatings));
          }))

  -- a policy of another project, on a network that the caller's doesn't hold, for neither the caller's project nor all

  pub hidden_policy : (l : PolicyRow) → bytes_eq l.project caller.project ≡ false → is_held_by rows caller.project l.object ≡ false → bytes_eq l.target caller.project ≡ false → bytes_eq l.target everyone ≡ false
      → footing settings (at (with_policy rows l) version) caller ≡ footing settings (at rows version) caller
  hidden_policy l others unheld untold some = λ j. record (footing settings (at rows version) caller) {
    networks = map blank (networks j);
    subnets = subnets j;
    policies = filter-push (λ (q : PolicyRow). bytes_eq q.project caller.project) rows.policies l others j;
    near = λ i. guard (stands (λ (n : NetworkRow). n.id) i (networks j) || list_any (λ p. ident_eq i p.network && is_close rows caller.project p) rows.ports)
        (record (near_of rows caller.project i) { shared = granted Shared i j; external = granted External i j; shared_to_all = opened Shared i j; external_to_all = opened External i j });
    held = λ i. held i j;
  }
    where
      granted : (action : Action) (i : Ident) → is_granted (rows.policies ++ l ∷ []) action i caller.project ≡ is_granted rows.policies action i caller.project
      granted action i = any-push_other (grants action i caller.project) rows.policies l (and_fails (ident_eq i l.object) _ (and_fails (is_action action l.action) _ (λ j. untold j || some j)))

      opened : (action : Action) (i : Ident) → is_open (rows.policies ++ l ∷ []) i action ≡ is_open rows.policies i action
      opened action i = any-push_other (permits_all i action) rows.policies l (and_fails (ident_eq i l.object) _ (and_fails (is_action action l.action) _ some))

      networks : seen_networks (with_policy rows l) caller ≡ seen_networks rows caller
      networks = filter-each (sees_network (with_policy rows l) caller) (sees_network rows caller) rows.networks
          (λ k n at_n. λ j. (caller.admin || bytes_eq n.project caller.project) || (granted Shared n.id j || granted External n.id j))

      subnets : seen_subnets (with_policy rows l) caller ≡ seen_subnets rows caller
      subnets = filter-each (sees_subnet (with_policy rows l) caller) (sees_subnet rows caller) rows.subnets
          (λ k s at_s. λ j. (caller.admin || bytes_eq s.project caller.project) || list_any (λ (n : NetworkRow). ident_eq s.network n.id && (bytes_eq n.project caller.project || granted Shared n.id j)) rows.networks)

      holds : (i : Ident) → is_held_by (with_policy rows l) caller.project i ≡ is_held_by rows caller.project i
      holds i = ap (λ b. owns_network rows caller.project i || b) (any-push_other (λ (q : PolicyRow). ident_eq i q.object && bytes_eq q.project caller.project) rows.policies l (and_fails (ident_eq i l.object) _ others))

      unlike : (i o : Ident) → is_held_by rows caller.project i ≡ true → is_held_by rows caller.project o ≡ false → ident_eq i o ≡ false
      unlike i o mine not = by_test (ident_eq i o) (ident_eq i o ≡ false)
          (λ is. let clash : true ≡ false = sym mine ∙ (ap (is_held_by rows caller.project) (ident_same i o is) ∙ not) in cc) (λ fails. fails)

      held : (i : Ident) → guard (is_held_by (with_policy rows l) caller.project i) (held_of (with_policy rows l) i) ≡ guard (is_held_by rows caller.project i) (held_of rows i)
      held i = ap (λ b. guard b (held_of (with_policy rows l) i)) (holds i)
          ∙ guard_either (is_held_by rows caller.project i) (held_of (with_policy rows l) i) (held_of rows i)
          (λ mine. λ j. record (held_of rows i) { policies = filter-push (λ (q : PolicyRow). ident_eq i q.object) rows.policies l (unlike i l.object mine unheld) j })

  -- a port of another project that serves nothing of the caller's, on a network that is neither near nor held

  pub hidden_port : (p : PortRow) → is_close rows caller.project p ≡ false → is_near rows caller p.network ≡ false → is_held_by rows caller.project p.network ≡ false
      → footing settings (at (with_port rows p) version) caller ≡ footing settings (at rows version) caller
  hidden_port p far unseen unheld = λ j. record (footing settings (at rows version) caller) {
    ports = map blank_port (ports j);
    bound = λ i. stands_so (λ (q : PortRow). q.id) i (λ q. is_bound q.vif) (ports j);
    served_ports = map blank_port (filter-push (is_of_router rows.routers caller.project) rows.ports p close.1 j);
    near = λ i. near i j;
    held = λ i. held i j;
  }
    where
      close : (bytes_eq p.project caller.project ≡ false) × (is_of_router rows.routers caller.project p ≡ false)
      close = or_none (bytes_eq p.project caller.project) (is_of_router rows.routers caller.project p) far

      unowned : (owns_network rows caller.project p.network ≡ false) × (list_any (λ (l : PolicyRow). ident_eq p.network l.object && bytes_eq l.project caller.project) rows.policies ≡ false)
      unowned = or_none (owns_network rows caller.project p.network) (list_any (λ (l : PolicyRow). ident_eq p.network l.object && bytes_eq l.project caller.project) rows.policies) unheld

      ports : seen_ports (with_port rows p) caller ≡ seen_ports rows caller
      ports = filter-push (sees_port rows caller) rows.ports p (λ k. (tenant k || close.0 k) || unowned.0 k)

      unlike : (test : Ident → Bool) (i o : Ident) → test i ≡ true → test o ≡ false → ident_eq i o ≡ false
      unlike test i o mine not = by_test (ident_eq i o) (ident_eq i o ≡ false)
          (λ is. let clash : true ≡ false = sym mine ∙ (ap test (ident_same i o is) ∙ not) in cc) (λ fails. fails)

      stays : (i : Ident) → is_near (with_port rows p) caller i ≡ is_near rows caller i
      stays i = ap (λ b. stands (λ (n : NetworkRow). n.id) i (seen_networks rows caller) || b)
          (any-push_other (λ q. ident_eq i q.network && is_close rows caller.project q) rows.ports p (and_fails (ident_eq i p.network) _ far))

      near : (i : Ident) → guard (is_near (with_port rows p) caller i) (near_of (with_port rows p) caller.project i) ≡ guard (is_near rows caller i) (near_of rows caller.project i)
      near i = ap (λ b. guard b (near_of (with_port rows p) caller.project i)) (stays i)
          ∙ guard_either (is_near rows caller i) (near_of (with_port rows p) caller.project i) (near_of rows caller.project i)
          (λ mine. let other = unlike (is_near rows caller) i p.network mine unseen in
          (λ j. record (near_of rows caller.project i) {
            addresses = λ x. any-push_other (λ q. ident_eq i q.network && list_any (λ (f : Fixed). addr_eq f.address x) q.fixed) rows.ports p (first_fails _ _ other) j;
            macs = λ m. any-push_other (has_mac i m) rows.ports p (first_fails _ _ other) j;
          }))

      held : (i : Ident) → guard (is_held_by rows caller.project i) (held_of (with_port rows p) i) ≡ guard (is_held_by rows caller.project i) (held_of rows i)
      held i = guard_either (is_held_by rows caller.project i) (held_of (with_port rows p) i) (held_of rows i)
          (λ mine. λ j. record (held_of rows i) { ports = map (held_port rows) (filter-push (λ (q : PortRow). ident_eq i q.network) rows.ports p (unlike (is_held_by rows caller.project) i p.network mine unheld) j) })

  -- a subnet of another project, on a network that isn't near

  pub hidden_subnet : (x : SubnetRow) → bytes_eq x.project caller.project ≡ false → is_near rows caller x.network ≡ false → footing settings (at (with_subnet rows x) version) caller ≡ footing settings (at rows version) caller
  hidden_subnet x others unseen = λ j. record (footing settings (at rows version) caller) {
    subnets = filter-push (sees_subnet rows caller) rows.subnets x (λ k. (tenant k || others k) || unused k) j;
    near = λ i. near i j;
  }
    where
      unused : uses_network rows caller.project x.network ≡ false
      unused = fails_by (uses_network rows caller.project x.network) (is_near rows caller x.network)
          (λ uses. or_left _ _ (any-filter_kept (sees_network rows caller) (λ (n : NetworkRow). ident_eq x.network n.id && (bytes_eq n.project caller.project || is_granted rows.policies Shared n.id caller.project))
          (λ (n : NetworkRow). ident_eq x.network n.id) rows.networks
          (λ k n at_n h. let both = and_both (ident_eq x.network n.id) (bytes_eq n.project caller.project || is_granted rows.policies Shared n.id caller.project) h in (
            or_cases (bytes_eq n.project caller.project) (is_granted rows.policies Shared n.id caller.project) (sees_network rows caller n ≡ true) both.1
                (λ mine. or_left _ _ (or_right caller.admin _ mine)) (λ shared. or_right (caller.admin || bytes_eq n.project caller.project) _ (or_left _ _ shared)),
            both.0,
          )) uses)) unseen

      near : (i : Ident) → guard (is_near rows caller i) (near_of (with_subnet rows x) caller.project i) ≡ guard (is_near rows caller i) (near_of rows caller.project i)
      near i = guard_either (is_near rows caller i) (near_of (with_subnet rows x) caller.project i) (near_of rows caller.project i)
          (λ mine. λ j. record (near_of rows caller.project i) { subnets = filter-push (λ (s : SubnetRow). ident_eq i s.network) rows.subnets x (unlike i mine) j })
        where
          unlike : (i : Ident) → is_near rows caller i ≡ true → ident_eq i x.network ≡ false
          unlike i mine = by_test (ident_eq i x.network) (ident_eq i x.network ≡ false)
              (λ is. let clash : true ≡ false = sym mine ∙ (ap (is_near rows caller) (ident_same i x.network is) ∙ unseen) in cc) (λ fails. fails)

  -- a floating address of another project, whose port is on a network that the caller's doesn't hold

  pub hidden_floating : (f : FloatingRow) → bytes_eq f.project caller.project ≡ false → Each (λ (p : PortRow). ident_eq f.own_port p.id ≡ true → is_held_by rows caller.project p.network ≡ false) rows.ports
      → footing settings (at (with_floating rows f) version) caller ≡ footing settings (at rows version) caller
  hidden_floating f others away = λ j. record (footing settings (at rows version) caller) {
    floatings = filter-push (λ (g : FloatingRow). bytes_eq g.project caller.project) rows.floatings f others j;
    held = λ i. held i j;
  }
    where
      ports : (i : Ident) → is_held_by rows caller.project i ≡ true
          → map (held_port (with_floating rows f)) (filter (λ (p : PortRow). ident_eq i p.network) rows.ports) ≡ map (held_port rows) (filter (λ (p : PortRow). ident_eq i p.network) rows.ports)
      ports i mine = map-each (held_port (with_floating rows f)) (held_port rows) (filter (λ (p : PortRow). ident_eq i p.network) rows.ports)
          (λ k p at_p. let here = at_filter (λ (q : PortRow). ident_eq i q.network) rows.ports k p at_p in
          let other = by_test (ident_eq f.own_port p.id) (ident_eq f.own_port p.id ≡ false)
          (λ is. let clash : true ≡ false = sym mine ∙ (ap (is_held_by rows caller.project) (ident_same i p.network here.2) ∙ away here.0 p here.1 is) in cc) (λ fails. fails) in
          (λ j. record (held_port rows p) {
            served = option_or (option_map (λ (q : RouterRow). q.project) (find (λ (q : RouterRow). is_port_of q p) rows.routers))
                (option_map (λ (g : FloatingRow). g.project) (find-push (λ (g : FloatingRow). ident_eq g.own_port p.id) rows.floatings f other j));
          }))

      held : (i : Ident) → guard (is_held_by rows caller.project i) (held_of (with_floating rows f) i) ≡ guard (is_held_by rows caller.project i) (held_of rows i)
      held i = guard_either (is_held_by rows caller.project i) (held_of (with_floating rows f) i) (held_of rows i) (λ mine. λ j. record (held_of rows i) { ports = ports i mine j })

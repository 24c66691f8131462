-- What `open_in_use` refuses: where it refuses nothing, no port on the network misses a policy that would go.
use Rattle.std.proofs.Common.{Bool, List, None, Option, Some, ap, arith, cond, false, not, refl, slice_get, sym, true, ℕ, ◌∙◌, ◌≡◌}
use Rattle.api_policy.specs.PolicyNeeds.{is_forsaken, is_unserved, is_unshared, policy_user}
use Rattle.api_policy.specs.Uses.{needed_by, needed_policy, open_in_use, open_policy, used_open_policy}
use Rattle.api_policy.specs.Networks.{permits_all}
use Rattle.api_policy.specs.Served.{held_port, served}
use Rattle.kept_laws.proofs.OutcomeLemmas.{found_at, unfound}
use Rattle.kept_laws.proofs.CallLemmas.{unmapped}
use Rattle.kept_laws.proofs.GivenLemmas.{has_name}
use Rattle.kept_laws.proofs.PolicyAlike.{same_action}
use Rattle.kept_laws.proofs.PolicyPermits.{floating_alone}
use Rattle.api_types.proofs.ListLemmas.{none-counted, and_both, any-at, any-filter, at-any, both_and, false_true, one_row}
use Rattle.api_types.proofs.NameLemmas.{not_false, by_test, bytes_itself, bytes_same, first_fails, ident_itself, ident_same, ident_sym}
use Rattle.api_types.specs.Consistent.{IsConsistent}
use Rattle.api_types.specs.Consistent.Carried.{is_unbound}
use Rattle.api_types.specs.Consistent.InForm.{is_network_of}
use Rattle.api_types.specs.Consistent.Named.{is_own_port, is_registered, serves}
use Rattle.api_types.specs.Consistent.Services.{holds_just, is_gateway_of, is_named_gateway, is_port_for, wanted_gateways}
use Rattle.api_types.specs.Ident.{Ident}
use Rattle.api_types.specs.Lists.{Each, if_some, is_empty, is_some_so}
use Rattle.api_types.specs.Owners.{device_is, is_floating, is_gateway, is_port_of, is_router_port}
use Rattle.api_types.specs.RowLists.{RowLists}
use Rattle.api_types.specs.Sharing.{everyone, grants, is_action, is_external_to, is_granted, is_shared_with}
use Rattle.api_types.specs.Table.{ident_eq}
use Rattle.api_types.specs.declared.call.Caller.{Caller}
use Rattle.api_types.specs.declared.floating.FloatingRow.{FloatingRow}
use Rattle.api_types.specs.declared.network.NetworkRow.{NetworkRow}
use Rattle.api_types.specs.declared.policy.Action.{Action}
use Rattle.api_types.specs.declared.policy.Action.TheVariants.{External, Shared}
use Rattle.api_types.specs.declared.policy.PolicyRow.{PolicyRow}
use Rattle.api_types.specs.declared.port.PortRow.{PortRow}
use Rattle.api_types.specs.declared.router.Gateway.{Gateway}
use Rattle.api_types.specs.declared.router.RouterRow.{RouterRow}
use Rattle.std.specs.List.{list_any}
use Rattle.std.specs.Option.{option_or}
use Rattle.std.specs.Prelude.{count_by, filter, find, if◌then◌else◌, option_and_then, option_map, ◌&&◌, ◌||◌}
use Rattle.std.specs.Str.{bytes_eq}

module _ (rows : RowLists) (c : IsConsistent rows) (l : ℕ) (n : NetworkRow) (at_n : slice_get rows.networks l ≡ Some n) (k : ℕ) (p : PortRow) (at : slice_get rows.ports k ≡ Some p) (here : ident_eq n.id p.network ≡ true) where
  -- a port on the network is there by what stands
  shared_now : is_unshared rows.policies n (held_port rows p) ≡ false
  shared_now = by p.by_admin (is_empty p.project) (bytes_eq p.project n.project) refl (is_shared_with rows.policies n.id p.project) refl
      (ap (λ i. is_empty p.project || (p.by_admin || (is_shared_with rows.policies i p.project || is_network_of rows.networks p.project i))) (ident_same n.id p.network here) ∙ c.allowed.of_ports k p at)
    where
      owns : is_network_of rows.networks p.project n.id ≡ true → bytes_eq p.project n.project ≡ true
      owns h =
          let found = any-at (λ (m : NetworkRow). ident_eq n.id m.id && bytes_eq m.project p.project) rows.networks h in
          let both = and_both (ident_eq n.id found.1.id) (bytes_eq found.1.project p.project) found.3 in
          let one = one_row (λ (m : NetworkRow). ident_eq n.id m.id) rows.networks (omega (arith, c.numbered.ids n.id)) found.0 l found.1 n found.2 at_n both.0 (ident_itself n.id) in
          ap (bytes_eq p.project) (ap (λ (m : NetworkRow). m.project) (sym one) ∙ bytes_same found.1.project p.project both.1) ∙ bytes_itself p.project

      by : (a e b : Bool) → bytes_eq p.project n.project ≡ b → (s : Bool) → is_shared_with rows.policies n.id p.project ≡ s → e || (a || (s || is_network_of rows.networks p.project n.id)) ≡ true → not a && not e && not b && not s ≡ false
      by true e b own s shared h = refl
      by false true b own s shared h = refl
      by false false true own s shared h = refl
      by false false false own true shared h = refl
      by false false false own false shared h = sym (sym own ∙ owns h)

  -- the network is external to the project that a gateway port, or a floating address's own port, serves
  by_router : is_gateway p.owner ≡ true → (j : ℕ) (r : RouterRow) → slice_get rows.routers j ≡ Some r → is_port_of r p ≡ true → is_external_to rows.policies n.id r.project ≡ true
  by_router gateway j r at_r of_r = by r.gateway refl
    where
      mine : is_gateway_of r.id p ≡ true
      mine = both_and (is_gateway p.owner) (device_is p.device r.id) gateway (and_both (is_router_port p.owner) (device_is p.device r.id) of_r).1

      by : (o : Option Gateway) → r.gateway ≡ o → is_external_to rows.policies n.id r.project ≡ true
      by None e =
          let none : count_by (is_gateway_of r.id) rows.ports ≡ 0 = c.services.of_routers.counts j r at_r ∙ ap wanted_gateways e in
          false_true _ (sym (none-counted (is_gateway_of r.id) rows.ports none) ∙ at-any (is_gateway_of r.id) rows.ports k p at mine)
      by (Some g) e =
          let one : count_by (is_gateway_of r.id) rows.ports ≡ 1 = c.services.of_routers.counts j r at_r ∙ ap wanted_gateways e in
          let named : list_any (is_named_gateway r g) rows.ports ≡ true = ap (if_some (λ (h : Gateway). list_any (is_named_gateway r h) rows.ports)) (sym e) ∙ c.services.of_routers.named j r at_r in
          let found = any-at (is_named_gateway r g) rows.ports named in
          let both = and_both (is_gateway_of r.id found.1) (ident_eq g.network found.1.network && ident_eq g.port found.1.id) found.3 in
          let same = one_row (is_gateway_of r.id) rows.ports (omega (arith, one)) found.0 k found.1 p found.2 at both.0 mine in
          let there : g.network ≡ n.id = ident_same g.network found.1.network (and_both (ident_eq g.network found.1.network) (ident_eq g.port found.1.id) both.1).0
          ∙ (ap (λ (q : PortRow). q.network) same ∙ sym (ident_same n.id p.network here)) in
          let outside : is_external_to rows.policies g.network r.project ≡ true = ap (if_some (λ (h : Gateway). is_external_to rows.policies h.network r.project)) (sym e) ∙ c.outsides.gateways j r at_r in
          ap (λ i. is_external_to rows.policies i r.project) (sym there) ∙ outside

  -- the port that a floating address has as its own
  own_is : (j : ℕ) (f : FloatingRow) → slice_get rows.floatings j ≡ Some f → ident_eq f.own_port p.id ≡ true → (ident_eq f.network p.network ≡ true) × (is_floating p.owner ≡ true)
  own_is j f at_f own =
      let found = any-at (λ q. ident_eq f.own_port q.id && is_port_for f q) rows.ports (c.services.of_floatings.there j f at_f) in
      let q : PortRow = found.1 in
      let both = and_both (ident_eq f.own_port q.id) (is_port_for f q) found.3 in
      let a = and_both (ident_eq f.network q.network && is_floating q.owner && holds_just f.address q.fixed) (is_unbound q.vif) both.1 in
      let b = and_both (ident_eq f.network q.network && is_floating q.owner) (holds_just f.address q.fixed) a.0 in
      let one = one_row (λ (x : PortRow). ident_eq f.own_port x.id) rows.ports (omega (arith, c.numbered.ids f.own_port)) found.0 k q p found.2 at both.0 own in
      let e = and_both (ident_eq f.network q.network) (is_floating q.owner) b.0 in
      (ap (λ (x : PortRow). ident_eq f.network x.network) (sym one) ∙ e.0, ap (λ (x : PortRow). is_floating x.owner) (sym one) ∙ e.1)

  served_now : is_unserved rows.policies n (held_port rows p) ≡ false
  served_now = by (is_empty p.project) refl
    where
      external : (o : Option RouterRow) (i : Option FloatingRow) → find (λ (r : RouterRow). is_port_of r p) rows.routers ≡ o → find (λ (f : FloatingRow). ident_eq f.own_port p.id) rows.floatings ≡ i
          → serves rows.floatings p ≡ true
          → is_some_so (λ project. not (is_external_to rows.policies n.id project)) (option_or (option_map (λ (r : RouterRow). r.project) o) (option_map (λ (f : FloatingRow). f.project) i)) ≡ false
      external None None e g serving = refl
      external None (Some f) e g serving =
          let found = found_at (λ (x : FloatingRow). ident_eq x.own_port p.id) rows.floatings f g in
          let own = own_is found.0 f found.1 found.2 in
          ap not (ap (λ i. is_external_to rows.policies i f.project) (ident_same n.id p.network here ∙ sym (ident_same f.network p.network own.0)) ∙ c.outsides.addresses found.0 f found.1)
      external (Some r) i e g serving =
          let found = found_at (λ (x : RouterRow). is_port_of x p) rows.routers r e in
          by_test (is_gateway p.owner) (not (is_external_to rows.policies n.id r.project) ≡ false)
          (λ gateway. ap not (by_router gateway found.0 r found.1 found.2))
          (λ other.
          let own = any-at (λ (f : FloatingRow). ident_eq p.id f.own_port) rows.floatings (sym (ap (λ b. b || is_own_port rows.floatings p.id) other) ∙ serving) in
          let floating = (own_is own.0 own.1 own.2 (ident_sym p.id own.1.own_port own.3)).1 in
          false_true _ (sym (first_fails (is_router_port p.owner) (device_is p.device r.id) (floating_alone p.owner floating)) ∙ found.2))

      by : (b : Bool) → is_empty p.project ≡ b → b && is_some_so (λ project. not (is_external_to rows.policies n.id project)) (served rows p) ≡ false
      by false e = refl
      by true e = external (find (λ (r : RouterRow). is_port_of r p) rows.routers) (find (λ (f : FloatingRow). ident_eq f.own_port p.id) rows.floatings) refl refl
          (by_test (serves rows.floatings p) (serves rows.floatings p ≡ true) (λ is. is) (λ isnt.
          let known : is_registered rows.projects p.project ≡ true = sym (ap (λ (s : Bool). cond s (is_empty p.project) (is_registered rows.projects p.project)) isnt) ∙ c.named.projects.of_ports k p at in
          let named : not (is_empty p.project) ≡ true = has_name rows p.project c known in
          false_true _ (sym (ap not e) ∙ named)))

-- where one of two actions loses nothing, what is granted by it is as it was
kept_granted : (policies : List PolicyRow) (keep : PolicyRow → Bool) (network : Ident) (action : Action) (project : List ℕ) → Each (λ q. keep q ≡ false → grants action network project q ≡ false) policies
    → is_granted (filter keep policies) action network project ≡ is_granted policies action network project
kept_granted policies keep network action project lost = any-filter keep (grants action network project) policies lost

module _ (rows : RowLists) (c : IsConsistent rows) (caller : Caller) (l : ℕ) (n : NetworkRow) (at_n : slice_get rows.networks l ≡ Some n) (shared external : Bool) where
  abbrev stays : PolicyRow → Bool
  stays q = not ((shared && permits_all n.id Shared q) || (external && permits_all n.id External q))

  -- a policy that goes permits its action to all, and no other action
  lost_one : (action : Action) (project : List ℕ) → open_policy rows.policies n.id action ≡ None → Each (λ q. stays q ≡ false → grants action n.id project q ≡ false) rows.policies
  lost_one action project none j q at_q goes =
      by_test (grants action n.id project q) (grants action n.id project q ≡ false)
      (λ grant.
      let a = and_both (ident_eq n.id q.object) (is_action action q.action && (bytes_eq q.target project || bytes_eq q.target everyone)) grant in
      let b = and_both (is_action action q.action) (bytes_eq q.target project || bytes_eq q.target everyone) a.1 in
      false_true _ (sym (unfound (permits_all n.id action) rows.policies none j q at_q) ∙ lost action q b.0 (not_false _ goes)))
      (λ fails. fails)
    where
      lost : (action : Action) (q : PolicyRow) → is_action action q.action ≡ true → (shared && permits_all n.id Shared q) || (external && permits_all n.id External q) ≡ true → permits_all n.id action q ≡ true
      lost Shared q is h = by_test (shared && permits_all n.id Shared q) (permits_all n.id Shared q ≡ true)
          (λ yes. (and_both shared (permits_all n.id Shared q) yes).1)
          (λ no. let e = (and_both external (permits_all n.id External q) (sym (ap (λ b. b || (external && permits_all n.id External q)) no) ∙ h)).1 in
          let a = (and_both (is_action External q.action) (bytes_eq q.target everyone) (and_both (ident_eq n.id q.object) (is_action External q.action && bytes_eq q.target everyone) e).1).0 in
          false_true _ (sym (ap (is_action Shared) (sym (same_action External q.action a))) ∙ is))
      lost External q is h = by_test (shared && permits_all n.id Shared q) (permits_all n.id External q ≡ true)
          (λ yes. let e = (and_both shared (permits_all n.id Shared q) yes).1 in
          let a = (and_both (is_action Shared q.action) (bytes_eq q.target everyone) (and_both (ident_eq n.id q.object) (is_action Shared q.action && bytes_eq q.target everyone) e).1).0 in
          false_true _ (sym (ap (is_action External) (sym (same_action Shared q.action a))) ∙ is))
          (λ no. (and_both external (permits_all n.id External q) (sym (ap (λ b. b || (external && permits_all n.id External q)) no) ∙ h)).1)

  pub unneeded : open_in_use rows caller (filter stays rows.policies) n ≡ None → policy_user rows (filter stays rows.policies) n ≡ None
  unneeded h = by (policy_user rows (filter stays rows.policies) n) refl h
    where
      kept : List PolicyRow
      kept = filter stays rows.policies

      by : (o : Option PortRow) → policy_user rows kept n ≡ o → option_and_then (needed_by rows caller kept n) o ≡ None → o ≡ None
      by None e h = refl
      by (Some p) e h =
          let found = found_at (is_forsaken rows kept n) rows.ports p e in
          let both = and_both (ident_eq n.id p.network) (is_unshared kept n (held_port rows p) || is_unserved kept n (held_port rows p)) found.2 in
          let none = unmapped (used_open_policy rows caller p) (needed_policy rows.policies kept n (held_port rows p)) h in
          by_test (is_unshared kept n (held_port rows p)) (Some p ≡ None)
          (λ unshared.
          let no_open : open_policy rows.policies n.id Shared ≡ None = sym (ap (λ b. if b then open_policy rows.policies n.id Shared else open_policy rows.policies n.id External) unshared) ∙ none in
          let same = kept_granted rows.policies stays n.id Shared p.project (lost_one Shared p.project no_open) in
          false_true _ (sym (shared_now rows c l n at_n found.0 p found.1 both.0)
          ∙ (ap (λ s. not p.by_admin && not (is_empty p.project) && not (bytes_eq p.project n.project) && not s) (sym same) ∙ unshared)))
          (λ shared.
          let no_open : open_policy rows.policies n.id External ≡ None = sym (ap (λ b. if b then open_policy rows.policies n.id Shared else open_policy rows.policies n.id External) shared) ∙ none in
          let unserved : is_unserved kept n (held_port rows p) ≡ true = sym (ap (λ b. b || is_unserved kept n (held_port rows p)) shared) ∙ both.1 in
          let same : (o : Option (List ℕ)) → is_some_so (λ project. not (is_external_to kept n.id project)) o ≡ is_some_so (λ project. not (is_external_to rows.policies n.id project)) o = alike no_open in
          false_true _ (sym (served_now rows c l n at_n found.0 p found.1 both.0) ∙ (ap (λ s. is_empty p.project && s) (sym (same (served rows p))) ∙ unserved)))
        where
          alike : open_policy rows.policies n.id External ≡ None → (o : Option (List ℕ)) → is_some_so (λ project. not (is_external_to kept n.id project)) o ≡ is_some_so (λ project. not (is_external_to rows.policies n.id project)) o
          alike no_open None = refl
          alike no_open (Some project) = ap not (kept_granted rows.policies stays n.id External project (lost_one External project no_open))

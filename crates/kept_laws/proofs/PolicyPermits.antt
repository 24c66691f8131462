-- Where no port needs what other policies lack, what was permitted still is.
use Rattle.std.proofs.Common.{Bool, List, None, Option, Some, [], ap, arith, cond, false, length, not, refl, slice_get, subst, suc, sym, true, zero, ℕ, ◌<◌, ◌∙◌, ◌∷◌, ◌≡◌, ◌≤◌}
use Rattle.std.specs.Prelude.{codes, find, nat_le, option_map, ◌&&◌, ◌==◌, ◌||◌}
use Rattle.std.proofs.lemmas.Bool.Decides.{nat_tests}
use Rattle.std.specs.List.{list_any}
use Rattle.std.specs.Option.{option_or}
use Rattle.std.specs.Str.{bytes_eq}
use Rattle.net_addr.proofs.PrefixLemmas.{number_decides}
use Rattle.api_types.specs.Consistent.{IsConsistent}
use Rattle.api_types.specs.Consistent.Access.{may_be_there}
use Rattle.api_types.specs.Consistent.Carried.{is_unbound}
use Rattle.api_types.specs.Consistent.InForm.{is_network_of}
use Rattle.api_types.specs.Consistent.Named.{is_own_port, is_registered, serves}
use Rattle.api_types.specs.Consistent.Numbered.{ProjectsDiffer, is_drawn}
use Rattle.api_types.specs.Consistent.Services.{holds_just, is_gateway_of, is_named_gateway, is_port_for}
use Rattle.api_types.specs.Ident.{Ident, IsDrawable, ident_text}
use Rattle.api_types.specs.Lists.{Each, if_some, is_empty, is_some_so}
use Rattle.api_types.specs.Owners.{device_is, is_floating, is_gateway, is_interface, is_port_of, is_router_port}
use Rattle.api_types.specs.RowLists.{RowLists}
use Rattle.api_types.specs.Sharing.{is_external_to, is_granted, is_shared_with}
use Rattle.api_types.specs.Table.{ident_eq}
use Rattle.api_types.specs.declared.floating.FloatingRow.{FloatingRow}
use Rattle.api_types.specs.declared.network.NetworkRow.{NetworkRow}
use Rattle.api_types.specs.declared.policy.Action.{Action}
use Rattle.api_types.specs.declared.policy.Action.TheVariants.{External, Shared}
use Rattle.api_types.specs.declared.policy.PolicyRow.{PolicyRow}
use Rattle.api_types.specs.declared.port.PortRow.{PortRow}
use Rattle.api_types.specs.declared.project.ProjectRow.{ProjectRow}
use Rattle.api_types.specs.declared.router.Gateway.{Gateway}
use Rattle.api_types.specs.declared.router.RouterRow.{RouterRow}
use Rattle.row_laws.specs.Gone.{ArePermittedStill}
use Rattle.api_types.proofs.IdTexts.{one-text}
use Rattle.api_types.proofs.ListLemmas.{and_both, any-at, at-any, both_and, false_true, none_some, one_row, or_none, or_true}
use Rattle.api_types.proofs.NameLemmas.{by_test, bytes_itself, bytes_same, first_fails, ident_itself, ident_same, ident_sym, not_false}
use Rattle.api_policy.specs.PolicyNeeds.{is_forsaken, is_unserved, is_unshared, policy_user}
use Rattle.kept_laws.proofs.OutcomeLemmas.{found_at, unfound}
use Rattle.api_policy.specs.Served.{held_port, served}

-- an id that was drawn is a drawable one
pub drawn_drawable : (projects : List ProjectRow) (i : Ident) → ProjectsDiffer projects → is_drawn projects i ≡ true → IsDrawable i
drawn_drawable projects i c h =
    let found = any-at (λ (p : ProjectRow). (p.ordinal == i.ordinal) && (nat_le 1 i.count && nat_le i.count p.count)) projects h in
    let p : ProjectRow = found.1 in
    let both = and_both (p.ordinal == i.ordinal) _ found.3 in
    let counts = and_both (nat_le 1 i.count) (nat_le i.count p.count) both.1 in
    let same = (number_decides p.ordinal i.ordinal).0 both.0 in
    let order = c.ordered found.0 p found.2 in
    let place = within projects found.0 p found.2 in
    let low = at_least 1 i.count counts.0 in
    let high = at_least i.count p.count counts.1 in
    record {
      first_ordinal = omega (arith, same, order.0);
      last_ordinal = omega (arith, same, order.0, place, c.few);
      first_count = low;
      last_count = omega (arith, high, order.1);
    }
  where
    at_least : (a b : ℕ) → nat_le a b ≡ true → a ≤ b
    at_least a b h = grind (arith, nat_tests, h)

    within : (xs : List ProjectRow) (k : ℕ) (x : ProjectRow) → slice_get xs k ≡ Some x → k < length xs
    within [] k x at = none_some x _ at
    within (a ∷ xs) zero x at = omega arith
    within (a ∷ xs) (suc k) x at = let r = within xs k x at in omega (arith, r)

-- a floating address's port is no router's
pub floating_alone : (owner : List ℕ) → is_floating owner ≡ true → is_router_port owner ≡ false
unfolding is_floating is_interface is_gateway
floating_alone owner h =
    let e = bytes_same owner (codes "network:floatingip") h in
    λ j. bytes_eq (e j) (codes "network:router_interface") || bytes_eq (e j) (codes "network:router_gateway")

module _ (rows : RowLists) (c : IsConsistent rows) where
  -- a router that a port names by its device is the one
  one_router : (p : PortRow) (k l : ℕ) (r s : RouterRow) → slice_get rows.routers k ≡ Some r → slice_get rows.routers l ≡ Some s → is_port_of r p ≡ true → is_port_of s p ≡ true → r ≡ s
  unfolding device_is
  one_router p k l r s at_r at_s of_r of_s =
      let first = bytes_same p.device (ident_text r.id) (and_both (is_router_port p.owner) (device_is p.device r.id) of_r).1 in
      let second = bytes_same p.device (ident_text s.id) (and_both (is_router_port p.owner) (device_is p.device s.id) of_s).1 in
      let same = one-text r.id s.id (drawn_drawable rows.projects r.id c.numbered.projects (c.numbered.drawn.routers k r at_r)) (drawn_drawable rows.projects s.id c.numbered.projects (c.numbered.drawn.routers l s at_s)) (sym first ∙ second) in
      one_row (λ (q : RouterRow). ident_eq r.id q.id) rows.routers (omega (arith, c.numbered.ids r.id)) k l r s at_r at_s (ident_itself r.id) (subst (λ i. ident_eq r.id i ≡ true) same (ident_itself r.id))

  -- the project that a gateway port serves
  serves_router : (k : ℕ) (r : RouterRow) → slice_get rows.routers k ≡ Some r → (p : PortRow) → is_port_of r p ≡ true → served rows p ≡ Some r.project
  serves_router k r at p of_r = by (find (λ (q : RouterRow). is_port_of q p) rows.routers) refl
    where
      by : (o : Option RouterRow) → find (λ (q : RouterRow). is_port_of q p) rows.routers ≡ o
          → option_or (option_map (λ (q : RouterRow). q.project) o) (option_map (λ (f : FloatingRow). f.project) (find (λ f. ident_eq f.own_port p.id) rows.floatings)) ≡ Some r.project
      by None e = false_true _ (sym (unfound (λ (q : RouterRow). is_port_of q p) rows.routers e k r at) ∙ of_r)
      by (Some s) e =
          let found = found_at (λ (q : RouterRow). is_port_of q p) rows.routers s e in
          ap (λ (q : RouterRow). Some q.project) (one_router p found.0 k s r found.1 at found.2 of_r)

  -- the project that a floating address's own port serves
  serves_floating : (k : ℕ) (f : FloatingRow) → slice_get rows.floatings k ≡ Some f → (p : PortRow) → ident_eq f.own_port p.id ≡ true → is_router_port p.owner ≡ false → served rows p ≡ Some f.project
  serves_floating k f at p own no_router = by (find (λ (q : RouterRow). is_port_of q p) rows.routers) refl
    where
      at_floating : (o : Option FloatingRow) → find (λ (g : FloatingRow). ident_eq g.own_port p.id) rows.floatings ≡ o → option_map (λ (g : FloatingRow). g.project) o ≡ Some f.project
      at_floating None e = false_true _ (sym (unfound (λ (g : FloatingRow). ident_eq g.own_port p.id) rows.floatings e k f at) ∙ own)
      at_floating (Some g) e =
          let found = found_at (λ (g : FloatingRow). ident_eq g.own_port p.id) rows.floatings g e in
          let one = one_row (λ (h : FloatingRow). ident_eq p.id h.own_port) rows.floatings (c.services.of_floatings.once p.id) found.0 k g f found.1 at (ident_sym g.own_port p.id found.2) (ident_sym f.own_port p.id own) in
          ap (λ (h : FloatingRow). Some h.project) one

      by : (o : Option RouterRow) → find (λ (q : RouterRow). is_port_of q p) rows.routers ≡ o
          → option_or (option_map (λ (q : RouterRow). q.project) o) (option_map (λ (g : FloatingRow). g.project) (find (λ g. ident_eq g.own_port p.id) rows.floatings)) ≡ Some f.project
      by None e = at_floating (find (λ (g : FloatingRow). ident_eq g.own_port p.id) rows.floatings) refl
      by (Some s) e =
          let found = found_at (λ (q : RouterRow). is_port_of q p) rows.routers s e in
          false_true _ (sym (first_fails (is_router_port p.owner) (device_is p.device s.id) no_router) ∙ found.2)

  -- other policies, which are the same for all networks but one, and which no port on that one misses
  module _ (policies : List PolicyRow) (l : ℕ) (n : NetworkRow) (at_n : slice_get rows.networks l ≡ Some n) (none : policy_user rows policies n ≡ None)
      (same : (action : Action) (network : Ident) (project : List ℕ) → ident_eq network n.id ≡ false → is_granted policies action network project ≡ is_granted rows.policies action network project) where
    -- a port on the network misses nothing
    unforsaken : (k : ℕ) (p : PortRow) → slice_get rows.ports k ≡ Some p → ident_eq n.id p.network ≡ true → (is_unshared policies n (held_port rows p) ≡ false) × (is_unserved policies n (held_port rows p) ≡ false)
    unforsaken k p at here =
        let fails = unfound (is_forsaken rows policies n) rows.ports none k p at in
        or_none (is_unshared policies n (held_port rows p)) (is_unserved policies n (held_port rows p)) (sym (ap (λ b. b && (is_unshared policies n (held_port rows p) || is_unserved policies n (held_port rows p))) here) ∙ fails)

    ports_permitted : Each (λ p. may_be_there rows.networks rows.policies p ≡ true → may_be_there rows.networks policies p ≡ true) rows.ports
    ports_permitted k p at was = by_test (ident_eq p.network n.id) (may_be_there rows.networks policies p ≡ true)
        (λ here.
        let there = ident_same p.network n.id here in
        let fine = (unforsaken k p at (ident_sym p.network n.id here)).0 in
        by (is_empty p.project) p.by_admin (bytes_eq p.project n.project) refl (is_shared_with policies n.id p.project) refl fine there)
        (λ away. (λ j. is_empty p.project || (p.by_admin || (same Shared p.network p.project away j || is_network_of rows.networks p.project p.network))) ∙ was)
      where
        mine : bytes_eq p.project n.project ≡ true → p.network ≡ n.id → is_network_of rows.networks p.project p.network ≡ true
        mine own there = at-any (λ (m : NetworkRow). ident_eq p.network m.id && bytes_eq m.project p.project) rows.networks l n at_n
            (both_and _ _ (ap (λ i. ident_eq i n.id) there ∙ ident_itself n.id) (ap (bytes_eq n.project) (bytes_same p.project n.project own) ∙ bytes_itself n.project))

        by : (e a b : Bool) → bytes_eq p.project n.project ≡ b → (s : Bool) → is_shared_with policies n.id p.project ≡ s → not a && not e && not b && not s ≡ false → p.network ≡ n.id
            → e || (a || (is_shared_with policies p.network p.project || is_network_of rows.networks p.project p.network)) ≡ true
        by true a b own s shared h there = refl
        by false true b own s shared h there = refl
        by false false true own s shared h there = ap (λ t. is_shared_with policies p.network p.project || t) (mine own there) ∙ or_true (is_shared_with policies p.network p.project)
        by false false false own true shared h there = ap (λ t. t || is_network_of rows.networks p.project p.network) (ap (λ i. is_shared_with policies i p.project) there ∙ shared)
        by false false false own false shared h there = cc

    -- a port of the empty project serves one to which the network is external still
    served_permitted : (k : ℕ) (p : PortRow) → slice_get rows.ports k ≡ Some p → ident_eq n.id p.network ≡ true → serves rows.floatings p ≡ true → (project : List ℕ) → served rows p ≡ Some project → is_external_to policies n.id project ≡ true
    served_permitted k p at here service project is =
        let empty : is_empty p.project ≡ true = sym (ap (λ b. cond b (is_empty p.project) (is_registered rows.projects p.project)) service) ∙ c.named.projects.of_ports k p at in
        let fine = (unforsaken k p at here).1 in
        not_false (is_external_to policies n.id project) (sym (λ j. empty j && is_some_so (λ project. not (is_external_to policies n.id project)) (is j)) ∙ fine)

    gateways_permitted : Each (λ r. (g : Gateway) → r.gateway ≡ Some g → is_external_to rows.policies g.network r.project ≡ true → is_external_to policies g.network r.project ≡ true) rows.routers
    gateways_permitted k r at g is was = by_test (ident_eq g.network n.id) (is_external_to policies g.network r.project ≡ true)
        (λ here.
        let named : list_any (is_named_gateway r g) rows.ports ≡ true = sym (ap (if_some (λ (g : Gateway). list_any (is_named_gateway r g) rows.ports)) is) ∙ c.services.of_routers.named k r at in
        let found = any-at (is_named_gateway r g) rows.ports named in
        let p : PortRow = found.1 in
        let both = and_both (is_gateway_of r.id p) _ found.3 in
        let gateway = and_both (is_gateway p.owner) (device_is p.device r.id) both.0 in
        let there : ident_eq g.network p.network ≡ true = (and_both (ident_eq g.network p.network) _ both.1).0 in
        let network : g.network ≡ n.id = ident_same g.network n.id here in
        let on : ident_eq n.id p.network ≡ true = subst (λ i. ident_eq i p.network ≡ true) network there in
        let of_r : is_port_of r p ≡ true = both_and (is_router_port p.owner) (device_is p.device r.id) (ap (λ b. is_interface p.owner || b) gateway.0 ∙ or_true (is_interface p.owner)) gateway.1 in
        ap (λ i. is_external_to policies i r.project) network
        ∙ served_permitted found.0 p found.2 on (ap (λ b. b || is_own_port rows.floatings p.id) gateway.0) r.project (serves_router k r at p of_r))
        (λ away. same External g.network r.project away ∙ was)

    addresses_permitted : Each (λ f. is_external_to rows.policies f.network f.project ≡ true → is_external_to policies f.network f.project ≡ true) rows.floatings
    addresses_permitted k f at was = by_test (ident_eq f.network n.id) (is_external_to policies f.network f.project ≡ true)
        (λ here.
        let found = any-at (λ p. ident_eq f.own_port p.id && is_port_for f p) rows.ports (c.services.of_floatings.there k f at) in
        let p : PortRow = found.1 in
        let own = and_both (ident_eq f.own_port p.id) _ found.3 in
        let a = and_both _ (is_unbound p.vif) own.1 in
        let b = and_both _ (holds_just f.address p.fixed) a.0 in
        let d = and_both (ident_eq f.network p.network) (is_floating p.owner) b.0 in
        let network : f.network ≡ n.id = ident_same f.network n.id here in
        let on : ident_eq n.id p.network ≡ true = subst (λ i. ident_eq i p.network ≡ true) network d.0 in
        let mine : is_own_port rows.floatings p.id ≡ true = at-any (λ (g : FloatingRow). ident_eq p.id g.own_port) rows.floatings k f at (ident_sym f.own_port p.id own.0) in
        ap (λ i. is_external_to policies i f.project) network
        ∙ served_permitted found.0 p found.2 on (ap (λ t. is_gateway p.owner || t) mine ∙ or_true (is_gateway p.owner)) f.project (serves_floating k f at p own.0 (floating_alone p.owner d.1)))
        (λ away. same External f.network f.project away ∙ was)

    pub still_permitted : ArePermittedStill rows policies
    still_permitted = record { ports = ports_permitted; gateways = gateways_permitted; addresses = addresses_permitted }

-- What a tenant's footing tells of what its routers reach, and of the floating addresses that lead by them.
use Rattle.std.proofs.Common.{◌≡◌, ℕ, suc, List, [], ◌∷◌, Bool, true, false, cond, Option, Some, None, slice_get, refl, ap, sym, ◌∙◌, arith, map, not}
use Rattle.std.specs.Prelude.{◌&&◌, ◌||◌, filter, find, option_map, if◌then◌else◌}
use Rattle.std.specs.List.{list_any}
use Rattle.std.specs.Str.{bytes_eq}
use Rattle.net_addr.specs.Prefixes.{contains}
use Rattle.api_types.specs.HeldAddresses.{is_own_address, subnets_on}
use Rattle.api_types.specs.RouterWays.{interfaces_of, is_bad_hop, is_lost_hop, router_ports, other_ports}
use Rattle.api_policy.specs.Seen.{own_rows}
use Rattle.api_policy.specs.Uses.{told_user, used_by_port}
use Rattle.api_policy.specs.Visibility.{is_own, sees_port}
use Rattle.apart_laws.specs.Footing.{Near, blank_port, blank_router, footing, is_close, is_near}
use Rattle.call_parts.specs.State.{State}
use Rattle.api_types.specs.Consistent.{IsConsistent}
use Rattle.api_types.specs.Consistent.Floating.{is_target_port, is_target_router, leads_to}
use Rattle.api_types.specs.Ident.{Ident}
use Rattle.api_types.specs.Lists.{Each, if_some, is_some_so, stands_so}
use Rattle.api_types.specs.Owners.{holds_in, is_interface, is_port_of}
use Rattle.api_types.specs.RowLists.{RowLists}
use Rattle.api_types.specs.Table.{ident_eq}
use Rattle.api_types.specs.declared.call.Caller.{Caller}
use Rattle.api_types.specs.declared.floating.FloatingRow.{FloatingRow}
use Rattle.api_types.specs.declared.floating.Target.{Target}
use Rattle.api_types.specs.declared.kind.Kind.TheVariants.{Floating as FloatingKind, Port as PortKind, Router as RouterKind}
use Rattle.api_types.specs.declared.kind.Kind.{Kind}
use Rattle.api_types.specs.declared.port.PortRow.{PortRow}
use Rattle.api_types.specs.declared.refusal.Refusal.TheVariants.{InUse}
use Rattle.api_types.specs.declared.refusal.Refusal.{Refusal}
use Rattle.api_types.specs.declared.refusal.UseRule.{UseRule}
use Rattle.api_types.specs.declared.router.Gateway.{Gateway}
use Rattle.api_types.specs.declared.router.RouterRow.{RouterRow}
use Rattle.api_types.specs.declared.subnet.Hop.{Hop}
use Rattle.api_types.specs.declared.subnet.SubnetRow.{SubnetRow}
use Rattle.net_settings.specs.Settings.{SettingsParts}
use Rattle.api_types.proofs.ListLemmas.{and_both, any-filter, at-any, at_filter, both_and, false_true}
use Rattle.api_types.proofs.NameLemmas.{by_test, first_fails, ident_itself, ident_same, ident_sym}
use Rattle.apart_laws.proofs.FootingLemmas.{near_same}
use Rattle.apart_laws.proofs.ListLemmas.{any-map, any_pairs, filter-map, find-filter, find_here, or_right}
use Rattle.apart_laws.proofs.ApartLemmas.{option_each, stands_there}
use Rattle.apart_laws.proofs.NearAlike.{holder_on}
use Rattle.apart_laws.proofs.OwnAlike.{floatings_alike, owns_alike, sees_there}
use Rattle.apart_laws.proofs.ServedAlike.{interfaces_alike, legs_alike}

find-each : {R : Type 0} (p q : R → Bool) (xs : List R) → Each (λ x. p x ≡ q x) xs → find p xs ≡ find q xs
find-each p q [] e = refl
find-each p q (x ∷ xs) e = λ j. cond (e 0 x refl j) (Some x) (find-each p q xs (λ k y at. e (suc k) y at) j)

-- a subnet in which a port has an address, and that passes a test
abbrev pub holds_so : (SubnetRow → Bool) → List SubnetRow → PortRow → Bool
holds_so test subnets p = list_any (λ (s : SubnetRow). holds_in s.id p && test s) subnets

-- is one of the port's network
pub holds_on : (rows : RowLists) → IsConsistent rows → (l : ℕ) (p : PortRow) → slice_get rows.ports l ≡ Some p → (test : SubnetRow → Bool) → holds_so test rows.subnets p ≡ holds_so test (subnets_on rows.subnets p.network) p
holds_on rows c l p at test = sym (any-filter (λ (s : SubnetRow). ident_eq p.network s.network) (λ (s : SubnetRow). holds_in s.id p && test s) rows.subnets
    (λ k s at_s fails. by_test (holds_in s.id p) (holds_in s.id p && test s ≡ false)
    (λ holds. false_true _ (sym fails ∙ ident_sym s.network p.network (holder_on rows c k s at_s l p at holds)))
    (λ none. first_fails _ _ none)))

-- the network of a router's port is near
pub leg_near : (rows : RowLists) (caller : Caller) (k : ℕ) (r : RouterRow) → slice_get rows.routers k ≡ Some r → bytes_eq r.project caller.project ≡ true → (l : ℕ) (p : PortRow) → slice_get rows.ports l ≡ Some p
    → is_port_of r p ≡ true → is_near rows caller p.network ≡ true
leg_near rows caller k r at own l p at_p of = or_right _ _ (at-any (λ (q : PortRow). ident_eq p.network q.network && is_close rows caller.project q) rows.ports l p at_p
    (both_and _ _ (ident_itself p.network) (or_right _ _ (at-any (λ (q : RouterRow). bytes_eq q.project caller.project && is_port_of q p) rows.routers k r at (both_and _ _ own of)))))

-- a floating address that leads by a router, or to a port, is of its project
module _ (rows : RowLists) (c : IsConsistent rows) where
  leads : (l : ℕ) (f : FloatingRow) → slice_get rows.floatings l ≡ Some f → (x : Target) → f.target ≡ Some x → leads_to rows.ports rows.routers f x ≡ true
  leads l f at x has = sym (ap (if_some (leads_to rows.ports rows.routers f)) has) ∙ c.floatings.targets l f at

  pub router_project : (k : ℕ) (r : RouterRow) → slice_get rows.routers k ≡ Some r → (l : ℕ) (f : FloatingRow) → slice_get rows.floatings l ≡ Some f → (x : Target) → f.target ≡ Some x → ident_eq r.id x.router ≡ true
      → bytes_eq r.project f.project ≡ true
  router_project k r at l f at_f x has is =
      let both = and_both (stands_so (λ (p : PortRow). p.id) x.port (is_target_port rows.ports f x) rows.ports) (stands_so (λ (q : RouterRow). q.id) x.router (is_target_router f) rows.routers) (leads l f at_f x has) in
      (and_both (bytes_eq r.project f.project) (is_some_so (λ (g : Gateway). ident_eq g.network f.network) r.gateway)
      (sym (stands_there (λ (q : RouterRow). q.id) (is_target_router f) rows.routers (λ i. omega (arith, c.numbered.ids i)) k r at)
      ∙ (ap (λ i. stands_so (λ (q : RouterRow). q.id) i (is_target_router f) rows.routers) (ident_same r.id x.router is) ∙ both.1))).0

  pub port_project : (k : ℕ) (p : PortRow) → slice_get rows.ports k ≡ Some p → (l : ℕ) (f : FloatingRow) → slice_get rows.floatings l ≡ Some f → (x : Target) → f.target ≡ Some x → ident_eq p.id x.port ≡ true
      → bytes_eq p.project f.project ≡ true
  port_project k p at l f at_f x has is =
      let both = and_both (stands_so (λ (p : PortRow). p.id) x.port (is_target_port rows.ports f x) rows.ports) (stands_so (λ (q : RouterRow). q.id) x.router (is_target_router f) rows.routers) (leads l f at_f x has) in
      (and_both (bytes_eq p.project f.project) _
      (sym (stands_there (λ (q : PortRow). q.id) (is_target_port rows.ports f x) rows.ports (λ i. omega (arith, c.numbered.ids i)) k p at)
      ∙ (ap (λ i. stands_so (λ (q : PortRow). q.id) i (is_target_port rows.ports f x) rows.ports) (ident_same p.id x.port is) ∙ both.0))).0

-- what a test of a target tells of a floating address
pub target_there : (test : Target → Bool) (o : Option Target) → is_some_so test o ≡ true → (x : Target) × (o ≡ Some x) × (test x ≡ true)
target_there test None h = false_true _ h
target_there test (Some x) h = (x, refl, h)

-- the user is a floating address of the caller's own, which is told
pub floating_told : (rows : RowLists) (caller : Caller) → IsConsistent rows → (f : FloatingRow) → is_own caller f.project ≡ true → (l : ℕ) → slice_get rows.floatings l ≡ Some f
    → told_user rows caller (Some (FloatingKind, f.id)) ≡ Some (FloatingKind, f.id)
floating_told rows caller c f own l at = ap (λ (b : Bool). if b then Some (FloatingKind, f.id) else None)
    (stands_there (λ (g : FloatingRow). g.id) (λ (g : FloatingRow). is_own caller g.project) rows.floatings (λ i. omega (arith, c.numbered.ids i)) l f at ∙ own)

abbrev pub own_floatings : RowLists → Caller → List FloatingRow
own_floatings rows caller = own_rows (λ (f : FloatingRow). f.project) caller rows.floatings

pub floating_users : (rows : RowLists) (caller : Caller) → IsConsistent rows → (refusal : Option (Kind × Ident) → Refusal) (test : FloatingRow → Bool) → Each (λ f. test f ≡ true → is_own caller f.project ≡ true) rows.floatings
    → option_map (λ (f : FloatingRow). refusal (told_user rows caller (Some (FloatingKind, f.id)))) (find test rows.floatings)
    ≡ option_map (λ (f : FloatingRow). refusal (Some (FloatingKind, f.id))) (find test (own_floatings rows caller))
floating_users rows caller c refusal test own =
    ap (option_map (λ (f : FloatingRow). refusal (told_user rows caller (Some (FloatingKind, f.id))))) (sym (find-filter (λ (f : FloatingRow). is_own caller f.project) test rows.floatings own))
    ∙ option_each (λ (f : FloatingRow). refusal (told_user rows caller (Some (FloatingKind, f.id)))) (λ (f : FloatingRow). refusal (Some (FloatingKind, f.id))) (find test (own_floatings rows caller))
    (λ f found. let here = find_here test (own_floatings rows caller) f found in
    let there = at_filter (λ (g : FloatingRow). is_own caller g.project) rows.floatings here.0 f here.1 in
    ap refusal (floating_told rows caller c f there.2 there.0 there.1))

module _ (settings : SettingsParts) (caller : Caller) (tenant : caller.admin ≡ false) (s t : State) (c : IsConsistent s.rows) (d : IsConsistent t.rows) (same : footing settings s caller ≡ footing settings t caller) where
  -- a port that stands in both states, on a network that is near, has its addresses in the same subnets; it may differ in host and
  -- binding
  pub holds_alike : (k l : ℕ) (p o : PortRow) → slice_get s.rows.ports k ≡ Some p → slice_get t.rows.ports l ≡ Some o → blank_port p ≡ blank_port o → is_near s.rows caller p.network ≡ true → (test : SubnetRow → Bool)
      → holds_so test s.rows.subnets p ≡ holds_so test t.rows.subnets o
  holds_alike k l p o at_s at_t alike near test = holds_on s.rows c k p at_s test
      ∙ (ap (λ (z : Near). holds_so test z.subnets p) (near_same settings caller s t same p.network near)
      ∙ (ap (λ (x : PortRow). holds_so test (subnets_on t.rows.subnets x.network) x) alike ∙ sym (holds_on t.rows d l o at_t test)))

  -- whether the caller sees a port that stands in both states
  sees_same : (p o : PortRow) → blank_port p ≡ blank_port o → sees_port s.rows caller p ≡ sees_port t.rows caller o
  sees_same p o alike = ap (λ b. is_own caller p.project || b) (owns_alike settings caller tenant s t same p.network) ∙ ap (sees_port t.rows caller) alike

  pub port_told : (k l : ℕ) (p o : PortRow) → slice_get s.rows.ports k ≡ Some p → slice_get t.rows.ports l ≡ Some o → blank_port p ≡ blank_port o → (rule : UseRule) (kind : Kind) (i : Ident)
      → used_by_port s.rows caller rule kind i p ≡ used_by_port t.rows caller rule kind i o
  port_told k l p o at_s at_t alike rule kind i =
      let sees = sees_there s.rows caller c k p at_s ∙ (sees_same p o alike ∙ sym (sees_there t.rows caller d l o at_t)) in
      λ j. InUse rule kind i (if sees j then Some (PortKind, (alike j).id) else None)

  -- one of the caller's routers
  module _ (k l : ℕ) (r o : RouterRow) (at_s : slice_get s.rows.routers k ≡ Some r) (at_t : slice_get t.rows.routers l ≡ Some o) (own : bytes_eq r.project caller.project ≡ true) (alike : blank_router r ≡ blank_router o) where
    legs : map blank_port (router_ports s.rows.ports r) ≡ map blank_port (router_ports t.rows.ports o)
    legs = legs_alike settings caller s t c d same k l r o at_s at_t own alike

    leg_holds : (test : SubnetRow → Bool) (i j : ℕ) (p q : PortRow) → slice_get (router_ports s.rows.ports r) i ≡ Some p → slice_get (router_ports t.rows.ports o) j ≡ Some q → blank_port p ≡ blank_port q
        → holds_so test s.rows.subnets p ≡ holds_so test t.rows.subnets q
    leg_holds test i j p q at_p at_q one =
        let here = at_filter (is_port_of r) s.rows.ports i p at_p in
        let there = at_filter (is_port_of o) t.rows.ports j q at_q in
        holds_alike here.0 there.0 p q here.1 there.1 one (leg_near s.rows caller k r at_s own here.0 p here.1 here.2) test

    -- of its other ports, and of its interfaces
    some_hold : (i : Ident) (test : SubnetRow → Bool)
        → list_any (holds_so test s.rows.subnets) (other_ports i (router_ports s.rows.ports r)) ≡ list_any (holds_so test t.rows.subnets) (other_ports i (router_ports t.rows.ports o))
    some_hold i test = any_pairs blank_port (holds_so test s.rows.subnets) (holds_so test t.rows.subnets) (other_ports i (router_ports s.rows.ports r)) (other_ports i (router_ports t.rows.ports o))
        (sym (filter-map is_other blank_port (router_ports s.rows.ports r)) ∙ (ap (filter is_other) legs ∙ filter-map is_other blank_port (router_ports t.rows.ports o)))
        (λ n p q at_p at_q one.
        let here = at_filter is_other (router_ports s.rows.ports r) n p at_p in
        let there = at_filter is_other (router_ports t.rows.ports o) n q at_q in
        leg_holds test here.0 there.0 p q here.1 there.1 one)
      where
        is_other : PortRow → Bool
        is_other q = not (ident_eq i q.id)

    pub all_hold : (test : SubnetRow → Bool) → list_any (holds_so test s.rows.subnets) (router_ports s.rows.ports r) ≡ list_any (holds_so test t.rows.subnets) (router_ports t.rows.ports o)
    all_hold test = any_pairs blank_port (holds_so test s.rows.subnets) (holds_so test t.rows.subnets) (router_ports s.rows.ports r) (router_ports t.rows.ports o) legs
        (λ i p q at_p at_q one. leg_holds test i i p q at_p at_q one)

    pub interfaces_hold : (test : SubnetRow → Bool) → list_any (holds_so test s.rows.subnets) (interfaces_of s.rows.ports r) ≡ list_any (holds_so test t.rows.subnets) (interfaces_of t.rows.ports o)
    interfaces_hold test = any_pairs blank_port (holds_so test s.rows.subnets) (holds_so test t.rows.subnets) (interfaces_of s.rows.ports r) (interfaces_of t.rows.ports o)
        (interfaces_alike settings caller s t c d same k l r o at_s at_t own alike)
        (λ i p q at_p at_q one. let here = at_filter (λ (x : PortRow). is_interface x.owner && is_port_of r x) s.rows.ports i p at_p in
        let there = at_filter (λ (x : PortRow). is_interface x.owner && is_port_of o x) t.rows.ports i q at_q in
        holds_alike here.0 there.0 p q here.1 there.1 one (leg_near s.rows caller k r at_s own here.0 p here.1 (and_both (is_interface p.owner) (is_port_of r p) here.2).1) test)

    -- next hops
    pub bad_hop_alike : (hop : Hop) → is_bad_hop s.rows.subnets (router_ports s.rows.ports r) hop ≡ is_bad_hop t.rows.subnets (router_ports t.rows.ports o) hop
    bad_hop_alike hop =
        let reach = all_hold (λ (x : SubnetRow). contains x.prefix hop.next) in
        let held = sym (any-map (is_own_address hop.next) blank_port (router_ports s.rows.ports r))
        ∙ (ap (list_any (is_own_address hop.next)) legs ∙ any-map (is_own_address hop.next) blank_port (router_ports t.rows.ports o)) in
        λ j. held j || not (reach j)

    pub lost_hop_alike : (m n : ℕ) (p q : PortRow) → slice_get s.rows.ports m ≡ Some p → slice_get t.rows.ports n ≡ Some q → blank_port p ≡ blank_port q → is_port_of r p ≡ true → (hop : Hop)
        → is_lost_hop s.rows.subnets (other_ports p.id (router_ports s.rows.ports r)) p hop ≡ is_lost_hop t.rows.subnets (other_ports q.id (router_ports t.rows.ports o)) q hop
    lost_hop_alike m n p q at_m at_n one of hop =
        let reach : SubnetRow → Bool = λ (x : SubnetRow). contains x.prefix hop.next in
        let mine = holds_alike m n p q at_m at_n one (leg_near s.rows caller k r at_s own m p at_m of) reach in
        let others = some_hold p.id reach ∙ ap (λ (x : PortRow). list_any (holds_so reach t.rows.subnets) (other_ports x.id (router_ports t.rows.ports o))) one in
        λ j. mine j && not (others j)

    -- the router is its own user
    pub router_told : told_user s.rows caller (Some (RouterKind, r.id)) ≡ told_user t.rows caller (Some (RouterKind, o.id))
    router_told =
        let sees = stands_there (λ (q : RouterRow). q.id) (λ (q : RouterRow). is_own caller q.project) s.rows.routers (λ i. omega (arith, c.numbered.ids i)) k r at_s
        ∙ (ap (λ (x : RouterRow). is_own caller x.project) alike
        ∙ sym (stands_there (λ (q : RouterRow). q.id) (λ (q : RouterRow). is_own caller q.project) t.rows.routers (λ i. omega (arith, d.numbered.ids i)) l o at_t)) in
        λ j. if sees j then Some (RouterKind, (alike j).id) else None

  -- a floating address that uses something of the caller's is its own
  pub floating_user_alike : (refusal : Option (Kind × Ident) → Refusal) (test test' : FloatingRow → Bool) → Each (λ f. test f ≡ true → is_own caller f.project ≡ true) s.rows.floatings
      → Each (λ f. test' f ≡ true → is_own caller f.project ≡ true) t.rows.floatings → Each (λ f. test f ≡ test' f) (own_floatings s.rows caller)
      → option_map (λ (f : FloatingRow). refusal (told_user s.rows caller (Some (FloatingKind, f.id)))) (find test s.rows.floatings)
      ≡ option_map (λ (f : FloatingRow). refusal (told_user t.rows caller (Some (FloatingKind, f.id)))) (find test' t.rows.floatings)
  floating_user_alike refusal test test' own own' tests =
      floating_users s.rows caller c refusal test own
      ∙ (ap (option_map (λ (f : FloatingRow). refusal (Some (FloatingKind, f.id)))) (find-each test test' (own_floatings s.rows caller) tests ∙ ap (find test') (floatings_alike settings caller tenant s t same))
      ∙ sym (floating_users t.rows caller d refusal test' own'))

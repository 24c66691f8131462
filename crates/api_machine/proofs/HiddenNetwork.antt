-- What a footing leaves out: a network of another project that no policy opens is no part of it, but for the number that it takes.
use Rattle.std.proofs.Common.{◌≡◌, ℕ, ◌+◌, ◌-◌, List, [], ◌∷◌, ◌++◌, Bool, true, false, cond, Some, None, length, refl, ap, sym, ◌∙◌, arith, map}
use Rattle.std.specs.Prelude.{◌&&◌, ◌||◌, filter, find, is_some, nat_le, option_map}
use Rattle.std.specs.List.{list_any}
use Rattle.std.specs.Str.{bytes_eq}
use Rattle.api_types.specs.Consistent.{IsConsistent}
use Rattle.api_types.specs.Consistent.Carried.{is_bound}
use Rattle.api_types.specs.Consistent.Numbered.{times_in}
use Rattle.api_types.specs.Consistent.Segments.{most_networks}
use Rattle.api_types.specs.Ident.{Ident}
use Rattle.api_types.specs.Lists.{Each, stands, stands_so}
use Rattle.api_types.specs.RowLists.{RowLists}
use Rattle.api_types.specs.Sharing.{grants, is_granted}
use Rattle.api_types.specs.Table.{ident_eq, row_of}
use Rattle.api_types.specs.declared.call.Caller.{Caller}
use Rattle.api_types.specs.declared.network.NetworkRow.{NetworkRow}
use Rattle.api_types.specs.declared.policy.Action.{Action}
use Rattle.api_types.specs.declared.policy.Action.TheVariants.{External, Shared}
use Rattle.api_types.specs.declared.policy.PolicyRow.{PolicyRow}
use Rattle.api_types.specs.declared.port.PortRow.{PortRow}
use Rattle.net_settings.specs.Settings.{SettingsParts}
use Rattle.row_laws.specs.NewRows.{with_network}
use Rattle.api_policy.specs.Visibility.{is_own, owns_network, seen_networks, seen_ports, seen_subnets, sees_network, sees_port, sees_subnet, uses_network}
use Rattle.apart_laws.specs.Footing.{blank, blank_port, footing, guard, held_of, is_close, is_held_by, is_near, near_of}
use Rattle.api_ml2.specs.Numbers.{least_free}
use Rattle.call_parts.specs.State.{State}
use Rattle.api_types.proofs.ListLemmas.{any-filter_none, any-none, any-push, none-any, none-counted, or_false}
use Rattle.api_types.proofs.NameLemmas.{and_fails, by_test, first_fails, ident_same, unnamed}
use Rattle.apart_laws.proofs.FootingLemmas.{network_id}
use Rattle.apart_laws.proofs.ListLemmas.{filter-each}

-- a row that passes no test, behind others

pub filter-push : {A : Type 0} (test : A → Bool) (xs : List A) (x : A) → test x ≡ false → filter test (xs ++ x ∷ []) ≡ filter test xs
filter-push test [] x fails = ap (λ b. cond b (x ∷ []) []) fails
filter-push test (a ∷ xs) x fails = ap (λ zs. cond (test a) (a ∷ zs) zs) (filter-push test xs x fails)

pub find-push : {A : Type 0} (test : A → Bool) (xs : List A) (x : A) → test x ≡ false → find test (xs ++ x ∷ []) ≡ find test xs
find-push test [] x fails = ap (λ b. cond b (Some x) None) fails
find-push test (a ∷ xs) x fails = ap (cond (test a) (Some a)) (find-push test xs x fails)

any-push_other : {A : Type 0} (test : A → Bool) (xs : List A) (x : A) → test x ≡ false → list_any test (xs ++ x ∷ []) ≡ list_any test xs
any-push_other test xs x fails = any-push test xs x ∙ (ap (λ b. list_any test xs || b) fails ∙ or_false (list_any test xs))

pub guard_either : {X : Type 0} (b : Bool) (x y : X) → (b ≡ true → x ≡ y) → guard b x ≡ guard b y
guard_either true x y same = ap Some (same refl)
guard_either false x y same = refl

module _ (caller : Caller) (tenant : caller.admin ≡ false) (rows : RowLists) (c : IsConsistent rows) (n : NetworkRow) (fresh : times_in rows n.id ≡ 0) (others : bytes_eq n.project caller.project ≡ false) where
  unknown : list_any (λ (r : NetworkRow). ident_eq n.id r.id) rows.networks ≡ false
  unknown = none-counted (λ (r : NetworkRow). ident_eq n.id r.id) rows.networks (omega (arith, fresh))

  no_policy : Each (λ (l : PolicyRow). ident_eq n.id l.object ≡ false) rows.policies
  no_policy = unnamed network_id n.id rows.networks (λ (l : PolicyRow). l.object) rows.policies unknown c.named.networks.of_policies

  no_port : Each (λ (p : PortRow). ident_eq n.id p.network ≡ false) rows.ports
  no_port = unnamed network_id n.id rows.networks (λ (p : PortRow). p.network) rows.ports unknown c.named.networks.of_ports

  not_granted : (action : Action) → is_granted rows.policies action n.id caller.project ≡ false
  not_granted action = any-none (grants action n.id caller.project) rows.policies (λ k l at. first_fails _ _ (no_policy k l at))

  networks_still : seen_networks (with_network rows n) caller ≡ seen_networks rows caller
  networks_still = filter-push (sees_network rows caller) rows.networks n (λ j. (tenant j || others j) || (not_granted Shared j || not_granted External j))

  owns_still : (i : Ident) → owns_network (with_network rows n) caller.project i ≡ owns_network rows caller.project i
  owns_still i = any-push_other (λ (r : NetworkRow). ident_eq i r.id && bytes_eq r.project caller.project) rows.networks n (and_fails (ident_eq i n.id) (bytes_eq n.project caller.project) others)

  uses_still : (i : Ident) → uses_network (with_network rows n) caller.project i ≡ uses_network rows caller.project i
  uses_still i = any-push_other (λ (r : NetworkRow). ident_eq i r.id && (bytes_eq r.project caller.project || is_granted rows.policies Shared r.id caller.project)) rows.networks n
      (and_fails (ident_eq i n.id) (bytes_eq n.project caller.project || is_granted rows.policies Shared n.id caller.project) (λ j. others j || not_granted Shared j))

  subnets_still : seen_subnets (with_network rows n) caller ≡ seen_subnets rows caller
  subnets_still = filter-each (sees_subnet (with_network rows n) caller) (sees_subnet rows caller) rows.subnets (λ k r at. ap (λ b. is_own caller r.project || b) (uses_still r.network))

  ports_still : seen_ports (with_network rows n) caller ≡ seen_ports rows caller
  ports_still = filter-each (sees_port (with_network rows n) caller) (sees_port rows caller) rows.ports (λ k p at. ap (λ b. is_own caller p.project || b) (owns_still p.network))

  -- what fails for the new id holds of other ids alone
  unlike : (test : Ident → Bool) → test n.id ≡ false → (i : Ident) → test i ≡ true → ident_eq i n.id ≡ false
  unlike test fails i holds = by_test (ident_eq i n.id) (ident_eq i n.id ≡ false) (λ is. let clash : true ≡ false = sym holds ∙ (ap test (ident_same i n.id is) ∙ fails) in cc) (λ fails. fails)

  found_still : (i : Ident) → ident_eq i n.id ≡ false → row_of network_id i (rows.networks ++ n ∷ []) ≡ row_of network_id i rows.networks
  found_still i other = find-push (λ (r : NetworkRow). ident_eq i r.id) rows.networks n other

  not_near : is_near rows caller n.id ≡ false
  not_near = λ j. any-filter_none (sees_network rows caller) (λ (r : NetworkRow). ident_eq n.id r.id) rows.networks unknown j
      || any-none (λ p. ident_eq n.id p.network && is_close rows caller.project p) rows.ports (λ k p at. first_fails _ _ (no_port k p at)) j

  not_held : is_held_by rows caller.project n.id ≡ false
  not_held = λ j. any-none (λ (r : NetworkRow). ident_eq n.id r.id && bytes_eq r.project caller.project) rows.networks
      (λ k r at. first_fails _ _ (none-any (λ (r : NetworkRow). ident_eq n.id r.id) rows.networks unknown k r at)) j
      || any-none (λ (l : PolicyRow). ident_eq n.id l.object && bytes_eq l.project caller.project) rows.policies (λ k l at. first_fails _ _ (no_policy k l at)) j

  near_still : (i : Ident) → guard (is_near (with_network rows n) caller i) (near_of (with_network rows n) caller.project i) ≡ guard (is_near rows caller i) (near_of rows caller.project i)
  near_still i = ap (λ seen. guard (stands network_id i seen || list_any (λ p. ident_eq i p.network && is_close rows caller.project p) rows.ports) (near_of (with_network rows n) caller.project i)) networks_still
      ∙ guard_either (is_near rows caller i) (near_of (with_network rows n) caller.project i) (near_of rows caller.project i)
      (λ near. let found = found_still i (unlike (is_near rows caller) not_near i near) in
      (λ j. record (near_of rows caller.project i) {
        up = option_map (λ (r : NetworkRow). r.up) (found j);
      }))

  held_still : (i : Ident) → guard (is_held_by (with_network rows n) caller.project i) (held_of (with_network rows n) i) ≡ guard (is_held_by rows caller.project i) (held_of rows i)
  held_still i = ap (λ b. guard (b || list_any (λ (l : PolicyRow). ident_eq i l.object && bytes_eq l.project caller.project) rows.policies) (held_of (with_network rows n) i)) (owns_still i)
      ∙ guard_either (is_held_by rows caller.project i) (held_of (with_network rows n) i) (held_of rows i)
      (λ held. let found = found_still i (unlike (is_held_by rows caller.project) not_held i held) in
      (λ j. record (held_of rows i) { project = option_map (λ (r : NetworkRow). r.project) (found j) }))

  pub hidden_network : (settings : SettingsParts) (version : ℕ)
      → is_some (least_free (rows.networks ++ n ∷ []) settings.vxlan_first (settings.vxlan_last + 1 - settings.vxlan_first)) ≡ is_some (least_free rows.networks settings.vxlan_first (settings.vxlan_last + 1 - settings.vxlan_first))
      → nat_le most_networks (length (rows.networks ++ n ∷ [])) ≡ nat_le most_networks (length rows.networks)
      → footing settings (record { rows = with_network rows n; version = version }) caller ≡ footing settings (record { rows = rows; version = version }) caller
  hidden_network settings version number full = let state : State = record { rows = rows; version = version } in
      λ j. record (footing settings state caller) {
        networks = map blank (networks_still j);
        subnets = subnets_still j;
        ports = map blank_port (ports_still j);
        bound = λ i. stands_so (λ (p : PortRow). p.id) i (λ p. is_bound p.vif) (ports_still j);
        near = λ i. near_still i j;
        held = λ i. held_still i j;
        has_number = number j;
        is_full = full j;
      }

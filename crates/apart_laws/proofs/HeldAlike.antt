-- What a tenant's footing tells of a network that its project holds: its owner, the policies on it, and by what its ports are there.
use Rattle.std.proofs.Common.{◌≡◌, ℕ, List, Bool, true, false, Option, Some, None, refl, ap, sym, ◌∙◌, map, not}
use Rattle.std.specs.Prelude.{◌&&◌, ◌||◌, filter, find, option_map, if◌then◌else◌}
use Rattle.std.specs.Str.{bytes_eq}
use Rattle.api_policy.specs.PolicyNeeds.{policy_user}
use Rattle.api_policy.specs.Uses.{used_by_port}
use Rattle.api_policy.specs.Visibility.{owns_network, seen_ports, sees_port, sees_row}
use Rattle.apart_laws.specs.Footing.{Held, blank_port, footing, held_of, is_held_by}
use Rattle.api_policy.specs.Served.{HeldPort, held_port}
use Rattle.call_parts.specs.State.{State}
use Rattle.api_types.specs.Consistent.{IsConsistent}
use Rattle.api_types.specs.Ident.{Ident}
use Rattle.api_types.specs.Lists.{is_empty, is_some_so}
use Rattle.api_types.specs.RowLists.{RowLists}
use Rattle.api_types.specs.Sharing.{grants, is_granted}
use Rattle.api_types.specs.Table.{ident_eq, row_of}
use Rattle.api_types.specs.declared.call.Caller.{Caller}
use Rattle.api_types.specs.declared.kind.Kind.TheVariants.{Port as PortKind}
use Rattle.api_types.specs.declared.kind.Kind.{Kind}
use Rattle.api_types.specs.declared.network.NetworkRow.{NetworkRow}
use Rattle.api_types.specs.declared.policy.Action.{Action}
use Rattle.api_types.specs.declared.policy.Action.TheVariants.{External, Shared}
use Rattle.api_types.specs.declared.policy.PolicyRow.{PolicyRow}
use Rattle.api_types.specs.declared.port.PortRow.{PortRow}
use Rattle.api_types.specs.declared.refusal.Refusal.TheVariants.{InUse}
use Rattle.api_types.specs.declared.refusal.Refusal.{Refusal}
use Rattle.api_types.specs.declared.refusal.UseRule.{UseRule}
use Rattle.net_settings.specs.Settings.{SettingsParts}
use Rattle.api_types.proofs.ListLemmas.{any-filter, at_filter, some_equal}
use Rattle.api_types.proofs.NameLemmas.{first_fails, ident_same}
use Rattle.apart_laws.proofs.FootingLemmas.{guard_same, network_id}
use Rattle.apart_laws.proofs.ListLemmas.{filter-both, filter-each, filter-map, filter-then, find_here}
use Rattle.apart_laws.proofs.ApartLemmas.{option_each}
use Rattle.apart_laws.proofs.FoundTold.{find-then, found_told, told_of}
use Rattle.apart_laws.proofs.OwnAlike.{map-then, owns_alike, sees_there}

-- the policies on a network
abbrev pub policies_on : Ident → List PolicyRow → List PolicyRow
policies_on i policies = filter (λ (l : PolicyRow). ident_eq i l.object) policies

-- they alone tell to whom it is shared or external
pub granted_on : (policies : List PolicyRow) (action : Action) (i : Ident) (project : List ℕ) → is_granted policies action i project ≡ is_granted (policies_on i policies) action i project
granted_on policies action i project = sym (any-filter (λ (l : PolicyRow). ident_eq i l.object) (grants action i project) policies (λ k l at fails. first_fails _ _ fails))

-- a port, by what is told of it, needs what isn't permitted any more, of a network of this project
abbrev pub lacks : (Action → List ℕ → Bool) → List ℕ → HeldPort → Bool
lacks permits project p =
    (not p.by_admin && not (is_empty p.project) && not (bytes_eq p.project project) && not (permits Shared p.project))
    || (is_empty p.project && is_some_so (λ name. not (permits External name)) p.served)

-- the caller sees a port on the network
abbrev pub is_seen_by : List ℕ → Bool → HeldPort → Bool
is_seen_by project owns p = bytes_eq p.project project || owns

abbrev pub ports_at : Ident → List PortRow → List PortRow
ports_at i ports = filter (λ (p : PortRow). ident_eq i p.network) ports

-- the first port on a network that lacks what isn't permitted
abbrev pub user_by : RowLists → Ident → (Action → List ℕ → Bool) → List ℕ → Option PortRow
user_by rows i permits project = find (λ p. lacks permits project (held_port rows p)) (ports_at i rows.ports)

abbrev pub permits_on : Ident → List PolicyRow → Action → List ℕ → Bool
permits_on i policies action project = is_granted policies action i project

pub user_on : (rows : RowLists) (policies : List PolicyRow) (n : NetworkRow) → policy_user rows policies n ≡ user_by rows n.id (permits_on n.id (policies_on n.id policies)) n.project
user_on rows policies n = find-then (λ (p : PortRow). ident_eq n.id p.network) (λ p. lacks (permits_on n.id policies) n.project (held_port rows p)) rows.ports
    ∙ (λ j. user_by rows n.id (λ action name. granted_on policies action n.id name j) n.project)

-- what is told of a port that is found, by whether the caller owns the network
abbrev pub user_told : List ℕ → Bool → RowLists → PortRow → HeldPort × Option PortRow
user_told project owns rows p = told_of blank_port (is_seen_by project owns) (held_port rows) p

abbrev pub told_use : UseRule → Kind → Ident → HeldPort × Option PortRow → Refusal
told_use rule kind i told = InUse rule kind i (option_map (λ (p : PortRow). (PortKind, p.id)) told.1)

module _ (rows : RowLists) (caller : Caller) (tenant : caller.admin ≡ false) (c : IsConsistent rows) (i : Ident) where
  seen_on : (p : PortRow) → ident_eq i p.network ≡ true → is_seen_by caller.project (owns_network rows caller.project i) (held_port rows p) ≡ sees_port rows caller p
  seen_on p on = λ j. (sym tenant j || bytes_eq p.project caller.project) || owns_network rows caller.project (ident_same i p.network on j)

  -- of the ports on the network those that are seen are among those that the caller sees
  pub seen_at : filter (λ p. is_seen_by caller.project (owns_network rows caller.project i) (held_port rows p)) (ports_at i rows.ports) ≡ ports_at i (seen_ports rows caller)
  seen_at = filter-each (λ p. is_seen_by caller.project (owns_network rows caller.project i) (held_port rows p)) (sees_port rows caller) (ports_at i rows.ports)
      (λ k p at. seen_on p (at_filter (λ (q : PortRow). ident_eq i q.network) rows.ports k p at).2)
      ∙ (sym (filter-both (sees_port rows caller) (λ (p : PortRow). ident_eq i p.network) rows.ports) ∙ filter-then (sees_port rows caller) (λ (p : PortRow). ident_eq i p.network) rows.ports)

  blank_at : map blank_port (filter (λ p. is_seen_by caller.project (owns_network rows caller.project i) (held_port rows p)) (ports_at i rows.ports)) ≡ ports_at i (map blank_port (seen_ports rows caller))
  blank_at = ap (map blank_port) seen_at ∙ sym (filter-map (λ (p : PortRow). ident_eq i p.network) blank_port (seen_ports rows caller))

  -- a user that is found on the network is told where the caller sees it
  pub use_told : (rule : UseRule) (kind : Kind) (j : Ident) (test : PortRow → Bool)
      → option_map (used_by_port rows caller rule kind j) (find test (ports_at i rows.ports))
      ≡ option_map (λ p. told_use rule kind j (user_told caller.project (owns_network rows caller.project i) rows p)) (find test (ports_at i rows.ports))
  use_told rule kind j test = option_each (used_by_port rows caller rule kind j) (λ p. told_use rule kind j (user_told caller.project (owns_network rows caller.project i) rows p)) (find test (ports_at i rows.ports))
      (λ p found. let here = find_here test (ports_at i rows.ports) p found in
      let there = at_filter (λ (q : PortRow). ident_eq i q.network) rows.ports here.0 p here.1 in
      told_by p (sees_row rows caller PortKind p.id) (is_seen_by caller.project (owns_network rows caller.project i) (held_port rows p)) (sees_there rows caller c there.0 p there.1 ∙ sym (seen_on p there.2)))
    where
      told_by : (p : PortRow) (a b : Bool) → a ≡ b → InUse rule kind j (if a then Some (PortKind, p.id) else None) ≡ InUse rule kind j (option_map (λ (p : PortRow). (PortKind, p.id)) (if b then Some (blank_port p) else None))
      told_by p true true e = refl
      told_by p false false e = refl
      told_by p true false e = cc
      told_by p false true e = cc

module _ (settings : SettingsParts) (caller : Caller) (tenant : caller.admin ≡ false) (s t : State) (c : IsConsistent s.rows) (d : IsConsistent t.rows) (same : footing settings s caller ≡ footing settings t caller) where
  pub held_alike : (i : Ident) → is_held_by s.rows caller.project i ≡ true → held_of s.rows i ≡ held_of t.rows i
  held_alike i held = guard_same (is_held_by s.rows caller.project i) (is_held_by t.rows caller.project i) _ _ (ap (λ f. f.held i) same) held

  -- a network that is held is told alike, where it is there
  pub project_alike : (n m : NetworkRow) → is_held_by s.rows caller.project n.id ≡ true → row_of network_id n.id s.rows.networks ≡ Some n → row_of network_id n.id t.rows.networks ≡ Some m → n.project ≡ m.project
  project_alike n m held at_n at_m = some_equal n.project m.project (sym (ap (option_map (λ (x : NetworkRow). x.project)) at_n)
      ∙ (ap (λ (h : Held). h.project) (held_alike n.id held) ∙ ap (option_map (λ (x : NetworkRow). x.project)) at_m))

  user_by_alike : (i : Ident) → is_held_by s.rows caller.project i ≡ true → (permits : Action → List ℕ → Bool) (project : List ℕ)
      → option_map (user_told caller.project (owns_network s.rows caller.project i) s.rows) (user_by s.rows i permits project)
      ≡ option_map (user_told caller.project (owns_network t.rows caller.project i) t.rows) (user_by t.rows i permits project)
  user_by_alike i held permits project =
      found_told blank_port (held_port s.rows) (held_port t.rows) (is_seen_by caller.project (owns_network s.rows caller.project i)) (lacks permits project) (ports_at i s.rows.ports) (ports_at i t.rows.ports)
      (ap (λ (h : Held). h.ports) (held_alike i held))
      (blank_at s.rows caller tenant c i ∙ (ap (λ f. ports_at i f.ports) same
      ∙ (sym (blank_at t.rows caller tenant d i) ∙ (λ j. map blank_port (filter (λ p. is_seen_by caller.project (sym owns j) (held_port t.rows p)) (ports_at i t.rows.ports))))))
      ∙ (λ j. option_map (user_told caller.project (owns j) t.rows) (user_by t.rows i permits project))
    where
      owns : owns_network s.rows caller.project i ≡ owns_network t.rows caller.project i
      owns = owns_alike settings caller tenant s t same i

  -- the first port that lacks what policies permit, by policies that are alike on the network
  pub user_alike : (n m : NetworkRow) → n.id ≡ m.id → n.project ≡ m.project → is_held_by s.rows caller.project n.id ≡ true → (kept left : List PolicyRow) → policies_on n.id kept ≡ policies_on m.id left
      → option_map (user_told caller.project (owns_network s.rows caller.project n.id) s.rows) (policy_user s.rows kept n)
      ≡ option_map (user_told caller.project (owns_network t.rows caller.project m.id) t.rows) (policy_user t.rows left m)
  user_alike n m ids projects held kept left alike =
      ap (option_map (user_told caller.project (owns_network s.rows caller.project n.id) s.rows)) (user_on s.rows kept n)
      ∙ (user_by_alike n.id held (permits_on n.id (policies_on n.id kept)) n.project
      ∙ ((λ j. option_map (user_told caller.project (owns_network t.rows caller.project (ids j)) t.rows) (user_by t.rows (ids j) (permits_on (ids j) (alike j)) (projects j)))
      ∙ ap (option_map (user_told caller.project (owns_network t.rows caller.project m.id) t.rows)) (sym (user_on t.rows left m))))

  -- so the use is told alike
  pub use_alike : (rule : UseRule) (kind : Kind) (i : Ident) (n m : NetworkRow) → n.id ≡ m.id → n.project ≡ m.project → is_held_by s.rows caller.project n.id ≡ true → (kept left : List PolicyRow)
      → policies_on n.id kept ≡ policies_on m.id left
      → option_map (used_by_port s.rows caller rule kind i) (policy_user s.rows kept n) ≡ option_map (used_by_port t.rows caller rule kind i) (policy_user t.rows left m)
  use_alike rule kind i n m ids projects held kept left alike =
      told_at s c n kept ∙ (ap (option_map (told_use rule kind i)) (user_alike n m ids projects held kept left alike) ∙ sym (told_at t d m left))
    where
      told_at : (state : State) → IsConsistent state.rows → (r : NetworkRow) (policies : List PolicyRow)
          → option_map (used_by_port state.rows caller rule kind i) (policy_user state.rows policies r)
          ≡ option_map (told_use rule kind i) (option_map (user_told caller.project (owns_network state.rows caller.project r.id) state.rows) (policy_user state.rows policies r))
      told_at state e r policies =
          ap (option_map (used_by_port state.rows caller rule kind i)) (user_on state.rows policies r)
          ∙ (use_told state.rows caller tenant e r.id rule kind i (λ p. lacks (permits_on r.id (policies_on r.id policies)) r.project (held_port state.rows p))
          ∙ (sym (map-then (user_told caller.project (owns_network state.rows caller.project r.id) state.rows) (told_use rule kind i) (user_by state.rows r.id (permits_on r.id (policies_on r.id policies)) r.project))
          ∙ ap (λ o. option_map (told_use rule kind i) (option_map (user_told caller.project (owns_network state.rows caller.project r.id) state.rows) o)) (sym (user_on state.rows policies r))))

-- What a project draws follows from what its footing tells of its counters, and ids that are drawn name no row.
use Rattle.std.proofs.Common.{◌≡◌, ℕ, ◌+◌, ◌-◌, ◌<◌, ◌≤◌, ◌^◌, ◌++◌, zero, suc, List, [], ◌∷◌, Bool, true, false, cond, Option, Some, None, length, slice_get, refl, ap, sym, ◌∙◌, arith, map, not, subst}
use Rattle.std.specs.Prelude.{◌&&◌, find, nat_lt, option_map, position, if◌then◌else◌}
use Rattle.std.specs.List.{list_any, position_or_len}
use Rattle.std.specs.Str.{bytes_eq}
use Rattle.std.proofs.lemmas.Bool.Decides.{nat_tests}
use Rattle.std.proofs.lemmas.List.Elements.{filter-append}
use Rattle.std.proofs.lemmas.List.Folds.{find_at}
use Rattle.std.proofs.lemmas.Option.{slice_get_past}
use Rattle.api_types.specs.Consistent.{IsConsistent}
use Rattle.api_types.specs.Registration.{Drawing, default_group, draw_at, draw_for, draw_of, drawn_id, is_named, with_count, with_project}
use Rattle.api_types.specs.Lists.{is_empty}
use Rattle.api_types.specs.RowLists.{RowLists}
use Rattle.api_types.specs.Table.{ident_eq}
use Rattle.api_types.specs.declared.call.Caller.{Caller}
use Rattle.api_types.specs.declared.group.GroupRow.{GroupRow}
use Rattle.api_types.specs.declared.network.NetworkRow.{NetworkRow}
use Rattle.api_types.specs.declared.policy.Action.{Action}
use Rattle.api_types.specs.declared.policy.PolicyRow.{PolicyRow}
use Rattle.api_types.specs.declared.subnet.SubnetRow.{SubnetRow}
use Rattle.net_settings.specs.Settings.{SettingsParts}
use Rattle.row_laws.specs.Drawn.{IsDrawing}
use Rattle.row_laws.specs.NewRows.{with_network}
use Rattle.api_policy.specs.Visibility.{sees_subnet}
use Rattle.api_policy.specs.Networks.{is_open, permits_all, subnets_of}
use Rattle.apart_laws.specs.Footing.{Drawer, Known, New, drawer_at, drawer_of, footing, owned}
use Rattle.call_parts.specs.State.{State, drawing_at, is_last}
use Rattle.row_laws.proofs.DrawnKept.{draws}
use Rattle.api_types.proofs.ListLemmas.{any-none, none-counted, none_some, some_equal}
use Rattle.api_types.proofs.NameLemmas.{bytes_itself, first_fails, unnamed}
use Rattle.apart_laws.proofs.ListLemmas.{filter-none}
use Rattle.apart_laws.proofs.FootingLemmas.{network_id}

-- the first row that passes, and its place
by_place : {R : Type 0} (test : R → Bool) (xs : List R) (P : Option ℕ → Option R → Type 0) → P None None → ((k : ℕ) (x : R) → slice_get xs k ≡ Some x → P (Some k) (Some x))
    → P (position test xs) (find test xs)
by_place {R} test xs P none some = subst (P (position test xs)) (sym (find_at test xs)) (by (nat_lt (position_or_len test xs) (length xs)) refl)
  where
    above : (a b : ℕ) → nat_lt a b ≡ false → b ≤ a
    above a b h = grind (arith, nat_tests)

    below : (a b : ℕ) → nat_lt a b ≡ true → a < b
    below a b h = grind (arith, nat_tests)

    there : (ys : List R) (k : ℕ) → k < length ys → slice_get ys k ≡ None → (Q : Type 0) → Q
    there [] k h none Q = absurd (omega (arith, h))
    there (y ∷ ys) zero h none Q = none_some y Q (sym none)
    there (y ∷ ys) (suc k) h none Q = there ys k (omega (arith, h)) none Q

    here : position_or_len test xs < length xs → (o : Option R) → slice_get xs (position_or_len test xs) ≡ o → P (Some (position_or_len test xs)) o
    here within None e = there xs (position_or_len test xs) within e _
    here within (Some x) e = some (position_or_len test xs) x e

    by : (b : Bool) → nat_lt (position_or_len test xs) (length xs) ≡ b → P (cond b (Some (position_or_len test xs)) None) (slice_get xs (position_or_len test xs))
    by true e = here (below (position_or_len test xs) (length xs) e) (slice_get xs (position_or_len test xs)) refl
    by false e = subst (P None) (sym (slice_get_past xs (position_or_len test xs) (above (position_or_len test xs) (length xs) e))) none

-- the ordinal and the first count

abbrev pub counts_of : Drawing → ℕ × ℕ
counts_of d = (d.ordinal, d.first)

abbrev pub drawn_by : Drawer → ℕ → Option (ℕ × ℕ)
drawn_by (Known ordinal count) many = if nat_lt (count + many) (2 ^ 62) then Some (ordinal, count + 1) else None
drawn_by (New others) many = if nat_lt others (2 ^ 32 - 1) then Some (others + 1, 6) else None

map-if : {X Y : Type 0} (f : X → Y) (b : Bool) (x : X) → option_map f (if b then Some x else None) ≡ (if b then Some (f x) else None)
map-if f true x = refl
map-if f false x = refl

taken : {X : Type 0} (b : Bool) (x y : X) → (if b then Some x else None) ≡ Some y → x ≡ y
taken true x y h = some_equal x y h
taken false x y h = none_some y _ h

counts_by : (rows : RowLists) (name : List ℕ) (many : ℕ) → option_map counts_of (draw_of rows name many) ≡ drawn_by (drawer_of rows.projects name) many
counts_by rows name many = by_place (is_named name) rows.projects (λ place found. option_map counts_of (draw_at rows name many place) ≡ drawn_by (drawer_at rows.projects found) many)
    (map-if counts_of (nat_lt (length rows.projects) (2 ^ 32 - 1)) (record { rows = with_project rows name (length rows.projects + 1) (5 + many); ordinal = length rows.projects + 1; first = 6 }))
    (λ k p at. ap (λ o. option_map counts_of (draw_for rows k many o)) at
    ∙ map-if counts_of (nat_lt (p.count + many) (2 ^ 62)) (record { rows = with_count rows k p (p.count + many); ordinal = p.ordinal; first = p.count + 1 }))

-- the groups of a project

abbrev pub groups_of : List ℕ → List GroupRow → List GroupRow
groups_of project groups = owned (λ (r : GroupRow). r.project) project groups

-- a new project has its default group

abbrev pub groups_by : Drawer → List ℕ → List GroupRow → List GroupRow
groups_by (Known ordinal count) name groups = groups
groups_by (New others) name groups = groups ++ default_group name (others + 1) ∷ []

drawn_groups : (rows : RowLists) (name : List ℕ) (many : ℕ) (d : Drawing) → draw_of rows name many ≡ Some d → d.rows.groups ≡ groups_by (drawer_of rows.projects name) name rows.groups
drawn_groups rows name many d = by_place (is_named name) rows.projects (λ place found. draw_at rows name many place ≡ Some d → d.rows.groups ≡ groups_by (drawer_at rows.projects found) name rows.groups)
    (λ h. ap (λ (x : Drawing). x.rows.groups)
    (sym (taken (nat_lt (length rows.projects) (2 ^ 32 - 1)) (record { rows = with_project rows name (length rows.projects + 1) (5 + many); ordinal = length rows.projects + 1; first = 6 }) d h)))
    (λ k p at h. ap (λ (x : Drawing). x.rows.groups)
    (sym (taken (nat_lt (p.count + many) (2 ^ 62)) (record { rows = with_count rows k p (p.count + many); ordinal = p.ordinal; first = p.count + 1 }) d (sym (ap (draw_for rows k many) at) ∙ h))))

own_groups : (name : List ℕ) (drawer : Drawer) (groups : List GroupRow)
    → groups_of name (groups_by drawer name groups) ≡ groups_by drawer name (groups_of name groups)
own_groups name (Known ordinal count) groups = refl
own_groups name (New others) groups = filter-append (λ (r : GroupRow). bytes_eq r.project name) groups (default_group name (others + 1) ∷ [])
    ∙ ap (λ b. groups_of name groups ++ cond b (default_group name (others + 1) ∷ []) []) (bytes_itself name)

module _ (settings : SettingsParts) (caller : Caller) (s t : State) (same : footing settings s caller ≡ footing settings t caller) where
  drawing_counts : (state : State) (many : ℕ) → option_map counts_of (drawing_at state caller.project many) ≡ (if is_last state then None else drawn_by (drawer_of state.rows.projects caller.project) many)
  drawing_counts state many = by (is_last state)
    where
      by : (b : Bool) → option_map counts_of (if b then None else draw_of state.rows caller.project many) ≡ (if b then None else drawn_by (drawer_of state.rows.projects caller.project) many)
      by true = refl
      by false = counts_by state.rows caller.project many

  pub counts_same : (many : ℕ) → option_map counts_of (drawing_at s caller.project many) ≡ option_map counts_of (drawing_at t caller.project many)
  counts_same many = drawing_counts s many ∙ ((λ j. if (same j).is_last then None else drawn_by (same j).drawer many) ∙ sym (drawing_counts t many))

  -- of the groups after the drawing, the project's own are the same
  pub groups_same : (many : ℕ) (d e : Drawing) → draw_of s.rows caller.project many ≡ Some d → draw_of t.rows caller.project many ≡ Some e
      → groups_of caller.project d.rows.groups ≡ groups_of caller.project e.rows.groups
  groups_same many d e at_d at_e =
      ap (groups_of caller.project) (drawn_groups s.rows caller.project many d at_d)
      ∙ (own_groups caller.project (drawer_of s.rows.projects caller.project) s.rows.groups
      ∙ ((λ j. groups_by (same j).drawer caller.project (same j).groups)
      ∙ (sym (own_groups caller.project (drawer_of t.rows.projects caller.project) t.rows.groups)
      ∙ ap (groups_of caller.project) (sym (drawn_groups t.rows caller.project many e at_e)))))

-- a drawing is one of ids
drawn_now : (state : State) (name : List ℕ) (many : ℕ) (d : Drawing) → drawing_at state name many ≡ Some d → draw_of state.rows name many ≡ Some d
drawn_now state name many d = by (is_last state)
  where
    by : (b : Bool) → (if b then None else draw_of state.rows name many) ≡ Some d → draw_of state.rows name many ≡ Some d
    by true h = none_some d _ h
    by false h = h

pub drawn_ids : (state : State) (name : List ℕ) (many : ℕ) (d : Drawing) → IsConsistent state.rows → not (is_empty name) ≡ true → 5 + many < 2 ^ 62
    → drawing_at state name many ≡ Some d → IsDrawing state.rows name many d × (draw_of state.rows name many ≡ Some d)
drawn_ids state name many d c named few at = let now = drawn_now state name many d at in (draws state.rows name many d c named few now, now)

pub drawn_one : (state : State) (name : List ℕ) (d : Drawing) → IsConsistent state.rows → not (is_empty name) ≡ true → drawing_at state name 1 ≡ Some d
    → IsDrawing state.rows name 1 d × (draw_of state.rows name 1 ≡ Some d)
drawn_one state name d c named at = drawn_ids state name 1 d c named (omega arith) at

-- no row names a network with a new id
module _ (rows : RowLists) (name : List ℕ) (d : Drawing) (is : IsDrawing rows name 1 d) where
  unknown : list_any (λ (r : NetworkRow). ident_eq (drawn_id d 0) r.id) d.rows.networks ≡ false
  unknown = none-counted (λ (r : NetworkRow). ident_eq (drawn_id d 0) r.id) d.rows.networks (omega (arith, is.fresh 0 (omega arith)))

  pub new_not_open : (action : Action) → is_open d.rows.policies (drawn_id d 0) action ≡ false
  new_not_open action = any-none (permits_all (drawn_id d 0) action) d.rows.policies (λ k p at. first_fails _ _
      (unnamed network_id (drawn_id d 0) d.rows.networks (λ (r : PolicyRow). r.object) d.rows.policies unknown is.consistent.named.networks.of_policies k p at))

  pub new_no_subnets : (caller : Caller) (n : NetworkRow) → subnets_of (with_network d.rows n) caller (drawn_id d 0) ≡ []
  new_no_subnets caller n = ap (map (λ (r : SubnetRow). r.id))
      (filter-none (λ (r : SubnetRow). ident_eq (drawn_id d 0) r.network && sees_subnet (with_network d.rows n) caller r) d.rows.subnets (λ k r at. first_fails _ _
      (unnamed network_id (drawn_id d 0) d.rows.networks (λ (r : SubnetRow). r.network) d.rows.subnets unknown is.consistent.named.networks.of_subnets k r at)))

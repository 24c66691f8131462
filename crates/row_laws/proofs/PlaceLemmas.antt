-- Rows at other places than one that is replaced, and routers that a port names.
use Rattle.std.proofs.Common.{◌≡◌, ◌∙◌, ◌+◌, ◌<◌, ◌≤◌, ◌^◌, ℕ, zero, suc, List, [], ◌∷◌, ◌++◌, Bool, true, false, cond, Some, slice_get, slice_set, length, refl, ap, sym, subst, arith}
use Rattle.std.specs.Prelude.{◌==◌, ◌&&◌, nat_le, not, count_by}
use Rattle.std.proofs.lemmas.Bool.Decides.{Decides-eqb, nat_tests}
use Rattle.std.proofs.lemmas.List.Sums.{sum_by_push, sum_by-cons}
use Rattle.std.proofs.lemmas.Option.{slice_get_within}
use Rattle.api_types.specs.Ident.{Ident, IsDrawable, ident_text}
use Rattle.api_types.specs.Table.{ident_eq}
use Rattle.api_types.specs.RowLists.{RowLists}
use Rattle.api_types.specs.Lists.{Each, is_empty}
use Rattle.api_types.specs.Owners.{device_is}
use Rattle.api_types.specs.Registration.{is_named}
use Rattle.api_types.specs.Consistent.{IsConsistent}
use Rattle.api_types.specs.Consistent.Numbered.{is_drawn, ProjectsDiffer}
use Rattle.api_types.specs.Consistent.Named.{is_registered}
use Rattle.api_types.specs.declared.project.ProjectRow.{ProjectRow}
use Rattle.api_types.specs.declared.router.RouterRow.{RouterRow}
use Rattle.api_types.proofs.ListLemmas.{and_both, any-at, false_true, none-any, none-counted, none_some, some_equal, uncounted}
use Rattle.api_types.proofs.NameLemmas.{bytes_itself, bytes_same, ident_itself}
use Rattle.api_types.proofs.IdTexts.{one-text}

zero_no_suc : (P : Type 0) (k : ℕ) → suc k ≡ 0 → P
zero_no_suc P k h = absurd (omega (arith, h))

module _ {R : Type 0} where
  -- a row of a list with one replaced is one of another place, or the new one
  pub at_set_other : (xs : List R) (i : ℕ) (x y : R) (k : ℕ) → slice_get (slice_set xs i x) k ≡ Some y → (P : Type 0) → (slice_get xs k ≡ Some y → (k ≡ i → ⊥) → P) → (x ≡ y → P) → P
  at_set_other [] i x y k at P before here = none_some y P at
  at_set_other (a ∷ xs) zero x y zero at P before here = here (some_equal x y at)
  at_set_other (a ∷ xs) zero x y (suc k) at P before here = before at (zero_no_suc ⊥ k)
  at_set_other (a ∷ xs) (suc i) x y zero at P before here = before at (λ e. zero_no_suc ⊥ i (sym e))
  at_set_other (a ∷ xs) (suc i) x y (suc k) at P before here = at_set_other xs i x y k at P (λ g differs. before g (λ e. differs (omega (arith, e)))) here

  -- a fact on each row, which was one on the rows at other places
  pub each-set_other : (P : R → Type 0) (xs : List R) (i : ℕ) (x : R) → ((k : ℕ) (y : R) → slice_get xs k ≡ Some y → (k ≡ i → ⊥) → P y) → P x → Each P (slice_set xs i x)
  each-set_other P xs i x others new k y at = at_set_other xs i x y k at (P y) (others k y) (λ same. subst P same new)

  -- a test that at most one row passes is passed at one place
  pub one_place : (test : R → Bool) (xs : List R) → count_by test xs ≤ 1 → (j k : ℕ) (x y : R) → slice_get xs j ≡ Some x → slice_get xs k ≡ Some y → test x ≡ true → test y ≡ true → j ≡ k
  one_place test [] once j k x y at_x at_y tx ty = none_some x _ at_x
  one_place test (a ∷ xs) once zero zero x y at_x at_y tx ty = refl
  one_place test (a ∷ xs) once zero (suc k) x y at_x at_y tx ty =
      false_true _ (sym (none-any test xs (none-counted test xs (uncounted test a xs once (ap test (some_equal a x at_x) ∙ tx))) k y at_y) ∙ ty)
  one_place test (a ∷ xs) once (suc j) zero x y at_x at_y tx ty =
      false_true _ (sym (none-any test xs (none-counted test xs (uncounted test a xs once (ap test (some_equal a y at_y) ∙ ty))) j x at_x) ∙ tx)
  one_place test (a ∷ xs) once (suc j) (suc k) x y at_x at_y tx ty =
      ap suc (one_place test xs (omega (arith, sum_by-cons (λ y. cond {A = ℕ} (test y) 1 0) a xs, once)) j k x y at_x at_y tx ty)

  -- one more row that passes is counted
  pub count-push_one : (test : R → Bool) (xs : List R) (x : R) → test x ≡ true → count_by test (xs ++ x ∷ []) ≡ count_by test xs + 1
  count-push_one test xs x h =
      let push = sum_by_push (λ y. cond {A = ℕ} (test y) 1 0) xs x in
      let one : cond {A = ℕ} (test x) 1 0 ≡ 1 = ap (λ (b : Bool). cond {A = ℕ} b 1 0) h in
      omega (arith, push, one)

-- ids that were drawn, and projects that are registered

module _ (projects : List ProjectRow) (differ : ProjectsDiffer projects) where
  pub drawable : (i : Ident) → is_drawn projects i ≡ true → IsDrawable i
  drawable i h =
      let found = any-at (λ (p : ProjectRow). (p.ordinal == i.ordinal) && (nat_le 1 i.count && nat_le i.count p.count)) projects h in
      let p : ProjectRow = found.1 in
      let both = and_both (p.ordinal == i.ordinal) _ found.3 in
      let counts = and_both (nat_le 1 i.count) (nat_le i.count p.count) both.1 in
      let same : p.ordinal ≡ i.ordinal = (Decides-eqb p.ordinal i.ordinal).0 both.0 in
      let order = differ.ordered found.0 p found.2 in
      let within : found.0 < length projects = slice_get_within projects found.0 p found.2 in
      let low : nat_le 1 i.count ≡ true = counts.0 in
      let high : nat_le i.count p.count ≡ true = counts.1 in
      let least : 1 ≤ i.count = grind (arith, nat_tests, low) in
      let most : i.count ≤ p.count = grind (arith, nat_tests, high) in
      let few : length projects < 2 ^ 32 = differ.few in
      let room : p.count < 2 ^ 62 = order.1 in
      let place_is : p.ordinal ≡ found.0 + 1 = order.0 in
      record {
        first_ordinal = omega (arith, same, place_is);
        last_ordinal = omega (arith, same, place_is, within, few);
        first_count = least;
        last_count = omega (arith, most, room);
      }

  -- a registered project's name isn't empty
  pub has_name : (name : List ℕ) → is_registered projects name ≡ true → is_empty name ≡ false
  has_name name h =
      let found = any-at (is_named name) projects h in
      let p : ProjectRow = found.1 in
      let same : p.name ≡ name = bytes_same p.name name found.3 in
      ap is_empty (sym same) ∙ not_true (is_empty p.name) (differ.named found.0 p found.2)
    where
      not_true : (b : Bool) → not b ≡ true → b ≡ false
      not_true true e = false_true _ e
      not_true false e = refl

pub device_itself : (i : Ident) → device_is (ident_text i) i ≡ true
unfolding device_is
device_itself i = bytes_itself (ident_text i)

-- a port names one router
pub one_device : (device : List ℕ) (i j : Ident) → IsDrawable i → IsDrawable j → device_is device i ≡ true → device_is device j ≡ true → i ≡ j
unfolding device_is
one_device device i j di dj hi hj = one-text i j di dj (sym (bytes_same device (ident_text i) hi) ∙ bytes_same device (ident_text j) hj)

module _ (rows : RowLists) (c : IsConsistent rows) where
  pub router_drawable : (k : ℕ) (r : RouterRow) → slice_get rows.routers k ≡ Some r → IsDrawable r.id
  router_drawable k r at = drawable rows.projects c.numbered.projects r.id (c.numbered.drawn.routers k r at)

  -- two routers that a port names are the same
  pub one_router : (device : List ℕ) (j k : ℕ) (q r : RouterRow) → slice_get rows.routers j ≡ Some q → slice_get rows.routers k ≡ Some r → device_is device q.id ≡ true → device_is device r.id ≡ true → j ≡ k
  one_router device j k q r at_q at_r hq hr =
      let same : q.id ≡ r.id = one_device device q.id r.id (router_drawable j q at_q) (router_drawable k r at_r) hq hr in
      one_place (λ s. ident_eq r.id s.id) rows.routers (omega (arith, c.numbered.ids r.id)) j k q r at_q at_r (subst (λ i. ident_eq r.id i ≡ true) (sym same) (ident_itself r.id)) (ident_itself r.id)

  -- a port that names a router names no router at another place
  pub no_other_router : (device : List ℕ) (place : ℕ) (old : RouterRow) → slice_get rows.routers place ≡ Some old → device_is device old.id ≡ true
      → (k : ℕ) (r : RouterRow) → slice_get rows.routers k ≡ Some r → (k ≡ place → ⊥) → device_is device r.id ≡ false
  no_other_router device place old at named k r at_r differs = by (device_is device r.id) refl
    where
      by : (b : Bool) → device_is device r.id ≡ b → b ≡ false
      by true is = absurd (differs (one_router device k place r old at_r at is named))
      by false is = refl

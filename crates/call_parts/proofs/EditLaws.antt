-- What an item does to the rows of a kind is what an edit does: of a row that is there, and of one that isn't.
use Rattle.std.proofs.Common.{◌≡◌, ℕ, zero, suc, ◌≤◌, List, [], ◌∷◌, Bool, true, false, cond, Option, Some, None, slice_get, slice_set, refl, ap, sym, ◌∙◌, subst, map, not, arith, if◌then◌else◌}
use Rattle.std.specs.Prelude.{IfOk, Result, Ok, Err, filter, count_by, get_or, is_some, length, nat_lt, position, ◌<◌}
use Rattle.std.specs.List.{IsDistinct, list_any, position_or_len}
use Rattle.std.proofs.lemmas.Bool.Decides.{nat_tests}
use Rattle.std.proofs.lemmas.List.Quantifiers.{position-Some}
use Rattle.std.proofs.lemmas.List.Sums.{fails_before_first}
use Rattle.std.proofs.lemmas.Option.{slice_get-get_or, slice_get_within}
use Rattle.std.proofs.lemmas.List.Sums.{sum_by-cons}
use Rattle.api_types.specs.Edits.{FitsAt, list_after_at}
use Rattle.api_types.specs.Ident.{Ident}
use Rattle.api_types.specs.Lists.{Each}
use Rattle.api_types.specs.RowLists.{RowLists}
use Rattle.api_types.specs.Rows.{FitsItem, after_item}
use Rattle.api_types.specs.Table.{HaveOwnIds, ident_eq}
use Rattle.api_types.specs.declared.kind.Kind.{Kind}
use Rattle.api_types.specs.declared.kind.Row.{Row}
use Rattle.api_types.proofs.ListLemmas.{any-none, count-none, false_true, none-any, none-counted, none_some, remove-filter, some_equal, uncounted}
use Rattle.api_types.proofs.NameLemmas.{by_test, ident_same}
use Rattle.api_types.proofs.TableLemmas.{differs}
use Rattle.call_parts.specs.Drafts.{IsFound}
use Rattle.api_types.specs.RowKinds.{IsRowKind, item_of}
use Rattle.api_types.specs.WithRows.{put_in, with_put, without_row}

-- no two rows have one id
pub once_own : {R : Type 0} (id_of : R → Ident) (xs : List R) → HaveOwnIds id_of xs → (i : Ident) → count_by (λ r. ident_eq i (id_of r)) xs ≤ 1
unfolding IsDistinct
once_own id_of [] own i = omega arith
once_own id_of (x ∷ xs) own i =
    let sum = sum_by-cons (λ r. cond {A = ℕ} (ident_eq i (id_of r)) 1 0) x xs in
    by_test (ident_eq i (id_of x)) (count_by (λ r. ident_eq i (id_of r)) (x ∷ xs) ≤ 1)
    (λ hit.
    let none = count-none (λ r. ident_eq i (id_of r)) xs (λ k r at. ap (λ j. ident_eq j (id_of r)) (ident_same i (id_of x) hit) ∙ differs id_of k r (id_of x) xs own.0 at) in
    let one : cond {A = ℕ} (ident_eq i (id_of x)) 1 0 ≡ 1 = ap (λ b. cond {A = ℕ} b 1 0) hit in
    omega (arith, sum, none, one))
    (λ miss.
    let zero_here : cond {A = ℕ} (ident_eq i (id_of x)) 1 0 ≡ 0 = ap (λ b. cond {A = ℕ} b 1 0) miss in
    omega (arith, sum, zero_here, once_own id_of xs own.1 i))

-- none passes a test: none is changed, and none is left out
unchanged : {R : Type 0} (test : R → Bool) (new : R) (xs : List R) → Each (λ x. test x ≡ false) xs → map (λ x. if test x then new else x) xs ≡ xs
unchanged test new [] none = refl
unchanged test new (x ∷ xs) none = λ j. (if none 0 x refl j then new else x) ∷ unchanged test new xs (λ k y at. none (suc k) y at) j

all_stay : {R : Type 0} (test : R → Bool) (xs : List R) → Each (λ x. test x ≡ false) xs → filter (λ x. not (test x)) xs ≡ xs
all_stay test [] none = refl
all_stay test (x ∷ xs) none = λ j. cond (not (none 0 x refl j)) (x ∷ all_stay test xs (λ k y at. none (suc k) y at) j) (all_stay test xs (λ k y at. none (suc k) y at) j)

-- where one passes, at a place, another row in its stead is put at that place
pub put_once : {R : Type 0} (test : R → Bool) (rows : List R) (k : ℕ) (old new : R) → slice_get rows k ≡ Some old → test old ≡ true → count_by test rows ≤ 1
    → map (λ r. if test r then new else r) rows ≡ slice_set rows k new
put_once test [] k old new at is once = none_some old _ at
put_once test (r ∷ rows) zero old new at is once =
    let hit : test r ≡ true = ap test (some_equal r old at) ∙ is in
    let rest = unchanged test new rows (none-any test rows (none-counted test rows (uncounted test r rows once hit))) in
    λ j. (if hit j then new else r) ∷ rest j
put_once test (r ∷ rows) (suc k) old new at is once =
    by (test r) refl (put_once test rows k old new at is (omega (arith, sum_by-cons (λ y. cond {A = ℕ} (test y) 1 0) r rows, once)))
  where
    by : (b : Bool) → test r ≡ b → map (λ r. if test r then new else r) rows ≡ slice_set rows k new → (if b then new else r) ∷ map (λ r. if test r then new else r) rows ≡ r ∷ slice_set rows k new
    by true hit rest = false_true _ (sym (none-any test rows (none-counted test rows (uncounted test r rows once hit)) k old at) ∙ is)
    by false miss rest = λ j. r ∷ rest j

set_itself : {R : Type 0} (xs : List R) (k : ℕ) (x : R) → slice_get xs k ≡ Some x → slice_set xs k x ≡ xs
set_itself [] k x at = refl
set_itself (a ∷ xs) zero x at = ap (λ y. y ∷ xs) (sym (some_equal a x at))
set_itself (a ∷ xs) (suc k) x at = ap (λ ys. a ∷ ys) (set_itself xs k x at)

least : (k p n : ℕ) → k < n → nat_lt p n ≡ false → k < p
least k p n within h = grind (arith, nat_tests)

module _ {R : Type 0} (kind : Kind) (into : R → Row) (list_of : RowLists → List R) (with_list : RowLists → List R → RowLists) (part : Row → Option R) (id_of : R → Ident)
    (e : IsRowKind kind into list_of with_list part id_of) (rows : RowLists) where
  pub put_absent : (r : R) → list_any (λ q. ident_eq (id_of r) (id_of q)) (list_of rows) ≡ false → rows ≡ with_put rows (into r)
  put_absent r none = sym (e.put rows r ∙ (ap (with_list rows) (unchanged (λ q. ident_eq (id_of r) (id_of q)) r (list_of rows) (none-any (λ q. ident_eq (id_of r) (id_of q)) (list_of rows) none)) ∙ e.itself rows))

  pub gone_absent : (i : Ident) → list_any (λ q. ident_eq i (id_of q)) (list_of rows) ≡ false → rows ≡ without_row rows kind i
  gone_absent i none = sym (e.gone rows i ∙ (ap (with_list rows) (all_stay (λ q. ident_eq i (id_of q)) (list_of rows) (none-any (λ q. ident_eq i (id_of q)) (list_of rows) none)) ∙ e.itself rows))

  module _ (place : ℕ) (i : Ident) (old : R) (found : IsFound id_of i (list_of rows) place old) where
    put_list : (r : R) → i ≡ id_of r → put_in id_of r (list_of rows) ≡ slice_set (list_of rows) place r
    put_list r same = put_once (λ q. ident_eq (id_of r) (id_of q)) (list_of rows) place old r found.at
        (ap (λ j. ident_eq j (id_of old)) (sym same) ∙ found.is) (once_own id_of (list_of rows) found.own_ids (id_of r))

    pub put_same : (r : R) → i ≡ id_of r → old ≡ r → rows ≡ with_put rows (into r)
    put_same r same equal = sym (e.put rows r ∙ (ap (with_list rows) (put_list r same ∙ (ap (slice_set (list_of rows) place) (sym equal) ∙ set_itself (list_of rows) place old found.at)) ∙ e.itself rows))

    pub put_fits : (r : R) → i ≡ id_of r → FitsItem rows (item_of kind place (Some (into old)) (Some (into r)))
    put_fits r same = e.fits rows place (Some (into old)) (Some (into r)) (
      ap is_some (e.part_is old),
      ap is_some (e.part_is r),
      subst (λ o. FitsAt id_of (list_of rows) place o (part (into r))) (sym (e.part_is old))
          (subst (λ o. FitsAt id_of (list_of rows) place (Some old) o) (sym (e.part_is r)) (found.at, sym same ∙ ident_same i (id_of old) found.is)),
    )

    pub put_leads : (r : R) → i ≡ id_of r → after_item rows (item_of kind place (Some (into old)) (Some (into r))) ≡ with_put rows (into r)
    put_leads r same = e.leads rows place (Some (into old)) (Some (into r))
        ∙ (ap (with_list rows) ((λ j. list_after_at (list_of rows) place (e.part_is old j) (e.part_is r j)) ∙ sym (put_list r same)) ∙ sym (e.put rows r))

    pub gone_fits : FitsItem rows (item_of kind place (Some (into old)) None)
    gone_fits = e.fits rows place (Some (into old)) None (
      ap is_some (e.part_is old),
      tt,
      subst (λ o. FitsAt id_of (list_of rows) place o None) (sym (e.part_is old)) found.at,
    )

    pub gone_leads : after_item rows (item_of kind place (Some (into old)) None) ≡ without_row rows kind i
    gone_leads = e.leads rows place (Some (into old)) None
        ∙ (ap (with_list rows) ((λ j. list_after_at (list_of rows) place (e.part_is old j) None)
        ∙ remove-filter (λ q. ident_eq i (id_of q)) (list_of rows) place old found.at found.is (once_own id_of (list_of rows) found.own_ids i)) ∙ sym (e.gone rows i))

-- a first place, and none
pub at_place : {X : Type 0} (test : X → Bool) (xs : List X) (place : ℕ) (x : X) → position test xs ≡ Some place → x ≡ get_or xs place x
    → (slice_get xs place ≡ Some x) × (test x ≡ true)
at_place test xs place x found is =
    let here = position-Some test xs place x found in
    (slice_get-get_or xs place x here.0 ∙ ap Some (sym is), ap test is ∙ here.1)

pub no_place : {X : Type 0} (test : X → Bool) (xs : List X) → position test xs ≡ None → list_any test xs ≡ false
no_place {X = X} test xs none = by (nat_lt (position_or_len test xs) (length xs)) refl none
  where
    by : (b : Bool) → nat_lt (position_or_len test xs) (length xs) ≡ b → cond b (Some (position_or_len test xs)) None ≡ None → list_any test xs ≡ false
    by true e h = none_some (position_or_len test xs) _ (sym h)
    by false e h = any-none test xs (λ k x at.
        let within = slice_get_within xs k x at in
        let is = some_equal (get_or xs k x) x (sym (slice_get-get_or xs k x within) ∙ at) in
        ap test (sym is) ∙ fails_before_first test xs k x (least k (position_or_len test xs) (length xs) within e))

-- what follows of what is there
pub ok_by : {X E : Type 0} (P Q : X → Type 0) (r : Result X E) → ((x : X) → P x → Q x) → IfOk r P → IfOk r Q
ok_by P Q (Ok x) f h = f x h
ok_by P Q (Err e) f h = tt

pub ok_by_both : {X E : Type 0} (P Q S : X → Type 0) (r : Result X E) → ((x : X) → P x → Q x → S x) → IfOk r P → IfOk r Q → IfOk r S
ok_by_both P Q S (Ok x) f p q = f x p q
ok_by_both P Q S (Err e) f p q = tt

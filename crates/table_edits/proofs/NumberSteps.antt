-- Numbers of rows through the items of a change: by maps of the last item of each number, and of the
-- numbers of the rows that the change made.
use Rattle.std.proofs.Common.{◌≡◌, ◌∙◌, ℕ, zero, suc, ◌+◌, List, [], ◌∷◌, ◌++◌, slice_get, remove, Option, Some, None, Bool, true, false, true≢false, cond, refl, sym, ap, subst, arith}
use Rattle.std.specs.Prelude.{◌==◌, if◌then◌else◌, nat_lt}
use Rattle.std.proofs.lemmas.Bool.Decides.{nat_tests}
use Rattle.api_types.specs.Edits.{FitsAt}
use Rattle.api_types.specs.Ident.{Ident}
use Rattle.api_types.specs.Table.{HaveOwnIds, ident_eq, row_of}
use Rattle.api_types.proofs.EditLemmas.{absent_removed, own_still}
use Rattle.api_types.proofs.ListLemmas.{some_equal}
use Rattle.api_types.proofs.NameLemmas.{ident_same}
use Rattle.plane_types.specs.Keyed.{AllAfter, Rises, are_one, row_at}
use Rattle.plane_types.specs.Numbered.{with_item, with_numbers, with_row}
use Rattle.plane_types.proofs.KeyedLemmas.{apart_first, apart_second, none_after, one_itself, three_ways}
use Rattle.plane_types.proofs.NumberedLemmas.{AllBelow, item_rises, kept_push, kept_remove, kept_set, number_order, plain, plain_item}
use Rattle.table_edits.specs.NumbersTold.{Renumbers}
use Rattle.table_edits.specs.Places.{HaveKeys}

module _ {R : Type 0} (id_of : R → Ident) where
  -- the entry at a place, and what is found at its number
  pub entry_at : (xs : List (ℕ × R)) (place : ℕ) (r : R) → slice_get (plain xs) place ≡ Some r → (k : ℕ) × (slice_get xs place ≡ Some (k, r))
  entry_at [] place r at = cc
  entry_at (x ∷ xs) zero r at = let same : x.1 ≡ r = some_equal x.1 r at in (x.0, ap (λ y. Some (x.0, y)) same)
  entry_at (x ∷ xs) (suc place) r at = entry_at xs place r at

  later : (n : ℕ) (xs : List (ℕ × R)) (place k : ℕ) (r : R) → AllAfter nat_lt n xs → slice_get xs place ≡ Some (k, r) → nat_lt n k ≡ true
  later n [] place k r up at = cc
  later n (y ∷ ys) zero k r up at = subst (λ (z : ℕ × R). nat_lt n z.0 ≡ true) (some_equal y (k, r) at) up.0
  later n (y ∷ ys) (suc place) k r up at = later n ys place k r up.1 at

  found : (xs : List (ℕ × R)) (place k : ℕ) (r : R) → Rises nat_lt xs → slice_get xs place ≡ Some (k, r) → row_at nat_lt k xs ≡ Some r
  found [] place k r up at = cc
  found (y ∷ ys) zero k r up at =
      let same : y ≡ (k, r) = some_equal y (k, r) at in
      subst (λ (z : ℕ × R). row_at nat_lt z.0 (y ∷ ys) ≡ Some z.1) same (ap (λ b. if b then Some y.1 else row_at nat_lt y.0 ys) (one_itself nat_lt number_order y.0))
  found (y ∷ ys) (suc place) k r up at =
      ap (λ b. if b then Some y.1 else row_at nat_lt k ys) (apart_second nat_lt number_order k y.0 (later y.0 ys place k r up.0 at)) ∙ found ys place k r up.1 at

  -- what stands at the number of an item
  gone_there : (xs : List (ℕ × R)) (place k : ℕ) (r : R) → Rises nat_lt xs → slice_get xs place ≡ Some (k, r) → row_at nat_lt k (remove xs place) ≡ None
  gone_there [] place k r up at = cc
  gone_there (y ∷ ys) zero k r up at =
      let same : y ≡ (k, r) = some_equal y (k, r) at in none_after nat_lt number_order k ys (subst (λ (z : ℕ × R). AllAfter nat_lt z.0 ys) same up.0)
  gone_there (y ∷ ys) (suc place) k r up at =
      ap (λ b. if b then Some y.1 else row_at nat_lt k (remove ys place)) (apart_second nat_lt number_order k y.0 (later y.0 ys place k r up.0 at)) ∙ gone_there ys place k r up.1 at

  set_there : (xs : List (ℕ × R)) (place k : ℕ) (r row : R) → Rises nat_lt xs → slice_get xs place ≡ Some (k, r) → row_at nat_lt k (with_row xs place row) ≡ Some row
  set_there [] place k r row up at = cc
  set_there (y ∷ ys) zero k r row up at =
      let same : y ≡ (k, r) = some_equal y (k, r) at in
      subst (λ (z : ℕ × R). row_at nat_lt z.0 ((y.0, row) ∷ ys) ≡ Some row) same (ap (λ b. if b then Some row else row_at nat_lt y.0 ys) (one_itself nat_lt number_order y.0))
  set_there (y ∷ ys) (suc place) k r row up at =
      ap (λ b. if b then Some y.1 else row_at nat_lt k (with_row ys place row)) (apart_second nat_lt number_order k y.0 (later y.0 ys place k r up.0 at)) ∙ set_there ys place k r row up.1 at

  push_there : (xs : List (ℕ × R)) (next : ℕ) (row : R) → AllBelow next xs → row_at nat_lt next (xs ++ (next, row) ∷ []) ≡ Some row
  push_there [] next row low = ap (λ b. if b then Some row else None) (one_itself nat_lt number_order next)
  push_there (y ∷ ys) next row low =
      ap (λ b. if b then Some y.1 else row_at nat_lt next (ys ++ (next, row) ∷ [])) (apart_second nat_lt number_order next y.0 low.0) ∙ push_there ys next row low.1

  -- ---- by ids

  abbrev pub IsNumberedBy : (Ident → Option ℕ) → List (ℕ × R) → Type 0
  IsNumberedBy number xs = HaveKeys (λ r. number (id_of r)) xs

  pub numbered_at : (number : Ident → Option ℕ) (xs : List (ℕ × R)) (place k : ℕ) (r : R) → IsNumberedBy number xs → slice_get xs place ≡ Some (k, r) → number (id_of r) ≡ Some k
  numbered_at number [] place k r have at = cc
  numbered_at number (y ∷ ys) zero k r have at = subst (λ (z : ℕ × R). number (id_of z.1) ≡ Some z.0) (some_equal y (k, r) at) have.0
  numbered_at number (y ∷ ys) (suc place) k r have at = numbered_at number ys place k r have.1 at

  first_other : (i : Ident) (x : R) (rows : List R) → row_of id_of i (x ∷ rows) ≡ None → (ident_eq i (id_of x) ≡ false) × (row_of id_of i rows ≡ None)
  first_other i x rows e = by (ident_eq i (id_of x)) e
    where
      by : (b : Bool) → cond b (Some x) (row_of id_of i rows) ≡ None → (b ≡ false) × (row_of id_of i rows ≡ None)
      by true h = cc
      by false h = (refl, h)

  -- the others' numbers stay
  still_numbered : (number later : Ident → Option ℕ) (i : Ident) → ((j : Ident) → ident_eq i j ≡ false → later j ≡ number j) → (xs : List (ℕ × R)) → row_of id_of i (plain xs) ≡ None → IsNumberedBy number xs → IsNumberedBy later xs
  still_numbered number later i same [] none have = tt
  still_numbered number later i same (x ∷ xs) none have =
      let other = first_other i x.1 (plain xs) none in (same (id_of x.1) other.0 ∙ have.0, still_numbered number later i same xs other.1 have.1)

  numbered_remove : (number : Ident → Option ℕ) (xs : List (ℕ × R)) (place : ℕ) → IsNumberedBy number xs → IsNumberedBy number (remove xs place)
  numbered_remove number [] zero have = tt
  numbered_remove number [] (suc place) have = tt
  numbered_remove number (x ∷ xs) zero have = have.1
  numbered_remove number (x ∷ xs) (suc place) have = (have.0, numbered_remove number xs place have.1)

  numbered_set : (number : Ident → Option ℕ) (xs : List (ℕ × R)) (place k : ℕ) (r row : R) → slice_get xs place ≡ Some (k, r) → id_of row ≡ id_of r → IsNumberedBy number xs → IsNumberedBy number (with_row xs place row)
  numbered_set number [] place k r row at same have = tt
  numbered_set number (x ∷ xs) zero k r row at same have =
      let is : x ≡ (k, r) = some_equal x (k, r) at in (ap number (same ∙ ap (λ (z : ℕ × R). id_of z.1) (sym is)) ∙ have.0, have.1)
  numbered_set number (x ∷ xs) (suc place) k r row at same have = (have.0, numbered_set number xs place k r row at same have.1)

  numbered_push : (number : Ident → Option ℕ) (xs : List (ℕ × R)) (next : ℕ) (row : R) → IsNumberedBy number xs → number (id_of row) ≡ Some next → IsNumberedBy number (xs ++ (next, row) ∷ [])
  numbered_push number [] next row have is = (is, tt)
  numbered_push number (x ∷ xs) next row have is = (have.0, numbered_push number xs next row have.1 is)

  -- ---- the rows so far, by both maps

  pub record IsCounted (start : List (ℕ × R)) (xs : List (ℕ × R)) (next : ℕ) (last : ℕ → Option (Option R)) (number : Ident → Option ℕ) : Type 0 where
    pub rises : Rises nat_lt xs
    pub low : AllBelow next xs
    pub own : HaveOwnIds id_of (plain xs)
    pub ids : IsNumberedBy number xs
    pub stay : (k : ℕ) → last k ≡ None → row_at nat_lt k xs ≡ row_at nat_lt k start
    pub told : (k : ℕ) (o : Option R) → last k ≡ Some o → row_at nat_lt k xs ≡ o

  -- the number of an item's row
  abbrev pub number_for : (Ident → Option ℕ) → ℕ → Option R → Option ℕ
  number_for number next None = Some next
  number_for number next (Some r) = number (id_of r)

  same_number : (a b : ℕ) → (a == b) ≡ false → are_one nat_lt b a ≡ false
  same_number a b e = grind (arith, nat_tests, e)

  one_number : (a b : ℕ) → (a == b) ≡ true → a ≡ b
  one_number a b e = grind (arith, nat_tests, e)

  module _ (start xs : List (ℕ × R)) (next : ℕ) (last : ℕ → Option (Option R)) (number : Ident → Option ℕ) (c : IsCounted start xs next last number) where
    -- what is found at each number after an item at the number m
    abbrev PutsAt : List (ℕ × R) → ℕ → Option R → Type 0
    PutsAt ys m new = (row_at nat_lt m ys ≡ new) × ((k : ℕ) → (m == k) ≡ false → row_at nat_lt k ys ≡ row_at nat_lt k xs)

    told_after : (ys : List (ℕ × R)) (m : ℕ) (new : Option R) → PutsAt ys m new → (now : ℕ → Option (Option R)) → ((k : ℕ) → now k ≡ (if m == k then Some new else last k))
        → (k : ℕ) (o : Option R) → now k ≡ Some o → row_at nat_lt k ys ≡ o
    told_after ys m new puts now nows k o is = go (m == k) refl
      where
        go : (b : Bool) → (m == k) ≡ b → row_at nat_lt k ys ≡ o
        go true e =
            let here : Some new ≡ Some o = sym (nows k ∙ ap (λ b. if b then Some new else last k) e) ∙ is in
            ap (λ n. row_at nat_lt n ys) (sym (one_number m k e)) ∙ puts.0 ∙ some_equal new o here
        go false e = puts.1 k e ∙ c.told k o (sym (nows k ∙ ap (λ b. if b then Some new else last k) e) ∙ is)

    stay_after : (ys : List (ℕ × R)) (m : ℕ) (new : Option R) → PutsAt ys m new → (now : ℕ → Option (Option R)) → ((k : ℕ) → now k ≡ (if m == k then Some new else last k))
        → (k : ℕ) → now k ≡ None → row_at nat_lt k ys ≡ row_at nat_lt k start
    stay_after ys m new puts now nows k none = go (m == k) refl
      where
        go : (b : Bool) → (m == k) ≡ b → row_at nat_lt k ys ≡ row_at nat_lt k start
        go true e = let here : Some new ≡ None = sym (nows k ∙ ap (λ b. if b then Some new else last k) e) ∙ none in cc
        go false e = puts.1 k e ∙ c.stay k (sym (nows k ∙ ap (λ b. if b then Some new else last k) e) ∙ none)

    pub counted_item : (place : ℕ) (old new : Option R) → FitsAt id_of (plain xs) place old new → (m : ℕ) → number_for number next old ≡ Some m
        → (now : ℕ → Option (Option R)) → ((k : ℕ) → now k ≡ (if m == k then Some new else last k)) → (after : Ident → Option ℕ) → Renumbers id_of number after next old new
        → IsCounted start (with_item xs next place old new) (suc next) now after
    counted_item place None None fits m is now nows after re = absurd fits
    counted_item place (Some r) None fits m is now nows after re =
        let x = entry_at xs place r fits in
        let number_is : m ≡ x.0 = some_equal m x.0 (sym is ∙ numbered_at number xs place x.0 r c.ids x.1) in
        let puts : PutsAt (remove xs place) m None = (
          ap (λ k. row_at nat_lt k (remove xs place)) number_is ∙ gone_there xs place x.0 r c.rises x.1,
          λ k e. kept_remove k xs place (x.0, r) x.1 (same_number x.0 k (ap (λ n. n == k) (sym number_is) ∙ e)),
        ) in
        let up = item_rises xs next place (Some r) None c.rises c.low in
        let none : row_of id_of (id_of r) (plain (remove xs place)) ≡ None = ap (row_of id_of (id_of r)) (plain_item xs next place (Some r) None) ∙ absent_removed id_of (plain xs) place r c.own fits in
        record {
          rises = up.0;
          low = up.1;
          own = subst (HaveOwnIds id_of) (sym (plain_item xs next place (Some r) None)) (own_still id_of (plain xs) place (Some r) None c.own fits);
          ids = still_numbered number after (id_of r) re (remove xs place) none (numbered_remove number xs place c.ids);
          stay = stay_after (remove xs place) m None puts now nows;
          told = told_after (remove xs place) m None puts now nows;
        }
    counted_item place None (Some row) fits m is now nows after re =
        let number_is : m ≡ next = some_equal m next (sym is) in
        let ys : List (ℕ × R) = xs ++ (next, row) ∷ [] in
        let puts : PutsAt ys m (Some row) = (
          ap (λ k. row_at nat_lt k ys) number_is ∙ push_there xs next row c.low,
          λ k e. kept_push k next row xs (same_number next k (ap (λ n. n == k) (sym number_is) ∙ e)),
        ) in
        let up = item_rises xs next place None (Some row) c.rises c.low in
        record {
          rises = up.0;
          low = up.1;
          own = subst (HaveOwnIds id_of) (sym (plain_item xs next place None (Some row))) (own_still id_of (plain xs) place None (Some row) c.own fits);
          ids = numbered_push after xs next row (still_numbered number after (id_of row) re.1 xs fits.1 c.ids) re.0;
          stay = stay_after ys m (Some row) puts now nows;
          told = told_after ys m (Some row) puts now nows;
        }
    counted_item place (Some r) (Some row) fits m is now nows after re =
        let x = entry_at xs place r fits.0 in
        let number_is : m ≡ x.0 = some_equal m x.0 (sym is ∙ numbered_at number xs place x.0 r c.ids x.1) in
        let ys : List (ℕ × R) = with_row xs place row in
        let puts : PutsAt ys m (Some row) = (
          ap (λ k. row_at nat_lt k ys) number_is ∙ set_there xs place x.0 r row c.rises x.1,
          λ k e. kept_set k xs place row (x.0, r) x.1 (same_number x.0 k (ap (λ n. n == k) (sym number_is) ∙ e)),
        ) in
        let up = item_rises xs next place (Some r) (Some row) c.rises c.low in
        record {
          rises = up.0;
          low = up.1;
          own = subst (HaveOwnIds id_of) (sym (plain_item xs next place (Some r) (Some row))) (own_still id_of (plain xs) place (Some r) (Some row) c.own fits);
          ids = all_same number after re ys (numbered_set number xs place x.0 r row x.1 fits.1 c.ids);
          stay = stay_after ys m (Some row) puts now nows;
          told = told_after ys m (Some row) puts now nows;
        }
      where
        all_same : (number after : Ident → Option ℕ) → ((j : Ident) → after j ≡ number j) → (ys : List (ℕ × R)) → IsNumberedBy number ys → IsNumberedBy after ys
        all_same number after same [] have = tt
        all_same number after same (y ∷ ys) have = (same (id_of y.1) ∙ have.0, all_same number after same ys have.1)

  -- ---- what the maps say

  later_row : (n : ℕ) (ys : List (ℕ × R)) (k : ℕ) (r : R) → AllAfter nat_lt n ys → row_at nat_lt k ys ≡ Some r → nat_lt n k ≡ true
  later_row n [] k r up at = cc
  later_row n (y ∷ ys) k r up at = by (are_one nat_lt k y.0) refl (later_row n ys k r up.1) at
    where
      by : (b : Bool) → are_one nat_lt k y.0 ≡ b → (row_at nat_lt k ys ≡ Some r → nat_lt n k ≡ true) → (if b then Some y.1 else row_at nat_lt k ys) ≡ Some r → nat_lt n k ≡ true
      by true e rest at = three_ways nat_lt number_order k y.0 (nat_lt n k ≡ true)
          (λ g. absurd (true≢false (sym e ∙ apart_first nat_lt number_order k y.0 g)))
          (λ g. absurd (true≢false (sym e ∙ apart_second nat_lt number_order k y.0 g)))
          (λ g h. ap (nat_lt n) (number_order.same k y.0 g h) ∙ up.0)
      by false e rest at = rest at

  -- a row that is there is found by its id and then by its number
  pub id_found : (xs : List (ℕ × R)) (number : Ident → Option ℕ) → Rises nat_lt xs → IsNumberedBy number xs → (i : Ident) (r : R) → row_of id_of i (plain xs) ≡ Some r → (k : ℕ) × (number i ≡ Some k) × (row_at nat_lt k xs ≡ Some r)
  id_found [] number up have i r there = cc
  id_found (x ∷ xs) number up have i r there = go (ident_eq i (id_of x.1)) refl (id_found xs number up.1 have.1 i r) there
    where
      go : (b : Bool) → ident_eq i (id_of x.1) ≡ b → (row_of id_of i (plain xs) ≡ Some r → (k : ℕ) × (number i ≡ Some k) × (row_at nat_lt k xs ≡ Some r))
          → cond b (Some x.1) (row_of id_of i (plain xs)) ≡ Some r → (k : ℕ) × (number i ≡ Some k) × (row_at nat_lt k (x ∷ xs) ≡ Some r)
      go true e next there = (x.0, ap number (ident_same i (id_of x.1) e) ∙ have.0, ap (λ b. if b then Some x.1 else row_at nat_lt x.0 xs) (one_itself nat_lt number_order x.0) ∙ there)
      go false e next there =
          let rest = next there in
          (rest.0, rest.1, ap (λ b. if b then Some x.1 else row_at nat_lt rest.0 xs) (apart_second nat_lt number_order rest.0 x.0 (later_row x.0 xs rest.0 r up.0 rest.2)) ∙ rest.2)

-- before the change the number of a row is its place
module _ {R : Type 0} where
  pub place_row : (n : ℕ) (rows : List R) (k : ℕ) → row_at nat_lt (n + k) (with_numbers n rows) ≡ slice_get rows k
  place_row n [] k = refl
  place_row n (r ∷ rows) zero = let here : n + 0 ≡ n = omega arith in ap (λ m. if are_one nat_lt m n then Some r else row_at nat_lt m (with_numbers (suc n) rows)) here ∙ ap (λ b. if b then Some r else row_at nat_lt n (with_numbers (suc n) rows)) (one_itself nat_lt number_order n)
  place_row n (r ∷ rows) (suc k) =
      let next : n + suc k ≡ suc n + k = omega arith in
      let past : are_one nat_lt (n + suc k) n ≡ false = apart_second nat_lt number_order (n + suc k) n (grind (arith, nat_tests)) in
      ap (λ b. if b then Some r else row_at nat_lt (n + suc k) (with_numbers (suc n) rows)) past ∙ ap (λ m. row_at nat_lt m (with_numbers (suc n) rows)) next ∙ place_row (suc n) rows k

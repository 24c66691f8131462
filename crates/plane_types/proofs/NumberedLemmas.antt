-- Numbers ascend through a change, and a row that no item names keeps its number and stays as it
-- is.
use Rattle.std.proofs.Common.{◌≡◌, ◌∙◌, ℕ, zero, suc, ◌+◌, ◌≤◌, List, [], ◌∷◌, ◌++◌, length, Option, Some, None, true, false, refl, sym, ap, slice_get, slice_set, remove, arith}
use Rattle.std.specs.Prelude.{⊤, if◌then◌else◌, nat_lt}
use Rattle.std.proofs.lemmas.Bool.Decides.{nat_tests}
use Rattle.api_types.specs.Edits.{list_after_at}
use Rattle.plane_types.specs.Keyed.{IsTotal, are_one, AllAfter, Rises, row_at}
use Rattle.plane_types.specs.Numbered.{RowItem, rows_after, with_row, with_item, with_items, with_numbers, numbered_after}
use Rattle.plane_types.proofs.KeyedLemmas.{rows_of}

-- numbers are in a total order
pub number_order : IsTotal nat_lt
number_order = record {
  one_way = λ a b h. grind (arith, nat_tests);
  chain = λ a b c h k. grind (arith, nat_tests);
  same = λ a b h k. grind (arith, nat_tests);
}

just_below : (next : ℕ) → nat_lt next (suc next) ≡ true
just_below next = grind (arith, nat_tests)

module _ {R : Type 0} where
  abbrev pub plain : List (ℕ × R) → List R
  plain xs = rows_of nat_lt number_order xs

  -- ---- the rows are those after the change

  plain_remove : (xs : List (ℕ × R)) (place : ℕ)
      → plain (remove xs place) ≡ remove (plain xs) place
  plain_remove [] zero = refl
  plain_remove [] (suc place) = refl
  plain_remove (x ∷ xs) zero = refl
  plain_remove (x ∷ xs) (suc place) = ap (λ l. x.1 ∷ l) (plain_remove xs place)

  plain_push : (xs : List (ℕ × R)) (x : ℕ × R) → plain (xs ++ x ∷ []) ≡ plain xs ++ x.1 ∷ []
  plain_push [] x = refl
  plain_push (y ∷ xs) x = ap (λ l. y.1 ∷ l) (plain_push xs x)

  plain_set : (xs : List (ℕ × R)) (place : ℕ) (row : R)
      → plain (with_row xs place row) ≡ slice_set (plain xs) place row
  plain_set [] place row = refl
  plain_set (x ∷ xs) zero row = refl
  plain_set (x ∷ xs) (suc place) row = ap (λ l. x.1 ∷ l) (plain_set xs place row)

  pub plain_item : (xs : List (ℕ × R)) (next place : ℕ) (old new : Option R)
      → plain (with_item xs next place old new) ≡ list_after_at (plain xs) place old new
  plain_item xs next place old None = plain_remove xs place
  plain_item xs next place None (Some row) = plain_push xs (next, row)
  plain_item xs next place (Some was) (Some row) = plain_set xs place row

  pub plain_items : (xs : List (ℕ × R)) (next : ℕ) (is : List (RowItem R))
      → plain (with_items xs next is) ≡ rows_after (plain xs) is
  plain_items xs next [] = refl
  plain_items xs next (i ∷ is) = plain_items (with_item xs next i.place i.old i.new) (suc next) is
      ∙ ap (λ rows. rows_after rows is) (plain_item xs next i.place i.old i.new)

  pub plain_numbered : (n : ℕ) (rows : List R) → plain (with_numbers n rows) ≡ rows
  plain_numbered n [] = refl
  plain_numbered n (r ∷ rs) = ap (λ l. r ∷ l) (plain_numbered (suc n) rs)

  -- ---- numbers ascend

  abbrev pub AllBelow : ℕ → List (ℕ × R) → Type 0
  AllBelow next [] = ⊤
  AllBelow next (x ∷ xs) = (nat_lt x.0 next ≡ true) × AllBelow next xs

  below_more : (next : ℕ) (xs : List (ℕ × R)) → AllBelow next xs → AllBelow (suc next) xs
  below_more next [] h = tt
  below_more next (x ∷ xs) h = (grind (arith, nat_tests, h.0), below_more next xs h.1)

  below_remove : (next : ℕ) (xs : List (ℕ × R)) (place : ℕ) → AllBelow next xs
      → AllBelow next (remove xs place)
  below_remove next [] zero h = tt
  below_remove next [] (suc place) h = tt
  below_remove next (x ∷ xs) zero h = h.1
  below_remove next (x ∷ xs) (suc place) h = (h.0, below_remove next xs place h.1)

  below_set : (next : ℕ) (xs : List (ℕ × R)) (place : ℕ) (row : R) → AllBelow next xs
      → AllBelow next (with_row xs place row)
  below_set next [] place row h = tt
  below_set next (x ∷ xs) zero row h = h
  below_set next (x ∷ xs) (suc place) row h = (h.0, below_set next xs place row h.1)

  below_push : (next n : ℕ) (row : R) (xs : List (ℕ × R)) → AllBelow next xs
      → nat_lt n next ≡ true → AllBelow next (xs ++ (n, row) ∷ [])
  below_push next n row [] h k = (k, tt)
  below_push next n row (x ∷ xs) h k = (h.0, below_push next n row xs h.1 k)

  after_remove : (n : ℕ) (xs : List (ℕ × R)) (place : ℕ) → AllAfter nat_lt n xs
      → AllAfter nat_lt n (remove xs place)
  after_remove n [] zero h = tt
  after_remove n [] (suc place) h = tt
  after_remove n (x ∷ xs) zero h = h.1
  after_remove n (x ∷ xs) (suc place) h = (h.0, after_remove n xs place h.1)

  rises_remove : (xs : List (ℕ × R)) (place : ℕ) → Rises nat_lt xs → Rises nat_lt (remove xs place)
  rises_remove [] zero h = tt
  rises_remove [] (suc place) h = tt
  rises_remove (x ∷ xs) zero h = h.1
  rises_remove (x ∷ xs) (suc place) h = (after_remove x.0 xs place h.0, rises_remove xs place h.1)

  after_set : (n : ℕ) (xs : List (ℕ × R)) (place : ℕ) (row : R) → AllAfter nat_lt n xs
      → AllAfter nat_lt n (with_row xs place row)
  after_set n [] place row h = tt
  after_set n (x ∷ xs) zero row h = h
  after_set n (x ∷ xs) (suc place) row h = (h.0, after_set n xs place row h.1)

  rises_set : (xs : List (ℕ × R)) (place : ℕ) (row : R) → Rises nat_lt xs
      → Rises nat_lt (with_row xs place row)
  rises_set [] place row h = tt
  rises_set (x ∷ xs) zero row h = h
  rises_set (x ∷ xs) (suc place) row h =
      (after_set x.0 xs place row h.0, rises_set xs place row h.1)

  after_push : (n next : ℕ) (row : R) (xs : List (ℕ × R)) → AllAfter nat_lt n xs
      → nat_lt n next ≡ true → AllAfter nat_lt n (xs ++ (next, row) ∷ [])
  after_push n next row [] h k = (k, tt)
  after_push n next row (x ∷ xs) h k = (h.0, after_push n next row xs h.1 k)

  rises_push : (next : ℕ) (row : R) (xs : List (ℕ × R)) → Rises nat_lt xs → AllBelow next xs
      → Rises nat_lt (xs ++ (next, row) ∷ [])
  rises_push next row [] h k = (tt, tt)
  rises_push next row (x ∷ xs) h k =
      (after_push x.0 next row xs h.0 k.0, rises_push next row xs h.1 k.1)

  pub item_rises : (xs : List (ℕ × R)) (next place : ℕ) (old new : Option R) → Rises nat_lt xs
      → AllBelow next xs
      → Rises nat_lt (with_item xs next place old new)
      × AllBelow (suc next) (with_item xs next place old new)
  item_rises xs next place old None up low =
      (rises_remove xs place up, below_remove (suc next) xs place (below_more next xs low))
  item_rises xs next place None (Some row) up low = (
    rises_push next row xs up low,
    below_push (suc next) next row xs (below_more next xs low) (just_below next),
  )
  item_rises xs next place (Some was) (Some row) up low =
      (rises_set xs place row up, below_set (suc next) xs place row (below_more next xs low))

  pub items_rise : (xs : List (ℕ × R)) (next : ℕ) (is : List (RowItem R)) → Rises nat_lt xs
      → AllBelow next xs → Rises nat_lt (with_items xs next is)
  items_rise xs next [] up low = up
  items_rise xs next (i ∷ is) up low =
      let one = item_rises xs next i.place i.old i.new up low in
      items_rise (with_item xs next i.place i.old i.new) (suc next) is one.0 one.1

  numbers_later : (n m : ℕ) (rows : List R) → nat_lt n m ≡ true
      → AllAfter nat_lt n (with_numbers m rows)
  numbers_later n m [] h = tt
  numbers_later n m (r ∷ rs) h =
      (h, numbers_later n (suc m) rs (number_order.chain n m (suc m) h (just_below m)))

  pub numbered_rises : (n : ℕ) (rows : List R) → Rises nat_lt (with_numbers n rows)
  numbered_rises n [] = tt
  numbered_rises n (r ∷ rs) =
      (numbers_later n (suc n) rs (just_below n), numbered_rises (suc n) rs)

  pub numbered_below : (n m : ℕ) (rows : List R) → n + length rows ≤ m
      → AllBelow m (with_numbers n rows)
  numbered_below n m [] h = tt
  numbered_below n m (r ∷ rs) h =
      (grind (arith, nat_tests, h), numbered_below (suc n) m rs (omega (arith, h)))

  -- the rows before and after a change, each with its number
  pub after_rises : (rows : List R) (is : List (RowItem R)) → Rises nat_lt (numbered_after rows is)
  after_rises rows is =
      items_rise (with_numbers 0 rows) (length rows) is (numbered_rises 0 rows)
      (numbered_below 0 (length rows) rows (omega arith))

  pub after_plain : (rows : List R) (is : List (RowItem R))
      → plain (numbered_after rows is) ≡ rows_after rows is
  after_plain rows is = plain_items (with_numbers 0 rows) (length rows) is
      ∙ ap (λ l. rows_after l is) (plain_numbered 0 rows)

  -- ---- what no item names stays

  -- the entry at a place
  pub kept_remove : (k : ℕ) (xs : List (ℕ × R)) (place : ℕ) (x : ℕ × R)
      → slice_get xs place ≡ Some x → are_one nat_lt k x.0 ≡ false
      → row_at nat_lt k (remove xs place) ≡ row_at nat_lt k xs
  kept_remove k [] place x at apart = cc
  kept_remove k (y ∷ xs) zero x at apart =
      let same : y ≡ x = cc in
      sym (ap (λ b. if b then Some y.1 else row_at nat_lt k xs)
      (ap (λ (z : ℕ × R). are_one nat_lt k z.0) same ∙ apart))
  kept_remove k (y ∷ xs) (suc place) x at apart =
      ap (λ o. if are_one nat_lt k y.0 then Some y.1 else o) (kept_remove k xs place x at apart)

  pub kept_set : (k : ℕ) (xs : List (ℕ × R)) (place : ℕ) (row : R) (x : ℕ × R)
      → slice_get xs place ≡ Some x → are_one nat_lt k x.0 ≡ false
      → row_at nat_lt k (with_row xs place row) ≡ row_at nat_lt k xs
  kept_set k [] place row x at apart = refl
  kept_set k (y ∷ xs) zero row x at apart =
      let same : y ≡ x = cc in
      let off : are_one nat_lt k y.0 ≡ false = ap (λ (z : ℕ × R). are_one nat_lt k z.0) same
      ∙ apart in
      ap (λ b. if b then Some row else row_at nat_lt k xs) off
      ∙ sym (ap (λ b. if b then Some y.1 else row_at nat_lt k xs) off)
  kept_set k (y ∷ xs) (suc place) row x at apart =
      ap (λ o. if are_one nat_lt k y.0 then Some y.1 else o) (kept_set k xs place row x at apart)

  pub kept_push : (k n : ℕ) (row : R) (xs : List (ℕ × R)) → are_one nat_lt k n ≡ false
      → row_at nat_lt k (xs ++ (n, row) ∷ []) ≡ row_at nat_lt k xs
  kept_push k n row [] apart = ap (λ b. if b then Some row else None) apart
  kept_push k n row (y ∷ xs) apart =
      ap (λ o. if are_one nat_lt k y.0 then Some y.1 else o) (kept_push k n row xs apart)

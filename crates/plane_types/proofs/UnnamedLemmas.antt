-- A row that no item of a change names keeps its number and stays as it is.
use Rattle.std.proofs.Common.{◌≡◌, ◌∙◌, ℕ, zero, suc, List, [], ◌∷◌, Option, Some, None, Bool, true, false, true≢false, refl, sym, ap, subst, slice_get}
use Rattle.std.specs.Prelude.{◌||◌, ⊤, if◌then◌else◌, nat_lt}
use Rattle.api_types.specs.Ident.{Ident}
use Rattle.api_types.specs.Edits.{FitsAt, list_after_at}
use Rattle.api_types.specs.Table.{ident_eq}
use Rattle.api_types.proofs.NameLemmas.{ident_itself}
use Rattle.plane_types.specs.Keyed.{are_one, AllAfter, Rises, row_at}
use Rattle.plane_types.specs.Numbered.{RowItem, with_item, with_items}
use Rattle.plane_types.proofs.KeyedLemmas.{three_ways, one_itself, apart_first, apart_second}
use Rattle.plane_types.proofs.NumberedLemmas.{number_order, plain, plain_item, AllBelow, item_rises, kept_remove, kept_set, kept_push}

module _ {R : Type 0} (id_of : R → Ident) where
  abbrev pub is_id : Ident → Option R → Bool
  is_id i None = false
  is_id i (Some r) = ident_eq i (id_of r)

  -- whether one of the items is of the row with this id
  abbrev pub names : Ident → List (RowItem R) → Bool
  names i [] = false
  names i (x ∷ xs) = is_id i x.old || (is_id i x.new || names i xs)

  -- each item fits the rows as the earlier ones left them
  abbrev pub ItemsFit : List R → List (RowItem R) → Type 0
  ItemsFit rows [] = ⊤
  ItemsFit rows (x ∷ xs) =
      FitsAt id_of rows x.place x.old x.new × ItemsFit (list_after_at rows x.place x.old x.new) xs

  or_none : (a b : Bool) → a || b ≡ false → (a ≡ false) × (b ≡ false)
  or_none true b h = cc
  or_none false b h = (refl, h)

  -- the numbered row at a place
  entry_at : (xs : List (ℕ × R)) (place : ℕ) (r : R) → slice_get (plain xs) place ≡ Some r
      → (x : ℕ × R) × (slice_get xs place ≡ Some x) × (x.1 ≡ r)
  entry_at [] place r at = cc
  entry_at (x ∷ xs) zero r at = let same : x.1 ≡ r = cc in (x, refl, same)
  entry_at (x ∷ xs) (suc place) r at = entry_at xs place r at

  later_number : (n : ℕ) (xs : List (ℕ × R)) (place : ℕ) (x : ℕ × R) → AllAfter nat_lt n xs
      → slice_get xs place ≡ Some x → nat_lt n x.0 ≡ true
  later_number n [] place x up at = cc
  later_number n (y ∷ ys) zero x up at = let same : y ≡ x = cc in
      subst (λ (z : ℕ × R). nat_lt n z.0 ≡ true) same up.0
  later_number n (y ∷ ys) (suc place) x up at = later_number n ys place x up.1 at

  -- it is what is found at its number
  found_at : (xs : List (ℕ × R)) (place : ℕ) (x : ℕ × R) → Rises nat_lt xs
      → slice_get xs place ≡ Some x → row_at nat_lt x.0 xs ≡ Some x.1
  found_at [] place x up at = cc
  found_at (y ∷ ys) zero x up at =
      let same : y ≡ x = cc in
      subst (λ (z : ℕ × R). row_at nat_lt z.0 (y ∷ ys)
      ≡ Some z.1) same (ap (λ b. if b then Some y.1 else row_at nat_lt y.0 ys)
      (one_itself nat_lt number_order y.0))
  found_at (y ∷ ys) (suc place) x up at =
      ap (λ b. if b then Some y.1 else row_at nat_lt x.0 ys)
      (apart_second nat_lt number_order x.0 y.0 (later_number y.0 ys place x up.0 at))
      ∙ found_at ys place x up.1 at

  -- another number stands at the place of another row
  apart_at : (xs : List (ℕ × R)) (place k : ℕ) (b r : R) (x : ℕ × R) → Rises nat_lt xs
      → row_at nat_lt k xs ≡ Some b → slice_get xs place ≡ Some x → x.1 ≡ r
      → ident_eq (id_of b) (id_of r) ≡ false
      → are_one nat_lt k x.0 ≡ false
  apart_at xs place k b r x up found at same other =
      three_ways nat_lt number_order k x.0 (are_one nat_lt k x.0 ≡ false)
      (λ e. apart_first nat_lt number_order k x.0 e)
      (λ e. apart_second nat_lt number_order k x.0 e)
      (λ e f.
      let key : k ≡ x.0 = number_order.same k x.0 e f in
      let rows : Some b ≡ Some x.1 =
      sym found ∙ (ap (λ q. row_at nat_lt q xs) key ∙ found_at xs place x up at) in
      let row : b ≡ x.1 = cc in
      let is : ident_eq (id_of b) (id_of r) ≡ true =
      ap (λ z. ident_eq (id_of b) (id_of z)) (sym (row ∙ same)) ∙ ident_itself (id_of b) in
      absurd (true≢false (sym is ∙ other)))

  number_below : (next k : ℕ) (xs : List (ℕ × R)) (b : R) → AllBelow next xs
      → row_at nat_lt k xs ≡ Some b → nat_lt k next ≡ true
  number_below next k [] b low found = cc
  number_below next k (y ∷ ys) b low found =
      go (are_one nat_lt k y.0) refl found (number_below next k ys b low.1)
    where
      go : (c : Bool) → are_one nat_lt k y.0 ≡ c → (if c then Some y.1 else row_at nat_lt k ys)
          ≡ Some b → (row_at nat_lt k ys ≡ Some b → nat_lt k next ≡ true) → nat_lt k next ≡ true
      go true e found rest = three_ways nat_lt number_order k y.0 (nat_lt k next ≡ true)
          (λ g. number_order.chain k y.0 next g low.0)
          (λ g. absurd (true≢false (sym e ∙ apart_second nat_lt number_order k y.0 g)))
          (λ g h. ap (λ q. nat_lt q next) (number_order.same k y.0 g h) ∙ low.0)
      go false e found rest = rest found

  stays_item : (xs : List (ℕ × R)) (next place k : ℕ) (old new : Option R) (b : R)
      → Rises nat_lt xs → AllBelow next xs → FitsAt id_of (plain xs) place old new
      → row_at nat_lt k xs ≡ Some b → is_id (id_of b) old ≡ false
      → row_at nat_lt k (with_item xs next place old new) ≡ Some b
  stays_item xs next place k None None b up low fits found other = absurd fits
  stays_item xs next place k (Some r) None b up low fits found other =
      let x = entry_at xs place r fits in
      kept_remove k xs place x.0 x.1 (apart_at xs place k b r x.0 up found x.1 x.2 other) ∙ found
  stays_item xs next place k None (Some row) b up low fits found other =
      kept_push k next row xs
      (apart_first nat_lt number_order k next (number_below next k xs b low found)) ∙ found
  stays_item xs next place k (Some r) (Some row) b up low fits found other =
      let x = entry_at xs place r fits.0 in
      kept_set k xs place row x.0 x.1 (apart_at xs place k b r x.0 up found x.1 x.2 other) ∙ found

  pub stays : (xs : List (ℕ × R)) (next k : ℕ) (is : List (RowItem R)) (b : R) → Rises nat_lt xs
      → AllBelow next xs → ItemsFit (plain xs) is
      → row_at nat_lt k xs ≡ Some b → names (id_of b) is ≡ false
      → row_at nat_lt k (with_items xs next is) ≡ Some b
  stays xs next k [] b up low fits found other = found
  stays xs next k (i ∷ is) b up low fits found other =
      let apart = or_none (is_id (id_of b) i.old) (is_id (id_of b) i.new || names (id_of b) is)
      other in
      let later = or_none (is_id (id_of b) i.new) (names (id_of b) is) apart.1 in
      let one = item_rises xs next i.place i.old i.new up low in
      stays (with_item xs next i.place i.old i.new) (suc next) k is b one.0 one.1
      (subst (λ rows. ItemsFit rows is) (sym (plain_item xs next i.place i.old i.new)) fits.1)
      (stays_item xs next i.place k i.old i.new b up low fits.0 found apart.0)
      later.1

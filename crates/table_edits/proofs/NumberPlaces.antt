-- Each row of a table with a row at most for each row of a kind has the number of the row from
-- which it comes.
use Rattle.std.proofs.Common.{◌≡◌, ◌∙◌, ℕ, zero, suc, ◌+◌, ◌≤◌, List, [], ◌∷◌, length, map, slice_get, Option, Some, None, Bool, true, false, cond, refl, sym, ap, arith}
use Rattle.std.specs.Prelude.{◌==◌, if◌then◌else◌, nat_lt, option_and_then}
use Rattle.std.specs.List.{IsDistinct, cons_option, filter_map, position_from}
use Rattle.std.specs.List.Sorted.{IsPartitionPoint, IsPartitionedBy}
use Rattle.std.proofs.lemmas.Bool.Decides.{nat_tests}
use Rattle.std.proofs.lemmas.Iterator.Adapters.{position_from-zero}
use Rattle.api_types.specs.Ident.{Ident}
use Rattle.api_types.specs.Table.{HaveOwnIds, ident_eq, place_of}
use Rattle.api_types.proofs.ListLemmas.{some_equal}
use Rattle.api_types.proofs.NameLemmas.{ident_itself}
use Rattle.api_types.proofs.TableLemmas.{differs, ident_eq-sym}
use Rattle.plane_types.specs.Keyed.{Rises, below, cons_at, row_at, rows_by_key}
use Rattle.plane_types.specs.Numbered.{with_numbers}
use Rattle.plane_types.proofs.KeyedTablesLemmas.{unkeyed}
use Rattle.plane_types.proofs.NumberedLemmas.{number_order, numbered_rises, plain_numbered}
use Rattle.plane_types.proofs.TableLemmas.{keyed_rises, keyed_rows}
use Rattle.table_edits.specs.Places.{HaveKeys, number_in}
use Rattle.table_edits.proofs.PlaceLemmas.{halved, if_there, is_under, looked}

module _ {X R : Type 0} (before : ℕ → ℕ → Bool) (came : X → Option R) (number : R → Option ℕ) where
  -- where what comes of each row says its number
  pub have_numbers : (n : ℕ) (xs : List X) → ((k : ℕ) (x : X) (r : R) → slice_get xs k ≡ Some x → came x ≡ Some r → number r ≡ Some (n + k)) → HaveKeys number (rows_by_key before came (with_numbers n xs))
  have_numbers n [] says = tt
  have_numbers n (x ∷ xs) says =
      go (came x) refl
      (have_numbers (suc n) xs (λ k y r at is. let next : n + suc k ≡ suc n + k = omega arith in says (suc k) y r at is ∙ ap Some next))
    where
      go : (o : Option R) → came x ≡ o → HaveKeys number (rows_by_key before came (with_numbers (suc n) xs)) → HaveKeys number (cons_at before n o (rows_by_key before came (with_numbers (suc n) xs)))
      go None is rest = rest
      go (Some r) is rest = let here : n + 0 ≡ n = omega arith in (says 0 x r refl is ∙ ap Some here, rest)

module _ {X : Type 0} (id_of : X → Ident) where
  place_from : (n : ℕ) (xs : List X) (k : ℕ) (x : X) → HaveOwnIds id_of xs → slice_get xs k ≡ Some x → position_from (ident_eq (id_of x)) n (map id_of xs) ≡ Some (n + k)
  unfolding IsDistinct
  place_from n [] k x own at = cc
  place_from n (y ∷ xs) zero x own at =
      let same : y ≡ x = some_equal y x at in
      let here : n ≡ n + 0 = omega arith in
      ap (λ b. cond b (Some n) (position_from (ident_eq (id_of x)) (n + 1) (map id_of xs))) (ap (λ z. ident_eq (id_of x) (id_of z)) same ∙ ident_itself (id_of x)) ∙ ap Some here
  place_from n (y ∷ xs) (suc k) x own at =
      let apart : ident_eq (id_of x) (id_of y) ≡ false = ident_eq-sym (id_of x) (id_of y) ∙ differs id_of k x (id_of y) xs own.0 at in
      let next : n + 1 + k ≡ n + suc k = omega arith in
      ap (λ b. cond b (Some n) (position_from (ident_eq (id_of x)) (n + 1) (map id_of xs))) apart ∙ place_from (n + 1) xs k x own.1 at ∙ ap Some next

  -- the place of a row is found by its id
  pub own_place : (xs : List X) (k : ℕ) (x : X) → HaveOwnIds id_of xs → slice_get xs k ≡ Some x → place_of id_of (id_of x) xs ≡ Some k
  own_place xs k x own at = position_from-zero (ident_eq (id_of x)) (map id_of xs) ∙ place_from 0 xs k x own at ∙ ap Some (omega arith)

pub have_sources : {X R : Type 0} (id_of : X → Ident) (came : X → Option R) (source : R → Option Ident) (rows : List X) (before : ℕ → ℕ → Bool) → HaveOwnIds id_of rows
    → ((x : X) (r : R) → came x ≡ Some r → source r ≡ Some (id_of x)) → HaveKeys (number_in id_of source rows) (rows_by_key before came (with_numbers 0 rows))
have_sources id_of came source rows before own says =
    have_numbers before came (number_in id_of source rows) 0 rows
    (λ k x r at is.
    let start : k ≡ 0 + k = omega arith in
    ap (option_and_then (λ i. place_of id_of i rows)) (says x r is) ∙ own_place id_of rows k x own at ∙ ap Some start)

-- all rows come before what has no number yet
module _ {X R : Type 0} (came : X → Option R) where
  below_next : (n : ℕ) (xs : List X) (next : ℕ) → n + length xs ≤ next → below nat_lt next (rows_by_key nat_lt came (with_numbers n xs)) ≡ length (filter_map came xs)
  below_next n [] next all = refl
  below_next n (x ∷ xs) next all = go (came x) (below_next (suc n) xs next (omega (arith, all)))
    where
      first : nat_lt n next ≡ true
      first = grind (arith, nat_tests, all)

      go : (o : Option R) → below nat_lt next (rows_by_key nat_lt came (with_numbers (suc n) xs)) ≡ length (filter_map came xs) → below nat_lt next (cons_at nat_lt n o (rows_by_key nat_lt came (with_numbers (suc n) xs))) ≡ length (cons_option o (filter_map came xs))
      go None rest = rest
      go (Some r) rest = ap (λ b. if b then suc (below nat_lt next (rows_by_key nat_lt came (with_numbers (suc n) xs))) else zero) first ∙ ap (λ k. suc k) rest

  pub below_all : (xs : List X) (next : ℕ) → length xs ≤ next → below nat_lt next (rows_by_key nat_lt came (with_numbers 0 xs)) ≡ length (filter_map came xs)
  below_all xs next all = below_next 0 xs next (omega (arith, all))

-- so halving finds the place of a number, and the row there
module _ {X R : Type 0} (id_of : X → Ident) (came : X → Option R) (source : R → Option Ident) (rows : List X) (table : List R) (own : HaveOwnIds id_of rows)
    (says : (x : X) (r : R) → came x ≡ Some r → source r ≡ Some (id_of x)) (is : table ≡ filter_map came rows) where
  abbrev numbered : List (ℕ × R)
  numbered = rows_by_key nat_lt came (with_numbers 0 rows)

  abbrev number_of : R → Option ℕ
  number_of = number_in id_of source rows

  numbered_rise : Rises nat_lt numbered
  numbered_rise = keyed_rises nat_lt number_order came (with_numbers 0 rows) (numbered_rises 0 rows)

  numbered_plain : unkeyed numbered ≡ table
  numbered_plain = keyed_rows nat_lt number_order came (with_numbers 0 rows) ∙ ap (filter_map came) (plain_numbered 0 rows) ∙ sym is

  pub all_before : (q : ℕ) → length rows ≤ q → length table ≡ below nat_lt q numbered
  all_before q past = ap length is ∙ sym (below_all came rows q past)

  pub place_found : (q n : ℕ)
      → (IsPartitionedBy (is_under nat_lt number_order number_of q) table → IsPartitionPoint (λ r. is_under nat_lt number_order number_of q r ≡ true) (λ r. is_under nat_lt number_order number_of q r ≡ false) table n)
      → n ≤ length table → n ≡ below nat_lt q numbered
  place_found q n finds most = halved nat_lt number_order number_of q numbered numbered_rise (have_sources id_of came source rows nat_lt own says) table numbered_plain n finds most

  other_number : (q k : ℕ) → nat_lt q k ≡ true → (k == q) ≡ false
  other_number q k e = grind (arith, nat_tests, e)

  same_number : (q k : ℕ) → nat_lt q k ≡ false → nat_lt k q ≡ false → (k == q) ≡ true
  same_number q k e f = grind (arith, nat_tests, e, f)

  pub row_found : (q n : ℕ) → n ≡ below nat_lt q numbered → row_at nat_lt q numbered ≡ if_there nat_lt number_order number_of q (λ k. k == q) (slice_get table n)
  row_found q n place = looked nat_lt number_order number_of q (λ k. k == q) (other_number q) (same_number q) numbered numbered_rise (have_sources id_of came source rows nat_lt own says) table numbered_plain n place

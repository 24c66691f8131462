-- A table that is made row by row of keyed rows is a partial function from keys to its rows.
use Rattle.std.proofs.Common.{◌≡◌, ◌∙◌, List, [], ◌∷◌, Option, Some, None, Bool, false, refl, sym, ap}
use Rattle.std.specs.Prelude.{if◌then◌else◌, option_and_then}
use Rattle.std.specs.List.{filter_map, cons_option}
use Rattle.plane_types.specs.Keyed.{IsTotal, are_one, AllAfter, Rises, row_at, cons_at, rows_by_key, Enumerates}
use Rattle.plane_types.proofs.KeyedLemmas.{three_ways, one_both, apart_first, apart_second, after_cons, rises_cons, at_cons_here, at_cons_apart, rows_of}

module _ {K X R : Type 0} (before : K → K → Bool) (order : IsTotal before) (h : X → Option R) where
  rows_cons : (k : K) (o : Option R) (xs : List (K × R))
      → rows_of before order (cons_at before k o xs) ≡ cons_option o (rows_of before order xs)
  rows_cons k None xs = refl
  rows_cons k (Some r) xs = refl

  pub keyed_rows : (xs : List (K × X))
      → rows_of before order (rows_by_key before h xs) ≡ filter_map h (rows_of before order xs)
  keyed_rows [] = refl
  keyed_rows (x ∷ xs) = rows_cons x.0 (h x.1) (rows_by_key before h xs)
      ∙ ap (cons_option (h x.1)) (keyed_rows xs)

  keyed_after : (k : K) (xs : List (K × X)) → AllAfter before k xs
      → AllAfter before k (rows_by_key before h xs)
  keyed_after k [] up = tt
  keyed_after k (x ∷ xs) up =
      after_cons before order k x.0 (h x.1) (rows_by_key before h xs) up.0 (keyed_after k xs up.1)

  pub keyed_rises : (xs : List (K × X)) → Rises before xs → Rises before (rows_by_key before h xs)
  keyed_rises [] up = tt
  keyed_rises (x ∷ xs) up =
      rises_cons before order x.0 (h x.1) (rows_by_key before h xs) (keyed_after x.0 xs up.0)
      (keyed_rises xs up.1)

  pub at_keyed : (q : K) (xs : List (K × X)) → Rises before xs
      → row_at before q (rows_by_key before h xs) ≡ option_and_then h (row_at before q xs)
  at_keyed q [] up = refl
  at_keyed q (x ∷ xs) up =
      let rest : row_at before q (rows_by_key before h xs)
      ≡ option_and_then h (row_at before q xs) =
      at_keyed q xs up.1 in
      let apart : are_one before q x.0 ≡ false
      → row_at before q (rows_by_key before h (x ∷ xs))
      ≡ option_and_then h (row_at before q (x ∷ xs)) = λ e.
      at_cons_apart before order q x.0 (h x.1) (rows_by_key before h xs) e
      ∙ (rest ∙ ap (λ b. option_and_then h (if b then Some x.1 else row_at before q xs))
      (sym e)) in
      three_ways before order q x.0 (row_at before q (rows_by_key before h (x ∷ xs))
      ≡ option_and_then h (row_at before q (x ∷ xs)))
      (λ e. apart (apart_first before order q x.0 e))
      (λ e. apart (apart_second before order q x.0 e))
      (λ e f.
      let key : q ≡ x.0 = order.same q x.0 e f in
      ap (λ k. row_at before k (rows_by_key before h (x ∷ xs))) key
      ∙ (at_cons_here before order x.0 (h x.1) (rows_by_key before h xs)
      (keyed_after x.0 xs up.0)
      ∙ ap (λ b. option_and_then h (if b then Some x.1 else row_at before q xs))
      (sym (one_both before order q x.0 e f))))

  -- so: one row of the table at most for each keyed row
  pub enumerates : (xs : List (K × X)) (sources : List X) → rows_of before order xs ≡ sources
      → Rises before xs
      → Enumerates before (λ k. option_and_then h (row_at before k xs)) (filter_map h sources)
  enumerates xs sources same up = record {
    entries = rows_by_key before h xs;
    rows_are = keyed_rows xs ∙ ap (filter_map h) same;
    rises = keyed_rises xs up;
    at_is = λ k. at_keyed k xs up;
  }

-- A table that is put into ascending order of the rows' own keys, of which no two are one, is the
-- partial function that finds a key among its rows.
use Rattle.std.proofs.Common.{◌≡◌, ◌∙◌, List, [], ◌∷◌, map, Some, Bool, true, false, true≢false, refl, sym, ap, subst}
use Rattle.std.specs.Prelude.{if◌then◌else◌}
use Rattle.api_types.specs.Ascending.{ascending, put_in}
use Rattle.plane_types.specs.Keyed.{IsTotal, are_one, Others, AreApart, Rises, row_at, put_at, with_keys, Enumerates}
use Rattle.plane_types.proofs.KeyedLemmas.{three_ways, one_both, apart_first, apart_second, rises_put, at_put_here, at_put_apart, put_later, put_front, rows_of}

module _ {K R : Type 0} (before : K → K → Bool) (order : IsTotal before) (key : R → K) where
  abbrev pub by_key : R → R → Bool
  by_key a b = before (key a) (key b)

  abbrev pub keys : List R → List K
  keys xs = map key xs

  pairs_rows : (xs : List R) → rows_of before order (with_keys key xs) ≡ xs
  pairs_rows [] = refl
  pairs_rows (x ∷ xs) = ap (λ l. x ∷ l) (pairs_rows xs)

  -- to put a row with another key in its place is a put at its key
  put_in_is : (r : R) (ys : List R) → Others before (key r) (keys ys)
      → with_keys key (put_in by_key r ys) ≡ put_at before (key r) (Some r) (with_keys key ys)
  unfolding put_in
  put_in_is r [] h = refl
  put_in_is r (y ∷ ys) h =
      let rest : with_keys key (put_in by_key r ys)
      ≡ put_at before (key r) (Some r) (with_keys key ys) =
      put_in_is r ys h.1 in
      three_ways before order (key y) (key r) (with_keys key (put_in by_key r (y ∷ ys))
      ≡ put_at before (key r) (Some r) (with_keys key (y ∷ ys)))
      (λ e. ap (λ b. with_keys key (if b then y ∷ put_in by_key r ys else r ∷ y ∷ ys)) e
      ∙ (ap (λ l. (key y, y) ∷ l) rest
      ∙ sym (put_later before order (key r) (Some r) (key y, y) (with_keys key ys) e)))
      (λ e. ap (λ b. with_keys key (if b then y ∷ put_in by_key r ys else r ∷ y ∷ ys))
      (order.one_way (key r) (key y) e)
      ∙ sym (put_front before order (key r) (Some r) (key y, y) (with_keys key ys) e))
      (λ e f. absurd (true≢false (sym (one_both before order (key y) (key r) e f) ∙ h.0)))

  others_put : (k : K) (r : R) (ys : List R) → are_one before (key r) k ≡ false
      → Others before k (keys ys) → Others before k (keys (put_in by_key r ys))
  unfolding put_in
  others_put k r [] e h = (e, tt)
  others_put k r (y ∷ ys) e h = go (by_key y r) (others_put k r ys e h.1)
    where
      go : (b : Bool) → Others before k (keys (put_in by_key r ys))
          → Others before k (keys (if b then y ∷ put_in by_key r ys else r ∷ y ∷ ys))
      go true rest = (h.0, rest)
      go false rest = (e, h)

  others_sorted : (k : K) (xs : List R) → Others before k (keys xs)
      → Others before k (keys (ascending by_key xs))
  unfolding ascending
  others_sorted k [] h = tt
  others_sorted k (x ∷ xs) h = others_put k x (ascending by_key xs) h.0 (others_sorted k xs h.1)

  sorted_is : (x : R) (xs : List R) → Others before (key x) (keys xs)
      → with_keys key (put_in by_key x (ascending by_key xs))
      ≡ put_at before (key x) (Some x) (with_keys key (ascending by_key xs))
  sorted_is x xs h = put_in_is x (ascending by_key xs) (others_sorted (key x) xs h)

  pub sorted_rises : (xs : List R) → AreApart before (keys xs)
      → Rises before (with_keys key (ascending by_key xs))
  unfolding ascending
  sorted_rises [] h = tt
  sorted_rises (x ∷ xs) h =
      subst (Rises before) (sym (sorted_is x xs h.0))
      (rises_put before order (key x) (Some x) (with_keys key (ascending by_key xs))
      (sorted_rises xs h.1))

  pub sorted_at : (k : K) (xs : List R) → AreApart before (keys xs)
      → row_at before k (with_keys key (ascending by_key xs)) ≡ row_at before k (with_keys key xs)
  unfolding ascending
  sorted_at k [] h = refl
  sorted_at k (x ∷ xs) h =
      let rest : row_at before k (with_keys key (ascending by_key xs))
      ≡ row_at before k (with_keys key xs) =
      sorted_at k xs h.1 in
      let apart : are_one before k (key x) ≡ false
      → row_at before k (with_keys key (put_in by_key x (ascending by_key xs)))
      ≡ row_at before k (with_keys key (x ∷ xs)) = λ e.
      ap (row_at before k) (sorted_is x xs h.0)
      ∙ (at_put_apart before order k (key x) (Some x)
      (with_keys key (ascending by_key xs)) e
      ∙ (rest ∙ ap (λ b. if b then Some x else row_at before k (with_keys key xs)) (sym e)))
      in
      three_ways before order k (key x)
      (row_at before k (with_keys key (put_in by_key x (ascending by_key xs)))
      ≡ row_at before k (with_keys key (x ∷ xs)))
      (λ e. apart (apart_first before order k (key x) e))
      (λ e. apart (apart_second before order k (key x) e))
      (λ e f.
      ap (row_at before k) (sorted_is x xs h.0)
      ∙ (ap (λ q. row_at before q
      (put_at before (key x) (Some x) (with_keys key (ascending by_key xs))))
      (order.same k (key x) e f)
      ∙ (at_put_here before order (key x) (Some x) (with_keys key (ascending by_key xs))
      (sorted_rises xs h.1)
      ∙ ap (λ b. if b then Some x else row_at before k (with_keys key xs))
      (sym (one_both before order k (key x) e f)))))

  pub enumerates_sorted : (xs : List R) → AreApart before (keys xs)
      → Enumerates before (λ k. row_at before k (with_keys key xs)) (ascending by_key xs)
  enumerates_sorted xs apart = record {
    entries = with_keys key (ascending by_key xs);
    rows_are = pairs_rows (ascending by_key xs);
    rises = sorted_rises xs apart;
    at_is = λ k. sorted_at k xs apart;
  }

-- Rows of a kind before a change and after it, by numbers that they keep: what is found there, and
-- the rows that pass a test, are the same if each such row is there at its number.
use Rattle.std.proofs.Common.{◌≡◌, ◌∙◌, ℕ, suc, List, [], ◌∷◌, Bool, true, false, Option, Some, None, cond, find, slice_get, refl, ap, sym, subst, zero, ◌+◌, arith}
use Rattle.std.specs.Prelude.{if◌then◌else◌, nat_lt, option_and_then}
use Rattle.std.specs.List.{filter}
use Rattle.api_types.specs.Lists.{Each}
use Rattle.api_types.proofs.ListLemmas.{at_filter, none_some, some_equal}
use Rattle.plane_types.specs.Keyed.{AllAfter, Rises, are_one, cons_at, row_at, rows_by_key}
use Rattle.plane_types.specs.Numbered.{with_numbers}
use Rattle.plane_types.proofs.KeyedLemmas.{apart_first, apart_second, none_after, one_itself, same_entries, three_ways}
use Rattle.plane_types.proofs.NumberedLemmas.{number_order, plain}
use Rattle.plane_types.proofs.TableLemmas.{at_keyed, keyed_rises}
use Rattle.plane_laws.proofs.Facts.{AtMostOne}
use Rattle.table_edits.proofs.NumberSteps.{place_row}

module _ {R : Type 0} where
  -- what has a number among the later rows has it among all
  pub later : (x : ℕ × R) (xs : List (ℕ × R)) (k : ℕ) (r : R) → AllAfter nat_lt x.0 xs
      → row_at nat_lt k xs ≡ Some r → row_at nat_lt k (x ∷ xs) ≡ Some r
  later x xs k r up at =
      let apart : are_one nat_lt k x.0 ≡ false → row_at nat_lt k (x ∷ xs) ≡ Some r =
      λ e. ap (λ b. if b then Some x.1 else row_at nat_lt k xs) e ∙ at in
      three_ways nat_lt number_order k x.0 (row_at nat_lt k (x ∷ xs) ≡ Some r)
      (λ e. apart (apart_first nat_lt number_order k x.0 e))
      (λ e. apart (apart_second nat_lt number_order k x.0 e))
      (λ e f.
      let key : k ≡ x.0 = number_order.same k x.0 e f in
      none_some r _ (sym (none_after nat_lt number_order k xs
      (subst (λ n. AllAfter nat_lt n xs) (sym key) up)) ∙ at))

  -- a row at a place has a number
  pub number_at : (xs : List (ℕ × R)) → Rises nat_lt xs → (i : ℕ) (r : R)
      → slice_get (plain xs) i ≡ Some r → (k : ℕ) × (row_at nat_lt k xs ≡ Some r)
  number_at [] up i r at = none_some r _ at
  number_at (x ∷ xs) up i r at = go i at (λ j h. number_at xs up.1 j r h)
    where
      go : (i : ℕ) → slice_get (plain (x ∷ xs)) i ≡ Some r
          → ((j : ℕ) → slice_get (plain xs) j ≡ Some r → (k : ℕ) × (row_at nat_lt k xs ≡ Some r))
          → (k : ℕ) × (row_at nat_lt k (x ∷ xs) ≡ Some r)
      go zero h rest = (
        x.0,
        ap (λ b. if b then Some x.1 else row_at nat_lt x.0 xs)
            (one_itself nat_lt number_order x.0) ∙ h,
      )
      go (suc j) h rest = let found = rest j h in (found.0, later x xs found.0 r up.0 found.1)

  -- what has a number is at a place
  pub place_at : (xs : List (ℕ × R)) (k : ℕ) (r : R) → row_at nat_lt k xs ≡ Some r
      → (i : ℕ) × (slice_get (plain xs) i ≡ Some r)
  place_at [] k r at = none_some r _ at
  place_at (x ∷ xs) k r at = go (are_one nat_lt k x.0) at (λ h. place_at xs k r h)
    where
      go : (b : Bool) → (if b then Some x.1 else row_at nat_lt k xs) ≡ Some r
          → (row_at nat_lt k xs ≡ Some r → (i : ℕ) × (slice_get (plain xs) i ≡ Some r))
          → (i : ℕ) × (slice_get (plain (x ∷ xs)) i ≡ Some r)
      go true h rest = (0, h)
      go false h rest = let found = rest h in (suc found.0, found.1)

  -- before a change the number of a row is its place
  pub place_of_number : (rows : List R) (k : ℕ)
      → row_at nat_lt k (with_numbers 0 rows) ≡ slice_get rows k
  place_of_number rows k =
      let start : k ≡ 0 + k = omega arith in
      ap (λ m. row_at nat_lt m (with_numbers 0 rows)) start ∙ place_row 0 rows k

  module _ (test : R → Bool) where
    -- what is found has a number
    pub number_found : (xs : List (ℕ × R)) → Rises nat_lt xs → (r : R)
        → find test (plain xs) ≡ Some r
        → (k : ℕ) × (row_at nat_lt k xs ≡ Some r) × (test r ≡ true)
    number_found [] up r h = none_some r _ h
    number_found (x ∷ xs) up r h = go (test x.1) refl h (λ f. number_found xs up.1 r f)
      where
        go : (b : Bool) → test x.1 ≡ b → cond b (Some x.1) (find test (plain xs)) ≡ Some r
            → (find test (plain xs) ≡ Some r
            → (k : ℕ) × (row_at nat_lt k xs ≡ Some r) × (test r ≡ true))
            → (k : ℕ) × (row_at nat_lt k (x ∷ xs) ≡ Some r) × (test r ≡ true)
        go true e f rest = (
          x.0,
          ap (λ b. if b then Some x.1 else row_at nat_lt x.0 xs)
              (one_itself nat_lt number_order x.0) ∙ f,
          ap test (sym (some_equal x.1 r f)) ∙ e,
        )
        go false e f rest =
            let found = rest f in (found.0, later x xs found.0 r up.0 found.1, found.2)

    -- the one that passes is found
    pub found_at : (xs : List (ℕ × R)) → AtMostOne test (plain xs) → (k : ℕ) (r : R)
        → row_at nat_lt k xs ≡ Some r → test r ≡ true → find test (plain xs) ≡ Some r
    found_at [] once k r at passes = none_some r _ at
    found_at (x ∷ xs) once k r at passes =
        go (are_one nat_lt k x.0) at (λ h. found_at xs once.1 k r h passes)
      where
        by : (b : Bool) → test x.1 ≡ b → find test (plain xs) ≡ Some r
            → cond b (Some x.1) (find test (plain xs)) ≡ Some r
        by true e rest = none_some r _ (sym (once.0 e) ∙ rest)
        by false e rest = rest

        go : (b : Bool) → (if b then Some x.1 else row_at nat_lt k xs) ≡ Some r
            → (row_at nat_lt k xs ≡ Some r → find test (plain xs) ≡ Some r)
            → find test (plain (x ∷ xs)) ≡ Some r
        go true h rest =
            ap (λ b. cond b (Some x.1) (find test (plain xs)))
            (ap test (some_equal x.1 r h) ∙ passes) ∙ h
        go false h rest =
            let e : test x.1 ≡ test x.1 = refl in by (test x.1) e (rest h)

  -- each row that passes a test stands at its number elsewhere too, and passes one there
  abbrev pub Carries : (R → Bool) → (R → Bool) → List (ℕ × R) → List (ℕ × R) → Type 0
  Carries test now xs ys =
      (k : ℕ) (r : R) → row_at nat_lt k xs ≡ Some r → test r ≡ true
      → (row_at nat_lt k ys ≡ Some r) × (now r ≡ true)

  module _ (test now : R → Bool) (xs ys : List (ℕ × R)) (up : Rises nat_lt xs)
      (up_now : Rises nat_lt ys) (there : Carries test now xs ys) (back : Carries now test ys xs) where
    -- the one that passes stays
    pub same_found : AtMostOne test (plain xs) → AtMostOne now (plain ys)
        → find test (plain xs) ≡ find now (plain ys)
    same_found once once_now = go (find test (plain xs)) (find now (plain ys)) refl refl
      where
        go : (o p : Option R) → find test (plain xs) ≡ o → find now (plain ys) ≡ p
            → find test (plain xs) ≡ find now (plain ys)
        go (Some r) p e f =
            let old = number_found test xs up r e in
            let new = there old.0 r old.1 old.2 in
            e ∙ sym (found_at now ys once_now old.0 r new.0 new.1)
        go None (Some r) e f =
            let new = number_found now ys up_now r f in
            let old = back new.0 r new.1 new.2 in
            none_some r _ (sym e ∙ found_at test xs once new.0 r old.0 old.1)
        go None None e f = e ∙ sym f

    abbrev kept : (R → Bool) → R → Option R
    kept t r = if t r then Some r else None

    as_keyed : (t : R → Bool) (zs : List (ℕ × R))
        → filter (λ (x : ℕ × R). t x.1) zs ≡ rows_by_key nat_lt (kept t) zs
    as_keyed t [] = refl
    as_keyed t (z ∷ zs) = go (t z.1) (as_keyed t zs)
      where
        go : (b : Bool) → filter (λ (x : ℕ × R). t x.1) zs ≡ rows_by_key nat_lt (kept t) zs
            → (if b then z ∷ filter (λ (x : ℕ × R). t x.1) zs
            else filter (λ (x : ℕ × R). t x.1) zs)
            ≡ cons_at nat_lt z.0 (if b then Some z.1 else None) (rows_by_key nat_lt (kept t) zs)
        go true rest = ap (λ l. z ∷ l) rest
        go false rest = rest

    fails : (k : ℕ) (o p : Option R) → row_at nat_lt k xs ≡ o → row_at nat_lt k ys ≡ p
        → option_and_then (kept test) o ≡ None → option_and_then (kept now) p ≡ None
    fails k o None e f none = refl
    fails k o (Some q) e f none = by (now q) refl
      where
        by : (b : Bool) → now q ≡ b → kept now q ≡ None
        by true n =
            let was = back k q f n in
            none_some q _ (sym none ∙ ap (option_and_then (kept test)) (sym e ∙ was.0)
            ∙ ap (λ b. if b then Some q else None) was.1)
        by false n = ap (λ b. if b then Some q else None) n

    at_each : (k : ℕ) → option_and_then (kept test) (row_at nat_lt k xs)
        ≡ option_and_then (kept now) (row_at nat_lt k ys)
    at_each k = go (row_at nat_lt k xs) (row_at nat_lt k ys) refl refl
      where
        go : (o p : Option R) → row_at nat_lt k xs ≡ o → row_at nat_lt k ys ≡ p
            → option_and_then (kept test) o ≡ option_and_then (kept now) p
        go None p e f = sym (fails k None p e f refl)
        go (Some r) p e f = by (test r) refl
          where
            by : (b : Bool) → test r ≡ b → kept test r ≡ option_and_then (kept now) p
            by true t =
                let is = there k r e t in
                ap (λ b. if b then Some r else None) t
                ∙ sym (ap (option_and_then (kept now)) (sym f ∙ is.0)
                ∙ ap (λ b. if b then Some r else None) is.1)
            by false t =
                let off : kept test r ≡ None = ap (λ b. if b then Some r else None) t in
                off ∙ sym (fails k (Some r) p e f off)

    -- those that pass stay, with their numbers
    pub same_filtered : filter (λ (x : ℕ × R). test x.1) xs ≡ filter (λ (x : ℕ × R). now x.1) ys
    same_filtered =
        as_keyed test xs
        ∙ same_entries nat_lt number_order (rows_by_key nat_lt (kept test) xs)
        (rows_by_key nat_lt (kept now) ys) (keyed_rises nat_lt number_order (kept test) xs up)
        (keyed_rises nat_lt number_order (kept now) ys up_now)
        (λ k. at_keyed nat_lt number_order (kept test) k xs up ∙ at_each k
        ∙ sym (at_keyed nat_lt number_order (kept now) k ys up_now))
        ∙ sym (as_keyed now ys)

  -- the rows that pass, without their numbers
  pub plain_filtered : (test : R → Bool) (xs : List (ℕ × R))
      → plain (filter (λ (x : ℕ × R). test x.1) xs) ≡ filter test (plain xs)
  plain_filtered test [] = refl
  plain_filtered test (x ∷ xs) = go (test x.1) (plain_filtered test xs)
    where
      go : (b : Bool) → plain (filter (λ (y : ℕ × R). test y.1) xs) ≡ filter test (plain xs)
          → plain (if b then x ∷ filter (λ (y : ℕ × R). test y.1) xs
          else filter (λ (y : ℕ × R). test y.1) xs)
          ≡ (if b then x.1 ∷ filter test (plain xs) else filter test (plain xs))
      go true rest = ap (λ rs. x.1 ∷ rs) rest
      go false rest = rest

  -- what holds at each number of a row that passes holds of each such row
  pub each_filtered : (P : R → Type 0) (test : R → Bool) (xs : List (ℕ × R)) → Rises nat_lt xs
      → ((k : ℕ) (r : R) → row_at nat_lt k xs ≡ Some r → test r ≡ true → P r)
      → Each P (filter test (plain xs))
  each_filtered P test xs up holds i r at =
      let place = at_filter test (plain xs) i r at in
      let found = number_at xs up place.0 r place.1 in
      holds found.0 r found.1 place.2

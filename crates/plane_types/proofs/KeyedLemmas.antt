-- Ascending keys: what is found at them, what a put at a key does to the list and to what is
-- found.
use Rattle.std.proofs.Common.{◌≡◌, ◌∙◌, ℕ, zero, suc, List, [], ◌∷◌, map, Option, Some, None, Bool, true, false, not, refl, sym, ap, subst}
use Rattle.std.specs.Prelude.{◌&&◌, if◌then◌else◌, is_some}
use Rattle.plane_types.specs.Keyed.{IsTotal, are_one, AllAfter, Rises, row_at, below, cons_at, put_at}
use Rattle.plane_types.specs.Edits.{with_edit, edit_at}

abbrev some_or : {X : Type 0} → X → Option X → X
some_or d None = d
some_or d (Some x) = x

and_false : (b : Bool) → b && false ≡ false
and_false true = refl
and_false false = refl

module _ {K : Type 0} (before : K → K → Bool) (order : IsTotal before) where
  pub never : (k : K) → before k k ≡ false
  never k = go (before k k) refl
    where
      go : (b : Bool) → before k k ≡ b → b ≡ false
      go true e = sym e ∙ order.one_way k k e
      go false e = refl

  pub one_itself : (k : K) → are_one before k k ≡ true
  one_itself k = ap (λ b. not b && not (before k k)) (never k) ∙ ap (λ b. not b) (never k)

  -- of two keys, one comes first or they are one
  pub three_ways : (a b : K) (P : Type 0) → (before a b ≡ true → P) → (before b a ≡ true → P)
      → (before a b ≡ false → before b a ≡ false → P) → P
  three_ways a b P first second one = go (before a b) (before b a) refl refl
    where
      go : (c d : Bool) → before a b ≡ c → before b a ≡ d → P
      go true d e f = first e
      go false true e f = second f
      go false false e f = one e f

  pub apart_first : (a b : K) → before a b ≡ true → are_one before a b ≡ false
  apart_first a b e = ap (λ c. not c && not (before b a)) e

  pub apart_second : (a b : K) → before b a ≡ true → are_one before a b ≡ false
  apart_second a b e = ap (λ c. not (before a b) && not c) e ∙ and_false (not (before a b))

  pub one_both : (a b : K) → before a b ≡ false → before b a ≡ false → are_one before a b ≡ true
  one_both a b e f = ap (λ c. not c && not (before b a)) e ∙ ap (λ c. not c) f

module _ {K R : Type 0} (before : K → K → Bool) (order : IsTotal before) where
  pub after_chain : (a b : K) (xs : List (K × R)) → before a b ≡ true → AllAfter before b xs
      → AllAfter before a xs
  after_chain a b [] e h = tt
  after_chain a b (x ∷ xs) e h = (order.chain a b x.0 e h.0, after_chain a b xs e h.1)

  pub none_after : (k : K) (xs : List (K × R)) → AllAfter before k xs → row_at before k xs ≡ None
  none_after k [] h = refl
  none_after k (x ∷ xs) h =
      ap (λ b. if b then Some x.1 else row_at before k xs) (apart_first before order k x.0 h.0)
      ∙ none_after k xs h.1

  -- two lists that rise and at each key have the same are one
  pub same_entries : (xs ys : List (K × R)) → Rises before xs → Rises before ys
      → ((k : K) → row_at before k xs ≡ row_at before k ys) → xs ≡ ys
  same_entries [] [] up_x up_y same = refl
  same_entries [] (y ∷ ys) up_x up_y same = let e =
      same y.0 ∙ ap (λ b. if b then Some y.1 else row_at before y.0 ys)
      (one_itself before order y.0) in cc
  same_entries (x ∷ xs) [] up_x up_y same = let e =
      sym (ap (λ b. if b then Some x.1 else row_at before x.0 xs) (one_itself before order x.0))
      ∙ same x.0 in cc
  same_entries (x ∷ xs) (y ∷ ys) up_x up_y same =
      three_ways before order x.0 y.0 (x ∷ xs ≡ y ∷ ys)
      (λ e. let h = sym here_x ∙ same x.0
      ∙ none_after x.0 (y ∷ ys) (e, after_chain x.0 y.0 ys e up_y.0) in cc)
      (λ e. let h = sym here_y ∙ sym (same y.0)
      ∙ none_after y.0 (x ∷ xs) (e, after_chain y.0 x.0 xs e up_x.0) in cc)
      (λ e f.
      let key : x.0 ≡ y.0 = order.same x.0 y.0 e f in
      let found : Some x.1 ≡ Some y.1 =
      sym here_x ∙ same x.0 ∙ ap (λ k. row_at before k (y ∷ ys)) key ∙ here_y in
      let row : x.1 ≡ y.1 = ap (some_or x.1) found in
      (λ j. (key j, row j) ∷ same_entries xs ys up_x.1 up_y.1 (left key) j))
    where
      here_x : row_at before x.0 (x ∷ xs) ≡ Some x.1
      here_x = ap (λ b. if b then Some x.1 else row_at before x.0 xs) (one_itself before order x.0)

      here_y : row_at before y.0 (y ∷ ys) ≡ Some y.1
      here_y = ap (λ b. if b then Some y.1 else row_at before y.0 ys) (one_itself before order y.0)

      -- the rest has the same at each key
      left : x.0 ≡ y.0 → (k : K) → row_at before k xs ≡ row_at before k ys
      left key k =
          let apart : are_one before k x.0 ≡ false → row_at before k xs ≡ row_at before k ys = λ e.
          sym (ap (λ b. if b then Some x.1 else row_at before k xs) e)
          ∙ (same k ∙ ap (λ b. if b then Some y.1 else row_at before k ys)
          (ap (are_one before k) (sym key) ∙ e)) in
          three_ways before order k x.0 (row_at before k xs ≡ row_at before k ys)
          (λ e. apart (apart_first before order k x.0 e))
          (λ e. apart (apart_second before order k x.0 e))
          (λ e f.
          let at_k : k ≡ x.0 = order.same k x.0 e f in
          (ap (λ q. row_at before q xs) at_k ∙ none_after x.0 xs up_x.0)
          ∙ sym (ap (λ q. row_at before q ys) (at_k ∙ key) ∙ none_after y.0 ys up_y.0))

  -- ---- a row is put at a key, or what is there goes

  -- by the three ways in which a key stands to the first
  pub put_later : (k : K) (o : Option R) (x : K × R) (xs : List (K × R)) → before x.0 k ≡ true
      → put_at before k o (x ∷ xs) ≡ x ∷ put_at before k o xs
  put_later k o x xs e =
      ap (λ b. if b then x ∷ put_at before k o xs
      else (if before k x.0 then cons_at before k o (x ∷ xs) else cons_at before k o xs)) e

  pub put_front : (k : K) (o : Option R) (x : K × R) (xs : List (K × R)) → before k x.0 ≡ true
      → put_at before k o (x ∷ xs) ≡ cons_at before k o (x ∷ xs)
  put_front k o x xs e =
      ap (λ b. if b then x ∷ put_at before k o xs
      else (if before k x.0 then cons_at before k o (x ∷ xs) else cons_at before k o xs))
      (order.one_way k x.0 e)
      ∙ ap (λ b. if b then cons_at before k o (x ∷ xs) else cons_at before k o xs) e

  put_here : (k : K) (o : Option R) (x : K × R) (xs : List (K × R)) → before x.0 k ≡ false
      → before k x.0 ≡ false → put_at before k o (x ∷ xs) ≡ cons_at before k o xs
  put_here k o x xs e f =
      ap (λ b. if b then x ∷ put_at before k o xs
      else (if before k x.0 then cons_at before k o (x ∷ xs) else cons_at before k o xs)) e
      ∙ ap (λ b. if b then cons_at before k o (x ∷ xs) else cons_at before k o xs) f

  pub after_cons : (a k : K) (o : Option R) (xs : List (K × R)) → before a k ≡ true
      → AllAfter before a xs → AllAfter before a (cons_at before k o xs)
  after_cons a k None xs e h = h
  after_cons a k (Some r) xs e h = (e, h)

  pub rises_cons : (k : K) (o : Option R) (xs : List (K × R)) → AllAfter before k xs
      → Rises before xs → Rises before (cons_at before k o xs)
  rises_cons k None xs e h = h
  rises_cons k (Some r) xs e h = (e, h)

  after_put : (a k : K) (o : Option R) (xs : List (K × R)) → before a k ≡ true
      → AllAfter before a xs → AllAfter before a (put_at before k o xs)
  after_put a k o [] e h = after_cons a k o [] e h
  after_put a k o (x ∷ xs) e h =
      three_ways before order x.0 k (AllAfter before a (put_at before k o (x ∷ xs)))
      (λ f. subst (AllAfter before a) (sym (put_later k o x xs f)) (h.0, after_put a k o xs e h.1))
      (λ f. subst (AllAfter before a) (sym (put_front k o x xs f)) (after_cons a k o (x ∷ xs) e h))
      (λ f g. subst (AllAfter before a) (sym (put_here k o x xs f g)) (after_cons a k o xs e h.1))

  pub rises_put : (k : K) (o : Option R) (xs : List (K × R)) → Rises before xs
      → Rises before (put_at before k o xs)
  rises_put k o [] h = rises_cons k o [] tt tt
  rises_put k o (x ∷ xs) h =
      three_ways before order x.0 k (Rises before (put_at before k o (x ∷ xs)))
      (λ f. subst (Rises before) (sym (put_later k o x xs f)) (
        after_put x.0 k o xs f h.0,
        rises_put k o xs h.1,
      ))
      (λ f. subst (Rises before) (sym (put_front k o x xs f)) (rises_cons k o (x ∷ xs) (
        f,
        after_chain k x.0 xs f h.0,
      ) h))
      (λ f g.
      let key : x.0 ≡ k = order.same x.0 k f g in
      subst (Rises before) (sym (put_here k o x xs f g))
      (rises_cons k o xs (subst (λ q. AllAfter before q xs) key h.0) h.1))

  -- what is found then
  pub at_cons_here : (k : K) (o : Option R) (xs : List (K × R)) → AllAfter before k xs
      → row_at before k (cons_at before k o xs) ≡ o
  at_cons_here k None xs h = none_after k xs h
  at_cons_here k (Some r) xs h =
      ap (λ b. if b then Some r else row_at before k xs) (one_itself before order k)

  pub at_cons_apart : (q k : K) (o : Option R) (xs : List (K × R)) → are_one before q k ≡ false
      → row_at before q (cons_at before k o xs) ≡ row_at before q xs
  at_cons_apart q k None xs e = refl
  at_cons_apart q k (Some r) xs e = ap (λ b. if b then Some r else row_at before q xs) e

  pub at_put_here : (k : K) (o : Option R) (xs : List (K × R)) → Rises before xs
      → row_at before k (put_at before k o xs) ≡ o
  at_put_here k o [] h = at_cons_here k o [] tt
  at_put_here k o (x ∷ xs) h =
      three_ways before order x.0 k (row_at before k (put_at before k o (x ∷ xs)) ≡ o)
      (λ f. ap (row_at before k) (put_later k o x xs f)
      ∙ (ap (λ b. if b then Some x.1 else row_at before k (put_at before k o xs))
      (apart_second before order k x.0 f) ∙ at_put_here k o xs h.1))
      (λ f. ap (row_at before k) (put_front k o x xs f)
      ∙ at_cons_here k o (x ∷ xs) (f, after_chain k x.0 xs f h.0))
      (λ f g.
      let key : x.0 ≡ k = order.same x.0 k f g in
      ap (row_at before k) (put_here k o x xs f g)
      ∙ at_cons_here k o xs (subst (λ q. AllAfter before q xs) key h.0))

  pub at_put_apart : (q k : K) (o : Option R) (xs : List (K × R)) → are_one before q k ≡ false
      → row_at before q (put_at before k o xs) ≡ row_at before q xs
  at_put_apart q k o [] e = at_cons_apart q k o [] e
  at_put_apart q k o (x ∷ xs) e =
      three_ways before order x.0 k (row_at before q (put_at before k o (x ∷ xs))
      ≡ row_at before q (x ∷ xs))
      (λ f. ap (row_at before q) (put_later k o x xs f)
      ∙ ap (λ r. if are_one before q x.0 then Some x.1 else r) (at_put_apart q k o xs e))
      (λ f. ap (row_at before q) (put_front k o x xs f) ∙ at_cons_apart q k o (x ∷ xs) e)
      (λ f g.
      let key : x.0 ≡ k = order.same x.0 k f g in
      let apart : are_one before q x.0 ≡ false = ap (are_one before q) key ∙ e in
      ap (row_at before q) (put_here k o x xs f g)
      ∙ (at_cons_apart q k o xs e
      ∙ sym (ap (λ b. if b then Some x.1 else row_at before q xs) apart)))

  -- ---- as an edit of the list of rows

  abbrev pub rows_of : List (K × R) → List R
  rows_of xs = map (λ (x : K × R). x.1) xs

  edit_later : (r : R) (rows : List R) (place : ℕ) (out : Bool) (put : Option R)
      → with_edit (r ∷ rows) (record { place = suc place; out = out; put = put })
      ≡ r ∷ with_edit rows (record { place = place; out = out; put = put })
  edit_later r rows place true None = refl
  edit_later r rows place true (Some p) = refl
  edit_later r rows place false None = refl
  edit_later r rows place false (Some p) = refl

  edit_front : (rows : List R) (k : K) (o : Option R) (xs : List (K × R))
      → with_edit (rows_of xs) (record { place = zero; out = false; put = o })
      ≡ rows_of (cons_at before k o xs)
  edit_front rows k None xs = refl
  edit_front rows k (Some r) xs = refl

  edit_here : (k : K) (o : Option R) (x : K × R) (xs : List (K × R))
      → with_edit (rows_of (x ∷ xs)) (record { place = zero; out = true; put = o })
      ≡ rows_of (cons_at before k o xs)
  edit_here k None x xs = refl
  edit_here k (Some r) x xs = refl

  pub put_is_edit : (k : K) (o : Option R) (xs : List (K × R)) → Rises before xs
      → with_edit (rows_of xs) (edit_at before xs (k, o)) ≡ rows_of (put_at before k o xs)
  put_is_edit k o [] h = edit_front [] k o []
  put_is_edit k o (x ∷ xs) h =
      three_ways before order x.0 k (with_edit (rows_of (x ∷ xs)) (edit_at before (x ∷ xs) (k, o))
      ≡ rows_of (put_at before k o (x ∷ xs)))
      (λ f.
      (λ j. with_edit (rows_of (x ∷ xs)) (record {
        place = if f j then suc (below before k xs)
            else zero;
        out =
            is_some (if apart_second before order k x.0 f j then Some x.1
            else row_at before k xs);
        put = o;
      }))
      ∙ (edit_later x.1 (rows_of xs) (below before k xs) (is_some (row_at before k xs)) o
      ∙ (ap (λ rows. x.1 ∷ rows) (put_is_edit k o xs h.1)
      ∙ ap rows_of (sym (put_later k o x xs f)))))
      (λ f.
      let none : row_at before k (x ∷ xs) ≡ None =
      none_after k (x ∷ xs) (f, after_chain k x.0 xs f h.0) in
      (λ j. with_edit (rows_of (x ∷ xs)) (record {
        place = if order.one_way k x.0 f j
            then suc (below before k xs) else zero;
        out = is_some (none j);
        put = o;
      }))
      ∙ (edit_front [] k o (x ∷ xs) ∙ ap rows_of (sym (put_front k o x xs f))))
      (λ f g.
      (λ j. with_edit (rows_of (x ∷ xs)) (record {
        place = if f j then suc (below before k xs)
            else zero;
        out =
            is_some (if one_both before order k x.0 g f j then Some x.1 else row_at before k xs);
        put = o;
      }))
      ∙ (edit_here k o x xs ∙ ap rows_of (sym (put_here k o x xs f g))))

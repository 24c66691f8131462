-- Maps whose rows come from rows of two kinds, by the numbers that these keep through a change.
use Rattle.std.proofs.Common.{◌≡◌, ◌∙◌, ◌⊎◌, inl, inr, ℕ, ◌≤◌, List, [], ◌∷◌, ◌++◌, map, Option, Some, None, Bool, true, false, true≢false, cond, refl, sym, ap, subst, arith}
use Rattle.std.specs.Prelude.{◌||◌, if◌then◌else◌, find, flat_map, is_some, nat_lt, sum_by}
use Rattle.std.specs.List.{cons_option, filter_map}
use Rattle.std.proofs.lemmas.List.Sums.{sum_by-cons}
use Rattle.plane_laws.proofs.Facts.{AtMostOne}
use Rattle.plane_types.specs.Keyed.{AllAfter, AreApart, IsTotal, Rises, are_one, row_at}
use Rattle.plane_types.proofs.KeyedLemmas.{apart_second, one_itself}
use Rattle.plane_types.proofs.KeyedTablesLemmas.{unkeyed}
use Rattle.plane_types.proofs.NumberedLemmas.{number_order}
use Rattle.table_edits.specs.ChunksSeen.{chunk_at}
use Rattle.table_edits.specs.EditsAt.{KeysBefore, KeysDescend, among}
use Rattle.l2_delta.proofs.SourceLaw.{AreChanged, AreOwn, Distinct, Member, one_is}

-- ---- numbers

own_number : (k : ℕ) → are_one nat_lt k k ≡ true
own_number k = one_itself nat_lt number_order k

same_number : (k n : ℕ) → are_one nat_lt k n ≡ true → k ≡ n
same_number k n h = one_is nat_lt number_order k n h

abbrev pub numbers : {X : Type 0} → List (ℕ × X) → List ℕ
numbers xs = map (λ x. x.0) xs

pub member_among : (k : ℕ) (ks : List ℕ) → among nat_lt k ks ≡ true → Member k ks
member_among k [] h = absurd (true≢false (sym h))
member_among k (n ∷ ks) h = go (are_one nat_lt k n) refl h (member_among k ks)
  where
    go : (b : Bool) → are_one nat_lt k n ≡ b → b || among nat_lt k ks ≡ true → (among nat_lt k ks ≡ true → Member k ks) → (k ≡ n) ⊎ Member k ks
    go true e h rest = inl (same_number k n e)
    go false e h rest = inr (rest h)

none_before : (k n : ℕ) (ks : List ℕ) → KeysBefore nat_lt n ks → Member k ks → nat_lt k n ≡ true
none_before k n [] h m = absurd m
none_before k n (q ∷ ks) h (inl e) = ap (λ i. nat_lt i n) e ∙ h.0
none_before k n (q ∷ ks) h (inr m) = none_before k n ks h.1 m

never : (k : ℕ) → nat_lt k k ≡ true → ⊥
never k h = true≢false (sym h ∙ number_order.one_way k k h)

pub descend_once : (ks : List ℕ) → KeysDescend nat_lt ks → Distinct ks
descend_once [] h = tt
descend_once (k ∷ ks) h = ((λ m. never k (none_before k k ks h.0 m)), descend_once ks h.1)

module _ {X : Type 0} where
  none_later : (k n : ℕ) (xs : List (ℕ × X)) → AllAfter nat_lt n xs → Member k (numbers xs) → nat_lt n k ≡ true
  none_later k n [] h m = absurd m
  none_later k n (x ∷ xs) h (inl e) = ap (nat_lt n) e ∙ h.0
  none_later k n (x ∷ xs) h (inr m) = none_later k n xs h.1 m

  pub rise_once : (xs : List (ℕ × X)) → Rises nat_lt xs → Distinct (numbers xs)
  rise_once [] h = tt
  rise_once (x ∷ xs) h = ((λ m. never x.0 (none_later x.0 x.0 xs h.0 m)), rise_once xs h.1)

  pub there : (k : ℕ) (xs : List (ℕ × X)) (x : X) → row_at nat_lt k xs ≡ Some x → Member k (numbers xs)
  there k [] x h = let bad : None ≡ Some x = h in cc
  there k (y ∷ xs) x h = go (are_one nat_lt k y.0) refl h (there k xs x)
    where
      go : (b : Bool) → are_one nat_lt k y.0 ≡ b → (if b then Some y.1 else row_at nat_lt k xs) ≡ Some x → (row_at nat_lt k xs ≡ Some x → Member k (numbers xs)) → (k ≡ y.0) ⊎ Member k (numbers xs)
      go true e h rest = inl (same_number k y.0 e)
      go false e h rest = inr (rest h)

  found_none : (test : X → Bool) (k : ℕ) (xs : List (ℕ × X)) (x : X) → find test (unkeyed xs) ≡ None → row_at nat_lt k xs ≡ Some x → test x ≡ true → ⊥
  found_none test k [] x none h t = let bad : None ≡ Some x = h in cc
  found_none test k (y ∷ xs) x none h t = go (are_one nat_lt k y.0) (test y.1) refl none h (λ n i. found_none test k xs x n i t)
    where
      go : (b c : Bool) → test y.1 ≡ c → cond c (Some y.1) (find test (unkeyed xs)) ≡ None → (if b then Some y.1 else row_at nat_lt k xs) ≡ Some x → (find test (unkeyed xs) ≡ None → row_at nat_lt k xs ≡ Some x → ⊥) → ⊥
      go b true f none h rest = let bad : Some y.1 ≡ None = none in cc
      go true false f none h rest = let same : y.1 ≡ x = cc in true≢false (sym t ∙ ap test (sym same) ∙ f)
      go false false f none h rest = rest none h

  -- if at most one row passes a test, two numbers of rows that pass it are one
  pub one_number : (test : X → Bool) (xs : List (ℕ × X)) → AtMostOne test (unkeyed xs) → (k j : ℕ) (x y : X) → row_at nat_lt k xs ≡ Some x → row_at nat_lt j xs ≡ Some y → test x ≡ true → test y ≡ true → k ≡ j
  one_number test [] one k j x y h i s t = let bad : None ≡ Some x = h in cc
  one_number test (z ∷ xs) one k j x y h i s t = go (are_one nat_lt k z.0) (are_one nat_lt j z.0) refl refl h i (λ h i. one_number test xs one.1 k j x y h i s t)
    where
      go : (b c : Bool) → are_one nat_lt k z.0 ≡ b → are_one nat_lt j z.0 ≡ c → (if b then Some z.1 else row_at nat_lt k xs) ≡ Some x → (if c then Some z.1 else row_at nat_lt j xs) ≡ Some y → (row_at nat_lt k xs ≡ Some x → row_at nat_lt j xs ≡ Some y → k ≡ j) → k ≡ j
      go true true e f h i rest = same_number k z.0 e ∙ sym (same_number j z.0 f)
      go true false e f h i rest = let same : z.1 ≡ x = cc in absurd (found_none test j xs y (one.0 (ap test same ∙ s)) i t)
      go false true e f h i rest = let same : z.1 ≡ y = cc in absurd (found_none test k xs x (one.0 (ap test same ∙ t)) h s)
      go false false e f h i rest = rest h i

  -- .. and one that passes it is what a search finds
  pub found_one : (test : X → Bool) (xs : List (ℕ × X)) → AtMostOne test (unkeyed xs) → (k : ℕ) (x : X) → row_at nat_lt k xs ≡ Some x → test x ≡ true → find test (unkeyed xs) ≡ Some x
  found_one test [] one k x h t = let bad : None ≡ Some x = h in cc
  found_one test (z ∷ xs) one k x h t = go (are_one nat_lt k z.0) (test z.1) refl h (λ h. found_one test xs one.1 k x h t)
    where
      go : (b c : Bool) → test z.1 ≡ c → (if b then Some z.1 else row_at nat_lt k xs) ≡ Some x → (row_at nat_lt k xs ≡ Some x → find test (unkeyed xs) ≡ Some x) → cond c (Some z.1) (find test (unkeyed xs)) ≡ Some x
      go true true f h rest = h
      go true false f h rest = let same : z.1 ≡ x = cc in absurd (true≢false (sym t ∙ ap test (sym same) ∙ f))
      go false true f h rest = let bad : None ≡ Some x = sym (one.0 f) ∙ rest h in cc
      go false false f h rest = rest h

  -- what a row weighs is at most what all weigh
  pub weighed : (w : X → ℕ) (k : ℕ) (xs : List (ℕ × X)) (x : X) → row_at nat_lt k xs ≡ Some x → w x ≤ sum_by w (unkeyed xs)
  weighed w k [] x h = let bad : None ≡ Some x = h in cc
  weighed w k (z ∷ xs) x h = go (are_one nat_lt k z.0) h (weighed w k xs x)
    where
      go : (b : Bool) → (if b then Some z.1 else row_at nat_lt k xs) ≡ Some x → (row_at nat_lt k xs ≡ Some x → w x ≤ sum_by w (unkeyed xs)) → w x ≤ sum_by w (unkeyed (z ∷ xs))
      go true h rest = let same : z.1 ≡ x = cc in subst (λ y. w y ≤ sum_by w (unkeyed (z ∷ xs))) same (omega (arith, sum_by-cons w z.1 (unkeyed xs)))
      go false h rest = let less = rest h in omega (arith, less, sum_by-cons w z.1 (unkeyed xs))

-- the rows with some numbers
abbrev pub at_numbers : {X : Type 0} → List (ℕ × X) → List ℕ → List X
at_numbers xs ks = filter_map (λ k. row_at nat_lt k xs) ks

module _ {X R : Type 0} (gives : X → List R) where
  -- what the row with a number gives
  abbrev pub of_number : List (ℕ × X) → ℕ → List R
  of_number xs k = chunk_at gives (row_at nat_lt k xs)

  skip : (y : ℕ × X) (xs : List (ℕ × X)) (ks : List ℕ) → ((k : ℕ) → Member k ks → nat_lt y.0 k ≡ true) → flat_map (of_number (y ∷ xs)) ks ≡ flat_map (of_number xs) ks
  skip y xs [] later = refl
  skip y xs (k ∷ ks) later =
      (λ j. chunk_at gives (if apart_second nat_lt number_order k y.0 (later k (inl refl)) j then Some y.1 else row_at nat_lt k xs) ++ skip y xs ks (λ n m. later n (inr m)) j)

  pub some_numbers : (xs : List (ℕ × X)) (ks : List ℕ) → flat_map (of_number xs) ks ≡ flat_map gives (at_numbers xs ks)
  some_numbers xs [] = refl
  some_numbers xs (k ∷ ks) = go (row_at nat_lt k xs) (some_numbers xs ks)
    where
      go : (o : Option X) → flat_map (of_number xs) ks ≡ flat_map gives (at_numbers xs ks) → chunk_at gives o ++ flat_map (of_number xs) ks ≡ flat_map gives (cons_option o (at_numbers xs ks))
      go None rest = rest
      go (Some x) rest = ap (λ l. gives x ++ l) rest

  pub all_numbers : (xs : List (ℕ × X)) → Rises nat_lt xs → flat_map (of_number xs) (numbers xs) ≡ flat_map gives (unkeyed xs)
  all_numbers [] h = refl
  all_numbers (x ∷ xs) h =
      (λ j. chunk_at gives (if own_number x.0 j then Some x.1 else row_at nat_lt x.0 xs) ++ skip x xs (numbers xs) (λ k m. none_later k x.0 xs h.0 m) j)
      ∙ ap (λ l. gives x.1 ++ l) (all_numbers xs h.1)

-- ---- sources of two kinds

abbrev pub Source : Type 0
Source = ℕ ⊎ ℕ

abbrev pub sources : List ℕ → List ℕ → List Source
sources ks js = map inl ks ++ map inr js

member_first : (k : ℕ) (ks js : List ℕ) → Member k ks → Member (inl k) (sources ks js)
member_first k [] js m = absurd m
member_first k (n ∷ ks) js (inl e) = inl (ap inl e)
member_first k (n ∷ ks) js (inr m) = inr (member_first k ks js m)

member_last : (j : ℕ) (js : List ℕ) → Member j js → Member {S = Source} (inr j) (map inr js)
member_last j [] m = absurd m
member_last j (n ∷ js) (inl e) = inl (ap inr e)
member_last j (n ∷ js) (inr m) = inr (member_last j js m)

member_second : (j : ℕ) (ks js : List ℕ) → Member j js → Member (inr j) (sources ks js)
member_second j [] js m = member_last j js m
member_second j (n ∷ ks) js m = inr (member_second j ks js m)

abbrev unleft : ℕ → Source → ℕ
unleft d (inl k) = k
unleft d (inr j) = d

abbrev unright : ℕ → Source → ℕ
unright d (inl k) = d
unright d (inr j) = j

abbrev is_left : Source → Bool
is_left (inl k) = true
is_left (inr j) = false

no_left : (k : ℕ) (js : List ℕ) → Member {S = Source} (inl k) (map inr js) → ⊥
no_left k [] m = m
no_left k (j ∷ js) (inl e) = true≢false (ap is_left e)
no_left k (j ∷ js) (inr m) = no_left k js m

first_member : (k : ℕ) (ks js : List ℕ) → Member (inl k) (sources ks js) → Member k ks
first_member k [] js m = absurd (no_left k js m)
first_member k (n ∷ ks) js (inl e) = inl (ap (unleft k) e)
first_member k (n ∷ ks) js (inr m) = inr (first_member k ks js m)

last_member : (j : ℕ) (js : List ℕ) → Member {S = Source} (inr j) (map inr js) → Member j js
last_member j [] m = absurd m
last_member j (n ∷ js) (inl e) = inl (ap (unright j) e)
last_member j (n ∷ js) (inr m) = inr (last_member j js m)

last_once : (js : List ℕ) → Distinct js → Distinct {S = Source} (map inr js)
last_once [] h = tt
last_once (j ∷ js) h = ((λ m. h.0 (last_member j js m)), last_once js h.1)

pub sources_once : (ks js : List ℕ) → Distinct ks → Distinct js → Distinct (sources ks js)
sources_once [] js h i = last_once js i
sources_once (k ∷ ks) js h i = ((λ m. h.0 (first_member k ks js m)), sources_once ks js h.1 i)

module _ {X Y R : Type 0} (first : X → List R) (second : Y → List R) where
  abbrev pub of_source : List (ℕ × X) → List (ℕ × Y) → Source → List R
  of_source xs ys (inl k) = of_number first xs k
  of_source xs ys (inr j) = of_number second ys j

  seconds_give : (xs : List (ℕ × X)) (ys : List (ℕ × Y)) (js : List ℕ) → flat_map (of_source xs ys) (map inr js) ≡ flat_map (of_number second ys) js
  seconds_give xs ys [] = refl
  seconds_give xs ys (j ∷ js) = ap (λ l. of_number second ys j ++ l) (seconds_give xs ys js)

  pub sources_give : (xs : List (ℕ × X)) (ys : List (ℕ × Y)) (ks js : List ℕ) → flat_map (of_source xs ys) (sources ks js) ≡ flat_map (of_number first xs) ks ++ flat_map (of_number second ys) js
  sources_give xs ys [] js = seconds_give xs ys js
  sources_give xs ys (k ∷ ks) js = ap (λ l. of_number first xs k ++ l) (sources_give xs ys ks js) ∙ joined (of_number first xs k) (flat_map (of_number first xs) ks) (flat_map (of_number second ys) js)
    where
      joined : (a b c : List R) → a ++ (b ++ c) ≡ a ++ b ++ c
      joined [] b c = refl
      joined (r ∷ a) b c = ap (λ l. r ∷ l) (joined a b c)

  pub all_sources : (xs : List (ℕ × X)) (ys : List (ℕ × Y)) → Rises nat_lt xs → Rises nat_lt ys → flat_map (of_source xs ys) (sources (numbers xs) (numbers ys)) ≡ flat_map first (unkeyed xs) ++ flat_map second (unkeyed ys)
  all_sources xs ys h i = sources_give xs ys (numbers xs) (numbers ys) ∙ (λ j. all_numbers first xs h j ++ all_numbers second ys i j)

module _ {K R : Type 0} (before : K → K → Bool) (key : R → K) where
  -- some of these rows has the key
  abbrev pub have_key : K → List R → Type 0
  have_key q rows = is_some (row_at before q (map (λ r. (key r, r)) rows)) ≡ true

stand : {Z R : Type 0} (gives : Z → List R) (zs : List (ℕ × Z)) (k : ℕ) → Member k (numbers zs) ⊎ (of_number gives zs k ≡ [])
stand {Z} {R} gives zs k = go (row_at nat_lt k zs) refl
  where
    go : (o : Option Z) → row_at nat_lt k zs ≡ o → Member k (numbers zs) ⊎ (chunk_at gives o ≡ [])
    go None e = inr refl
    go (Some z) e = inl (there k zs z e)

module _ {X Y K R : Type 0} (before : K → K → Bool) (order : IsTotal before) (key : R → K) where
  -- rows of two kinds, no two of which give a row with one key
  pub record GiveOwn (first : X → List R) (second : Y → List R) (xs : List (ℕ × X)) (ys : List (ℕ × Y)) : Type 0 where
    pub first_apart : (k : ℕ) (x : X) → row_at nat_lt k xs ≡ Some x → AreApart before (map key (first x))
    pub second_apart : (j : ℕ) (y : Y) → row_at nat_lt j ys ≡ Some y → AreApart before (map key (second y))
    pub first_once : (k n : ℕ) (x z : X) (q : K) → row_at nat_lt k xs ≡ Some x → row_at nat_lt n xs ≡ Some z → have_key before key q (first x) → have_key before key q (first z) → k ≡ n
    pub second_once : (j n : ℕ) (y z : Y) (q : K) → row_at nat_lt j ys ≡ Some y → row_at nat_lt n ys ≡ Some z → have_key before key q (second y) → have_key before key q (second z) → j ≡ n
    pub not_both : (k j : ℕ) (x : X) (y : Y) (q : K) → row_at nat_lt k xs ≡ Some x → row_at nat_lt j ys ≡ Some y → have_key before key q (first x) → have_key before key q (second y) → ⊥

  own_sources : (first : X → List R) (second : Y → List R) (xs : List (ℕ × X)) (ys : List (ℕ × Y)) → GiveOwn first second xs ys → AreOwn Source before order key (of_source first second xs ys)
  own_sources first second xs ys own = record { apart = apart; one = one }
    where
      apart : (s : Source) → AreApart before (map key (of_source first second xs ys s))
      apart (inl k) = go (row_at nat_lt k xs) refl
        where
          go : (o : Option X) → row_at nat_lt k xs ≡ o → AreApart before (map key (chunk_at first o))
          go None e = tt
          go (Some x) e = own.first_apart k x e
      apart (inr j) = go (row_at nat_lt j ys) refl
        where
          go : (o : Option Y) → row_at nat_lt j ys ≡ o → AreApart before (map key (chunk_at second o))
          go None e = tt
          go (Some y) e = own.second_apart j y e

      one : (s t : Source) (q : K) → have_key before key q (of_source first second xs ys s) → have_key before key q (of_source first second xs ys t) → s ≡ t
      one (inl k) (inl n) q h i = ap inl (go (row_at nat_lt k xs) (row_at nat_lt n xs) refl refl h i)
        where
          go : (o p : Option X) → row_at nat_lt k xs ≡ o → row_at nat_lt n xs ≡ p → have_key before key q (chunk_at first o) → have_key before key q (chunk_at first p) → k ≡ n
          go (Some x) (Some z) e f h i = own.first_once k n x z q e f h i
          go None p e f h i = absurd (true≢false (sym h))
          go (Some x) None e f h i = absurd (true≢false (sym i))
      one (inr k) (inr n) q h i = ap inr (go (row_at nat_lt k ys) (row_at nat_lt n ys) refl refl h i)
        where
          go : (o p : Option Y) → row_at nat_lt k ys ≡ o → row_at nat_lt n ys ≡ p → have_key before key q (chunk_at second o) → have_key before key q (chunk_at second p) → k ≡ n
          go (Some x) (Some z) e f h i = own.second_once k n x z q e f h i
          go None p e f h i = absurd (true≢false (sym h))
          go (Some x) None e f h i = absurd (true≢false (sym i))
      one (inl k) (inr n) q h i = absurd (go (row_at nat_lt k xs) (row_at nat_lt n ys) refl refl h i)
        where
          go : (o : Option X) (p : Option Y) → row_at nat_lt k xs ≡ o → row_at nat_lt n ys ≡ p → have_key before key q (chunk_at first o) → have_key before key q (chunk_at second p) → ⊥
          go (Some x) (Some z) e f h i = own.not_both k n x z q e f h i
          go None p e f h i = true≢false (sym h)
          go (Some x) None e f h i = true≢false (sym i)
      one (inr n) (inl k) q i h = absurd (go (row_at nat_lt k xs) (row_at nat_lt n ys) refl refl h i)
        where
          go : (o : Option X) (p : Option Y) → row_at nat_lt k xs ≡ o → row_at nat_lt n ys ≡ p → have_key before key q (chunk_at first o) → have_key before key q (chunk_at second p) → ⊥
          go (Some x) (Some z) e f h i = own.not_both k n x z q e f h i
          go None p e f h i = true≢false (sym h)
          go (Some x) None e f h i = true≢false (sym i)

  sources_stand : (first : X → List R) (second : Y → List R) (xs : List (ℕ × X)) (ys : List (ℕ × Y)) (s : Source) → Member s (sources (numbers xs) (numbers ys)) ⊎ (of_source first second xs ys s ≡ [])
  sources_stand first second xs ys (inl k) = go (stand first xs k)
    where
      go : Member k (numbers xs) ⊎ (of_number first xs k ≡ []) → Member (inl k) (sources (numbers xs) (numbers ys)) ⊎ (of_number first xs k ≡ [])
      go (inl m) = inl (member_first k (numbers xs) (numbers ys) m)
      go (inr e) = inr e
  sources_stand first second xs ys (inr j) = go (stand second ys j)
    where
      go : Member j (numbers ys) ⊎ (of_number second ys j ≡ []) → Member (inr j) (sources (numbers xs) (numbers ys)) ⊎ (of_number second ys j ≡ [])
      go (inl m) = inl (member_second j (numbers xs) (numbers ys) m)
      go (inr e) = inr e

  -- a change that touches rows with these numbers alone
  pub changed : (first first_now : X → List R) (second second_now : Y → List R) (xs xs_now : List (ℕ × X)) (ys ys_now : List (ℕ × Y)) (ks js : List ℕ)
      → Rises nat_lt xs → Rises nat_lt xs_now → Rises nat_lt ys → Rises nat_lt ys_now → KeysDescend nat_lt ks → KeysDescend nat_lt js
      → GiveOwn first second xs ys → GiveOwn first_now second_now xs_now ys_now
      → ((k : ℕ) → among nat_lt k ks ≡ false → of_number first xs k ≡ of_number first_now xs_now k)
      → ((j : ℕ) → among nat_lt j js ≡ false → of_number second ys j ≡ of_number second_now ys_now j)
      → AreChanged Source before order key (of_source first second xs ys) (of_source first_now second_now xs_now ys_now) (sources (numbers xs) (numbers ys)) (sources (numbers xs_now) (numbers ys_now)) (sources ks js)
  changed first first_now second second_now xs xs_now ys ys_now ks js up up_now rise rise_now down descend own own_now first_stays second_stays = record {
    own_before = own_sources first second xs ys own;
    own_after = own_sources first_now second_now xs_now ys_now own_now;
    once_before = sources_once (numbers xs) (numbers ys) (rise_once xs up) (rise_once ys rise);
    once_after = sources_once (numbers xs_now) (numbers ys_now) (rise_once xs_now up_now) (rise_once ys_now rise_now);
    once_touched = sources_once ks js (descend_once ks down) (descend_once js descend);
    others = others;
    there_before = sources_stand first second xs ys;
    there_after = sources_stand first_now second_now xs_now ys_now;
  }
    where
      others : (s : Source) → Member s (sources ks js) ⊎ (of_source first second xs ys s ≡ of_source first_now second_now xs_now ys_now s)
      others (inl k) = go (among nat_lt k ks) refl
        where
          go : (b : Bool) → among nat_lt k ks ≡ b → Member (inl k) (sources ks js) ⊎ (of_number first xs k ≡ of_number first_now xs_now k)
          go true e = inl (member_first k ks js (member_among k ks e))
          go false e = inr (first_stays k e)
      others (inr j) = go (among nat_lt j js) refl
        where
          go : (b : Bool) → among nat_lt j js ≡ b → Member (inr j) (sources ks js) ⊎ (of_number second ys j ≡ of_number second_now ys_now j)
          go true e = inl (member_second j ks js (member_among j js e))
          go false e = inr (second_stays j e)

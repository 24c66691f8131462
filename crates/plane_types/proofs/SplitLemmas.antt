-- A map made of touched and untouched sources: what is found at a key is found among one or the
-- other.
use Rattle.std.proofs.Common.{◌≡◌, ◌∙◌, List, [], ◌∷◌, ◌++◌, Option, Some, None, Bool, true, false, true≢false, cond, not, refl, sym, ap}
use Rattle.std.specs.Prelude.{if◌then◌else◌, flat_map, is_some}
use Rattle.std.specs.List.{filter}
use Rattle.plane_types.specs.Keyed.{IsTotal, are_one, Others, AreApart, row_at, with_keys}
use Rattle.plane_types.proofs.KeyedLemmas.{three_ways, one_itself, apart_first, apart_second}
use Rattle.plane_types.proofs.MapLemmas.{keys}

-- the first, where there is one, else the other
abbrev pub first_of : {R : Type 0} → Option R → Option R → Option R
first_of None o = o
first_of (Some r) o = Some r

module _ {K R X : Type 0} (before : K → K → Bool) (order : IsTotal before) (key : R
    → K) (gives : X → List R) (touched : X → Bool) where
  abbrev found : K → List R → Option R
  found k xs = row_at before k (with_keys key xs)

  found_append : (k : K) (xs ys : List R) → found k (xs ++ ys) ≡ first_of (found k xs) (found k ys)
  found_append k [] ys = refl
  found_append k (x ∷ xs) ys = go (are_one before k (key x)) (found_append k xs ys)
    where
      go : (b : Bool) → found k (xs ++ ys) ≡ first_of (found k xs) (found k ys)
          → (if b then Some x else found k (xs ++ ys))
          ≡ first_of (if b then Some x else found k xs) (found k ys)
      go true rest = refl
      go false rest = rest

  -- no other has the key of one of them
  none_other : (k : K) (xs : List R) → Others before k (keys before order key xs)
      → found k xs ≡ None
  none_other k [] h = refl
  none_other k (x ∷ xs) h = ap (λ b. if b then Some x else found k xs) (turned (key x) h.0)
      ∙ none_other k xs h.1
    where
      turned : (q : K) → are_one before q k ≡ false → are_one before k q ≡ false
      turned q e = three_ways before order k q (are_one before k q ≡ false)
          (λ g. apart_first before order k q g)
          (λ g. apart_second before order k q g)
          (λ g i. absurd (true≢false (sym (ap (λ z. are_one before z k) (sym (order.same k q g i))
          ∙ one_itself before order k) ∙ e)))

  others_front : (k : K) (xs ys : List R) → Others before k (keys before order key (xs ++ ys))
      → Others before k (keys before order key xs)
  others_front k [] ys h = tt
  others_front k (x ∷ xs) ys h = (h.0, others_front k xs ys h.1)

  others_back : (k : K) (xs ys : List R) → Others before k (keys before order key (xs ++ ys))
      → Others before k (keys before order key ys)
  others_back k [] ys h = h
  others_back k (x ∷ xs) ys h = others_back k xs ys h.1

  apart_back : (xs ys : List R) → AreApart before (keys before order key (xs ++ ys))
      → AreApart before (keys before order key ys)
  apart_back [] ys h = h
  apart_back (x ∷ xs) ys h = apart_back xs ys h.1

  -- of two parts only one has a key
  pub one_part : (k : K) (xs ys : List R) → AreApart before (keys before order key (xs ++ ys))
      → is_some (found k xs) ≡ true → found k ys ≡ None
  one_part k [] ys h there = absurd (true≢false (sym there))
  one_part k (x ∷ xs) ys h there = go (are_one before k (key x)) refl there (one_part k xs ys h.1)
    where
      go : (b : Bool) → are_one before k (key x) ≡ b → is_some (if b then Some x else found k xs)
          ≡ true → (is_some (found k xs) ≡ true → found k ys ≡ None) → found k ys ≡ None
      go true e t rest = three_ways before order k (key x) (found k ys ≡ None)
          (λ g. absurd (true≢false (sym e ∙ apart_first before order k (key x) g)))
          (λ g. absurd (true≢false (sym e ∙ apart_second before order k (key x) g)))
          (λ g i. ap (λ q. found q ys) (order.same k (key x) g i)
          ∙ none_other (key x) ys (others_back (key x) xs ys h.0))
      go false e t rest = rest t

  abbrev pub touched_rows : List X → List R
  touched_rows sources = flat_map gives (filter touched sources)

  abbrev pub other_rows : List X → List R
  other_rows sources = flat_map gives (filter (λ x. not (touched x)) sources)

  none_in_touched : (k : K) (sources : List X) → found k (flat_map gives sources) ≡ None
      → found k (touched_rows sources) ≡ None
  none_in_touched k [] h = refl
  none_in_touched k (x ∷ xs) h =
      go (touched x) (parts (found k (gives x)) (found k (flat_map gives xs))
      (sym (found_append k (gives x) (flat_map gives xs)) ∙ h)) (none_in_touched k xs)
    where
      parts : (a b : Option R) → first_of a b ≡ None → (a ≡ None) × (b ≡ None)
      parts None b e = (refl, e)
      parts (Some r) b e = cc

      go : (b : Bool) → (found k (gives x) ≡ None) × (found k (flat_map gives xs) ≡ None)
          → (found k (flat_map gives xs) ≡ None → found k (touched_rows xs) ≡ None)
          → found k (flat_map gives (cond b (x ∷ filter touched xs) (filter touched xs))) ≡ None
      go true p rest = found_append k (gives x) (touched_rows xs)
          ∙ (λ j. first_of (p.0 j) (rest p.1 j))
      go false p rest = rest p.1

  pub split : (k : K) (sources : List X)
      → AreApart before (keys before order key (flat_map gives sources))
      → found k (flat_map gives sources)
      ≡ first_of (found k (touched_rows sources)) (found k (other_rows sources))
  split k [] h = refl
  split k (x ∷ xs) h =
      go (touched x) (found k (gives x)) refl
      (split k xs (apart_back (gives x) (flat_map gives xs) h))
    where
      joined : (a b c : Option R) → first_of a (first_of b c) ≡ first_of (first_of a b) c
      joined None b c = refl
      joined (Some r) b c = refl

      whole : found k (flat_map gives (x ∷ xs))
          ≡ first_of (found k (gives x)) (found k (flat_map gives xs))
      whole = found_append k (gives x) (flat_map gives xs)

      go : (b : Bool) (o : Option R) → found k (gives x) ≡ o
          → found k (flat_map gives xs)
          ≡ first_of (found k (touched_rows xs)) (found k (other_rows xs))
          → found k (flat_map gives (x ∷ xs))
          ≡ first_of (found k
          (flat_map gives (cond b (x ∷ filter touched xs) (filter touched xs))))
          (found k (flat_map gives (cond (not b) (x ∷ filter (λ x. not (touched x)) xs)
          (filter (λ x. not (touched x)) xs))))
      go true o e rest =
          whole ∙ (ap (first_of (found k (gives x))) rest
          ∙ (joined (found k (gives x)) (found k (touched_rows xs)) (found k (other_rows xs))
          ∙ ap (λ a. first_of a (found k (other_rows xs)))
          (sym (found_append k (gives x) (touched_rows xs)))))
      go false None e rest =
          whole ∙ (ap (λ a. first_of a (found k (flat_map gives xs))) e ∙ (rest
          ∙ ap (first_of (found k (touched_rows xs)))
          (ap (λ a. first_of a (found k (other_rows xs))) (sym e)
          ∙ sym (found_append k (gives x) (other_rows xs)))))
      go false (Some r) e rest =
          let nothing : found k (flat_map gives xs) ≡ None =
          one_part k (gives x) (flat_map gives xs) h (ap is_some e) in
          let none : found k (touched_rows xs) ≡ None = none_in_touched k xs nothing in
          whole ∙ (ap (λ a. first_of a (found k (flat_map gives xs))) e
          ∙ (ap (λ a. first_of a (found k (other_rows xs))) (sym e)
          ∙ (sym (found_append k (gives x) (other_rows xs))
          ∙ ap (λ a. first_of a (found k (gives x ++ other_rows xs))) (sym none))))

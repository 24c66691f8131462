-- Maps whose rows come from sources, of which no two give a row with one key: what is found at a
-- key is what one source gives, and if only some sources changed, only their keys did.
use Rattle.std.proofs.Common.{◌≡◌, ◌∙◌, ◌⊎◌, inl, inr, List, [], ◌∷◌, ◌++◌, map, Option, Some, None, Bool, true, false, true≢false, not, refl, sym, ap, subst}
use Rattle.std.specs.Prelude.{◌&&◌, ◌||◌, ⊤, if◌then◌else◌, flat_map, is_some}
use Rattle.api_types.specs.Ascending.{ascending}
use Rattle.plane_types.specs.Keyed.{AreApart, IsTotal, Others, Rises, are_one, row_at, with_keys}
use Rattle.plane_types.proofs.KeyedLemmas.{apart_first, apart_second, one_itself, three_ways}
use Rattle.plane_types.proofs.MapLemmas.{by_key, sorted_at, sorted_rises}
use Rattle.table_edits.specs.EditsAt.{among}

module _ {S : Type 0} where
  abbrev pub Member : S → List S → Type 0
  Member s [] = ⊥
  Member s (k ∷ ks) = (s ≡ k) ⊎ Member s ks

  -- each is there once
  abbrev pub Distinct : List S → Type 0
  Distinct [] = ⊤
  Distinct (k ∷ ks) = (Member k ks → ⊥) × Distinct ks

-- the first, if there is one, otherwise the other
abbrev first_of : {R : Type 0} → Option R → Option R → Option R
first_of None o = o
first_of (Some r) o = Some r

and_turned : (a b : Bool) → a && b ≡ b && a
and_turned true true = refl
and_turned true false = refl
and_turned false true = refl
and_turned false false = refl

-- keys of which none comes before the other are equal
pub one_is : {K : Type 0} (before : K → K → Bool) (order : IsTotal before) (a b : K) → are_one before a b ≡ true → a ≡ b
one_is before order a b h = three_ways before order a b (a ≡ b)
    (λ e. absurd (true≢false (sym h ∙ apart_first before order a b e)))
    (λ e. absurd (true≢false (sym h ∙ apart_second before order a b e)))
    (λ e f. order.same a b e f)

module _ (S : Type 0) {K R : Type 0} (before : K → K → Bool) (order : IsTotal before) (key : R → K) where
  abbrev pub found : K → List R → Option R
  found q xs = row_at before q (with_keys key xs)

  -- no two sources give a row with one key, and none gives two
  pub record AreOwn (gives : S → List R) : Type 0 where
    pub apart : (s : S) → AreApart before (map key (gives s))
    pub one : (s t : S) (q : K) → is_some (found q (gives s)) ≡ true → is_some (found q (gives t)) ≡ true → s ≡ t

  found_append : (q : K) (xs ys : List R) → found q (xs ++ ys) ≡ first_of (found q xs) (found q ys)
  found_append q [] ys = refl
  found_append q (x ∷ xs) ys = go (are_one before q (key x)) (found_append q xs ys)
    where
      go : (b : Bool) → found q (xs ++ ys) ≡ first_of (found q xs) (found q ys) → (if b then Some x else found q (xs ++ ys)) ≡ first_of (if b then Some x else found q xs) (found q ys)
      go true rest = refl
      go false rest = rest

  pub among_found : (q : K) (xs : List R) → among before q (map key xs) ≡ is_some (found q xs)
  among_found q [] = refl
  among_found q (x ∷ xs) = go (are_one before q (key x)) (among_found q xs)
    where
      go : (b : Bool) → among before q (map key xs) ≡ is_some (found q xs) → b || among before q (map key xs) ≡ is_some (if b then Some x else found q xs)
      go true rest = refl
      go false rest = rest

  -- ---- sources

  -- what a source gives is found
  found_in : (gives : S → List R) → AreOwn gives → (ks : List S) (q : K) (s : S) (r : R) → Member s ks → found q (gives s) ≡ Some r → found q (flat_map gives ks) ≡ Some r
  found_in gives own [] q s r m h = absurd m
  found_in gives own (k ∷ ks) q s r m h = found_append q (gives k) (flat_map gives ks) ∙ go (found q (gives k)) refl m (λ n. found_in gives own ks q s r n h)
    where
      go : (o : Option R) → found q (gives k) ≡ o → (s ≡ k) ⊎ Member s ks → (Member s ks → found q (flat_map gives ks) ≡ Some r) → first_of o (found q (flat_map gives ks)) ≡ Some r
      go (Some x) e m rest =
          let same : s ≡ k = own.one s k q (ap is_some h) (ap is_some e) in
          sym e ∙ ap (λ t. found q (gives t)) (sym same) ∙ h
      go None e (inl same) rest = let bad : None ≡ Some r = sym e ∙ ap (λ t. found q (gives t)) (sym same) ∙ h in cc
      go None e (inr m) rest = rest m

  -- what is found a source gives
  found_from : (gives : S → List R) (ks : List S) (q : K) (r : R) → found q (flat_map gives ks) ≡ Some r → (s : S) × Member s ks × (found q (gives s) ≡ Some r)
  found_from gives [] q r h = let bad : None ≡ Some r = h in cc
  found_from gives (k ∷ ks) q r h = go (found q (gives k)) refl (sym (found_append q (gives k) (flat_map gives ks)) ∙ h) (found_from gives ks q r)
    where
      go : (o : Option R) → found q (gives k) ≡ o → first_of o (found q (flat_map gives ks)) ≡ Some r → (found q (flat_map gives ks) ≡ Some r → (s : S) × Member s ks × (found q (gives s) ≡ Some r)) → (s : S) × ((s ≡ k) ⊎ Member s ks) × (found q (gives s) ≡ Some r)
      go (Some x) e h rest = (k, inl refl, e ∙ h)
      go None e h rest = let t = rest h in (t.0, inr t.1, t.2)

  others_of : (q : K) (xs : List R) → found q xs ≡ None → Others before q (map key xs)
  others_of q [] h = tt
  others_of q (x ∷ xs) h = go (are_one before q (key x)) refl h (others_of q xs)
    where
      go : (b : Bool) → are_one before q (key x) ≡ b → (if b then Some x else found q xs) ≡ None → (found q xs ≡ None → Others before q (map key xs)) → Others before q (map key (x ∷ xs))
      go true e h rest = let bad : Some x ≡ None = h in cc
      go false e h rest = (and_turned (not (before (key x) q)) (not (before q (key x))) ∙ e, rest h)

  others_append : (q : K) (xs ys : List R) → Others before q (map key xs) → Others before q (map key ys) → Others before q (map key (xs ++ ys))
  others_append q [] ys h k = k
  others_append q (x ∷ xs) ys h k = (h.0, others_append q xs ys h.1 k)

  apart_append : (xs ys : List R) → AreApart before (map key xs) → AreApart before (map key ys) → ((q : K) → is_some (found q xs) ≡ true → found q ys ≡ None) → AreApart before (map key (xs ++ ys))
  apart_append [] ys h k away = k
  apart_append (x ∷ xs) ys h k away = (
    others_append (key x) xs ys h.0 (others_of (key x) ys (away (key x) (ap (λ b. is_some (if b then Some x else found (key x) xs)) (one_itself before order (key x))))),
    apart_append xs ys h.1 k (λ q there. away q (later q (are_one before q (key x)) there)),
  )
    where
      later : (q : K) (b : Bool) → is_some (found q xs) ≡ true → is_some (if b then Some x else found q xs) ≡ true
      later q true there = refl
      later q false there = there

  apart_all : (gives : S → List R) → AreOwn gives → (ks : List S) → Distinct ks → AreApart before (map key (flat_map gives ks))
  apart_all gives own [] once = tt
  apart_all gives own (k ∷ ks) once = apart_append (gives k) (flat_map gives ks) (own.apart k) (apart_all gives own ks once.1) (λ q there. none q there (found q (flat_map gives ks)) refl)
    where
      none : (q : K) → is_some (found q (gives k)) ≡ true → (o : Option R) → found q (flat_map gives ks) ≡ o → o ≡ None
      none q there None e = refl
      none q there (Some r) e =
          let at = found_from gives ks q r e in
          let same : k ≡ at.0 = own.one k at.0 q there (ap is_some at.2) in
          absurd (once.0 (subst (λ s. Member s ks) (sym same) at.1))

  abbrev pub map_of : (S → List R) → List S → List R
  map_of gives ks = ascending (by_key before order key) (flat_map gives ks)

  pub rises : (gives : S → List R) → AreOwn gives → (ks : List S) → Distinct ks → Rises before (with_keys key (map_of gives ks))
  rises gives own ks once = sorted_rises before order key (flat_map gives ks) (apart_all gives own ks once)

  sorted : (gives : S → List R) → AreOwn gives → (ks : List S) → Distinct ks → (q : K) → found q (map_of gives ks) ≡ found q (flat_map gives ks)
  sorted gives own ks once q = sorted_at before order key q (flat_map gives ks) (apart_all gives own ks once)

  -- ---- sources before a change and after it, some of which it touches

  pub record AreChanged (gave gives : S → List R) (all now ks : List S) : Type 0 where
    pub own_before : AreOwn gave
    pub own_after : AreOwn gives
    pub once_before : Distinct all
    pub once_after : Distinct now
    pub once_touched : Distinct ks
    pub others : (s : S) → Member s ks ⊎ (gave s ≡ gives s)
    pub there_before : (s : S) → Member s all ⊎ (gave s ≡ [])
    pub there_after : (s : S) → Member s now ⊎ (gives s ≡ [])

  at_none : (gives : S → List R) (s : S) (q : K) (r : R) → gives s ≡ [] → found q (gives s) ≡ Some r → ⊥
  at_none gives s q r e h = let bad : None ≡ Some r = ap (found q) (sym e) ∙ h in cc

  module _ (gave gives : S → List R) (all now ks : List S) (are : AreChanged gave gives all now ks) where
    -- a row of an untouched source stays
    stays : (q : K) (r : R) → found q (flat_map gave ks) ≡ None → found q (flat_map gave all) ≡ Some r → found q (flat_map gives now) ≡ Some r
    stays q r out h = go (found_from gave all q r h)
      where
        go : ((s : S) × Member s all × (found q (gave s) ≡ Some r)) → found q (flat_map gives now) ≡ Some r
        go at = by (are.others at.0) (are.there_after at.0)
          where
            by : Member at.0 ks ⊎ (gave at.0 ≡ gives at.0) → Member at.0 now ⊎ (gives at.0 ≡ []) → found q (flat_map gives now) ≡ Some r
            by (inl m) t = let bad : None ≡ Some r = sym out ∙ found_in gave are.own_before ks q at.0 r m at.2 in cc
            by (inr e) (inl m) = found_in gives are.own_after now q at.0 r m (ap (found q) (sym e) ∙ at.2)
            by (inr e) (inr none) = absurd (at_none gives at.0 q r none (ap (found q) (sym e) ∙ at.2))

    -- and was there
    stood : (q : K) (r : R) → found q (flat_map gives ks) ≡ None → found q (flat_map gives now) ≡ Some r → found q (flat_map gave all) ≡ Some r
    stood q r out h = go (found_from gives now q r h)
      where
        go : ((s : S) × Member s now × (found q (gives s) ≡ Some r)) → found q (flat_map gave all) ≡ Some r
        go at = by (are.others at.0) (are.there_before at.0)
          where
            by : Member at.0 ks ⊎ (gave at.0 ≡ gives at.0) → Member at.0 all ⊎ (gave at.0 ≡ []) → found q (flat_map gave all) ≡ Some r
            by (inl m) t = let bad : None ≡ Some r = sym out ∙ found_in gives are.own_after ks q at.0 r m at.2 in cc
            by (inr e) (inl m) = found_in gave are.own_before all q at.0 r m (ap (found q) e ∙ at.2)
            by (inr e) (inr none) = absurd (at_none gave at.0 q r none (ap (found q) e ∙ at.2))

    alike : (q : K) → found q (flat_map gave ks) ≡ None → found q (flat_map gives ks) ≡ None → found q (flat_map gave all) ≡ found q (flat_map gives now)
    alike q out left = go (found q (flat_map gave all)) (found q (flat_map gives now)) refl refl
      where
        go : (o p : Option R) → found q (flat_map gave all) ≡ o → found q (flat_map gives now) ≡ p → o ≡ p
        go None None e f = refl
        go (Some r) p e f = sym (stays q r out e) ∙ f
        go None (Some r) e f = sym e ∙ stood q r left f

    -- what touched sources give is there
    given : (q : K) (r : R) → found q (flat_map gives ks) ≡ Some r → found q (flat_map gives now) ≡ Some r
    given q r h = go (found_from gives ks q r h)
      where
        go : ((s : S) × Member s ks × (found q (gives s) ≡ Some r)) → found q (flat_map gives now) ≡ Some r
        go at = by (are.there_after at.0)
          where
            by : Member at.0 now ⊎ (gives at.0 ≡ []) → found q (flat_map gives now) ≡ Some r
            by (inl m) = found_in gives are.own_after now q at.0 r m at.2
            by (inr none) = absurd (at_none gives at.0 q r none at.2)

    -- and nothing else is, at a key that a touched source gave
    only : (q : K) (r : R) → is_some (found q (flat_map gave ks)) ≡ true → found q (flat_map gives now) ≡ Some r → found q (flat_map gives ks) ≡ Some r
    only q r had h = go (found_from gives now q r h) (found q (flat_map gave ks)) refl had
      where
        go : ((s : S) × Member s now × (found q (gives s) ≡ Some r)) → (o : Option R) → found q (flat_map gave ks) ≡ o → is_some o ≡ true → found q (flat_map gives ks) ≡ Some r
        go at None e had = absurd (true≢false (sym had))
        go at (Some x) e had = by (are.others at.0) (found_from gave ks q x e)
          where
            by : Member at.0 ks ⊎ (gave at.0 ≡ gives at.0) → ((s : S) × Member s ks × (found q (gave s) ≡ Some x)) → found q (flat_map gives ks) ≡ Some r
            by (inl m) was = found_in gives are.own_after ks q at.0 r m at.2
            by (inr f) was =
                let same : was.0 ≡ at.0 = are.own_before.one was.0 at.0 q (ap is_some was.2) (ap is_some (ap (found q) f ∙ at.2)) in
                found_in gives are.own_after ks q at.0 r (subst (λ s. Member s ks) same was.1) at.2

    there : (q : K) → (is_some (found q (flat_map gave ks)) || is_some (found q (flat_map gives ks))) ≡ true → found q (flat_map gives ks) ≡ found q (flat_map gives now)
    there q either = go (found q (flat_map gives ks)) (found q (flat_map gives now)) refl refl either
      where
        go : (o p : Option R) → found q (flat_map gives ks) ≡ o → found q (flat_map gives now) ≡ p → (is_some (found q (flat_map gave ks)) || is_some o) ≡ true → o ≡ p
        go (Some r) p e f either = sym (given q r e) ∙ f
        go None None e f either = refl
        go None (Some r) e f either = let here = only q r (had (is_some (found q (flat_map gave ks))) either) f in sym e ∙ here
          where
            had : (b : Bool) → b || false ≡ true → b ≡ true
            had true h = refl
            had false h = h

    none_of : (o : Option R) → is_some o ≡ false → o ≡ None
    none_of None h = refl
    none_of (Some r) h = absurd (true≢false h)

    -- if `had` are keys of what touched sources gave
    pub away_alike : (had : List K) → ((q : K) → among before q had ≡ among before q (map key (flat_map gave ks))) → (q : K) → among before q had ≡ false
        → among before q (map key (map_of gives ks)) ≡ false → found q (map_of gave all) ≡ found q (map_of gives now)
    away_alike had same q out left =
        let a : found q (flat_map gave ks) ≡ None = none_of (found q (flat_map gave ks)) (sym (among_found q (flat_map gave ks)) ∙ sym (same q) ∙ out) in
        let b : found q (flat_map gives ks) ≡ None = sym (sorted gives are.own_after ks are.once_touched q) ∙ none_of (found q (map_of gives ks)) (sym (among_found q (map_of gives ks)) ∙ left) in
        sorted gave are.own_before all are.once_before q ∙ alike q a b ∙ sym (sorted gives are.own_after now are.once_after q)

    pub there_alike : (had : List K) → ((q : K) → among before q had ≡ among before q (map key (flat_map gave ks))) → (q : K)
        → (among before q had || among before q (map key (map_of gives ks))) ≡ true → found q (map_of gives ks) ≡ found q (map_of gives now)
    there_alike had same q either =
        let a : among before q had ≡ is_some (found q (flat_map gave ks)) = same q ∙ among_found q (flat_map gave ks) in
        let b : among before q (map key (map_of gives ks)) ≡ is_some (found q (flat_map gives ks)) = among_found q (map_of gives ks) ∙ ap is_some (sorted gives are.own_after ks are.once_touched q) in
        sorted gives are.own_after ks are.once_touched q ∙ there q (sym (λ j. a j || b j) ∙ either) ∙ sym (sorted gives are.own_after now are.once_after q)

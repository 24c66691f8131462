-- Stretches that follow one another don't meet.
use Rattle.std.proofs.Common.{◌≡◌, ◌∙◌, ◌⊎◌, inl, inr, List, [], ◌∷◌, Bool, true, false, refl, ap, sym, arith}
use Rattle.std.specs.Prelude.{◌==◌, ◌&&◌, ◌||◌}
use Rattle.std.specs.List.{IsDistinct, AllByRecursion}
use Rattle.std.specs.List.Sorted.{IsPermutation}
use Rattle.std.proofs.lemmas.Bool.Decides.{nat_tests, Decides-eqb}
use Rattle.std.proofs.lemmas.List.Sorted.{IsPermutation-sym}
use Rattle.std.proofs.lemmas.Map.Keys.{IsDistinct-IsPermutation}
use Rattle.api_consistency.specs.Stretches.{meet, clash, is_before, is_same, is_before_or_same, goes_first, follow}
use Rattle.api_consistency.specs.declared.stretch.Stretch.{Stretch}

both_parts : (a b : Bool) → a && b ≡ true → (a ≡ true) × (b ≡ true)
both_parts true b h = (refl, h)
both_parts false b h = cc

-- a relation that goes on from one to the next goes on to all
module _ (stands : Stretch → Stretch → Bool) (goes_on : (a b c : Stretch) → stands a b ≡ true → stands b c ≡ true → stands a c ≡ true) where
  to_all : (a : Stretch) (xs : List Stretch) → goes_first stands a xs ≡ true → follow stands xs ≡ true → AllByRecursion (λ b. stands a b ≡ true) xs
  unfolding follow
  to_all a [] h g = tt
  to_all a (b ∷ xs) h g =
      let parts = both_parts (goes_first stands b xs) (follow stands xs) g in
      (h, further xs (to_all b xs parts.0 parts.1))
    where
      further : (ys : List Stretch) → AllByRecursion (λ c. stands b c ≡ true) ys → AllByRecursion (λ c. stands a c ≡ true) ys
      further [] all = tt
      further (c ∷ ys) all = (goes_on a b c h all.0, further ys all.1)

  none_of : (e : Stretch → Stretch → Bool) → ((a b : Stretch) → stands a b ≡ true → e a b ≡ false) → (xs : List Stretch) → follow stands xs ≡ true → IsDistinct e xs
  unfolding follow IsDistinct
  none_of e apart [] h = tt
  none_of e apart (a ∷ xs) h =
      let parts = both_parts (goes_first stands a xs) (follow stands xs) h in
      (each xs (to_all a xs parts.0 parts.1), none_of e apart xs parts.1)
    where
      each : (ys : List Stretch) → AllByRecursion (λ b. stands a b ≡ true) ys → AllByRecursion (λ b. e a b ≡ false) ys
      each [] all = tt
      each (b ∷ ys) all = (apart a b all.0, each ys all.1)

either : (x y : Bool) → x || y ≡ true → (x ≡ true) ⊎ (y ≡ true)
either true y h = inl refl
either false y h = inr h

same_is : (a b : Stretch) → is_same a b ≡ true → a ≡ b
same_is a b h =
    let p = both_parts ((a.group == b.group) && (a.first == b.first) && (a.last == b.last)) (a.holder == b.holder) h in
    let q = both_parts ((a.group == b.group) && (a.first == b.first)) (a.last == b.last) p.0 in
    let r = both_parts (a.group == b.group) (a.first == b.first) q.0 in
    let g = (Decides-eqb a.group b.group).0 r.0 in
    let f = (Decides-eqb a.first b.first).0 r.1 in
    let l = (Decides-eqb a.last b.last).0 q.1 in
    let k = (Decides-eqb a.holder b.holder).0 p.1 in
    λ j. record { group = g j; first = f j; last = l j; holder = k j }

before-on : (a b c : Stretch) → is_before a b ≡ true → is_before b c ≡ true → is_before a c ≡ true
before-on a b c h g = grind (arith, nat_tests)

before-apart : (a b : Stretch) → is_before a b ≡ true → meet a b ≡ false
before-apart a b h = grind (arith, nat_tests)

again-on : (a b c : Stretch) → is_before_or_same a b ≡ true → is_before_or_same b c ≡ true → is_before_or_same a c ≡ true
again-on a b c h g = elim (either (is_before a b) (is_same a b) h) [
  | inr same ↦ ap (λ s. is_before_or_same s c) (same_is a b same) ∙ g
  | inl before ↦ elim (either (is_before b c) (is_same b c) g) [
    | inr same ↦ ap (is_before_or_same a) (sym (same_is b c same)) ∙ h
    | inl later ↦ ap (λ x. x || is_same a c) (before-on a b c before later)
  ]
]

again-apart : (a b : Stretch) → is_before_or_same a b ≡ true → clash a b ≡ false
again-apart a b h = grind (arith, nat_tests)

pub meet-flips : (a b : Stretch) → meet a b ≡ meet b a
meet-flips a b = grind (arith, nat_tests)

pub clash-flips : (a b : Stretch) → clash a b ≡ clash b a
clash-flips a b = grind (arith, nat_tests)

pub apart : (xs ys : List Stretch) → IsPermutation xs ys → follow is_before ys ≡ true → IsDistinct meet xs
apart xs ys moved h = IsDistinct-IsPermutation meet meet-flips ys xs (IsPermutation-sym xs ys moved) (none_of is_before before-on meet before-apart ys h)

pub apart_by_holder : (xs ys : List Stretch) → IsPermutation xs ys → follow is_before_or_same ys ≡ true → IsDistinct clash xs
apart_by_holder xs ys moved h = IsDistinct-IsPermutation clash clash-flips ys xs (IsPermutation-sym xs ys moved) (none_of is_before_or_same again-on clash again-apart ys h)

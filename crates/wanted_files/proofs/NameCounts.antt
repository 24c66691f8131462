-- How many different texts there are, counted among references to them.
use Rattle.std.proofs.Common.{◌≡◌, ℕ, suc, Bool, true, false, cond, List, [], ◌∷◌, length, map, refl, ap, Bor}
use Rattle.std.specs.Cmp.Lexicographic.{slice_cmp}
use Rattle.std.specs.Ordering.{nat_cmp, is_eq}
use Rattle.std.specs.Set.{distinct_count, is_member, unique_keys}
use Rattle.std.specs.Str.{bytes_eq}
use Rattle.std.proofs.lemmas.Map.Text.{is_eq-slice_cmp}

module _ {A B : Type 0} (f : A → B) (e : A → A → Bool) (g : B → B → Bool) (same : (x y : A) → e x y ≡ g (f x) (f y)) where
  is_member-map : (xs : List A) (x : A) → is_member e xs x ≡ is_member g (map f xs) (f x)
  is_member-map [] x = refl
  is_member-map (y ∷ xs) x = rw (same x y, is_member-map xs x)

  length-cond : (b : Bool) (x : A) (y : B) (xs : List A) (ys : List B) → length xs ≡ length ys → length (cond b xs (x ∷ xs)) ≡ length (cond b ys (y ∷ ys))
  length-cond true x y xs ys l = l
  length-cond false x y xs ys l = ap suc l

  distinct_count-map : (xs : List A) → distinct_count e xs ≡ distinct_count g (map f xs)
  distinct_count-map [] = refl
  distinct_count-map (x ∷ xs) =
      rw (is_member-map xs x) (length-cond (is_member g (map f xs) (f x)) x (f x) (unique_keys e xs) (unique_keys g (map f xs)) (distinct_count-map xs))

pub count_of_refs : (xs : List (Bor (List ℕ))) → distinct_count (λ x y. is_eq (slice_cmp nat_cmp x.now y.now)) xs ≡ distinct_count bytes_eq (map (λ r. r.now) xs)
count_of_refs xs = distinct_count-map (λ r. r.now) _ bytes_eq (λ x y. is_eq-slice_cmp x.now y.now) xs

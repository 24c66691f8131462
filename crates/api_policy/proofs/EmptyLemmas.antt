-- What is empty.
use Rattle.std.proofs.Common.{◌≡◌, ◌==◌, List, [], ◌∷◌, Option, Some, None, length, refl, arith}
use Rattle.std.proofs.lemmas.Bool.Decides.{nat_tests}
use Rattle.std.specs.List.{filter_map, list_any}
use Rattle.std.specs.Prelude.{is_some, not}
use Rattle.api_types.specs.Lists.{is_empty}

-- a list is empty exactly where its length is zero
pub empty_by_length : {X : Type 0} (xs : List X) → (length xs == 0) ≡ is_empty xs
empty_by_length [] = refl
empty_by_length (x ∷ xs) = Prim.grind (arith, nat_tests)

-- the values that a function gives are some exactly where it gives one of an element
pub some_kept : {X Y : Type 0} (f : X → Option Y) (xs : List X) → list_any (λ x. is_some (f x)) xs ≡ not (is_empty (filter_map f xs))
some_kept f [] = refl
some_kept f (x ∷ xs) = by (f x) refl (some_kept f xs)
  where
    by : (o : Option _) → f x ≡ o → list_any (λ y. is_some (f y)) xs ≡ not (is_empty (filter_map f xs)) → list_any (λ y. is_some (f y)) (x ∷ xs) ≡ not (is_empty (filter_map f (x ∷ xs)))
    by (Some y) is rest = rw is refl
    by None is rest = rw is rest

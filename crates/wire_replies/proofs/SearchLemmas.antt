-- A search in a list, element after element.
use Rattle.std.proofs.Common.{◌≡◌, ◌∙◌, ◌<◌, ◌≤◌, ◌+◌, ℕ, Bool, true, false, List, length, map, drop, get_or, Option, None, Some, if◌then◌else◌, ap, sym}
use Rattle.std.specs.List.{find}
use Rattle.std.proofs.lemmas.List.{drop_all, drop_more}

-- the rest of a list is searched, and gives what all of it gives
module _ {X Y : Type 0} (f : X → Y) (p : Y → Bool) (xs : List X) (i : ℕ) (all : Option Y) (so_far : find p (map f (drop i xs)) ≡ all) where
  next : (d : X) → i < length xs → (if p (f (get_or xs i d)) then Some (f (get_or xs i d)) else find p (map f (drop (i + 1) xs))) ≡ all
  next d there = ap (λ l. find p (map f l)) (sym (drop_more xs i d there)) ∙ so_far

  pub found_here : (d : X) → i < length xs → p (f (get_or xs i d)) ≡ true → Some (f (get_or xs i d)) ≡ all
  found_here d there is = sym (ap (λ b. if b then Some (f (get_or xs i d)) else find p (map f (drop (i + 1) xs))) is) ∙ next d there

  pub passed_over : (d : X) → i < length xs → p (f (get_or xs i d)) ≡ false → find p (map f (drop (i + 1) xs)) ≡ all
  passed_over d there isnt = sym (ap (λ b. if b then Some (f (get_or xs i d)) else find p (map f (drop (i + 1) xs))) isnt) ∙ next d there

  pub found_nowhere : length xs ≤ i → None ≡ all
  found_nowhere over = sym (ap (λ l. find p (map f l)) (drop_all i xs over)) ∙ so_far

-- A list with a row in the place of one of the same id: each of its rows is the new one, or an old one of another id.
use Rattle.std.proofs.Common.{◌≡◌, ◌≤◌, ◌∙◌, ℕ, zero, suc, ◌++◌, List, [], ◌∷◌, false, Some, length, slice_get, slice_set, refl, ap, sym, arith}
use Rattle.api_types.specs.Ident.{Ident}
use Rattle.api_types.specs.Table.{ident_eq}
use Rattle.api_types.specs.Lists.{times}
use Rattle.api_types.proofs.ListLemmas.{at_set, none_some, one_row}
use Rattle.api_types.proofs.NameLemmas.{by_test, count-set, ident_itself}

pub set_here : {R : Type 0} (xs : List R) (place : ℕ) (old new : R) → slice_get xs place ≡ Some old → slice_get (slice_set xs place new) place ≡ Some new
set_here [] place old new at = none_some old _ at
set_here (a ∷ xs) zero old new at = refl
set_here (a ∷ xs) (suc place) old new at = set_here xs place old new at

pub set_split : {R : Type 0} (id_of : R → Ident) (xs : List R) (place : ℕ) (old new : R) → slice_get xs place ≡ Some old → id_of new ≡ id_of old → times id_of (id_of old) xs ≤ 1
    → (k : ℕ) (y : R) → slice_get (slice_set xs place new) k ≡ Some y → (P : Type 0) → (y ≡ new → P) → (slice_get xs k ≡ Some y → ident_eq (id_of old) (id_of y) ≡ false → P) → P
set_split id_of xs place old new at same once k y at_y P here other =
    by_test (ident_eq (id_of old) (id_of y)) P
    (λ is. let e = count-set (λ z. ident_eq (id_of old) (id_of z)) xs place old new at (ap (ident_eq (id_of old)) same) in
    here (one_row (λ z. ident_eq (id_of old) (id_of z)) (slice_set xs place new) (omega (arith, e, once)) k place y new at_y (set_here xs place old new at)
    is (ap (ident_eq (id_of old)) same ∙ ident_itself (id_of old))))
    (λ fails. at_set xs place new y k at_y P (λ before. other before fails) (λ e s. here (sym s)))

-- the last row is replaced
pub set_last : {R : Type 0} (xs : List R) (a b : R) → slice_set (xs ++ a ∷ []) (length xs) b ≡ xs ++ b ∷ []
set_last [] a b = refl
set_last (x ∷ xs) a b = ap (λ ys. x ∷ ys) (set_last xs a b)

pub get_last : {R : Type 0} (xs : List R) (a : R) → slice_get (xs ++ a ∷ []) (length xs) ≡ Some a
get_last [] a = refl
get_last (x ∷ xs) a = get_last xs a

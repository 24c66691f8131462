-- What is known of a value that a test let through.
use Rattle.std.proofs.Common.{◌≡◌, Bool, true, false, List, [], ◌∷◌, Option, Some, None, option_and_then, if◌then◌else◌, refl, subst}
use Rattle.std.specs.List.{list_all}
use Rattle.std.proofs.lemmas.Bool.{and_parts, and_from}
use Rattle.std.proofs.lemmas.Option.{same_Some}

pub passed : {A : Type 0} (p : A → Bool) (b : Bool) (x y : A) → p x ≡ b → (if b then Some x else None) ≡ Some y → p y ≡ true
passed p true x y px e = subst (λ z. p z ≡ true) (same_Some x y e) px
passed p false x y px e = cc

-- the value that a step took
pub stepped : {A B : Type 0} (f : A → Option B) (o : Option A) (y : B) → option_and_then f o ≡ Some y → (x : A) × (o ≡ Some x) × (f x ≡ Some y)
stepped f None y e = absurd (cc)
stepped f (Some x) y e = (x, refl, e)

pub all_weaken : {A : Type 0} (p q : A → Bool) (xs : List A) → ((x : A) → p x ≡ true → q x ≡ true) → list_all p xs ≡ true → list_all q xs ≡ true
all_weaken p q [] step all = refl
all_weaken p q (x ∷ xs) step all =
    let parts = and_parts (p x) (list_all p xs) all in
    and_from (q x) (list_all q xs) (step x parts.0) (all_weaken p q xs step parts.1)

pub all_always : {A : Type 0} (q : A → Bool) (xs : List A) → ((x : A) → q x ≡ true) → list_all q xs ≡ true
all_always q [] each = refl
all_always q (x ∷ xs) each = and_from (q x) (list_all q xs) (each x) (all_always q xs each)

-- Bytes without a line feed, and lines.
use Rattle.std.proofs.Common.{Bool, List, Some, [], ap, arith, drop, false, length, not, refl, subst, suc, sym, take, true, zero, ℕ, ◌++◌, ◌+◌, ◌<◌, ◌∙◌, ◌∷◌, ◌≡◌, append_assoc}
use Rattle.std.specs.Prelude.{slice_get, ◌&&◌, ◌==◌}
use Rattle.std.specs.List.{list_all}
use Rattle.std.proofs.lemmas.Bool.Decides.{nat_tests}
use Rattle.std.proofs.lemmas.Option.{none-some, same_Some}
use Rattle.dvr_run.specs.Lines.{is_unbroken, joined, with_feed}
use Rattle.dvr_run.specs.Reading.{HasLine}

-- one more byte that is none
pub unbroken-more : (bytes : List ℕ) (n x : ℕ) → slice_get bytes n ≡ Some x → (x == 10) ≡ false → is_unbroken (take n bytes) ≡ true → is_unbroken (take (suc n) bytes) ≡ true
unbroken-more [] n x at other h = refl
unbroken-more (b ∷ bytes) zero x at other h = ap (λ y. not (y == 10) && true) (same_Some b x at) ∙ ap (λ t. not t && true) other
unbroken-more (b ∷ bytes) (suc n) x at other h = by (not (b == 10)) h (unbroken-more bytes n x at other)
  where
    by : (t : Bool) → t && is_unbroken (take n bytes) ≡ true → (is_unbroken (take n bytes) ≡ true → is_unbroken (take (suc n) bytes) ≡ true) → t && is_unbroken (take (suc n) bytes) ≡ true
    by true k more = more k
    by false k more = k

is_feed : (x : ℕ) → (x == 10) ≡ true → x ≡ 10
is_feed x h = grind (arith, nat_tests, h)

-- the byte at a place is a line feed
pub cut-at : (bytes : List ℕ) (n x : ℕ) → slice_get bytes n ≡ Some x → (x == 10) ≡ true → bytes ≡ take n bytes ++ 10 ∷ drop (suc n) bytes
cut-at [] n x at is = absurd (none-some x at)
cut-at (b ∷ bytes) zero x at is = ap (λ y. y ∷ bytes) (same_Some b x at ∙ is_feed x is)
cut-at (b ∷ bytes) (suc n) x at is = ap (λ ys. b ∷ ys) (cut-at bytes n x at is)

list_all-and : (P : List ℕ → Bool) (xs ys : List (List ℕ)) → list_all P xs ≡ true → list_all P ys ≡ true → list_all P (xs ++ ys) ≡ true
list_all-and P [] ys a b = b
list_all-and P (x ∷ xs) ys a b = by (P x) a (λ k. list_all-and P xs ys k b)
  where
    by : (t : Bool) → t && list_all P xs ≡ true → (list_all P xs ≡ true → list_all P (xs ++ ys) ≡ true) → t && list_all P (xs ++ ys) ≡ true
    by true k more = more k
    by false k more = k

-- one more line
pub all-unbroken : (lines : List (List ℕ)) (line : List ℕ) → list_all is_unbroken lines ≡ true → is_unbroken line ≡ true → list_all is_unbroken (lines ++ line ∷ []) ≡ true
all-unbroken lines line a b = list_all-and is_unbroken lines (line ∷ []) a (ap (λ t. t && true) b)

pub joined-more : (lines : List (List ℕ)) (line rest : List ℕ) → joined (lines ++ line ∷ []) ++ rest ≡ joined lines ++ (line ++ 10 ∷ rest)
joined-more [] line rest = ap (λ xs. xs ++ rest) (append-none (with_feed line)) ∙ append_assoc line (10 ∷ []) rest
  where
    append-none : (xs : List ℕ) → xs ++ [] ≡ xs
    append-none [] = refl
    append-none (x ∷ xs) = ap (λ ys. x ∷ ys) (append-none xs)
joined-more (l ∷ lines) line rest =
    append_assoc (with_feed l) (joined (lines ++ line ∷ [])) rest
    ∙ ap (λ xs. with_feed l ++ xs) (joined-more lines line rest)
    ∙ sym (append_assoc (with_feed l) (joined lines) (line ++ 10 ∷ rest))

-- the first line feed ends the first line
pub has-line : (bytes : List ℕ) (n x : ℕ) → n < length bytes → slice_get bytes n ≡ Some x → (x == 10) ≡ true → is_unbroken (take n bytes) ≡ true → HasLine bytes n
has-line bytes n x within at is unbroken =
    let next : suc n ≡ n + 1 = omega arith in
    record { within = within; parts = subst (λ k. bytes ≡ take n bytes ++ 10 ∷ drop k bytes) next (cut-at bytes n x at is); unbroken = unbroken }

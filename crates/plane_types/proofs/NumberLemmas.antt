-- Numbers in a row, those of them that are none of some others, and how many there are.
use Rattle.std.proofs.Common.{◌≡◌, ◌∙◌, ℕ, zero, suc, ◌+◌, ◌-◌, ◌<◌, ◌≤◌, List, [], ◌∷◌, Bool, true, false, cond, not, length, refl, ap, sym, arith}
use Rattle.std.specs.Prelude.{count_by, ◌==◌, ◌||◌}
use Rattle.std.specs.List.{list_any, filter}
use Rattle.std.proofs.lemmas.Bool.{eqb-true}
use Rattle.std.proofs.lemmas.List.Sums.{sum_by-cons}
use Rattle.plane_types.specs.NewTags.{is_free, numbers}

-- one element counts
abbrev pub one_if : Bool → ℕ
one_if b = cond b 1 0

pub count-cons : {X : Type 0} (p : X → Bool) (x : X) (xs : List X) → count_by p (x ∷ xs) ≡ one_if (p x) + count_by p xs
count-cons p x xs = sum_by-cons (λ y. cond {A = ℕ} (p y) 1 0) x xs

-- the first of the numbers up to an end, and the rest
pub numbers-step : (first end : ℕ) → first < end → numbers first (end - first) ≡ first ∷ numbers (first + 1) (end - (first + 1))
unfolding numbers
numbers-step first end h =
    let more : end - first ≡ suc (end - (first + 1)) = omega (arith, h) in
    ap (numbers first) more

pub numbers-end : (first many : ℕ) → many ≡ 0 → numbers first many ≡ []
unfolding numbers
numbers-end first zero h = refl
numbers-end first (suc many) h = absurd (omega (arith, h))

-- of the numbers up to an end those that are free: the first, or the rest alone
pub free-next : (ks : List ℕ) (first end : ℕ) → first < end → is_free ks first ≡ true → filter (is_free ks) (numbers first (end - first)) ≡ first ∷ filter (is_free ks) (numbers (first + 1) (end - (first + 1)))
free-next ks first end h e =
    let rest = filter (is_free ks) (numbers (first + 1) (end - (first + 1))) in
    ap (filter (is_free ks)) (numbers-step first end h) ∙ ap (λ (b : Bool). cond b (first ∷ rest) rest) e

pub free-past : (ks : List ℕ) (first end : ℕ) → first < end → is_free ks first ≡ false → filter (is_free ks) (numbers first (end - first)) ≡ filter (is_free ks) (numbers (first + 1) (end - (first + 1)))
free-past ks first end h e =
    let rest = filter (is_free ks) (numbers (first + 1) (end - (first + 1))) in
    ap (filter (is_free ks)) (numbers-step first end h) ∙ ap (λ (b : Bool). cond b (first ∷ rest) rest) e

pub length-numbers : (first many : ℕ) → length (numbers first many) ≡ many
unfolding numbers
length-numbers first zero = refl
length-numbers first (suc many) = ap suc (length-numbers (first + 1) many)

-- a test that a smaller number alone passes counts nothing
none-below : (p : ℕ → Bool) (k : ℕ) → ((t : ℕ) → p t ≡ true → t ≡ k) → (first many : ℕ) → k < first → count_by p (numbers first many) ≡ 0
unfolding numbers
none-below p k only first zero h = refl
none-below p k only first (suc many) h = go (p first) refl (none-below p k only (first + 1) many (omega (arith, h)))
  where
    go : (b : Bool) → p first ≡ b → count_by p (numbers (first + 1) many) ≡ 0 → count_by p (first ∷ numbers (first + 1) many) ≡ 0
    go true e rest = absurd (omega (arith, only first e, h))
    go false e rest =
        let one : one_if (p first) ≡ 0 = ap one_if e in
        omega (arith, count-cons p first (numbers (first + 1) many), rest, one)

-- a number stands once in a row of numbers
pub once-numbered : (p : ℕ → Bool) (k : ℕ) → ((t : ℕ) → p t ≡ true → t ≡ k) → (first many : ℕ) → count_by p (numbers first many) ≤ 1
unfolding numbers
once-numbered p k only first zero = omega arith
once-numbered p k only first (suc many) = go (p first) refl (once-numbered p k only (first + 1) many)
  where
    go : (b : Bool) → p first ≡ b → count_by p (numbers (first + 1) many) ≤ 1 → count_by p (first ∷ numbers (first + 1) many) ≤ 1
    go true e rest =
        let none = none-below p k only (first + 1) many (omega (arith, only first e)) in
        let one : one_if (p first) ≡ 1 = ap one_if e in
        omega (arith, count-cons p first (numbers (first + 1) many), none, one)
    go false e rest =
        let one : one_if (p first) ≡ 0 = ap one_if e in
        omega (arith, count-cons p first (numbers (first + 1) many), rest, one)

-- those that are kept beside one more are one fewer, at most, for each time that it stands there
fewer : (k : ℕ) (ks xs : List ℕ) → count_by (is_free ks) xs ≤ count_by (is_free (k ∷ ks)) xs + count_by (λ t. k == t) xs
fewer k ks [] = omega arith
fewer k ks (x ∷ xs) = go (k == x) (list_any (λ y. y == x) ks) refl refl (fewer k ks xs)
  where
    go : (b c : Bool) → (k == x) ≡ b → list_any (λ y. y == x) ks ≡ c → count_by (is_free ks) xs ≤ count_by (is_free (k ∷ ks)) xs + count_by (λ t. k == t) xs → count_by (is_free ks) (x ∷ xs) ≤ count_by (is_free (k ∷ ks)) (x ∷ xs) + count_by (λ t. k == t) (x ∷ xs)
    go b c e f rest =
        let one : one_if (is_free ks x) ≡ one_if (not c) = ap (λ d. one_if (not d)) f in
        let two : one_if (is_free (k ∷ ks) x) ≡ one_if (not (b || c)) = (λ j. one_if (not (e j || f j))) in
        let three : one_if (k == x) ≡ one_if b = ap one_if e in
        omega (arith, count-cons (is_free ks) x xs, count-cons (is_free (k ∷ ks)) x xs, count-cons (λ t. k == t) x xs, one, two, three, sums b c, rest)
      where
        sums : (b c : Bool) → one_if (not c) ≤ one_if (not (b || c)) + one_if b
        sums true true = omega arith
        sums true false = omega arith
        sums false true = omega arith
        sums false false = omega arith

-- where none is kept, all are free
all-free : (first many : ℕ) → many ≤ count_by (is_free []) (numbers first many) + 0
unfolding numbers
all-free first zero = omega arith
all-free first (suc many) = omega (arith, count-cons (is_free []) first (numbers (first + 1) many), all-free (first + 1) many)

-- of so many numbers no more are kept than others stand there
pub enough-free : (ks : List ℕ) (first many : ℕ) → many ≤ count_by (is_free ks) (numbers first many) + length ks
enough-free [] first many = all-free first many
enough-free (k ∷ ks) first many =
    omega (arith, fewer k ks (numbers first many), once-numbered (λ t. k == t) k (λ t e. sym (eqb-true k t e)) first many, enough-free ks first many)

-- a test that a list doesn't pass more often when it is filtered
pub count-filter : {X : Type 0} (p q : X → Bool) (xs : List X) → count_by p (filter q xs) ≤ count_by p xs
count-filter p q [] = omega arith
count-filter p q (x ∷ xs) = go (q x) (count-filter p q xs)
  where
    go : (b : Bool) → count_by p (filter q xs) ≤ count_by p xs → count_by p (cond b (x ∷ filter q xs) (filter q xs)) ≤ count_by p (x ∷ xs)
    go true rest = omega (arith, count-cons p x (filter q xs), count-cons p x xs, rest)
    go false rest = omega (arith, count-cons p x xs, rest)

-- what stands among those that are kept isn't free
pub none-free : (tag : ℕ) (ks xs : List ℕ) → list_any (λ k. k == tag) ks ≡ true → count_by (λ k. k == tag) (filter (is_free ks) xs) ≡ 0
none-free tag ks [] h = refl
none-free tag ks (x ∷ xs) h = go (x == tag) (is_free ks x) refl refl (none-free tag ks xs h)
  where
    go : (b c : Bool) → (x == tag) ≡ b → is_free ks x ≡ c → count_by (λ k. k == tag) (filter (is_free ks) xs) ≡ 0 → count_by (λ k. k == tag) (cond c (x ∷ filter (is_free ks) xs) (filter (is_free ks) xs)) ≡ 0
    go b false e f rest = rest
    go true true e f rest =
        let same = eqb-true x tag e in
        let kept : is_free ks x ≡ false = ap (is_free ks) same ∙ ap not h in
        cc
    go false true e f rest =
        let one : one_if (x == tag) ≡ 0 = ap one_if e in
        omega (arith, count-cons (λ k. k == tag) x (filter (is_free ks) xs), rest, one)

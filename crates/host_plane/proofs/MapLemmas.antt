-- Rows in ascending order of two numbers, and the one that has two given ones.
use Rattle.std.proofs.Common.{◌≡◌, ◌∙◌, inl, inr, ℕ, zero, suc, ◌+◌, ◌*◌, ◌-◌, ◌<◌, ◌≤◌, List, [], ◌∷◌, length, get_or, Bool, true, false, refl, ap, sym, arith}
use Rattle.std.specs.Prelude.{◌&&◌, ◌||◌, ◌==◌, nat_lt, Some, None, find, slice_get}
use Rattle.std.specs.List.{position_or_len}
use Rattle.std.specs.List.Sorted.{IsPartitionedBy, IsPartitionPoint, IsSortedBy}
use Rattle.std.proofs.lemmas.Bool.{cases_lt}
use Rattle.std.proofs.lemmas.Bool.Decides.{nat_tests}
use Rattle.std.proofs.lemmas.List.Folds.{find_at}
use Rattle.std.proofs.lemmas.List.Sums.{position_or_len_is}
use Rattle.std.proofs.lemmas.Option.{get_or_from_slice_get, slice_get_past}
use Rattle.net_addr.specs.Addresses.{addr_eq, number, width}
use Rattle.net_addr.specs.Ordered.{addr_before}
use Rattle.net_addr.specs.declared.address.Addr.{Addr}
use Rattle.net_addr.specs.declared.address.Addr.TheVariants.{V4, V6}
use Rattle.plane_types.specs.Hosts.{neighbour_before, pair_before}
use Rattle.plane_types.specs.declared.table.NeighbourRow.{NeighbourRow}

-- no pair is before itself
pair_alone : (a b : ℕ) → pair_before a b a b ≡ false
pair_alone a b = grind (arith, nat_tests)

-- what isn't before one that isn't before a third isn't before that
pair_along : (a b c d e f : ℕ) → pair_before c d a b ≡ false → pair_before e f c d ≡ false → pair_before e f a b ≡ false
pair_along a b c d e f h k = grind (arith, nat_tests)

-- what one that is before a third isn't before is before it too
pair_lower : (a b c d x y : ℕ) → pair_before c d a b ≡ false → pair_before c d x y ≡ true → pair_before a b x y ≡ true
pair_lower a b c d x y h k = grind (arith, nat_tests)

-- what is before a pair isn't it
pair_apart : (a b x y : ℕ) → pair_before a b x y ≡ true → ((a == x) && (b == y)) ≡ false
pair_apart a b x y h = grind (arith, nat_tests)

-- one that isn't before a pair and isn't it isn't before what is it
pair_past : (a b c d x y : ℕ) → pair_before a b x y ≡ false → ((a == x) && (b == y)) ≡ false → pair_before c d a b ≡ false → ((c == x) && (d == y)) ≡ false
pair_past a b c d x y h k m = grind (arith, nat_tests)

module _ {X : Type 0} (f g : X → ℕ) where
  abbrev pub comes_before : X → X → Bool
  comes_before x y = pair_before (f x) (g x) (f y) (g y)

  abbrev pub is_at : ℕ → ℕ → X → Bool
  is_at a b x = (f x == a) && (g x == b)

  apart : (xs : List X) → IsSortedBy comes_before xs → (n i : ℕ) (d : X) → i + n < length xs → comes_before (get_or xs (i + n) d) (get_or xs i d) ≡ false
  apart xs up zero i d below =
      let same : i + zero ≡ i = omega arith in
      rw same (pair_alone (f (get_or xs i d)) (g (get_or xs i d)))
  apart xs up (suc n) i d below =
      let same : i + suc n ≡ i + n + 1 = omega arith in
      rw same
      (pair_along (f (get_or xs i d)) (g (get_or xs i d)) (f (get_or xs (i + n) d)) (g (get_or xs (i + n) d)) (f (get_or xs (i + n + 1) d)) (g (get_or xs (i + n + 1) d))
      (apart xs up n i d (omega arith)) (up (i + n) d (omega arith) (omega arith)))

  module _ (a b : ℕ) (xs : List X) (up : IsSortedBy comes_before xs) where
    pub partitioned : IsPartitionedBy (λ x. pair_before (f x) (g x) a b) xs
    partitioned i j d low within passes =
        let same : i + (j - i) ≡ j = omega arith in
        pair_lower (f (get_or xs i d)) (g (get_or xs i d)) (f (get_or xs j d)) (g (get_or xs j d)) a b (rw same at (apart xs up (j - i) i d (omega arith))) passes

    -- all before the point come before the pair, and the others don't
    abbrev pub IsPoint : ℕ → Type 0
    IsPoint i = IsPartitionPoint (λ x. pair_before (f x) (g x) a b ≡ true) (λ x. pair_before (f x) (g x) a b ≡ false) xs i

    below_point : (i : ℕ) → IsPoint i → (k : ℕ) (d : X) → k < i → is_at a b (get_or xs k d) ≡ false
    below_point i point k d below = pair_apart (f (get_or xs k d)) (g (get_or xs k d)) a b (point.0 k d (omega arith) below)

    pub found : (i : ℕ) → IsPoint i → i ≤ length xs → (x : X) → slice_get xs i ≡ Some x → is_at a b x ≡ true → Some x ≡ find (is_at a b) xs
    found i point low x here hit =
        let first : position_or_len (is_at a b) xs ≡ i = position_or_len_is (is_at a b) xs i x low (λ k below. below_point i point k x below) (λ within. ap (is_at a b) (get_or_from_slice_get xs i x x here) ∙ hit) in
        sym (find_at (is_at a b) xs ∙ ap (slice_get xs) first ∙ here)

    none_found : (d : X) → ((k : ℕ) → k < length xs → is_at a b (get_or xs k d) ≡ false) → None ≡ find (is_at a b) xs
    none_found d none =
        let last : position_or_len (is_at a b) xs ≡ length xs = position_or_len_is (is_at a b) xs (length xs) d (omega arith) none (λ (h : length xs < length xs). absurd (omega arith)) in
        sym (find_at (is_at a b) xs ∙ ap (slice_get xs) last ∙ slice_get_past xs (length xs) (omega arith))

    pub another : (i : ℕ) → IsPoint i → i < length xs → (x : X) → slice_get xs i ≡ Some x → is_at a b x ≡ false → None ≡ find (is_at a b) xs
    another i point low x here missed = none_found x each
      where
        from_there : (k : ℕ) → i ≤ k → k < length xs → get_or xs i x ≡ x → is_at a b (get_or xs k x) ≡ false
        from_there k over within same =
            let on : i + (k - i) ≡ k = omega arith in
            pair_past (f x) (g x) (f (get_or xs k x)) (g (get_or xs k x)) a b
            (rw same at (point.1 i x (omega arith) low)) missed (rw (on, same) at (apart xs up (k - i) i x (omega arith)))

        each : (k : ℕ) → k < length xs → is_at a b (get_or xs k x) ≡ false
        each k within = elim (cases_lt k i) [
          | inl under ↦ below_point i point k x under
          | inr over ↦ from_there k over within (get_or_from_slice_get xs i x x here)
        ]

    pub beyond : (i : ℕ) → IsPoint i → length xs ≤ i → (d : X) → None ≡ find (is_at a b) xs
    beyond i point over d = none_found d (λ k within. below_point i point k d (omega arith))

-- the same of no rows, and of some
pub all_before : {X : Type 0} (f g : X → ℕ) (a b : ℕ) (xs : List X) → IsSortedBy (comes_before f g) xs → (i : ℕ) → IsPartitionPoint (λ x. pair_before (f x) (g x) a b ≡ true) (λ x. pair_before (f x) (g x) a b ≡ false) xs i → length xs ≤ i → None ≡ find (is_at f g a b) xs
all_before f g a b [] up i point over = refl
all_before f g a b (x ∷ xs) up i point over = beyond f g a b (x ∷ xs) up i point over x

-- two numbers that order neighbours as tag and address do
before_alike : (t s : ℕ) (a b : Addr) → pair_before (t * 256 + width a) (number a) (s * 256 + width b) (number b) ≡ (nat_lt t s || ((t == s) && addr_before a b))
before_alike t s (V4 m) (V4 n) = grind (arith, nat_tests)
before_alike t s (V4 m) (V6 n) = grind (arith, nat_tests)
before_alike t s (V6 m) (V4 n) = grind (arith, nat_tests)
before_alike t s (V6 m) (V6 n) = grind (arith, nat_tests)

at_alike : (t s : ℕ) (a b : Addr) → ((t * 256 + width a == s * 256 + width b) && (number a == number b)) ≡ ((t == s) && addr_eq a b)
at_alike t s (V4 m) (V4 n) = grind (arith, nat_tests)
at_alike t s (V4 m) (V6 n) = grind (arith, nat_tests)
at_alike t s (V6 m) (V4 n) = grind (arith, nat_tests)
at_alike t s (V6 m) (V6 n) = grind (arith, nat_tests)

abbrev pub first_of : NeighbourRow → ℕ
first_of r = r.tag * 256 + width r.address

abbrev pub second_of : NeighbourRow → ℕ
second_of r = number r.address

pub order_alike : comes_before first_of second_of ≡ neighbour_before
order_alike = λ j r s. before_alike r.tag s.tag r.address s.address j

pub key_alike : (tag : ℕ) (x : Addr) → is_at first_of second_of (tag * 256 + width x) (number x) ≡ (λ (r : NeighbourRow). (r.tag == tag) && addr_eq r.address x)
key_alike tag x = λ j r. at_alike r.tag tag r.address x j

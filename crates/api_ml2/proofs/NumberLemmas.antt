-- The least number that passes a test, one number after the other, and marks for those that are taken.
use Rattle.std.proofs.Common.{◌≡◌, ℕ, zero, suc, ◌+◌, ◌-◌, ◌<◌, ◌≤◌, List, [], ◌∷◌, ◌++◌, Bool, true, false, not, Option, Some, None, length, slice_get, refl, ap, sym, ◌∙◌, arith, min, nat_le}
use Rattle.std.specs.Prelude.{◌||◌, is_some, replicate}
use Rattle.std.proofs.lemmas.Bool.Decides.{nat_tests}
use Rattle.api_types.specs.declared.network.NetworkRow.{NetworkRow}
use Rattle.api_types.specs.declared.network.Segment.{Segment}
use Rattle.api_types.specs.declared.network.Segment.TheVariants.{Local, Flat, Vlan, Vxlan}
use Rattle.api_types.specs.Consistent.Segments.{is_vxlan}
use Rattle.api_types.specs.Least.{least_from}
use Rattle.api_ml2.specs.Numbers.{is_taken}

module _ (test : ℕ → Bool) where
  least-suc : (first many : ℕ) → 0 < many → least_from test first many ≡ (elim (test first) [ true ↦ Some first | false ↦ least_from test (first + 1) (many - 1) ])
  unfolding least_from
  least-suc first zero h = absurd (omega arith)
  least-suc first (suc many) h = ap (λ m. elim (test first) [ true ↦ Some first | false ↦ least_from test (first + 1) m ]) (omega arith)

  -- a number that fails leaves the search to the rest
  pub least-past : (first many : ℕ) → 0 < many → test first ≡ false → least_from test first many ≡ least_from test (first + 1) (many - 1)
  least-past first many h fails = least-suc first many h ∙ ap (λ (b : Bool). elim b [ true ↦ Some first | false ↦ least_from test (first + 1) (many - 1) ]) fails

  -- a number that passes ends it
  pub least-here : (first many : ℕ) → 0 < many → test first ≡ true → least_from test first many ≡ Some first
  least-here first many h passes = least-suc first many h ∙ ap (λ (b : Bool). elim b [ true ↦ Some first | false ↦ least_from test (first + 1) (many - 1) ]) passes

  -- no numbers, nothing found
  pub least-none : (first many : ℕ) → many ≡ 0 → least_from test first many ≡ None
  unfolding least_from
  least-none first zero h = refl
  least-none first (suc many) h = absurd (omega arith)

  -- what is found among the first ones is found among more
  least-among : (few many first : ℕ) → few ≤ many → is_some (least_from test first few) ≡ true → least_from test first many ≡ least_from test first few
  unfolding least_from
  least-among zero many first within h = cc
  least-among (suc few) zero first within h = absurd (omega arith)
  least-among (suc few) (suc many) first within h = by (test first) h (least-among few many (first + 1) (omega arith))
    where
      by : (b : Bool) → is_some (elim b [ true ↦ Some first | false ↦ least_from test (first + 1) few ]) ≡ true
          → (is_some (least_from test (first + 1) few) ≡ true → least_from test (first + 1) many ≡ least_from test (first + 1) few)
          → ◌≡◌ {A = Option ℕ} (elim b [ true ↦ Some first | false ↦ least_from test (first + 1) many ]) (elim b [ true ↦ Some first | false ↦ least_from test (first + 1) few ])
      by true h on = refl
      by false h on = on h

abbrev one_if : Bool → ℕ
one_if true = 1
one_if false = 0

-- how many of so many numbers, from the first on, pass a test
abbrev passing : (ℕ → Bool) → ℕ → ℕ → ℕ
passing test first zero = 0
passing test first (suc many) = one_if (test first) + passing test (first + 1) many

-- where none fails, all pass
all_pass : (test : ℕ → Bool) (many first : ℕ) → is_some (least_from (λ n. not (test n)) first many) ≡ false → passing test first many ≡ many
unfolding least_from
all_pass test zero first h = refl
all_pass test (suc many) first h = by (test first) h (all_pass test many (first + 1))
  where
    by : (b : Bool) → is_some (elim (not b) [ true ↦ Some first | false ↦ least_from (λ n. not (test n)) (first + 1) many ]) ≡ false
        → (is_some (least_from (λ n. not (test n)) (first + 1) many) ≡ false → passing test (first + 1) many ≡ many)
        → one_if b + passing test (first + 1) many ≡ suc many
    by true h on = let rest = on h in omega arith
    by false h on = cc

none_pass : (many first : ℕ) → passing (λ n. false) first many ≡ 0
none_pass zero first = refl
none_pass (suc many) first = let rest = none_pass many (first + 1) in omega arith

passing_either : (f g : ℕ → Bool) (many first : ℕ) → passing (λ n. f n || g n) first many ≤ passing f first many + passing g first many
passing_either f g zero first = omega arith
passing_either f g (suc many) first = by (f first) (g first) (passing_either f g many (first + 1))
  where
    by : (a b : Bool) → passing (λ n. f n || g n) (first + 1) many ≤ passing f (first + 1) many + passing g (first + 1) many
        → one_if (a || b) + passing (λ n. f n || g n) (first + 1) many ≤ (one_if a + passing f (first + 1) many) + (one_if b + passing g (first + 1) many)
    by true true h = omega arith
    by true false h = omega arith
    by false true h = omega arith
    by false false h = omega arith

-- a network takes one number at most
none_behind : (number many first : ℕ) → number < first → passing (λ n. is_vxlan n (Vxlan number)) first many ≡ 0
none_behind number zero first h = refl
none_behind number (suc many) first h =
    let apart : is_vxlan first (Vxlan number) ≡ false = grind (arith, nat_tests) in
    let rest = none_behind number many (first + 1) (omega arith) in
    rw apart (omega arith)

one_passes : (number many first : ℕ) → passing (λ n. is_vxlan n (Vxlan number)) first many ≤ 1
one_passes number zero first = omega arith
one_passes number (suc many) first = by (is_vxlan first (Vxlan number)) refl (one_passes number many (first + 1)) (none_behind number many (first + 1))
  where
    by : (b : Bool) → is_vxlan first (Vxlan number) ≡ b → passing (λ n. is_vxlan n (Vxlan number)) (first + 1) many ≤ 1
        → (number < first + 1 → passing (λ n. is_vxlan n (Vxlan number)) (first + 1) many ≡ 0)
        → one_if b + passing (λ n. is_vxlan n (Vxlan number)) (first + 1) many ≤ 1
    by false e rest none = omega arith
    by true e rest none =
        let same : number ≡ first = grind (arith, nat_tests) in
        let nothing = none (omega arith) in
        omega arith

passing_of : (s : Segment) (many first : ℕ) → passing (λ n. is_vxlan n s) first many ≤ 1
passing_of Local many first = let none = none_pass many first in omega arith
passing_of (Flat physical) many first = let none = none_pass many first in omega arith
passing_of (Vlan physical tag) many first = let none = none_pass many first in omega arith
passing_of (Vxlan number) many first = one_passes number many first

-- no more numbers are taken than there are networks
passing_taken : (networks : List NetworkRow) (many first : ℕ) → passing (is_taken networks) first many ≤ length networks
passing_taken [] many first = let none = none_pass many first in omega arith
passing_taken (x ∷ networks) many first =
    let either : passing (is_taken (x ∷ networks)) first many ≤ passing (λ n. is_vxlan n x.segment) first many + passing (is_taken networks) first many =
    passing_either (λ n. is_vxlan n x.segment) (is_taken networks) many first in
    let one = passing_of x.segment many first in
    let rest = passing_taken networks many first in
    omega arith

-- of more numbers than there are networks, one is free
one_free : (networks : List NetworkRow) (many first : ℕ) → length networks < many → is_some (least_from (λ n. not (is_taken networks n)) first many) ≡ true
one_free networks many first more = by (is_some (least_from (λ n. not (is_taken networks n)) first many)) refl
  where
    by : (b : Bool) → is_some (least_from (λ n. not (is_taken networks n)) first many) ≡ b → b ≡ true
    by true e = refl
    by false e =
        let all = all_pass (is_taken networks) many first e in
        let few = passing_taken networks many first in
        absurd (omega arith)

-- so one number more than there are networks is enough to look at
pub few_looked_at : (networks : List NetworkRow) (first last : ℕ) → first ≤ last
    → least_from (λ n. not (is_taken networks n)) first (min (last - first) (length networks) + 1)
    ≡ least_from (λ n. not (is_taken networks n)) first (last + 1 - first)
few_looked_at networks first last h = by (nat_le (last - first) (length networks)) refl
  where
    by : (b : Bool) → nat_le (last - first) (length networks) ≡ b
        → least_from (λ n. not (is_taken networks n)) first (min (last - first) (length networks) + 1)
        ≡ least_from (λ n. not (is_taken networks n)) first (last + 1 - first)
    by true e =
        let within : last - first ≤ length networks = grind (arith, nat_tests) in
        ap (λ many. least_from (λ n. not (is_taken networks n)) first many) (omega arith)
    by false e =
        let beyond : length networks < last - first = grind (arith, nat_tests) in
        let looked : min (last - first) (length networks) + 1 ≡ length networks + 1 = omega arith in
        ap (λ many. least_from (λ n. not (is_taken networks n)) first many) looked
        ∙ sym (least-among (λ n. not (is_taken networks n)) (length networks + 1) (last + 1 - first) first (omega arith) (one_free networks (length networks + 1) first (omega arith)))

-- no mark stands before the first network
pub unmarked : (many k : ℕ) → k < many → slice_get (replicate many false) k ≡ Some false
unmarked zero k within = absurd (omega arith)
unmarked (suc many) zero within = refl
unmarked (suc many) (suc k) within = unmarked many k (omega arith)

-- one more network takes its number
pub taken-push : (networks : List NetworkRow) (network : NetworkRow) (n : ℕ) → is_taken (networks ++ network ∷ []) n ≡ is_taken networks n || is_vxlan n network.segment
taken-push [] network n = or_false (is_vxlan n network.segment)
  where
    or_false : (b : Bool) → (b || false) ≡ (false || b)
    or_false true = refl
    or_false false = refl
taken-push (x ∷ networks) network n = ap (λ b. is_vxlan n x.segment || b) (taken-push networks network n) ∙ or_assoc (is_vxlan n x.segment) (is_taken networks n) (is_vxlan n network.segment)
  where
    or_assoc : (a b c : Bool) → (a || (b || c)) ≡ ((a || b) || c)
    or_assoc true b c = refl
    or_assoc false b c = refl

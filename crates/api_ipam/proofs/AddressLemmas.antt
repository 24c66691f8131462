-- Addresses in a row, and the least of some that isn't held.
use Rattle.std.proofs.Common.{◌≡◌, ◌∙◌, ℕ, ◌+◌, ◌-◌, ◌<◌, ◌≤◌, Bool, true, false, Option, Some, None, ap, sym, refl, arith, option_map}
use Rattle.std.specs.Prelude.{if◌then◌else◌, nat_le}
use Rattle.std.proofs.lemmas.Bool.Decides.{nat_tests}
use Rattle.net_addr.specs.Addresses.{number, with_number, same_version}
use Rattle.net_addr.specs.Prefixes.{Span}
use Rattle.net_addr.specs.declared.address.Addr.{Addr}
use Rattle.net_addr.specs.declared.address.Addr.TheVariants.{V4, V6}
use Rattle.api_types.specs.Least.{least_from}
use Rattle.api_ipam.specs.Addresses.{least_within, lesser}
use Rattle.api_ipam.proofs.LeastLemmas.{least-far, least-here, least-none, least-past}

-- an address is of its version and of its number
pub itself : (x : Addr) → x ≡ with_number x (number x)
itself (V4 n) = refl
itself (V6 n) = refl

pub as_numbered : (a x : Addr) → same_version a x ≡ true → x ≡ with_number a (number x)
as_numbered (V4 m) (V4 n) h = refl
as_numbered (V6 m) (V6 n) h = refl
as_numbered (V4 m) (V6 n) h = cc
as_numbered (V6 m) (V4 n) h = cc

-- the next one
pub next_is : (a x y : Addr) → x ≡ with_number a (number x) → y ≡ with_number x (number x + 1) → (y ≡ with_number a (number x + 1)) × (number y ≡ number x + 1)
next_is (V4 m) x y is e = let f : y ≡ V4 (number x + 1) = e ∙ ap (λ z. with_number z (number x + 1)) is in (f, ap number f)
next_is (V6 m) x y is e = let f : y ≡ V6 (number x + 1) = e ∙ ap (λ z. with_number z (number x + 1)) is in (f, ap number f)

-- the lesser of three

lesser_one : (x y z : Addr) → lesser (lesser (Some x) (Some y)) (Some z) ≡ lesser (Some x) (lesser (Some y) (Some z))
lesser_one (V4 x) (V4 y) (V4 z) = grind (arith, nat_tests)
lesser_one (V4 x) (V4 y) (V6 z) = grind (arith, nat_tests)
lesser_one (V4 x) (V6 y) (V4 z) = grind (arith, nat_tests)
lesser_one (V4 x) (V6 y) (V6 z) = grind (arith, nat_tests)
lesser_one (V6 x) (V4 y) (V4 z) = grind (arith, nat_tests)
lesser_one (V6 x) (V4 y) (V6 z) = grind (arith, nat_tests)
lesser_one (V6 x) (V6 y) (V4 z) = grind (arith, nat_tests)
lesser_one (V6 x) (V6 y) (V6 z) = grind (arith, nat_tests)

pub lesser_of_three : (x y z : Option Addr) → lesser (lesser x y) z ≡ lesser x (lesser y z)
lesser_of_three None y z = refl
lesser_of_three (Some x) None z = refl
lesser_of_three (Some x) (Some y) None = refl
lesser_of_three (Some x) (Some y) (Some z) = lesser_one x y z

pub none_lesser : (x : Option Addr) → lesser x None ≡ x
none_lesser None = refl
none_lesser (Some x) = refl

differs : (a x y : Addr) → x ≡ with_number a (number x) → same_version a y ≡ true → (x ≡ y → ⊥) → number x ≡ number y → ⊥
differs a x y is same apart e = apart (is ∙ (ap (with_number a) e ∙ sym (as_numbered a y same)))

module _ (test : Addr → Bool) (s : Span) where
  -- the search through a span, from an address on
  abbrev pub sought : ℕ → Option ℕ
  sought n = least_from (λ k. test (with_number s.first k)) n (number s.last + 1 - n)

  -- the one after so many that are no good is the least, if the span has it
  pub counted : (many : ℕ) → ((k : ℕ) → k < many → test (with_number s.first (number s.first + k)) ≡ false) → test (with_number s.first (number s.first + many)) ≡ true
      → (if nat_le (number s.first + many) (number s.last) then Some (with_number s.first (number s.first + many)) else None) ≡ least_within test s
  counted many fails passes = by (nat_le (number s.first + many) (number s.last)) refl
    where
      by : (b : Bool) → nat_le (number s.first + many) (number s.last) ≡ b → (if b then Some (with_number s.first (number s.first + many)) else None) ≡ least_within test s
      by true e =
          let fits : number s.first + many ≤ number s.last = grind (arith, nat_tests) in
          let far = least-far (λ k. test (with_number s.first k)) (number s.first) many (number s.last + 1 - number s.first) (omega (arith, fits)) fails in
          let here = least-here (λ k. test (with_number s.first k)) (number s.first + many) (number s.last + 1 - number s.first - many) (omega (arith, fits)) passes in
          ap (option_map (with_number s.first)) (sym here ∙ far)
      by false e =
          let past : number s.last < number s.first + many = grind (arith, nat_tests) in
          let size = number s.last + 1 - number s.first in
          let far = least-far (λ k. test (with_number s.first k)) (number s.first) size size (omega arith) (λ k less. fails k (omega (arith, less, past))) in
          let none = least-none (λ k. test (with_number s.first k)) (number s.first + size) (size - size) (omega arith) in
          ap (option_map (with_number s.first)) (sym none ∙ far)

  module _ (x : Addr) (to : number x ≤ number s.last) (is : x ≡ with_number s.first (number x)) (on : sought (number x) ≡ sought (number s.first)) where
    -- the last one is no good
    pub ended : x ≡ s.last → test x ≡ false → None ≡ least_within test s
    ended last fails =
        let at : number x ≡ number s.last = ap number last in
        let many : 0 < number s.last + 1 - number x = omega arith in
        let none = least-past (λ k. test (with_number s.first k)) (number x) (number s.last + 1 - number x) many (ap test (sym is) ∙ fails)
        ∙ least-none (λ k. test (with_number s.first k)) (number x + 1) (number s.last + 1 - number x - 1) (omega arith) in
        ap (option_map (with_number s.first)) (sym none ∙ on)

    -- this one is the least
    pub found : test x ≡ true → Some x ≡ least_within test s
    found passes =
        let many : 0 < number s.last + 1 - number x = omega arith in
        let here = least-here (λ k. test (with_number s.first k)) (number x) (number s.last + 1 - number x) many (ap test (sym is) ∙ passes) in
        ap Some is ∙ ap (option_map (with_number s.first)) (sym here ∙ on)

    pub inside : same_version s.first s.last ≡ true → (x ≡ s.last → ⊥) → number x < number s.last
    inside same apart = let other : number x ≡ number s.last → ⊥ = differs s.first x s.last is same apart in omega (arith, other)

    -- the search goes on with the next one
    pub onward : number x < number s.last → test x ≡ false → sought (number x + 1) ≡ sought (number s.first)
    onward less fails =
        let many : 0 < number s.last + 1 - number x = omega arith in
        let past = least-past (λ k. test (with_number s.first k)) (number x) (number s.last + 1 - number x) many (ap test (sym is) ∙ fails) in
        ap (least_from (λ k. test (with_number s.first k)) (number x + 1)) (omega arith) ∙ (sym past ∙ on)

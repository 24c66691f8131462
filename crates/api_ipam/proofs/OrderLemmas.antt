-- Addresses of version 4 that are held one after the other, found in one pass.
use Rattle.std.proofs.Common.{◌≡◌, ◌∙◌, ℕ, ◌+◌, ◌<◌, Bool, true, false, List, Some, ap, sym, refl, arith, drop, get_or, length, subst}
use Rattle.std.specs.Prelude.{if◌then◌else◌, slice_get, ◌||◌, ◌==◌}
use Rattle.std.specs.List.{list_any}
use Rattle.std.proofs.lemmas.Bool.Decides.{nat_tests}
use Rattle.std.proofs.lemmas.List.{at_drop_more}
use Rattle.net_addr.specs.Addresses.{addr_eq}
use Rattle.net_addr.specs.declared.address.Addr.TheVariants.{V4}
use Rattle.net_addr.specs.declared.address.Addr.{Addr}
use Rattle.api_types.proofs.ListLemmas.{at-any}
use Rattle.api_ipam.specs.FixedChoice.{is_in}

module _ (held : List Addr) (first : ℕ) where
  -- an address that is the next one makes it one more
  pub held_on : (next i : ℕ) (a : Addr) → slice_get held i ≡ Some a
      → ((k : ℕ) → first + k < next → is_in held (V4 (first + k)) ≡ true)
      → (k : ℕ) → first + k < (if addr_eq a (V4 next) then next + 1 else next) → is_in held (V4 (first + k)) ≡ true
  held_on next i a at so_far k less = by (addr_eq a (V4 next)) refl less
    where
      here : addr_eq a (V4 next) ≡ true → is_in held (V4 next) ≡ true
      here is = at-any (λ y. addr_eq y (V4 next)) held i a at is

      last : (b : Bool) → (first + k == next) ≡ b → addr_eq a (V4 next) ≡ true → first + k < next + 1 → is_in held (V4 (first + k)) ≡ true
      last true e is less =
          let same : next ≡ first + k = grind (arith, nat_tests) in subst (λ n. is_in held (V4 n) ≡ true) same (here is)
      last false e is less = so_far k (grind (arith, nat_tests))

      by : (b : Bool) → addr_eq a (V4 next) ≡ b → first + k < (if b then next + 1 else next) → is_in held (V4 (first + k)) ≡ true
      by true is less = last (first + k == next) refl is less
      by false is less = so_far k less

  -- an address that isn't the one: one less to look at
  pub fewer : (m i : ℕ) (a : Addr) → i < length held → a ≡ get_or held i a → addr_eq a (V4 m) ≡ false
      → is_in (drop (i + 1) held) (V4 m) ≡ is_in (drop i held) (V4 m)
  fewer m i a within is none =
      let here : addr_eq (get_or held i a) (V4 m) ≡ false = ap (λ x. addr_eq x (V4 m)) (sym is) ∙ none in
      sym (at_drop_more (list_any (λ y. addr_eq y (V4 m))) held i a within ∙ ap (λ b. b || is_in (drop (i + 1) held) (V4 m)) here)

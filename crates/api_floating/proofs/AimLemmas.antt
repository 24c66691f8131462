-- The address of a port that is meant.
use Rattle.std.proofs.Common.{◌≡◌, ◌∙◌, ℕ, Bool, true, false, List, None, Option, Some, [], ◌∷◌, ap, cond, find, refl, slice_get, sym}
use Rattle.std.specs.Prelude.{filter}
use Rattle.net_addr.specs.Addresses.{is_four, is_v4}
use Rattle.net_addr.specs.declared.address.Addr.{Addr}
use Rattle.net_addr.specs.declared.address.Addr.TheVariants.{V4, V6}
use Rattle.api_types.specs.Association.{fixed_for, only_one}
use Rattle.api_types.specs.declared.port.Fixed.{Fixed}
use Rattle.api_types.proofs.ListLemmas.{at_filter, none_some, some_equal}

-- a list with one in front of it, where there is one
abbrev pub behind : {X : Type 0} → Option X → List X → List X
behind None xs = xs
behind (Some x) xs = x ∷ xs

found_passes : (test : Fixed → Bool) (xs : List Fixed) (f : Fixed) → find test xs ≡ Some f → test f ≡ true
found_passes test [] f h = none_some f _ h
found_passes test (x ∷ xs) f h = by (test x) refl h (found_passes test xs f)
  where
    by : (b : Bool) → test x ≡ b → cond b (Some x) (find test xs) ≡ Some f → (find test xs ≡ Some f → test f ≡ true) → test f ≡ true
    by true is e rest = ap test (sym (some_equal x f e)) ∙ is
    by false is e rest = rest e

four_is : (x : Addr) (n : ℕ) → is_four x n ≡ true → is_v4 x ≡ true
four_is (V4 m) n h = refl
four_is (V6 m) n h = h

one_is : (fixed : List Fixed) (f : Fixed) → only_one fixed ≡ Some f → slice_get fixed 0 ≡ Some f
one_is [] f h = none_some f _ h
one_is (g ∷ []) f h = h
one_is (g ∷ e ∷ fixed) f h = none_some f _ h

-- the address that is meant is of version 4
pub fixed_four : (address : Option ℕ) (held : List Fixed) (f : Fixed) → fixed_for address held ≡ Some f → is_v4 f.address ≡ true
fixed_four (Some x) held f h = four_is f.address x (found_passes (λ (g : Fixed). is_four g.address x) held f h)
fixed_four None held f h = (at_filter (λ (g : Fixed). is_v4 g.address) held 0 f (one_is (filter (λ (g : Fixed). is_v4 g.address) held) f h)).2

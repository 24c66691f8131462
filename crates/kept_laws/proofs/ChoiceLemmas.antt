-- The addresses that are chosen for a port differ, where those that are known do.
use Rattle.std.proofs.Common.{◌≡◌, ◌⊎◌, ℕ, zero, suc, ◌+◌, ◌-◌, List, [], ◌∷◌, Bool, true, false, Option, Some, None, refl, ap, sym, ◌∙◌, not, subst, inl, inr}
use Rattle.std.specs.Prelude.{if◌then◌else◌, ◌&&◌, ◌||◌, option_map}
use Rattle.net_addr.proofs.AddrLemmas.{addr_itself, addr_same}
use Rattle.net_addr.specs.Addresses.{addr_eq, number, with_number}
use Rattle.net_addr.specs.Ordered.{addr_before}
use Rattle.net_addr.specs.Prefixes.{Span}
use Rattle.net_addr.specs.declared.address.Addr.{Addr}
use Rattle.api_types.specs.declared.port.Fixed.{Fixed}
use Rattle.api_types.specs.declared.subnet.SubnetRow.{SubnetRow}
use Rattle.api_types.proofs.ListLemmas.{and_both, at-any, both_and, false_true, none_some, or_none, some_equal}
use Rattle.api_ipam.specs.Addresses.{least_free_address, least_within, lesser}
use Rattle.api_types.specs.Least.{least_from}
use Rattle.api_ipam.specs.FixedChoice.{Place, addresses_of, are_different, filled, filled_at, is_in, known_addresses}
use Rattle.api_types.specs.HeldAddresses.{fixed_at}

-- a pool address passes the test by which it is chosen

pub from_passes : (test : ℕ → Bool) (many first x : ℕ) → least_from test first many ≡ Some x → test x ≡ true
unfolding least_from
from_passes test zero first x h = none_some x _ h
from_passes test (suc many) first x h = by (test first) refl h (from_passes test many (first + 1) x)
  where
    by : (b : Bool) → test first ≡ b → (elim b [ true ↦ Some first | false ↦ least_from test (first + 1) many ]) ≡ Some x
        → (least_from test (first + 1) many ≡ Some x → test x ≡ true) → test x ≡ true
    by true is h rest = ap test (sym (some_equal first x h)) ∙ is
    by false is h rest = rest h

pub within_passes : (free : Addr → Bool) (s : Span) (x : Addr) → least_within free s ≡ Some x → free x ≡ true
within_passes free s x h = by (least_from (λ n. free (with_number s.first n)) (number s.first) (number s.last + 1 - number s.first)) refl h
  where
    by : (o : Option ℕ) → least_from (λ n. free (with_number s.first n)) (number s.first) (number s.last + 1 - number s.first) ≡ o → option_map (with_number s.first) o ≡ Some x → free x ≡ true
    by None is h = none_some x _ h
    by (Some n) is h = ap free (sym (some_equal (with_number s.first n) x h)) ∙ from_passes (λ m. free (with_number s.first m)) (number s.last + 1 - number s.first) (number s.first) n is

pub lesser_one : (a b : Option Addr) (x : Addr) → lesser a b ≡ Some x → (a ≡ Some x) ⊎ (b ≡ Some x)
lesser_one None b x h = inr h
lesser_one (Some y) None x h = inl h
lesser_one (Some y) (Some z) x h = by (addr_before z y) h
  where
    by : (c : Bool) → Some (if c then z else y) ≡ Some x → (Some y ≡ Some x) ⊎ (Some z ≡ Some x)
    by true h = inr h
    by false h = inl h

pub pool_passes : (free : Addr → Bool) (pools : List Span) (x : Addr) → least_free_address free pools ≡ Some x → free x ≡ true
pool_passes free [] x h = none_some x _ h
pool_passes free (s ∷ pools) x h = by (lesser_one (least_within free s) (least_free_address free pools) x h) (pool_passes free pools x)
  where
    by : (least_within free s ≡ Some x) ⊎ (least_free_address free pools ≡ Some x) → (least_free_address free pools ≡ Some x → free x ≡ true) → free x ≡ true
    by (inl here) rest = within_passes free s x here
    by (inr there) rest = rest there

not_true : (b : Bool) → not b ≡ true → b ≡ false
not_true true h = false_true _ h
not_true false h = refl

or_left : (a b : Bool) → a ≡ true → a || b ≡ true
or_left a b h = ap (λ c. c || b) h

or_right : (a b : Bool) → b ≡ true → a || b ≡ true
or_right true b h = refl
or_right false b h = h

or_cases : (a b : Bool) (P : Type 0) → a || b ≡ true → (a ≡ true → P) → (b ≡ true → P) → P
or_cases true b P h f g = f refl
or_cases false b P h f g = g h

-- lists of addresses

abbrev with_known : Option Addr → List Addr → List Addr
with_known None xs = xs
with_known (Some x) xs = x ∷ xs

known_step : (a : Option Addr) (s : SubnetRow) (ls : List Place) → known_addresses (record { subnet = s; known = a } ∷ ls) ≡ with_known a (known_addresses ls)
known_step None s ls = refl
known_step (Some x) s ls = refl

first_in : (x : Addr) (xs : List Addr) → is_in (x ∷ xs) x ≡ true
first_in x xs = at-any (λ y. addr_eq y x) (x ∷ xs) 0 x refl (addr_itself x)

later_in : (y : Addr) (xs : List Addr) (x : Addr) → is_in xs x ≡ true → is_in (y ∷ xs) x ≡ true
later_in y xs x h = or_right (addr_eq y x) (is_in xs x) h

-- the addresses differ, and each is known or wasn't taken
pub record Differ (taken known : List Addr) (fs : List Fixed) : Type 0 where
  pub apart : are_different (addresses_of fs) ≡ true
  pub origin : (x : Addr) → is_in (addresses_of fs) x ≡ true → (is_in known x ≡ true) ⊎ (is_in taken x ≡ false)

abbrev AreTaken : List Addr → List Addr → Type 0
AreTaken known taken = (x : Addr) → is_in known x ≡ true → is_in taken x ≡ true

module _ (free : Addr → Bool) (taken known : List Addr) (s : SubnetRow) (z : Addr) (fs : List Fixed) (rest : Differ (z ∷ taken) known fs) where
  -- the first address comes no second time, where it isn't known again, and what is known is taken
  alone : AreTaken known (z ∷ taken) → (is_in known z ≡ true → ⊥) → is_in (addresses_of fs) z ≡ false
  alone covered unknown = by (is_in (addresses_of fs) z) refl
    where
      by : (b : Bool) → is_in (addresses_of fs) z ≡ b → b ≡ false
      by true is = absurd (from (rest.origin z is))
        where
          from : (is_in known z ≡ true) ⊎ (is_in (z ∷ taken) z ≡ false) → ⊥
          from (inl again) = unknown again
          from (inr out) = false_true ⊥ (sym out ∙ first_in z taken)
      by false is = refl

  pub step : (a : Option Addr) → filled_at free taken a s ≡ Some z → AreTaken (with_known a known) taken → are_different (with_known a known) ≡ true
      → Differ taken (with_known a known) (fixed_at s.id z ∷ fs)
  step (Some x) h covered differ =
      let same : x ≡ z = some_equal x z h in
      let both = and_both (not (is_in known x)) (are_different known) differ in
      let unknown : is_in known z ≡ false = ap (is_in known) (sym same) ∙ not_true (is_in known x) both.0 in
      record {
        apart = both_and _ _ (ap not (alone (λ y n. later_in z taken y (covered y (later_in x known y n))) (λ n. false_true ⊥ (sym unknown ∙ n)))) rest.apart;
        origin = λ y m. or_cases (addr_eq z y) (is_in (addresses_of fs) y) ((is_in (x ∷ known) y ≡ true) ⊎ (is_in taken y ≡ false)) m
            (λ first. inl (or_left (addr_eq x y) (is_in known y) (ap (λ w. addr_eq w y) same ∙ first)))
            (λ later. after y (rest.origin y later));
      }
    where
      after : (y : Addr) → (is_in known y ≡ true) ⊎ (is_in (z ∷ taken) y ≡ false) → (is_in (x ∷ known) y ≡ true) ⊎ (is_in taken y ≡ false)
      after y (inl n) = inl (later_in x known y n)
      after y (inr out) = inr (or_none (addr_eq z y) (is_in taken y) out).1
  step None h covered differ =
      let passes = pool_passes (λ y. free y && not (is_in taken y)) s.pools z h in
      let chosen : is_in taken z ≡ false = not_true (is_in taken z) (and_both (free z) (not (is_in taken z)) passes).1 in
      record {
        apart = both_and _ _ (ap not (alone (λ y n. later_in z taken y (covered y n)) (λ n. false_true ⊥ (sym chosen ∙ covered z n)))) rest.apart;
        origin = λ y m. or_cases (addr_eq z y) (is_in (addresses_of fs) y) ((is_in known y ≡ true) ⊎ (is_in taken y ≡ false)) m
            (λ first. inr (ap (is_in taken) (sym (addr_same z y first)) ∙ chosen))
            (λ later. after y (rest.origin y later));
      }
    where
      after : (y : Addr) → (is_in known y ≡ true) ⊎ (is_in (z ∷ taken) y ≡ false) → (is_in known y ≡ true) ⊎ (is_in taken y ≡ false)
      after y (inl n) = inl n
      after y (inr out) = inr (or_none (addr_eq z y) (is_in taken y) out).1

-- the addresses of the places differ
pub choices_differ : (free : Addr → Bool) (taken : List Addr) (ls : List Place) (fs : List Fixed) → filled free taken ls ≡ Some fs
    → AreTaken (known_addresses ls) taken → are_different (known_addresses ls) ≡ true → Differ taken (known_addresses ls) fs
choices_differ free taken [] fs h covered differ =
    subst (Differ taken []) (some_equal [] fs h) (record { apart = refl; origin = λ x m. false_true _ m })
choices_differ free taken (l ∷ ls) fs h covered differ =
    by (filled_at free taken l.known l.subnet) refl h (λ t gs g c d. choices_differ free t ls gs g c d)
  where
    known_is : known_addresses (l ∷ ls) ≡ with_known l.known (known_addresses ls)
    known_is = known_step l.known l.subnet ls

    covered_by : AreTaken (with_known l.known (known_addresses ls)) taken
    covered_by x n = covered x (ap (λ xs. is_in xs x) known_is ∙ n)

    differ_by : are_different (with_known l.known (known_addresses ls)) ≡ true
    differ_by = ap are_different (sym known_is) ∙ differ

    rest_covered : (a : Option Addr) → AreTaken (with_known a (known_addresses ls)) taken → AreTaken (known_addresses ls) taken
    rest_covered None c = c
    rest_covered (Some y) c = λ x n. c x (later_in y (known_addresses ls) x n)

    rest_differ : (a : Option Addr) → are_different (with_known a (known_addresses ls)) ≡ true → are_different (known_addresses ls) ≡ true
    rest_differ None d = d
    rest_differ (Some y) d = (and_both (not (is_in (known_addresses ls) y)) (are_different (known_addresses ls)) d).1

    by : (o : Option Addr) → filled_at free taken l.known l.subnet ≡ o
        → (elim o [ None ↦ None | Some x ↦ option_map (λ gs. fixed_at l.subnet.id x ∷ gs) (filled free (x ∷ taken) ls) ]) ≡ Some fs
        → ((t : List Addr) (gs : List Fixed) → filled free t ls ≡ Some gs → AreTaken (known_addresses ls) t → are_different (known_addresses ls) ≡ true → Differ t (known_addresses ls) gs)
        → Differ taken (known_addresses (l ∷ ls)) fs
    by None is h rec = none_some fs _ h
    by (Some x) is h rec = go (filled free (x ∷ taken) ls) refl h
      where
        go : (c : Option (List Fixed)) → filled free (x ∷ taken) ls ≡ c → option_map (λ gs. fixed_at l.subnet.id x ∷ gs) c ≡ Some fs → Differ taken (known_addresses (l ∷ ls)) fs
        go None at h = none_some fs _ h
        go (Some gs) at h =
            let c = rest_covered l.known covered_by in
            let rest = rec (x ∷ taken) gs at (λ y n. later_in x taken y (c y n)) (rest_differ l.known differ_by) in
            subst (λ ns. Differ taken ns fs) (sym known_is)
            (subst (Differ taken (with_known l.known (known_addresses ls))) (some_equal (fixed_at l.subnet.id x ∷ gs) fs h)
            (step free taken (known_addresses ls) l.subnet x gs rest l.known is covered_by differ_by))

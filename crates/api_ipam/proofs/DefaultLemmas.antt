-- The host addresses of prefixes that have some, and spans without an address.
use Rattle.std.proofs.Common.{◌≡◌, ◌∙◌, ℕ, ◌+◌, ◌-◌, ◌<◌, ◌≤◌, ◌^◌, Bool, true, false, Some, None, [], ◌∷◌, ap, sym, refl, arith}
use Rattle.std.specs.Prelude.{◌&&◌, if◌then◌else◌, nat_le, nat_lt}
use Rattle.std.proofs.lemmas.Bool.Decides.{nat_tests}
use Rattle.net_addr.specs.Addresses.{number, with_number, same_version, width}
use Rattle.net_addr.specs.Prefixes.{Prefix, Span, host_addresses, kept_back, last_number}
use Rattle.net_addr.specs.Spans.{is_within}
use Rattle.net_addr.specs.declared.address.Addr.{Addr}
use Rattle.net_addr.specs.declared.address.Addr.TheVariants.{V4, V6}
use Rattle.api_types.specs.Consistent.InForm.{longest_of}
use Rattle.api_types.proofs.ListLemmas.{and_both, some_equal}
use Rattle.api_ipam.specs.Addresses.{span}
use Rattle.api_ipam.proofs.AddressLemmas.{as_numbered, itself}

few_bits : (b : Addr) (l : ℕ) → l ≤ longest_of b → nat_lt (width b - (1 + kept_back b)) l ≡ false
few_bits (V4 n) l short = grind (arith, nat_tests)
few_bits (V6 n) l short = grind (arith, nat_tests)

-- a prefix that isn't too long has hosts
pub has_hosts : (p : Prefix) → p.len ≤ longest_of p.base
    → host_addresses p ≡ Some (record { first = with_number p.base (number p.base + 1); last = with_number p.base (last_number p - kept_back p.base) })
unfolding host_addresses
has_hosts p short =
    ap (λ (b : Bool). if b then None else Some (record { first = with_number p.base (number p.base + 1); last = with_number p.base (last_number p - kept_back p.base) })) (few_bits p.base p.len short)

numbered : (x : Addr) (n : ℕ) → number (with_number x n) ≡ n
numbered (V4 m) n = refl
numbered (V6 m) n = refl

-- the first host address isn't the least address
pub hosts_behind : (p : Prefix) (s : Span) → host_addresses p ≡ Some s → 0 < number s.first
unfolding host_addresses
hosts_behind p s e = by (nat_lt (width p.base - (1 + kept_back p.base)) p.len) e
  where
    by : (b : Bool) → (if b then None else Some (record { first = with_number p.base (number p.base + 1); last = with_number p.base (last_number p - kept_back p.base) })) ≡ Some s → 0 < number s.first
    by true h = absurd (cc)
    by false h = let at : number p.base + 1 ≡ number s.first = sym (numbered p.base (number p.base + 1)) ∙ ap (λ (t : Span). number t.first) (some_equal _ s h) in omega (arith, at)

module _ (s : Span) (x : Addr) (inside : is_within s x ≡ true) where
  pub one_version : same_version s.first x ≡ true
  unfolding is_within
  one_version = (and_both _ _ (and_both _ _ inside).0).0

  pub not_below : nat_le (number s.first) (number x) ≡ true
  unfolding is_within
  not_below = (and_both _ _ (and_both _ _ inside).0).1

  pub not_above : nat_le (number x) (number s.last) ≡ true
  unfolding is_within
  not_above = (and_both _ _ inside).1

  version_of : (a y : Addr) (n : ℕ) → same_version a y ≡ true → same_version a (with_number y n) ≡ true
  version_of (V4 a) (V4 y) n h = refl
  version_of (V6 a) (V6 y) n h = refl
  version_of (V4 a) (V6 y) n h = cc
  version_of (V6 a) (V4 y) n h = cc

  renumbered_as : (a y : Addr) (n : ℕ) → same_version a y ≡ true → with_number y n ≡ with_number a n
  renumbered_as (V4 a) (V4 y) n h = refl
  renumbered_as (V6 a) (V6 y) n h = refl
  renumbered_as (V4 a) (V6 y) n h = cc
  renumbered_as (V6 a) (V4 y) n h = cc

  inside_at : (n : ℕ) → is_within s (with_number x n) ≡ (nat_le (number s.first) n && nat_le n (number s.last))
  unfolding is_within
  inside_at n = λ j. (version_of s.first x n one_version j && nat_le (number s.first) (numbered x n j)) && nat_le (numbered x n j) (number s.last)

  below_test : (f n l : ℕ) → nat_le n l ≡ true → (nat_le f (n - 1) && nat_le (n - 1) l) ≡ nat_le f (n - 1)
  below_test f n l h = let less : nat_le (n - 1) l ≡ true = grind (arith, nat_tests) in by (nat_le f (n - 1)) (nat_le (n - 1) l) less
    where
      by : (a b : Bool) → b ≡ true → (a && b) ≡ a
      by true b h = h
      by false b h = refl

  above_test : (f n l : ℕ) → nat_le f n ≡ true → (nat_le f (n + 1) && nat_le (n + 1) l) ≡ nat_le (n + 1) l
  above_test f n l h = let more : nat_le f (n + 1) ≡ true = grind (arith, nat_tests) in ap (λ b. b && nat_le (n + 1) l) more

  -- the addresses below it
  pub below_if : (b : Bool) → is_within s (with_number x (number x - 1)) ≡ b
      → (if b then record { first = s.first; last = with_number x (number x - 1) } ∷ [] else []) ≡ span s.first (number s.first) (number x - 1)
  below_if b e =
      let test : nat_le (number s.first) (number x - 1) ≡ b = sym (below_test (number s.first) (number x) (number s.last) not_above) ∙ (sym (inside_at (number x - 1)) ∙ e) in
      λ j. if sym test j then record { first = itself s.first j; last = renumbered_as s.first x (number x - 1) one_version j } ∷ [] else []

  -- the addresses above it
  pub above_if : (b : Bool) → same_version s.first s.last ≡ true → is_within s (with_number x (number x + 1)) ≡ b
      → (if b then record { first = with_number x (number x + 1); last = s.last } ∷ [] else []) ≡ span s.first (number x + 1) (number s.last)
  above_if b same e =
      let test : nat_le (number x + 1) (number s.last) ≡ b = sym (above_test (number s.first) (number x) (number s.last) not_below) ∙ (sym (inside_at (number x + 1)) ∙ e) in
      λ j. if sym test j then record { first = renumbered_as s.first x (number x + 1) one_version j; last = as_numbered s.first s.last same j } ∷ [] else []

  -- nothing is above the greatest address of a version
  width_like : (a y : Addr) → same_version a y ≡ true → width a ≡ width y
  width_like (V4 a) (V4 y) h = refl
  width_like (V6 a) (V6 y) h = refl
  width_like (V4 a) (V6 y) h = cc
  width_like (V6 a) (V4 y) h = cc

  pub none_above : same_version s.first s.last ≡ true → number s.last < 2 ^ width s.last → number x + 1 ≡ 2 ^ width x → [] ≡ span s.first (number x + 1) (number s.last)
  none_above same bound top =
      let one : width x ≡ width s.last = sym (width_like s.first x one_version) ∙ width_like s.first s.last same in
      let at : number x + 1 ≡ 2 ^ width s.last = top ∙ ap (λ w. 2 ^ w) one in
      let more : number s.last < number x + 1 = omega (arith, at, bound) in
      let test : nat_le (number x + 1) (number s.last) ≡ false = grind (arith, nat_tests) in
      ap (λ (b : Bool). if b then record { first = with_number s.first (number x + 1); last = with_number s.first (number s.last) } ∷ [] else []) (sym test)

  pub some_below : 0 < number s.first → number x ≡ 0 → ⊥
  some_below behind none = let h = not_below in let le : number s.first ≤ number x = grind (arith, nat_tests) in omega (arith, le)

-- the spans from its first address to one of a span, and from one to its last
pub span_between : (s : Span) (x : Addr) → is_within s x ≡ true → (same_version s.first x ≡ true) × (number s.first ≤ number x)
span_between s x inside = (one_version s x inside, let h = not_below s x inside in grind (arith, nat_tests))

turned : (a x y : Addr) → same_version a x ≡ true → same_version a y ≡ true → same_version x y ≡ true
turned (V4 a) (V4 x) (V4 y) h g = refl
turned (V6 a) (V6 x) (V6 y) h g = refl
turned (V4 a) (V4 x) (V6 y) h g = cc
turned (V6 a) (V6 x) (V4 y) h g = cc
turned (V4 a) (V6 x) y h g = cc
turned (V6 a) (V4 x) y h g = cc

pub span_beyond : (s : Span) (x : Addr) → is_within s x ≡ true → same_version s.first s.last ≡ true → (same_version x s.last ≡ true) × (number x ≤ number s.last)
span_beyond s x inside same = (turned s.first x s.last (one_version s x inside) same, let h = not_above s x inside in grind (arith, nat_tests))

-- What the prefix calls need of quotients by a power of two.
use Rattle.std.proofs.Common.{◌≡◌, ℕ, suc, ◌+◌, ◌-◌, ◌*◌, ◌/◌, ◌%◌, ◌^◌, ◌<◌, ◌≤◌, ◌⊎◌, inl, inr, true, false, Decides, arith, sym, subst, ap, ◌∙◌, refl, ◌&&◌, ◌==◌, not, nat_le, Bool}
use Rattle.std.proofs.Math.Nat.{mod-lt, mul-le-mul_right, mul-mod_left, le_of_lt}
use Rattle.std.proofs.lemmas.Nat.{pow_pos}
use Rattle.std.proofs.Math.Pow.{shr_lt, split, high, ones_lt, shr-shr, pow-add}
use Rattle.std.proofs.Math.Pow.{pow_mono}
use Rattle.std.proofs.lemmas.Bool.{cases_lt}
use Rattle.std.proofs.lemmas.Bool.Decides.{Decides-eqb, Decides-and, Decides-not, Decides-like, same_from_decides, nat_tests}
use Rattle.net_addr.specs.Addresses.{addr_eq, number, width, with_number, same_version, is_v4}
use Rattle.net_addr.specs.declared.address.Addr.{Addr}
use Rattle.net_addr.specs.declared.address.Addr.TheVariants.{V4, V6}
use Rattle.net_addr.specs.Prefixes.{Prefix, Span, IsPrefix, Contains, contains, bits_behind, last_number, last_address, kept_back, is_host_of}
use Rattle.net_addr.specs.Spans.{is_within}

and_left : (a b : Bool) → (a && b) ≡ true → a ≡ true
and_left true b h = refl
and_left false b h = cc

and_right : (a b : Bool) → (a && b) ≡ true → b ≡ true
and_right true b h = h
and_right false b h = cc

and_both : (a b : Bool) → a ≡ true → b ≡ true → (a && b) ≡ true
and_both true b h k = k
and_both false b h k = cc

nat_le_is : (m n : ℕ) → Decides (nat_le m n) (m ≤ n)
nat_le_is m n = (λ e. grind (arith, nat_tests), λ w. grind (arith, nat_tests))

-- a base without bits below k is its quotient times 2^k
pub whole : (base k : ℕ) → base % 2 ^ k ≡ 0 → base ≡ (base / 2 ^ k) * 2 ^ k
whole base k h = omega (arith, split base k)

-- with all bits below k set it has the same quotient
pub last_inside : (base k : ℕ) → base % 2 ^ k ≡ 0 → (base + (2 ^ k - 1)) / 2 ^ k ≡ base / 2 ^ k
last_inside base k h = subst (λ (b : ℕ). (b + (2 ^ k - 1)) / 2 ^ k ≡ base / 2 ^ k) (sym (whole base k h)) (high (base / 2 ^ k) k (ones_lt k))

-- and is the greatest that has
pub last_greatest : (base k x : ℕ) → base % 2 ^ k ≡ 0 → x / 2 ^ k ≡ base / 2 ^ k → x ≤ base + (2 ^ k - 1)
last_greatest base k x h e =
    let low : x % 2 ^ k < 2 ^ k = mod-lt x (pow_pos k) in
    let same : (x / 2 ^ k) * 2 ^ k ≡ (base / 2 ^ k) * 2 ^ k = ap (λ (q : ℕ). q * 2 ^ k) e in
    omega (arith, split x k, whole base k h, same, low)

-- it still fits
pub last_fits : (base j k : ℕ) → base % 2 ^ k ≡ 0 → base < 2 ^ (j + k) → base + (2 ^ k - 1) < 2 ^ (j + k)
last_fits base j k h small =
    let q : base / 2 ^ k < 2 ^ j = shr_lt j k small in
    let room : suc (base / 2 ^ k) * 2 ^ k ≤ 2 ^ j * 2 ^ k = mul-le-mul_right (2 ^ k) q in
    omega (arith, pow-add 2 j k, room, whole base k h, ones_lt k)

pub last_fits_of : (w base len : ℕ) → len ≤ w → base % 2 ^ (w - len) ≡ 0 → base < 2 ^ w → base + (2 ^ (w - len) - 1) < 2 ^ w
last_fits_of w base len l h small =
    let e : len + (w - len) ≡ w = omega arith in
    subst (λ (n : ℕ). base + (2 ^ (w - len) - 1) < 2 ^ n) e (last_fits base len (w - len) h (subst (λ (n : ℕ). base < 2 ^ n) (sym e) small))

pub last_fits_width : (p : Prefix) → IsPrefix p → number p.base < 2 ^ width p.base → last_number p < 2 ^ width p.base
unfolding last_number
last_fits_width p h small = last_fits_of (width p.base) (number p.base) p.len h.0 h.1 small

-- equal quotients stay equal where fewer bits count
pub coarser : (x y j k : ℕ) → x / 2 ^ j ≡ y / 2 ^ j → x / 2 ^ (j + k) ≡ y / 2 ^ (j + k)
coarser x y j k e = sym (shr-shr x j k) ∙ ap (λ (q : ℕ). q / 2 ^ k) e ∙ shr-shr y j k

pub coarser_to : (x y j m : ℕ) → j ≤ m → x / 2 ^ j ≡ y / 2 ^ j → x / 2 ^ m ≡ y / 2 ^ m
coarser_to x y j m l e =
    let s : j + (m - j) ≡ m = omega arith in
    subst (λ (n : ℕ). x / 2 ^ n ≡ y / 2 ^ n) s (coarser x y j (m - j) e)

-- clearing the bits below k leaves a multiple of 2^k that isn't above
pub cleared_fits : (x k : ℕ) → (x / 2 ^ k) * 2 ^ k ≤ x
cleared_fits x k = omega (arith, split x k)

pub cleared_whole : (x k : ℕ) → ((x / 2 ^ k) * 2 ^ k) % 2 ^ k ≡ 0
cleared_whole x k = mul-mod_left (x / 2 ^ k) (2 ^ k)

-- the base is the least with its quotient, and what lies between has it too
pub first_least : (base k x : ℕ) → base % 2 ^ k ≡ 0 → x / 2 ^ k ≡ base / 2 ^ k → base ≤ x
first_least base k x h e =
    let same : (x / 2 ^ k) * 2 ^ k ≡ (base / 2 ^ k) * 2 ^ k = ap (λ (q : ℕ). q * 2 ^ k) e in
    omega (arith, split x k, whole base k h, same)

pub between_inside : (base k x : ℕ) → base % 2 ^ k ≡ 0 → base ≤ x → x ≤ base + (2 ^ k - 1) → x / 2 ^ k ≡ base / 2 ^ k
between_inside base k x h low top =
    let q = base / 2 ^ k in
    let rest : x - base < 2 ^ k = omega (arith, ones_lt k) in
    let e : q * 2 ^ k + (x - base) ≡ x = omega (arith, whole base k h) in
    subst (λ (y : ℕ). y / 2 ^ k ≡ q) e (high q k rest)

-- a number of 128 bits has none behind them
pub no_quotient : (x : ℕ) → x < 2 ^ 128 → x / 2 ^ 128 ≡ 0
no_quotient x h = omega (arith, h)

-- clearing by taking away what is behind
pub cleared_away : (x k : ℕ) → x - x % 2 ^ k ≡ (x / 2 ^ k) * 2 ^ k
cleared_away x k = omega (arith, split x k)

-- the number of an address of the same version
pub number_kept : (x : Addr) (n : ℕ) → number (with_number x n) ≡ n
number_kept (V4 m) n = refl
number_kept (V6 m) n = refl

pub version_kept : (x : Addr) (n : ℕ) → same_version x (with_number x n) ≡ true
version_kept (V4 m) n = refl
version_kept (V6 m) n = refl

pub version_self : (x : Addr) → same_version x x ≡ true
version_self (V4 m) = refl
version_self (V6 m) = refl

pub same_width : (x y : Addr) → same_version x y ≡ true → width x ≡ width y
same_width (V4 m) (V4 n) e = refl
same_width (V4 m) (V6 n) e = cc
same_width (V6 m) (V4 n) e = cc
same_width (V6 m) (V6 n) e = refl

pub version_turned : (x y : Addr) → same_version x y ≡ true → same_version y x ≡ true
version_turned (V4 m) (V4 n) e = refl
version_turned (V4 m) (V6 n) e = cc
version_turned (V6 m) (V4 n) e = cc
version_turned (V6 m) (V6 n) e = refl

pub version_on : (x y z : Addr) → same_version x y ≡ true → same_version x z ≡ true → same_version y z ≡ true
version_on (V4 m) (V4 n) (V4 k) e f = refl
version_on (V4 m) (V4 n) (V6 k) e f = cc
version_on (V4 m) (V6 n) z e f = cc
version_on (V6 m) (V6 n) (V6 k) e f = refl
version_on (V6 m) (V6 n) (V4 k) e f = cc
version_on (V6 m) (V4 n) z e f = cc

Decides-true : (b : Bool) → Decides b (b ≡ true)
Decides-true true = (λ e. e, λ e. e)
Decides-true false = (λ e. e, λ e. e)

-- a cleared base is one
pub cleared_at : (x : Addr) (len : ℕ) → len ≤ width x
    → IsPrefix (record { base = with_number x (number x - number x % 2 ^ (width x - len)); len = len })
cleared_at (V4 n) len l = (l, subst (λ (m : ℕ). m % 2 ^ (32 - len) ≡ 0) (sym (cleared_away n (32 - len))) (cleared_whole n (32 - len)))
cleared_at (V6 n) len l = (l, subst (λ (m : ℕ). m % 2 ^ (128 - len) ≡ 0) (sym (cleared_away n (128 - len))) (cleared_whole n (128 - len)))

-- the greatest address of a prefix
pub last_contained : (p : Prefix) → IsPrefix p → Contains p (last_address p)
unfolding last_address last_number
last_contained p h = (
  version_kept p.base _,
  ap (λ (n : ℕ). n / 2 ^ bits_behind p) (number_kept p.base (number p.base + (2 ^ bits_behind p - 1))) ∙ last_inside (number p.base) (bits_behind p) h.1,
)

pub last_above : (p : Prefix) (x : Addr) → IsPrefix p → Contains p x → number x ≤ number (last_address p)
unfolding last_address last_number
last_above p x h w =
    let top : number x ≤ number p.base + (2 ^ bits_behind p - 1) = last_greatest (number p.base) (bits_behind p) (number x) h.1 w.1 in
    omega (arith, top, number_kept p.base (number p.base + (2 ^ bits_behind p - 1)))

-- the tests of a prefix by the order of numbers
pub contains_decides : (p : Prefix) (x : Addr) → IsPrefix p
    → Decides (contains p x) ((same_version p.base x ≡ true) × (number p.base ≤ number x) × (number x ≤ last_number p))
unfolding contains last_number
contains_decides p x h =
    let k = bits_behind p in
    Decides-like _ (λ w. (w.0, first_least (number p.base) k (number x) h.1 w.1, last_greatest (number p.base) k (number x) h.1 w.1))
    (λ w. (w.0, between_inside (number p.base) k (number x) h.1 w.1 w.2))
    (Decides-and _ _ (Decides-true (same_version p.base x)) (Decides-eqb (number x / 2 ^ k) (number p.base / 2 ^ k)))

pub number_decides : (x y : ℕ) → Decides (x == y) (x ≡ y)
number_decides x y = Decides-eqb x y

-- v4 keeps back the greatest
abbrev Decides' : Type 0 → Type 0 → Type 0
Decides' P Q = (P → Q) × (Q → P)

abbrev pub IsBelowTop : Addr → ℕ → ℕ → Type 0
IsBelowTop (V4 _) n top = n < top
IsBelowTop (V6 _) n top = n ≤ top

top_decides : (x : Addr) (n top : ℕ) → n ≤ top → Decides (not (is_v4 x && (n == top))) (IsBelowTop x n top)
top_decides (V4 m) n top l = Decides-like _ (λ w. omega arith) (λ w e. omega arith) (Decides-not _ (Decides-eqb n top))
top_decides (V6 m) n top l = (λ e. l, λ w. refl)

pub host_decides : (p : Prefix) (x : Addr) → IsPrefix p
    → Decides (is_host_of p x) ((same_version p.base x ≡ true) × (number p.base < number x) × (number x ≤ last_number p) × IsBelowTop p.base (number x) (last_number p))
unfolding is_host_of
host_decides p x h =
    let c = contains_decides p x h in (
      λ e.
          let a : contains p x ≡ true = and_left _ _ (and_left _ _ e) in
          let w = c.0 a in
          let low : number x ≡ number p.base → ⊥ = (Decides-not _ (Decides-eqb (number x) (number p.base))).0 (and_right _ _ (and_left _ _ e)) in
          let l : number p.base < number x = elim (cases_lt (number p.base) (number x)) [ inl k ↦ k | inr k ↦ absurd (low (omega (arith, w.1, k))) ] in
          (w.0, l, w.2, (top_decides p.base (number x) (last_number p) w.2).0 (and_right _ _ e)),
      λ w.
          and_both _ _ (and_both _ _ (c.1 (w.0, omega (arith, w.1), w.2)) ((Decides-not _ (Decides-eqb (number x) (number p.base))).1 (λ e. omega (arith, e, w.1))))
          ((top_decides p.base (number x) (last_number p) w.2).1 w.3),
    )

-- two prefixes that share an address: one has the other's base
pub shared_numbers : (p q : Prefix) (x : Addr) → Contains p x → Contains q x → Contains p q.base ⊎ Contains q p.base
shared_numbers p q x hp hq =
    let pq : same_version p.base q.base ≡ true = version_on x p.base q.base (version_turned p.base x hp.0) (version_turned q.base x hq.0) in
    let w : width p.base ≡ width q.base = same_width p.base q.base pq in
    elim (cases_lt (bits_behind q) (bits_behind p)) [
      | inl l ↦ inl (pq, sym (coarser_to (number x) (number q.base) (bits_behind q) (bits_behind p) (le_of_lt l) hq.1) ∙ hp.1)
      | inr l ↦ inr (version_turned p.base q.base pq, sym (coarser_to (number x) (number p.base) (bits_behind p) (bits_behind q) l hp.1) ∙ hq.1)
    ]

pub within_decides : (s : Span) (x : Addr) → Decides (is_within s x) ((same_version s.first x ≡ true) × (number s.first ≤ number x) × (number x ≤ number s.last))
unfolding is_within
within_decides s x = (
  λ e. (and_left _ _ (and_left _ _ e), (nat_le_is _ _).0 (and_right _ _ (and_left _ _ e)), (nat_le_is _ _).0 (and_right _ _ e)),
  λ w. and_both _ _ (and_both _ _ w.0 ((nat_le_is _ _).1 w.1)) ((nat_le_is _ _).1 w.2),
)

pub fits_128 : (x : Addr) (n : ℕ) → n < 2 ^ width x → n < 2 ^ 128
fits_128 (V4 m) n l = omega (arith, l)
fits_128 (V6 m) n l = l

-- the identifier leaves room
eui_room_at : (x : Addr) (len n : ℕ) → number x % 2 ^ (width x - len) ≡ 0 → is_v4 x ≡ false → len ≡ 64 → number x < 2 ^ width x → n < 2 ^ 64
    → number x + n < 2 ^ width x
eui_room_at (V4 b) l n h e f s k = cc
eui_room_at (V6 b) l n h e f s k =
    let w : b % 2 ^ 64 ≡ 0 = subst (λ (m : ℕ). b % 2 ^ (128 - m) ≡ 0) f h in
    omega (arith, w, s, k)

pub eui_room_of : (p : Prefix) (n : ℕ) → IsPrefix p → is_v4 p.base ≡ false → p.len ≡ 64 → number p.base < 2 ^ width p.base → n < 2 ^ 64
    → number p.base + n < 2 ^ width p.base
eui_room_of p n h = eui_room_at p.base p.len n h.1

-- and keeps the base's first bits
eui_at : (x : Addr) (len n : ℕ) → number x % 2 ^ (width x - len) ≡ 0 → is_v4 x ≡ false → len ≡ 64 → n < 2 ^ 64
    → Contains (record { base = x; len = len }) (with_number x (number x + n))
eui_at (V4 b) l n h e f k = cc
eui_at (V6 b) l n h e f k =
    let w : b % 2 ^ 64 ≡ 0 = subst (λ (m : ℕ). b % 2 ^ (128 - m) ≡ 0) f h in
    let d : (b + n) / 2 ^ 64 ≡ b / 2 ^ 64 = omega (arith, w, k) in
    (refl, subst (λ (m : ℕ). (b + n) / 2 ^ (128 - m) ≡ b / 2 ^ (128 - m)) (sym f) d)

pub eui_contained : (p : Prefix) (n : ℕ) → IsPrefix p → is_v4 p.base ≡ false → p.len ≡ 64 → n < 2 ^ 64
    → Contains p (with_number p.base (number p.base + n))
eui_contained p n h = eui_at p.base p.len n h.1

-- an address is so far above the base where their difference is that number
eui_far : (x b n : ℕ) → nat_le b x && ((x - b) == n) ≡ (x == (b + n))
eui_far x b n = grind (arith, nat_tests)

pub eui_is : (b x : Addr) (n : ℕ) → (same_version b x && nat_le (number b) (number x) && ((number x - number b) == n)) ≡ addr_eq x (with_number b (number b + n))
eui_is (V4 b) (V4 x) n = eui_far x b n
eui_is (V4 b) (V6 x) n = refl
eui_is (V6 b) (V4 x) n = refl
eui_is (V6 b) (V6 x) n = eui_far x b n

-- the lengths that have no host address
no_hosts_at : (b : Addr) (l : ℕ) (x : Addr) → IsPrefix (record { base = b; len = l }) → width b - (1 + kept_back b) < l → is_host_of (record { base = b; len = l }) x ≡ false
unfolding last_number
no_hosts_at (V4 b) l x h long =
    let p : Prefix = record { base = V4 b; len = l } in
    let few : 2 ^ (32 - l) ≤ 2 ^ 1 = pow_mono {j = 1} (omega (arith, long, h.0)) in
    same_from_decides _ false (host_decides p x h) (λ e. cc, λ w. absurd (omega (arith, few, w)))
no_hosts_at (V6 b) l x h long =
    let p : Prefix = record { base = V6 b; len = l } in
    let few : 2 ^ (128 - l) ≤ 2 ^ 0 = pow_mono {j = 0} (omega (arith, long, h.0)) in
    same_from_decides _ false (host_decides p x h) (λ e. cc, λ w. absurd (omega (arith, few, w)))

pub no_hosts : (p : Prefix) (x : Addr) → IsPrefix p → width p.base - (1 + kept_back p.base) < p.len → is_host_of p x ≡ false
no_hosts p x h long = no_hosts_at p.base p.len x h long

-- the others have those between the least and the greatest
hosts_room_at : (b : Addr) (l : ℕ) → l ≤ width b - (1 + kept_back b) → number b + 1 + kept_back b ≤ last_number (record { base = b; len = l })
unfolding last_number
hosts_room_at (V4 b) l short =
    let many : 2 ^ 2 ≤ 2 ^ (32 - l) = pow_mono {i = 2} (omega (arith, short)) in
    omega (arith, many)
hosts_room_at (V6 b) l short =
    let many : 2 ^ 1 ≤ 2 ^ (128 - l) = pow_mono {i = 1} (omega (arith, short)) in
    omega (arith, many)

pub hosts_room : (p : Prefix) → p.len ≤ width p.base - (1 + kept_back p.base) → number p.base + 1 + kept_back p.base ≤ last_number p
hosts_room p short = hosts_room_at p.base p.len short

span_version : (x : Addr) (first last : ℕ) (y : Addr) → same_version (with_number x first) y ≡ same_version x y
span_version (V4 m) first last (V4 n) = refl
span_version (V4 m) first last (V6 n) = refl
span_version (V6 m) first last (V4 n) = refl
span_version (V6 m) first last (V6 n) = refl

below_top : (x : Addr) (n top : ℕ) → kept_back x ≤ top → Decides' (IsBelowTop x n top) (n ≤ top - kept_back x)
below_top (V4 m) n top l = (λ w. omega (arith, w, l), λ w. omega (arith, w, l))
below_top (V6 m) n top l = (λ w. omega (arith, w), λ w. omega (arith, w))

pub hosts_within : (p : Prefix) (x : Addr) → IsPrefix p → p.len ≤ width p.base - (1 + kept_back p.base)
    → is_host_of p x ≡ is_within (record { first = with_number p.base (number p.base + 1); last = with_number p.base (last_number p - kept_back p.base) }) x
hosts_within p x h short =
    let room = hosts_room p short in
    let s : Span = record { first = with_number p.base (number p.base + 1); last = with_number p.base (last_number p - kept_back p.base) } in
    let f = number_kept p.base (number p.base + 1) in
    let l = number_kept p.base (last_number p - kept_back p.base) in
    let v = span_version p.base (number p.base + 1) 0 x in
    let t = below_top p.base (number x) (last_number p) (omega (arith, room)) in
    same_from_decides _ _ (host_decides p x h)
    (Decides-like _ (λ w. (sym v ∙ w.0, omega (arith, f, w.1), omega (arith, l, w.2), t.1 (omega (arith, l, w.2))))
    (λ w. (v ∙ w.0, omega (arith, f, w.1), subst (λ (n : ℕ). number x ≤ n) (sym l) (t.0 w.3))) (within_decides s x))

-- Equal addresses, and the prefix of one address alone.
use Rattle.std.proofs.Common.{◌≡◌, ℕ, ◌-◌, ◌/◌, ◌%◌, ◌^◌, true, false, refl, ap, arith}
use Rattle.std.specs.Prelude.{◌==◌}
use Rattle.std.proofs.lemmas.Bool.{eqb-true}
use Rattle.std.proofs.lemmas.Bool.Decides.{nat_tests}
use Rattle.net_addr.specs.Addresses.{addr_eq, number, width}
use Rattle.net_addr.specs.Ordered.{addr_before, whole_prefix}
use Rattle.net_addr.specs.Prefixes.{contains}
use Rattle.net_addr.specs.declared.address.Addr.{Addr}
use Rattle.net_addr.specs.declared.address.Addr.TheVariants.{V4, V6}

pub addr_same : (a b : Addr) → addr_eq a b ≡ true → a ≡ b
addr_same (V4 m) (V4 n) e = ap V4 (eqb-true m n e)
addr_same (V6 m) (V6 n) e = ap V6 (eqb-true m n e)
addr_same (V4 m) (V6 n) e = cc
addr_same (V6 m) (V4 n) e = cc

pub addr_itself : (a : Addr) → addr_eq a a ≡ true
addr_itself (V4 m) = grind (arith, nat_tests)
addr_itself (V6 m) = grind (arith, nat_tests)

slash : (a x : ℕ) → (x / 1 == a / 1) ≡ (a == x)
slash a x = let e : x / 1 ≡ x = omega arith in let f : a / 1 ≡ a = omega arith in grind (arith, nat_tests)

-- no bits are behind a whole address
pub whole_clear : (x : Addr) → number x % 2 ^ (width x - width x) ≡ 0
whole_clear (V4 n) = omega arith
whole_clear (V6 n) = omega arith

-- the prefix of one address contains this address alone
pub one_address : (a x : Addr) → contains (whole_prefix a) x ≡ addr_eq a x
unfolding contains
one_address (V4 m) (V4 n) = slash m n
one_address (V4 m) (V6 n) = refl
one_address (V6 m) (V4 n) = refl
one_address (V6 m) (V6 n) = slash m n

-- no two addresses go before each other
pub before_differs : (a b : Addr) → addr_before a b ≡ true → addr_eq a b ≡ false
before_differs (V4 m) (V4 n) e = grind (arith, nat_tests)
before_differs (V4 m) (V6 n) e = refl
before_differs (V6 m) (V4 n) e = cc
before_differs (V6 m) (V6 n) e = grind (arith, nat_tests)

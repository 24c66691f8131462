use Rattle.std.proofs.Common.{ℕ, ◌<◌, ◌≤◌, ◌^◌, arith, length, IsTrue, lit<}
use Rattle.std.proofs.lemmas.Bool.Decides.{nat_tests}
use Rattle.std.proofs.Math.Nat.{pow-le-pow_right}
use Rattle.http_heads.specs.Numbers.{is_number}
use Rattle.http_heads.proofs.values.number.Goals as goal

-- what less than 19 digits write is small
small_by : (n i : ℕ) → n < 10 ^ i → i ≤ 18 → n < 10 ^ 18
small_by n i lt le = let more : 10 ^ i ≤ 10 ^ 18 = pow-le-pow_right {n = 10} (lit< tt) le in omega (arith, more)

short : (text : _) → IsTrue (is_number 19 text) → length text ≤ 19
short text h = grind (arith, nat_tests)

pub overflow_mul-n : goal.overflow_mul-n
overflow_mul-n c =
    let few = short c.args.text.now c.requires in
    let small = small_by c.loop-b.n c.loop-b.b-index c.loop-b.invariant.small (omega (arith, few, c.loop-b-test.true)) in
    omega (arith, small)

pub overflow_add-n : goal.overflow_add-n
overflow_add-n c =
    let few = short c.args.text.now c.requires in
    let small = small_by c.loop-b.n c.loop-b.b-index c.loop-b.invariant.small (omega (arith, few, c.loop-b-test.true)) in
    omega (arith, small, c.from.type_inv)

use Rattle.std.proofs.Common.{ℕ, ◌<◌, ◌≤◌, ◌^◌, arith, length, IsTrue, lit<}
use Rattle.std.proofs.lemmas.Bool.Decides.{nat_tests}
use Rattle.std.proofs.Math.Nat.{pow-le-pow_right}
use Rattle.command_lines.specs.Values.{is_digits}
use Rattle.command_lines.proofs.values.digits.Goals as goal

-- what less than 20 digits write is small
small_by : (n i : ℕ) → n < 10 ^ i → i ≤ 19 → n < 10 ^ 19
small_by n i lt le = let more : 10 ^ i ≤ 10 ^ 19 = pow-le-pow_right {n = 10} (lit< tt) le in omega (arith, more)

short : (text : _) → IsTrue (is_digits text) → length text ≤ 20
short text h = grind (arith, nat_tests)

pub overflow_mul-number : goal.overflow_mul-number
overflow_mul-number c =
    let few = short c.args.text.now c.requires in
    let small = small_by c.loop-digit.number c.loop-digit.digit-index c.loop-digit.invariant.small (omega (arith, few, c.loop-digit-test.true)) in
    omega (arith, small)

pub overflow_add-number : goal.overflow_add-number
overflow_add-number c =
    let few = short c.args.text.now c.requires in
    let small = small_by c.loop-digit.number c.loop-digit.digit-index c.loop-digit.invariant.small (omega (arith, few, c.loop-digit-test.true)) in
    omega (arith, small, c.from.type_inv)

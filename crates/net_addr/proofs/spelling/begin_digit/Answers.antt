use Rattle.std.proofs.Common.{◌≡◌, ℕ, ◌∷◌, ◌+◌, ◌*◌, subst, arith}
use Rattle.std.specs.Char.{digit_value}
use Rattle.net_addr.specs.Reading.{Agree, value_count}
use Rattle.net_addr.specs.Spelling.{Spells}
use Rattle.net_addr.specs.declared.spelling.Part.TheVariants.{Digit}
use Rattle.net_addr.proofs.SpellingLemmas.{begins_digit, digit_agrees, count_pos, room_behind, room_fits}
use Rattle.net_addr.proofs.spelling.begin_digit.Goals as goal

pub returns-in_err-digit : goal.returns-in_err-digit
returns-in_err-digit c = rw c.from_residual.ensures (λ text n s. omega (arith, begins_digit c.args.value c.args.c c.args.rest.now text n s, c.in_err-digit.ensures))

pub overflow_mul-result : goal.overflow_mul-result
overflow_mul-result c = let r = room_fits _ _ (count_pos c.args.rest.now) (room_behind c.args.value 16 0 (value_count c.args.rest.now) (omega arith) c.requires.1) in omega (arith, r)

pub overflow_add-result : goal.overflow_add-result
overflow_add-result c = let r = room_fits _ _ (count_pos c.args.rest.now) (room_behind c.args.value 16 c.in_ok-digit.digit (value_count c.args.rest.now) (omega (arith, c.in_ok-digit.ensures)) c.requires.1) in omega (arith, r)

pub returns : goal.returns
returns c =
    let v = c.args.value in
    let rest = c.args.rest.now in
    let same : digit_value c.args.c ≡ c.from.result = omega (arith, c.from.ensures, c.in_ok-digit.ensures) in (
      (c.requires.0, room_behind v 16 c.from.result (value_count rest) (omega (arith, c.from.ensures, c.in_ok-digit.ensures)) c.requires.1),
      subst (λ (d : ℕ). Agree (λ text n. Spells (Digit ∷ rest) v (c.args.c ∷ text) n) (Spells rest (v * 16 + d))) same (digit_agrees v c.args.c rest (omega (arith, c.in_ok-digit.ensures))),
    )

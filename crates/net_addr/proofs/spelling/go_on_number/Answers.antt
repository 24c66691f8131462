use Rattle.std.proofs.Common.{◌≡◌, ℕ, ◌+◌, ◌*◌, ◌<◌, sym, subst, arith}
use Rattle.std.specs.Char.{digit_value}
use Rattle.net_addr.specs.Reading.{NumberGoesOn, IsReading, Takes}
use Rattle.net_addr.specs.Spelling.{Spells}
use Rattle.net_addr.specs.declared.spelling.State.TheVariants.{Between}
use Rattle.net_addr.proofs.SpellingLemmas.{whole_fits, whole_reading, ended_agrees, takes_along, digit_goes_on, grown_to}
use Rattle.net_addr.proofs.spelling.go_on_number.Goals as goal

pub overflow_mul-value : goal.overflow_mul-value
overflow_mul-value c = let f = whole_fits c.args.parts.now c.args.value c.args.decimal.top c.args.decimal.number c.requires in omega (arith, f)

pub overflow_add-value : goal.overflow_add-value
overflow_add-value c = let f = whole_fits c.args.parts.now c.args.value c.args.decimal.top c.args.decimal.number c.requires in omega (arith, f)

pub begin-requires : goal.begin-requires
begin-requires c =
    subst (λ (m : ℕ). IsReading c.args.parts.now (c.args.value * 256 + m) Between) (sym c.from.ensures)
    (whole_reading c.args.parts.now c.args.value c.args.decimal.top c.args.decimal.number c.requires)

pub returns-in_default : goal.returns-in_default
returns-in_default c =
    let d = c.args.decimal in
    takes_along (NumberGoesOn c.args.parts.now c.args.value d.top d.number) (Spells c.args.parts.now (c.args.value * 256 + d.number)) c.args.c c.begin.result
    (ended_agrees c.args.parts.now c.args.value d.top d.number c.args.c c.requires.2 c.requires.3 (λ h. omega (arith, c.in_default.ensures)))
    (subst (λ (m : ℕ). Takes (Spells c.args.parts.now (c.args.value * 256 + m)) c.args.c c.begin.result) c.from.ensures c.begin.ensures)

pub returns-in_err-grown : goal.returns-in_err-grown
returns-in_err-grown c =
    let h = c.requires in
    rw c.from_residual.ensures (λ text n g.
    let b = digit_goes_on c.args.parts.now c.args.value c.args.decimal.top c.args.decimal.number c.args.c text n h.1 h.2 h.3 (omega (arith, c.in-Some.ensures)) g in
    omega (arith, b.0, b.1, c.in-Some.ensures, c.in_err-grown.ensures b.0))

pub returns : goal.returns
returns c =
    let h = c.requires in
    let g = c.in_ok-grown.grown in
    let d : digit_value c.args.c < 10 = omega (arith, c.in-Some.ensures) in
    let pos : 0 < c.args.decimal.number = c.in_ok-grown.ensures.0 in
    let top : g.top ≡ c.args.decimal.top = c.in_ok-grown.ensures.1 in
    let number : g.number ≡ c.args.decimal.number * 10 + digit_value c.args.c = omega (arith, c.in_ok-grown.ensures.2, c.in-Some.ensures) in (
      (h.0, h.1, c.in_ok-grown.ensures.3, omega (arith, top), h.4),
      grown_to c.args.parts.now c.args.value c.args.decimal.top c.args.decimal.number c.args.c g.top g.number h.1 h.2 h.3 d pos top number,
    )

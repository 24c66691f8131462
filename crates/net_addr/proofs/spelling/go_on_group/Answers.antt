use Rattle.std.proofs.Common.{◌≡◌, ℕ, ◌∷◌, ◌+◌, ◌*◌, ◌^◌, ◌<◌, sym, subst, arith}
use Rattle.std.specs.Char.{digit_value}
use Rattle.net_addr.specs.Reading.{Agree, GroupGoesOn, IsReading, Takes}
use Rattle.net_addr.specs.Spelling.{Spells}
use Rattle.net_addr.specs.declared.spelling.State.TheVariants.{Between}
use Rattle.net_addr.proofs.GroupLemmas.{digit_more, group_ended, group_fits, group_reading, grown_group, grown_small, more_agrees}
use Rattle.net_addr.proofs.SpellingLemmas.{takes_along}
use Rattle.net_addr.proofs.spelling.go_on_group.Goals as goal

pub overflow_mul-value : goal.overflow_mul-value
overflow_mul-value c = let f = group_fits c.args.parts.now c.args.value c.args.digits.count c.args.digits.number c.requires in omega (arith, f)

pub overflow_add-value : goal.overflow_add-value
overflow_add-value c = let f = group_fits c.args.parts.now c.args.value c.args.digits.count c.args.digits.number c.requires in omega (arith, f, c.from.ensures)

pub begin-requires : goal.begin-requires
begin-requires c =
    subst (λ (m : ℕ). IsReading c.args.parts.now (c.args.value * 2 ^ 16 + m) Between) (sym c.from.ensures)
    (group_reading c.args.parts.now c.args.value c.args.digits.count c.args.digits.number c.requires)

pub returns-in_default : goal.returns-in_default
returns-in_default c =
    let g = c.args.digits in
    takes_along (GroupGoesOn c.args.parts.now c.args.value g.count g.number) (Spells c.args.parts.now (c.args.value * 2 ^ 16 + g.number)) c.args.c c.begin.result
    (group_ended c.args.parts.now c.args.value g.count g.number c.args.c c.requires.2 (λ h. omega (arith, c.in_default.ensures)))
    (subst (λ (m : ℕ). Takes (Spells c.args.parts.now (c.args.value * 2 ^ 16 + m)) c.args.c c.begin.result) c.from.ensures c.begin.ensures)

pub returns-then-digits-eq4 : goal.returns-then-digits-eq4
returns-then-digits-eq4 c = λ text n g.
    let b = digit_more c.args.parts.now c.args.value c.args.digits.count c.args.digits.number c.args.c text n c.requires.1 (omega (arith, c.in-Some.ensures)) g in
    omega (arith, b.0, c.if-digits-eq4.true)

pub overflow_mul-grown : goal.overflow_mul-grown
overflow_mul-grown c = let s = grown_small c.args.digits.count c.args.digits.number (omega (arith, c.requires.2, c.if-digits-eq4.false)) c.requires.3 in omega (arith, s)

pub overflow_add-grown-2 : goal.overflow_add-grown-2
overflow_add-grown-2 c =
    let s = grown_small c.args.digits.count c.args.digits.number (omega (arith, c.requires.2, c.if-digits-eq4.false)) c.requires.3 in
    omega (arith, s, c.from-2.ensures, c.in-Some.ensures)

pub returns : goal.returns
returns c =
    let h = c.requires in
    let v = c.args.value in
    let parts = c.args.parts.now in
    let count = c.args.digits.count in
    let m = c.args.digits.number in
    let few : count < 4 = omega (arith, h.2, c.if-digits-eq4.false) in
    let small : digit_value c.args.c < 16 = omega (arith, c.in-Some.ensures) in
    let same : digit_value c.args.c ≡ c.from-2.result = omega (arith, c.from-2.ensures, c.in-Some.ensures) in (
      grown_group parts v count m c.from-2.result h few (omega (arith, same, small)),
      subst (λ (d : ℕ). Agree (λ text n. GroupGoesOn parts v count m (c.args.c ∷ text) n) (GroupGoesOn parts v (count + 1) (m * 16 + d))) same
          (more_agrees parts v count m c.args.c h.1 small),
    )

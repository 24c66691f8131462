use Rattle.std.proofs.Common.{ℕ, ◌∷◌, sym, subst, arith}
use Rattle.net_addr.specs.Reading.{Agree, NumberGoesOn}
use Rattle.net_addr.specs.Spelling.{Spells}
use Rattle.net_addr.specs.declared.spelling.Part.TheVariants.{Number}
use Rattle.net_addr.proofs.SpellingLemmas.{begins_number, number_agrees, readied_number}
use Rattle.net_addr.proofs.spelling.begin_number.Goals as goal

pub returns-in_err-number : goal.returns-in_err-number
returns-in_err-number c = rw c.from_residual.ensures (λ text n s. let b = begins_number c.args.top c.args.value c.args.c c.args.rest.now text n (omega arith) s in omega (arith, b.0, c.in_err-number.ensures))

pub returns-then-number-top : goal.returns-then-number-top
returns-then-number-top c = λ text n s. let b = begins_number c.args.top c.args.value c.args.c c.args.rest.now text n (omega arith) s in omega (arith, b.1, c.in_ok-number.ensures)

pub returns : goal.returns
returns c =
    let same = c.in_ok-number.ensures.0 in (
      readied_number c.args.top c.args.value c.in_ok-number.number c.args.rest.now c.requires (omega arith),
      subst (λ (m : ℕ). Agree (λ text n. Spells (Number c.args.top ∷ c.args.rest.now) c.args.value (c.args.c ∷ text) n) (NumberGoesOn c.args.rest.now c.args.value c.args.top m)) (sym same)
          (number_agrees c.args.top c.args.value c.args.c c.args.rest.now (omega arith) (omega (arith, c.in_ok-number.ensures))),
    )

use Rattle.std.proofs.Common.{◌≡◌, ℕ, ◌∷◌, ◌<◌, subst, arith}
use Rattle.std.specs.Char.{digit_value}
use Rattle.net_addr.specs.Reading.{Agree, GroupGoesOn}
use Rattle.net_addr.specs.Spelling.{Spells}
use Rattle.net_addr.specs.declared.spelling.Part.TheVariants.{Group}
use Rattle.net_addr.proofs.GroupLemmas.{begins_group, group_agrees, readied_group}
use Rattle.net_addr.proofs.spelling.begin_group.Goals as goal

pub returns-in_err-digit : goal.returns-in_err-digit
returns-in_err-digit c = rw c.from_residual.ensures (λ text n s. omega (arith, (begins_group c.args.value c.args.c c.args.rest.now text n s).0, c.in_err-digit.ensures))

pub returns : goal.returns
returns c =
    let v = c.args.value in
    let rest = c.args.rest.now in
    let small : digit_value c.args.c < 16 = omega (arith, c.in_ok-digit.ensures) in
    let same : digit_value c.args.c ≡ c.from.result = omega (arith, c.from.ensures, c.in_ok-digit.ensures) in (
      readied_group v c.from.result rest c.requires (omega (arith, same, small)),
      subst (λ (d : ℕ). Agree (λ text n. Spells (Group ∷ rest) v (c.args.c ∷ text) n) (GroupGoesOn rest v 1 d)) same (group_agrees v c.args.c rest small),
    )

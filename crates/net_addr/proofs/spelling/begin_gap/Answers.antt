use Rattle.std.proofs.Common.{◌≡◌, ℕ, ◌∷◌, ◌+◌, ◌*◌, ◌^◌, ◌≤◌, sym, subst, arith}
use Rattle.net_addr.specs.Reading.{Agree, value_count}
use Rattle.net_addr.specs.Spelling.{Spells}
use Rattle.net_addr.specs.declared.spelling.Part.TheVariants.{Gap}
use Rattle.net_addr.proofs.GroupLemmas.{gap_fits, gap_room}
use Rattle.net_addr.proofs.SpellingLemmas.{begins_gap, gap_agrees}
use Rattle.net_addr.proofs.spelling.begin_gap.Goals as goal

pub returns-then-c-ne58 : goal.returns-then-c-ne58
returns-then-c-ne58 c = λ text n s. c.if-c-ne58.true (begins_gap c.args.value c.args.c c.args.count c.args.rest.now text n s)

pub with_zeros-requires : goal.with_zeros-requires
with_zeros-requires c = gap_fits c.args.value c.args.count c.args.rest.now c.requires

pub returns : goal.returns
returns c =
    let v = c.args.value in
    let k = c.args.count in
    let rest = c.args.rest.now in
    let same : 58 ≡ c.args.c = omega (arith, c.if-c-ne58.false) in (
      (c.requires.0, subst (λ (w : ℕ). (w + 1) * value_count rest ≤ 2 ^ 128) (sym c.with_zeros.ensures) (gap_room v k rest c.requires)),
      subst (λ (w : ℕ). Agree (λ text n. Spells (Gap k ∷ rest) v (c.args.c ∷ text) n) (Spells rest w)) (sym c.with_zeros.ensures)
          (subst (λ (b : ℕ). Agree (λ text n. Spells (Gap k ∷ rest) v (b ∷ text) n) (Spells rest (v * 2 ^ (16 * k)))) same (gap_agrees v k rest)),
    )

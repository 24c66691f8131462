use Rattle.std.proofs.Common.{ℕ, ◌+◌, ◌*◌, ◌^◌, sym, subst, arith}
use Rattle.net_addr.specs.Reading.{Ends, IsReading, Remains}
use Rattle.net_addr.specs.Spelling.{Spells}
use Rattle.net_addr.specs.declared.spelling.State.{State}
use Rattle.net_addr.proofs.GroupLemmas.{group_fits, ends_group}
use Rattle.net_addr.proofs.SpellingLemmas.{whole_fits, ends_number}
use Rattle.net_addr.proofs.spelling.finish.Goals as goal

pub overflow_mul-value : goal.overflow_mul-value
overflow_mul-value c =
    let r = c.args.reading in
    let h = subst (λ (d : State). IsReading r.parts.now r.value d) c.in-InNumber.is c.requires in
    let f = whole_fits r.parts.now r.value c.in-InNumber.decimal.top c.in-InNumber.decimal.number h in
    omega (arith, f)

pub overflow_add-value : goal.overflow_add-value
overflow_add-value c =
    let r = c.args.reading in
    let h = subst (λ (d : State). IsReading r.parts.now r.value d) c.in-InNumber.is c.requires in
    let f = whole_fits r.parts.now r.value c.in-InNumber.decimal.top c.in-InNumber.decimal.number h in
    omega (arith, f, c.from.ensures)

pub returns-in-InNumber : goal.returns-in-InNumber
returns-in-InNumber c =
    let r = c.args.reading in
    let d = c.in-InNumber.decimal in
    let h = subst (λ (d : State). IsReading r.parts.now r.value d) c.in-InNumber.is c.requires in
    subst (λ (d : State). Ends (Remains r.parts.now r.value d) c.end-in-InNumber.result) (sym c.in-InNumber.is)
    (ends_number r.parts.now r.value d.top d.number c.end-in-InNumber.result h.2 h.3
    (subst (λ (m : ℕ). Ends (Spells r.parts.now (r.value * 256 + m)) c.end-in-InNumber.result) c.from.ensures c.end-in-InNumber.ensures))

pub overflow_mul-value-in-InGroup : goal.overflow_mul-value-in-InGroup
overflow_mul-value-in-InGroup c =
    let r = c.args.reading in
    let h = subst (λ (d : State). IsReading r.parts.now r.value d) c.in-InGroup.is c.requires in
    let f = group_fits r.parts.now r.value c.in-InGroup.digits.count c.in-InGroup.digits.number h in
    omega (arith, f)

pub overflow_add-value-in-InGroup : goal.overflow_add-value-in-InGroup
overflow_add-value-in-InGroup c =
    let r = c.args.reading in
    let h = subst (λ (d : State). IsReading r.parts.now r.value d) c.in-InGroup.is c.requires in
    let f = group_fits r.parts.now r.value c.in-InGroup.digits.count c.in-InGroup.digits.number h in
    omega (arith, f, c.from-in-InGroup.ensures)

pub returns-in-InGroup : goal.returns-in-InGroup
returns-in-InGroup c =
    let r = c.args.reading in
    let g = c.in-InGroup.digits in
    let h = subst (λ (d : State). IsReading r.parts.now r.value d) c.in-InGroup.is c.requires in
    subst (λ (d : State). Ends (Remains r.parts.now r.value d) c.end-in-InGroup.result) (sym c.in-InGroup.is)
    (ends_group r.parts.now r.value g.count g.number c.end-in-InGroup.result h.2
    (subst (λ (m : ℕ). Ends (Spells r.parts.now (r.value * 2 ^ 16 + m)) c.end-in-InGroup.result) c.from-in-InGroup.ensures c.end-in-InGroup.ensures))

use Rattle.std.proofs.Common.{sym, subst}
use Rattle.net_addr.specs.Reading.{Remains, Takes}
use Rattle.net_addr.specs.declared.spelling.State.{State}
use Rattle.net_addr.proofs.spelling.step.Goals as goal

pub returns-in-InNumber : goal.returns-in-InNumber
returns-in-InNumber c =
    let r = c.args.reading in
    subst (λ (d : State). Takes (Remains r.parts.now r.value d) c.args.c c.go_on_number.result) (sym c.in-InNumber.is) c.go_on_number.ensures

pub returns-in-InGroup : goal.returns-in-InGroup
returns-in-InGroup c =
    let r = c.args.reading in
    subst (λ (d : State). Takes (Remains r.parts.now r.value d) c.args.c c.go_on_group.result) (sym c.in-InGroup.is) c.go_on_group.ensures

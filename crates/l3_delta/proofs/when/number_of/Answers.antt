use Rattle.std.proofs.Common.{◌≡◌, ◌∙◌, Some, subst}
use Rattle.std.specs.Prelude.{nat_lt}
use Rattle.plane_types.specs.Keyed.{row_at}
use Rattle.l3_delta.specs.WayKeys.{ports_when}
use Rattle.l3_delta.specs.declared.when.When.{When}
use Rattle.l3_delta.proofs.PortNumbers.{number_before, number_now}
use Rattle.l3_delta.proofs.when.number_of.Goals as goal

pub returns-in-Before : goal.returns-in-Before
returns-in-Before c = λ k at.
    let change = c.args.change.now in
    c.number.ensures
    ∙ number_before change.before.now change.after.now change.items.now change.ports change.leads_on change.numbered c.rows-own_ids.ensures.own_ids c.args.port.now k
    (subst (λ (w : When). row_at nat_lt k (ports_when w change.ports) ≡ Some c.args.port.now) c.in-Before.is at)

pub returns-in-After : goal.returns-in-After
returns-in-After c = λ k at.
    let change = c.args.change.now in
    number_now change.before.now change.after.now change.items.now change.ports change.leads_on change.numbered c.args.port.now k
    (subst (λ (w : When). row_at nat_lt k (ports_when w change.ports) ≡ Some c.args.port.now) c.in-After.is at)
    c.number_after.result c.number_after.ensures

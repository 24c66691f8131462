use Rattle.std.proofs.Common.{◌∙◌, [], ap, find, not, sym}
use Rattle.api_types.specs.Given.{value_or}
use Rattle.api_types.specs.declared.kind.Kind.TheVariants.{Group}
use Rattle.plan_ports.specs.PortCalls.{is_group_for}
use Rattle.plan_ports.proofs.RefusalLemmas.{first_failing}
use Rattle.plan_ports.proofs.rules.ensure_groups_owned.Goals as goal

pub returns-in-Some : goal.returns-in-Some
returns-in-Some c =
    let found = is_group_for c.args.rows.now c.args.caller.now c.args.project.now in
    first_failing Group found (value_or [] c.args.named.now) c.in-Some.id.now c.none_with_id.result
    (ap (find (λ i. not (found i))) (sym c.group_names.ensures) ∙ sym c.in-Some.ensures) c.none_with_id.ensures

use Rattle.std.proofs.Common.{◌≡◌, ◌∙◌, ap, filter, map, subst}
use Rattle.std.specs.Prelude.{IfOk}
use Rattle.api_types.specs.declared.group.RuleRow.{RuleRow}
use Rattle.api_types.specs.declared.kind.Kind.TheVariants.{Rule as RuleKind}
use Rattle.call_parts.specs.Edits.{Drop as DropRow, made}
use Rattle.plan_groups.proofs.EditLemmas.{gone_by_steps}
use Rattle.row_laws.specs.Gone.{names_group}
use Rattle.plan_groups.proofs.group_deletion.without_group.Goals as goal

pub returns-clause-rows : goal.returns-clause-rows
returns-clause-rows c =
    let rows = c.args.rows.now in
    let i = c.args.group in
    let rules = c.as_slice.ensures ∙ c.in_ok-rules.ensures ∙ ap (λ xs. map (λ (r : RuleRow). r.id) (filter (names_group i) xs)) (c.rows.ensures.rows ∙ c.rules.ensures) in
    let is = gone_by_steps rows i c.as_slice.result.now c.in_ok-draft-2.draft.rows rules
    (c.in_ok-draft-2.ensures.rows ∙ ap (λ r. made r (map (λ k. DropRow RuleKind k) c.as_slice.result.now)) c.in_ok-draft.ensures.rows) in
    subst (λ r. IfOk c.drop_row.result (λ d. d.rows ≡ r)) is c.drop_row.ensures.rows

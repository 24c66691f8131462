use Rattle.std.proofs.Common.{◌≡◌, ◌∙◌, None, ap, subst, sym}
use Rattle.api_types.specs.Ident.{Ident}
use Rattle.api_types.specs.Table.{row_of}
use Rattle.api_types.specs.declared.group.RuleRow.{RuleRow}
use Rattle.api_secgroup.specs.RuleParts.{new_rule}
use Rattle.plan_groups.proofs.rule_creation.add_rule.Goals as goal

pub add-requires : goal.add-requires
add-requires c =
    let id_is = ap (λ (r : RuleRow). r.id) c.in_ok-rule.ensures ∙ c.id-id.ensures c.args.drawn.draft.rows in
    record { new = subst (λ (i : Ident). row_of (λ (r : RuleRow). r.id) i c.args.drawn.draft.rows.rules ≡ None) (sym id_is) c.requires.new }

pub returns-clause-row : goal.returns-clause-row
returns-clause-row c =
    c.in_ok-kept.ensures ∙ (c.in_ok-rule.ensures ∙ ap (new_rule c.args.form.now c.args.group.now) (c.id-id.ensures c.args.drawn.draft.rows))

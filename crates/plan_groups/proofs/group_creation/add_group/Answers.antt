use Rattle.std.proofs.Common.{◌≡◌, ◌∙◌, ◌+◌, None, arith, subst, sym}
use Rattle.api_types.specs.Ident.{Ident}
use Rattle.api_types.specs.Registration.{ident}
use Rattle.api_types.specs.Table.{row_of}
use Rattle.api_types.specs.declared.group.GroupRow.{GroupRow}
use Rattle.api_types.specs.declared.group.RuleRow.{RuleRow}
use Rattle.call_parts.specs.Answers.{drawing_of}
use Rattle.plan_groups.proofs.GroupLemmas.{added_with_rules}
use Rattle.call_parts.proofs.EditLaws.{ok_by_both}
use Rattle.plan_groups.proofs.group_creation.add_group.Goals as goal

pub add_with_rules-requires-clause-new_group : goal.add_with_rules-requires-clause-new_group
add_with_rules-requires-clause-new_group c =
    let groups = c.args.drawn.draft.rows.groups in
    let none = (c.requires.new 0 (omega arith)).groups in
    let first = subst (λ k. row_of (λ (g : GroupRow). g.id) (ident c.args.drawn.ordinal k) groups ≡ None) (omega arith) none in
    let id : c.in_ok-group.group.id ≡ ident c.args.drawn.ordinal c.args.drawn.first = (λ j. (c.in_ok-group.ensures j).id) ∙ c.make.ensures in
    subst (λ (i : Ident). row_of (λ (g : GroupRow). g.id) i groups ≡ None) (sym id) first

pub add_with_rules-requires-clause-new_rules : goal.add_with_rules-requires-clause-new_rules
add_with_rules-requires-clause-new_rules c = λ k less.
    let none = (c.requires.new (1 + k) (omega (arith, less))).rules in
    subst (λ n. row_of (λ (r : RuleRow). r.id) (ident c.args.drawn.ordinal n) c.args.drawn.draft.rows.rules ≡ None) (omega arith) none

pub returns-clause-rows : goal.returns-clause-rows
returns-clause-rows c =
    let drawing = drawing_of c.args.drawn in
    let g = c.in_ok-group.group in
    ok_by_both _ _ _ c.add_with_rules.result (λ p is leads. leads ∙ added_with_rules drawing.rows p.row g drawing is) c.add_with_rules.ensures.row c.add_with_rules.ensures.rows

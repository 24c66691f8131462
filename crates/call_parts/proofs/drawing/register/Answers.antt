use Rattle.std.proofs.Common.{◌≡◌, ◌∙◌, ap}
use Rattle.api_types.specs.Registration.{ident}
use Rattle.api_types.specs.Rows.{project_id}
use Rattle.api_types.specs.RowLists.{RowLists}
use Rattle.api_types.specs.Table.{row_of}
use Rattle.api_types.specs.declared.group.GroupRow.{GroupRow}
use Rattle.api_types.specs.declared.group.RuleRow.{RuleRow}
use Rattle.call_parts.proofs.DrawLemmas.{groups_new, project_new, rules_new}
use Rattle.call_parts.proofs.drawing.register.Goals as goal

pub add-requires : goal.add-requires
add-requires c = record {
  new = ap (λ (rows : RowLists). row_of project_id (ident c.args.ordinal 0) rows.projects) c.in_ok-draft.ensures.rows
      ∙ project_new c.args.rows.now c.requires.consistent c.args.ordinal c.requires.next;
}

pub add-requires-2 : goal.add-requires-2
add-requires-2 c =
    let rows : c.in_ok-draft-2.draft.rows.groups ≡ c.args.rows.now.groups = (λ j. (c.in_ok-draft-2.ensures.rows j).groups) ∙ (λ j. (c.in_ok-draft.ensures.rows j).groups) in
    record {
      new = (λ j. row_of (λ (g : GroupRow). g.id) (c.in_ok-group.ensures j).id (rows j)) ∙ groups_new c.args.rows.now c.requires.consistent c.args.ordinal c.requires.next 1;
    }

pub add_rules-requires : goal.add_rules-requires
add_rules-requires c n =
    let rows : c.in_ok-draft-3.draft.rows.rules ≡ c.args.rows.now.rules
    = (λ j. (c.in_ok-draft-3.ensures.rows j).rules) ∙ ((λ j. (c.in_ok-draft-2.ensures.rows j).rules) ∙ (λ j. (c.in_ok-draft.ensures.rows j).rules)) in
    ap (row_of (λ (r : RuleRow). r.id) (ident c.args.ordinal n)) rows ∙ rules_new c.args.rows.now c.requires.consistent c.args.ordinal c.requires.next n

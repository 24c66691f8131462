use Rattle.std.proofs.Common.{◌≡◌, ◌∙◌, ap, [], ◌∷◌, ◌++◌}
use Rattle.api_types.specs.Registration.{default_rule}
use Rattle.api_types.specs.RowLists.{RowLists}
use Rattle.api_types.specs.Table.{row_of}
use Rattle.api_types.specs.declared.group.Direction.TheVariants.{Egress, Ingress}
use Rattle.api_types.specs.declared.group.Ethertype.TheVariants.{Ipv4, Ipv6}
use Rattle.api_types.specs.declared.group.RuleRow.{RuleRow}
use Rattle.call_parts.proofs.DrawLemmas.{fifth_new, fourth_new, one_by_one, third_new}
use Rattle.call_parts.proofs.EditLaws.{ok_by}
use Rattle.call_parts.proofs.drawing.add_rules.Goals as goal

-- one rule more
abbrev more : RowLists → RuleRow → RowLists
more rows r = record rows { rules = rows.rules ++ r ∷ [] }

pub add-requires : goal.add-requires
add-requires c = record { new = ap (λ (r : RuleRow). row_of (λ (x : RuleRow). x.id) r.id c.args.draft.rows.rules) c.in_ok-rule.ensures ∙ c.requires 2 }

pub add-requires-2 : goal.add-requires-2
add-requires-2 c =
    let rows = c.args.draft.rows in
    let one : c.in_ok-draft.draft.rows ≡ more rows (default_rule c.args.project.now c.args.ordinal 2 Egress Ipv4) = c.in_ok-draft.ensures.rows ∙ ap (more rows) c.in_ok-rule.ensures in
    record { new = (λ j. row_of (λ (x : RuleRow). x.id) (c.in_ok-rule-2.ensures j).id (one j).rules) ∙ third_new rows.rules c.args.project.now c.args.ordinal c.requires }

pub add-requires-3 : goal.add-requires-3
add-requires-3 c =
    let rows = c.args.draft.rows in
    let one : c.in_ok-draft.draft.rows ≡ more rows (default_rule c.args.project.now c.args.ordinal 2 Egress Ipv4) = c.in_ok-draft.ensures.rows ∙ ap (more rows) c.in_ok-rule.ensures in
    let two : c.in_ok-draft-2.draft.rows ≡ more (more rows (default_rule c.args.project.now c.args.ordinal 2 Egress Ipv4)) (default_rule c.args.project.now c.args.ordinal 3 Egress Ipv6)
    = c.in_ok-draft-2.ensures.rows ∙ (λ j. more (one j) (c.in_ok-rule-2.ensures j)) in
    record { new = (λ j. row_of (λ (x : RuleRow). x.id) (c.in_ok-rule-3.ensures j).id (two j).rules) ∙ fourth_new rows.rules c.args.project.now c.args.ordinal c.requires }

pub add-requires-4 : goal.add-requires-4
add-requires-4 c =
    let rows = c.args.draft.rows in
    let one : c.in_ok-draft.draft.rows ≡ more rows (default_rule c.args.project.now c.args.ordinal 2 Egress Ipv4) = c.in_ok-draft.ensures.rows ∙ ap (more rows) c.in_ok-rule.ensures in
    let two : c.in_ok-draft-2.draft.rows ≡ more (more rows (default_rule c.args.project.now c.args.ordinal 2 Egress Ipv4)) (default_rule c.args.project.now c.args.ordinal 3 Egress Ipv6)
    = c.in_ok-draft-2.ensures.rows ∙ (λ j. more (one j) (c.in_ok-rule-2.ensures j)) in
    let three : c.in_ok-draft-3.draft.rows
    ≡ more (more (more rows (default_rule c.args.project.now c.args.ordinal 2 Egress Ipv4)) (default_rule c.args.project.now c.args.ordinal 3 Egress Ipv6)) (default_rule c.args.project.now c.args.ordinal 4 Ingress Ipv4)
    = c.in_ok-draft-3.ensures.rows ∙ (λ j. more (two j) (c.in_ok-rule-3.ensures j)) in
    record { new = (λ j. row_of (λ (x : RuleRow). x.id) (c.in_ok-rule-4.ensures j).id (three j).rules) ∙ fifth_new rows.rules c.args.project.now c.args.ordinal c.requires }

pub returns-clause-rows : goal.returns-clause-rows
returns-clause-rows c =
    let rows = c.args.draft.rows in
    let r2 = default_rule c.args.project.now c.args.ordinal 2 Egress Ipv4 in
    let r3 = default_rule c.args.project.now c.args.ordinal 3 Egress Ipv6 in
    let r4 = default_rule c.args.project.now c.args.ordinal 4 Ingress Ipv4 in
    let r5 = default_rule c.args.project.now c.args.ordinal 5 Ingress Ipv6 in
    let one : c.in_ok-draft.draft.rows ≡ more rows r2 = c.in_ok-draft.ensures.rows ∙ ap (more rows) c.in_ok-rule.ensures in
    let two : c.in_ok-draft-2.draft.rows ≡ more (more rows r2) r3 = c.in_ok-draft-2.ensures.rows ∙ (λ j. more (one j) (c.in_ok-rule-2.ensures j)) in
    let three : c.in_ok-draft-3.draft.rows ≡ more (more (more rows r2) r3) r4 = c.in_ok-draft-3.ensures.rows ∙ (λ j. more (two j) (c.in_ok-rule-3.ensures j)) in
    let four : more c.in_ok-draft-3.draft.rows c.in_ok-rule-4.rule ≡ more (more (more (more rows r2) r3) r4) r5 = λ j. more (three j) (c.in_ok-rule-4.ensures j) in
    ok_by _ _ c.add-4.result (λ d leads. leads ∙ (four ∙ ap (λ rules. record rows { rules = rules }) (one_by_one rows.rules r2 r3 r4 r5))) c.add-4.ensures.rows

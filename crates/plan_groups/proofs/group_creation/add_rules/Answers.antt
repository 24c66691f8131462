use Rattle.std.proofs.Common.{◌≡◌, ◌∙◌, ◌+◌, List, None, false, arith, subst, sym}
use Rattle.api_types.specs.Ident.{Ident}
use Rattle.api_types.specs.Registration.{ident}
use Rattle.api_types.specs.Table.{ident_eq, row_of}
use Rattle.api_types.specs.declared.group.RuleRow.{RuleRow}
use Rattle.call_parts.proofs.AbsentLemmas.{absent_pushed, later_id}
use Rattle.plan_groups.proofs.group_creation.add_rules.Goals as goal

pub add-requires : goal.add-requires
add-requires c =
    let rules = c.args.draft.rows.rules in
    let none = subst (λ k. row_of (λ (r : RuleRow). r.id) (ident c.args.ordinal k) rules ≡ None) (omega arith) (c.requires.new 0 (omega arith)) in
    let id : c.in_ok-rule.rule.id ≡ ident c.args.ordinal c.args.first = (λ j. (c.in_ok-rule.ensures j).id) ∙ c.make.ensures in
    record { new = subst (λ (i : Ident). row_of (λ (r : RuleRow). r.id) i rules ≡ None) (sym id) none }

pub add-requires-2 : goal.add-requires-2
add-requires-2 c =
    let rules = c.args.draft.rows.rules in
    let first = c.in_ok-rule.rule in
    let i : Ident = ident c.args.ordinal (c.args.first + 1) in
    let id : first.id ≡ ident c.args.ordinal c.args.first = (λ j. (c.in_ok-rule.ensures j).id) ∙ c.make.ensures in
    let apart = subst (λ (k : Ident). ident_eq i k ≡ false) (sym id) (later_id c.args.ordinal (c.args.first + 1) c.args.first (omega arith)) in
    let behind = absent_pushed (λ (r : RuleRow). r.id) i rules first (c.requires.new 1 (omega arith)) apart in
    let at_rows = subst (λ (q : List RuleRow). row_of (λ (r : RuleRow). r.id) i q ≡ None) (sym (λ j. (c.in_ok-draft.ensures.rows j).rules)) behind in
    let next : c.in_ok-rule-2.rule.id ≡ i = (λ j. (c.in_ok-rule-2.ensures j).id) ∙ c.make-2.ensures in
    record { new = subst (λ (k : Ident). row_of (λ (r : RuleRow). r.id) k c.in_ok-draft.draft.rows.rules ≡ None) (sym next) at_rows }

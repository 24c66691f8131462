-- Edits one after the other.
use Rattle.std.proofs.Common.{◌≡◌, ◌∙◌, List, [], ◌∷◌, map, filter, ap, sym}
use Rattle.api_types.specs.Ident.{Ident}
use Rattle.api_types.specs.RowLists.{RowLists}
use Rattle.api_types.specs.declared.group.RuleRow.{RuleRow}
use Rattle.api_types.specs.declared.kind.Kind.TheVariants.{Group as GroupKind, Rule as RuleKind}
use Rattle.call_parts.specs.Edits.{Drop, Edit, dropped, edited, made}
use Rattle.plan_groups.specs.GroupCalls.{group_gone}
use Rattle.row_laws.specs.Gone.{names_group}
use Rattle.call_parts.proofs.EditLemmas.{dropped_ids, made-append}

-- the rules that name a group go first, then the group
pub gone_by_steps : (rows : RowLists) (i : Ident) (ids : List Ident) (left : RowLists) → ids ≡ map (λ (r : RuleRow). r.id) (filter (names_group i) rows.rules)
    → left ≡ made rows (map (λ k. Drop RuleKind k) ids) → edited left (Drop GroupKind i) ≡ made rows (group_gone rows i)
gone_by_steps rows i ids left are steps =
    let rules : List RuleRow = filter (names_group i) rows.rules in
    let drops : List Edit = dropped RuleKind (λ (r : RuleRow). r.id) rules in
    let is : map (λ k. Drop RuleKind k) ids ≡ drops = ap (map (λ k. Drop RuleKind k)) are ∙ sym (dropped_ids RuleKind (λ (r : RuleRow). r.id) rules) in
    ap (λ r. edited r (Drop GroupKind i)) (steps ∙ ap (made rows) is) ∙ sym (made-append rows drops (Drop GroupKind i ∷ []))

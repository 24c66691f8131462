-- A group goes with its rules and those that name it.
use Rattle.std.proofs.Common.{ap, arith, ◌∙◌, ◌∷◌, ◌≡◌, []}
use Rattle.row_laws.specs.Gone.{names_group, without_group}
use Rattle.call_parts.specs.Edits.{Drop, dropped, made}
use Rattle.api_types.specs.WithRows.{gone_from}
use Rattle.plan_groups.specs.GroupCalls.{group_gone}
use Rattle.api_types.specs.Consistent.{IsConsistent}
use Rattle.api_types.specs.Ident.{Ident}
use Rattle.api_types.specs.RowLists.{RowLists}
use Rattle.api_types.specs.declared.group.GroupRow.{GroupRow}
use Rattle.api_types.specs.declared.group.RuleRow.{RuleRow}
use Rattle.api_types.specs.declared.kind.Kind.TheVariants.{Group as GroupKind, Rule as RuleKind}
use Rattle.std.specs.Prelude.{filter}
use Rattle.call_parts.proofs.EditLemmas.{made-append}
use Rattle.kept_laws.proofs.DroppedRows.{all_dropped, rules_dropped}

module _ (rows : RowLists) (c : IsConsistent rows) (i : Ident) where
  -- a group goes with its rules and those that name it
  pub group_rows_gone : made rows (group_gone rows i) ≡ without_group rows i
  group_rows_gone =
      made-append rows (dropped RuleKind (λ r. r.id) (filter (names_group i) rows.rules)) (Drop GroupKind i ∷ [])
      ∙ (ap (λ r. made r (Drop GroupKind i ∷ [])) (rules_dropped rows (filter (names_group i) rows.rules))
      ∙ ap (λ rules. record rows { rules = rules; groups = gone_from (λ (g : GroupRow). g.id) i rows.groups }) (all_dropped (λ (r : RuleRow). r.id) (names_group i) rows.rules (λ j. omega (arith, c.numbered.ids j))))

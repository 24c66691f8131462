-- A tenant is shown the same of groups and rules wherever its footing is the same.
use Rattle.std.proofs.Common.{◌≡◌, List, false, ap, ℕ}
use Rattle.api_policy.specs.Seen.{group_seen, own_rows}
use Rattle.api_policy.specs.Groups.{group_members, rule_members}
use Rattle.api_policy.specs.Shown.{shown_as}
use Rattle.apart_laws.specs.Footing.{footing}
use Rattle.api_machine.specs.Reads.{row_told}
use Rattle.api_types.specs.Refusing.{not_found, answer_alone}
use Rattle.call_parts.specs.State.{State}
use Rattle.api_types.specs.Consistent.{IsConsistent}
use Rattle.api_types.specs.Outcome.{Told}
use Rattle.api_types.specs.Printed.{OneRow}
use Rattle.api_types.specs.declared.call.Caller.{Caller}
use Rattle.api_types.specs.declared.call.IdText.{IdText}
use Rattle.api_types.specs.declared.group.RuleRow.{RuleRow}
use Rattle.api_types.specs.declared.kind.Kind.TheVariants.{Group as GroupKind, Rule as RuleKind}
use Rattle.net_settings.specs.Settings.{SettingsParts}
use Rattle.apart_laws.proofs.ApartLemmas.{needing_same}
use Rattle.apart_laws.proofs.OwnAlike.{rules_alike}
use Rattle.apart_laws.proofs.GroupAlike.{group_found, group_id}
use Rattle.plan_groups.proofs.GroupsApart.{group_printed, rules_same}

module _ (settings : SettingsParts) (caller : Caller) (tenant : caller.admin ≡ false) (s t : State) (same : footing settings s caller ≡ footing settings t caller) where
  -- reads

  pub group_shown_apart : IsConsistent s.rows → IsConsistent t.rows → (name : IdText) (fields : List (List ℕ))
      → answer_alone (row_told GroupKind group_id (group_members s.rows) caller name fields (own_rows (λ r. r.project) caller s.rows.groups))
      ≡ answer_alone (row_told GroupKind group_id (group_members t.rows) caller name fields (own_rows (λ r. r.project) caller t.rows.groups))
  group_shown_apart c d name fields = needing_same (not_found GroupKind name.text) (group_seen s.rows caller name.id) (group_seen t.rows caller name.id)
      (λ g. Told (OneRow (shown_as GroupKind caller.admin fields (group_members s.rows g)))) (λ g. Told (OneRow (shown_as GroupKind caller.admin fields (group_members t.rows g))))
      ((group_found settings caller tenant s t same) name.id)
      (λ g found_s found_t. ap (λ rules. Told (OneRow (shown_as GroupKind caller.admin fields (group_printed g rules)))) ((rules_same settings caller tenant s t same) c d name.id g found_s found_t))

  pub rule_shown_apart : (name : IdText) (fields : List (List ℕ))
      → answer_alone (row_told RuleKind (λ r. r.id) rule_members caller name fields (own_rows (λ r. r.project) caller s.rows.rules))
      ≡ answer_alone (row_told RuleKind (λ r. r.id) rule_members caller name fields (own_rows (λ r. r.project) caller t.rows.rules))
  rule_shown_apart name fields = ap (λ rows. answer_alone (row_told RuleKind (λ (r : RuleRow). r.id) rule_members caller name fields rows)) (rules_alike settings caller tenant s t same)

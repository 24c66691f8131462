-- A tenant is shown the same of policies wherever its footing is the same.
use Rattle.std.proofs.Common.{◌≡◌, List, false, ap, ℕ}
use Rattle.api_policy.specs.Seen.{own_rows}
use Rattle.api_policy.specs.Policies.{policy_members}
use Rattle.apart_laws.specs.Footing.{footing}
use Rattle.api_machine.specs.Reads.{row_told}
use Rattle.api_types.specs.Refusing.{answer_alone}
use Rattle.call_parts.specs.State.{State}
use Rattle.api_types.specs.Consistent.{IsConsistent}
use Rattle.api_types.specs.declared.call.Caller.{Caller}
use Rattle.api_types.specs.declared.call.IdText.{IdText}
use Rattle.api_types.specs.declared.kind.Kind.TheVariants.{Policy as PolicyKind}
use Rattle.net_settings.specs.Settings.{SettingsParts}
use Rattle.apart_laws.proofs.OwnAlike.{policies_alike}
use Rattle.plan_policies.proofs.PoliciesApart.{policy_id}

module _ (settings : SettingsParts) (caller : Caller) (tenant : caller.admin ≡ false) (s t : State) (c : IsConsistent s.rows) (d : IsConsistent t.rows) (same : footing settings s caller ≡ footing settings t caller) where
  pub policy_shown_apart : (name : IdText) (fields : List (List ℕ))
      → answer_alone (row_told PolicyKind policy_id policy_members caller name fields (own_rows (λ r. r.project) caller s.rows.policies))
      ≡ answer_alone (row_told PolicyKind policy_id policy_members caller name fields (own_rows (λ r. r.project) caller t.rows.policies))
  policy_shown_apart name fields = ap (λ rows. answer_alone (row_told PolicyKind policy_id policy_members caller name fields rows)) (policies_alike settings caller tenant s t same)

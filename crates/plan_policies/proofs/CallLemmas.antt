-- What refuses the creation of a policy on a network that is found, and that the ids that are drawn are no policy's.
use Rattle.std.proofs.Common.{◌≡◌, ◌∙◌, ℕ, lit<, ap, true, false, Option, Some, None, List}
use Rattle.std.specs.Prelude.{codes, not}
use Rattle.api_types.specs.Consistent.{IsConsistent}
use Rattle.api_types.specs.Given.{are_unlike, owner_of, value_of}
use Rattle.api_types.specs.Lists.{is_empty}
use Rattle.api_types.specs.Outcome.{Outcome, Refused}
use Rattle.api_types.specs.Refusing.{needing, not_found, unless, when}
use Rattle.api_types.specs.Registration.{Drawing, drawn_id}
use Rattle.api_types.specs.Table.{row_of}
use Rattle.api_types.specs.declared.call.Caller.{Caller}
use Rattle.api_types.specs.declared.form.Given.{Given}
use Rattle.api_types.specs.declared.form.PolicyForm.{PolicyForm}
use Rattle.api_types.specs.declared.kind.Kind.TheVariants.{Network as NetworkKind}
use Rattle.api_types.specs.declared.network.NetworkRow.{NetworkRow}
use Rattle.api_types.specs.declared.policy.PolicyRow.{PolicyRow}
use Rattle.api_types.specs.declared.refusal.Refusal.TheVariants.{CountersSpent, Invalid}
use Rattle.api_types.specs.declared.refusal.Refusal.{Refusal}
use Rattle.api_policy.specs.Seen.{network_seen}
use Rattle.call_parts.specs.BodyNames.{text_of}
use Rattle.call_parts.specs.InForm.{are_owners}
use Rattle.call_parts.specs.State.{State, drawing_at}
use Rattle.net_settings.specs.Settings.{SettingsParts}
use Rattle.row_laws.proofs.DrawnKept.{drawn_new, draws}
use Rattle.plan_policies.specs.PolicyCalls.{creation_refusal, new_policy, policy_added, policy_created, policy_made}
use Rattle.call_parts.proofs.DrawnLemmas.{drawn_is}
use Rattle.call_parts.proofs.OwnerLemmas.{owner_named}

module _ (settings : SettingsParts) (state : State) (caller : Caller) (form : PolicyForm) where
  abbrev owner : List ℕ
  owner = owner_of caller form.project_id form.tenant_id

  abbrev on_network : Option Refusal → NetworkRow → Outcome
  on_network refused n = unless refused (needing CountersSpent (drawing_at state owner 1) (λ drawing. policy_added caller drawing.rows (new_policy form owner n.id (drawn_id drawing 0))))

  abbrev on_found : Option NetworkRow → Outcome
  on_found found = needing (not_found NetworkKind (text_of (value_of form.object_id))) found (λ n. on_network (creation_refusal settings state.rows caller form owner n) n)

  pub created_refused : (n : NetworkRow) (e : Refusal) → are_unlike form.project_id form.tenant_id ≡ false → network_seen state.rows caller (value_of form.object_id) ≡ Some n
      → creation_refusal settings state.rows caller form owner n ≡ Some e → policy_created settings state caller form ≡ Refused e
  created_refused n e alike found refused =
      ap (λ b. unless (when b (Invalid (codes "tenant_id"))) (policy_made settings state caller form owner)) alike ∙ (ap on_found found ∙ ap (λ r. on_network r n) refused)

-- no policy has an id that was drawn
pub drawn_unused : (state : State) (caller : Caller) (project tenant : Given (List ℕ)) (d : Drawing) → IsConsistent state.rows → not (is_empty caller.project) ≡ true → are_owners project tenant ≡ true
    → drawing_at state (owner_of caller project tenant) 1 ≡ Some d → row_of (λ (l : PolicyRow). l.id) (drawn_id d 0) d.rows.policies ≡ None
drawn_unused state caller project tenant d c has owners h =
    let owner : List ℕ = owner_of caller project tenant in
    let is = draws state.rows owner 1 d c (owner_named caller project tenant has owners) (lit< tt) (drawn_is state owner 1 d h) in
    (drawn_new state.rows owner 1 d is 0 (lit< tt)).policies

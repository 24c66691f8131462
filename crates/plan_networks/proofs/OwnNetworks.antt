-- What calls on networks refuse, the machine refuses of itself.
use Rattle.std.proofs.Common.{◌≡◌, ℕ, List, [], ◌∷◌, true, None, arith, refl}
use Rattle.api_ml2.specs.Segments.{asked_segment, chosen_segment, is_bad_number, is_bad_physical, segment_in_use}
use Rattle.api_policy.specs.Permits.{admin_only, owner_only}
use Rattle.api_policy.specs.Quotas.{over_quota}
use Rattle.api_policy.specs.Seen.{network_seen}
use Rattle.api_policy.specs.Uses.{open_in_use}
use Rattle.api_types.specs.Given.{are_unlike, owner_of}
use Rattle.api_types.specs.Printed.{OneRow}
use Rattle.api_types.specs.Refusing.{needing, not_found, when}
use Rattle.api_types.specs.Registration.{Drawing, drawn_id}
use Rattle.api_types.specs.RowLists.{RowLists}
use Rattle.api_types.specs.declared.call.Caller.{Caller}
use Rattle.api_types.specs.declared.call.IdText.{IdText}
use Rattle.api_types.specs.declared.form.NetworkForm.{NetworkForm}
use Rattle.api_types.specs.declared.kind.Kind.TheVariants.{Network as NetworkKind}
use Rattle.api_types.specs.declared.network.NetworkRow.{NetworkRow}
use Rattle.api_types.specs.declared.policy.Action.TheVariants.{External, Shared}
use Rattle.api_types.specs.declared.refusal.Refusal.TheVariants.{CountersSpent, Invalid, NoNetwork}
use Rattle.call_parts.specs.Edits.{accepted}
use Rattle.call_parts.specs.State.{State, drawing_at}
use Rattle.kept_laws.proofs.Own.{is_own_outcome, own_first, own_needing, own_unless, owns}
use Rattle.kept_laws.proofs.OwnChecks.{own_admin_only, own_over_quota, own_owner_only, own_segment_in_use}
use Rattle.net_settings.specs.Settings.{SettingsParts}
use Rattle.plan_networks.specs.NetworkCalls.{changed_network, creation_refusal, deletion_refusal, is_cleared, is_kept, network_added, network_changed, network_created, network_deleted, network_edits, network_made, network_shown, network_updated, new_network, openings_count, opens, update_refusal}
use Rattle.plan_networks.specs.NetworkRules.{bad_wire}
use Rattle.std.specs.Prelude.{codes, filter, if◌then◌else◌, ◌+◌, ◌||◌}
use Rattle.api_policy.specs.Reserved.{network_for_admin}

-- NetworkRules

pub own_bad_wire : (settings : SettingsParts) (form : NetworkForm) → owns (bad_wire settings form) ≡ true
own_bad_wire settings form = grind arith

-- NetworkCalls

pub own_network_added : (caller : Caller) (drawing : Drawing) (form : NetworkForm) (n : NetworkRow) → is_own_outcome (network_added caller drawing form n) ≡ true
own_network_added caller drawing form n = grind arith

pub own_creation_refusal : (settings : SettingsParts) (rows : RowLists) (caller : Caller) (form : NetworkForm) (owner : List ℕ) → owns (creation_refusal settings rows caller form owner) ≡ true
own_creation_refusal settings rows caller form owner =
    own_first (when (is_bad_physical form) (Invalid (codes "provider:physical_network"))) (when (is_bad_number form) (Invalid (codes "provider:segmentation_id")) ∷ when (are_unlike form.project_id form.tenant_id) (Invalid (codes "tenant_id")) ∷ bad_wire settings form ∷ admin_only caller (network_for_admin caller form) ∷ segment_in_use rows.networks (asked_segment form) ∷ over_quota settings rows owner NetworkKind ∷ []) (grind arith)
    (own_first (when (is_bad_number form) (Invalid (codes "provider:segmentation_id"))) (when (are_unlike form.project_id form.tenant_id) (Invalid (codes "tenant_id")) ∷ bad_wire settings form ∷ admin_only caller (network_for_admin caller form) ∷ segment_in_use rows.networks (asked_segment form) ∷ over_quota settings rows owner NetworkKind ∷ []) (grind arith)
    (own_first (when (are_unlike form.project_id form.tenant_id) (Invalid (codes "tenant_id"))) (bad_wire settings form ∷ admin_only caller (network_for_admin caller form) ∷ segment_in_use rows.networks (asked_segment form) ∷ over_quota settings rows owner NetworkKind ∷ []) (grind arith)
    (own_first (bad_wire settings form) (admin_only caller (network_for_admin caller form) ∷ segment_in_use rows.networks (asked_segment form) ∷ over_quota settings rows owner NetworkKind ∷ []) (own_bad_wire settings form)
    (own_first (admin_only caller (network_for_admin caller form)) (segment_in_use rows.networks (asked_segment form) ∷ over_quota settings rows owner NetworkKind ∷ []) (own_admin_only caller (network_for_admin caller form))
    (own_first (segment_in_use rows.networks (asked_segment form)) (over_quota settings rows owner NetworkKind ∷ []) (own_segment_in_use rows.networks (asked_segment form))
    (own_first (over_quota settings rows owner NetworkKind) ([]) (own_over_quota settings rows owner NetworkKind)
    (refl)))))))

pub own_network_made : (settings : SettingsParts) (state : State) (caller : Caller) (form : NetworkForm) (owner : List ℕ) → is_own_outcome (network_made settings state caller form owner) ≡ true
own_network_made settings state caller form owner =
    own_unless (creation_refusal settings state.rows caller form owner) (needing NoNetwork (chosen_segment settings state.rows.networks (asked_segment form)) (λ segment. needing CountersSpent (drawing_at state owner (1 + openings_count form)) (λ drawing. network_added caller drawing form (new_network owner form (drawn_id drawing 0) segment)))) (own_creation_refusal settings state.rows caller form owner)
    (own_needing NoNetwork (chosen_segment settings state.rows.networks (asked_segment form)) (λ segment. needing CountersSpent (drawing_at state owner (1 + openings_count form)) (λ drawing. network_added caller drawing form (new_network owner form (drawn_id drawing 0) segment))) refl (λ segment. own_needing CountersSpent (drawing_at state owner (1 + openings_count form)) (λ drawing. network_added caller drawing form (new_network owner form (drawn_id drawing 0) segment)) refl (λ drawing. own_network_added caller drawing form (new_network owner form (drawn_id drawing 0) segment))))

pub own_network_created : (settings : SettingsParts) (state : State) (caller : Caller) (form : NetworkForm) → is_own_outcome (network_created settings state caller form) ≡ true
own_network_created settings state caller form =
    own_network_made settings state caller form (owner_of caller form.project_id form.tenant_id)

pub own_update_refusal : (state : State) (caller : Caller) (form : NetworkForm) (n : NetworkRow) → owns (update_refusal state caller form n) ≡ true
own_update_refusal state caller form n =
    own_first (admin_only caller (network_for_admin caller form)) (owner_only caller n.project ∷ (if is_cleared form.shared || is_cleared form.router_external then open_in_use state.rows caller (filter (is_kept form n.id) state.rows.policies) n else None) ∷ []) (own_admin_only caller (network_for_admin caller form))
    (own_first (owner_only caller n.project) ((if is_cleared form.shared || is_cleared form.router_external then open_in_use state.rows caller (filter (is_kept form n.id) state.rows.policies) n else None) ∷ []) (own_owner_only caller n.project)
    (own_first (if is_cleared form.shared || is_cleared form.router_external then open_in_use state.rows caller (filter (is_kept form n.id) state.rows.policies) n else None) ([]) (grind arith)
    (refl)))

pub own_network_changed : (state : State) (caller : Caller) (form : NetworkForm) (n : NetworkRow) → is_own_outcome (network_changed state caller form n) ≡ true
own_network_changed state caller form n =
    own_unless (update_refusal state caller form n) (needing CountersSpent (drawing_at state n.project (opens state.rows n Shared form.shared + opens state.rows n External form.router_external)) (λ drawing. accepted drawing.rows (network_edits state.rows form n drawing) (λ rows. OneRow (network_shown rows caller (changed_network form n) [])))) (own_update_refusal state caller form n)
    (own_needing CountersSpent (drawing_at state n.project (opens state.rows n Shared form.shared + opens state.rows n External form.router_external)) (λ drawing. accepted drawing.rows (network_edits state.rows form n drawing) (λ rows. OneRow (network_shown rows caller (changed_network form n) []))) refl (λ drawing. grind arith))

pub own_network_updated : (state : State) (caller : Caller) (name : IdText) (form : NetworkForm) → is_own_outcome (network_updated state caller name form) ≡ true
own_network_updated state caller name form =
    own_needing (not_found NetworkKind name.text) (network_seen state.rows caller name.id) (network_changed state caller form) refl (own_network_changed state caller form)

pub own_deletion_refusal : (state : State) (caller : Caller) (n : NetworkRow) → owns (deletion_refusal state caller n) ≡ true
own_deletion_refusal state caller n = grind arith

pub own_network_deleted : (state : State) (caller : Caller) (name : IdText) → is_own_outcome (network_deleted state caller name) ≡ true
own_network_deleted state caller name = grind arith

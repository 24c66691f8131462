-- A tenant's calls that make and change networks leave what others own alone.
use Rattle.api_ml2.specs.Segments.{asked_segment, chosen_segment, is_bad_number, is_bad_physical, segment_in_use}
use Rattle.api_policy.specs.Permits.{admin_only, owner_only}
use Rattle.api_policy.specs.Quotas.{over_quota}
use Rattle.api_policy.specs.Reserved.{network_for_admin}
use Rattle.api_policy.specs.Seen.{network_seen}
use Rattle.api_policy.specs.Uses.{open_in_use, open_policy}
use Rattle.api_policy.specs.Visibility.{sees_network}
use Rattle.api_types.proofs.NameLemmas.{bytes_itself, bytes_same}
use Rattle.api_types.specs.Consistent.{IsConsistent}
use Rattle.api_types.specs.Given.{are_unlike, is_for_other, is_given, owner_of, value_or}
use Rattle.api_types.specs.Ident.{Ident}
use Rattle.api_types.specs.Outcome.{Moved, Outcome}
use Rattle.api_types.specs.Printed.{OneRow, Reply}
use Rattle.api_types.specs.Refusing.{needing, not_found, when}
use Rattle.api_types.specs.Registration.{Drawing, drawn_id}
use Rattle.api_types.specs.RowLists.{RowLists}
use Rattle.api_types.specs.Table.{ident_eq}
use Rattle.api_types.specs.WithRows.{put_in, with_put}
use Rattle.api_types.specs.declared.call.Caller.{Caller}
use Rattle.api_types.specs.declared.call.IdText.{IdText}
use Rattle.api_types.specs.declared.form.Given.{Given}
use Rattle.api_types.specs.declared.form.Given.TheVariants.{Absent, Is, Null}
use Rattle.api_types.specs.declared.form.NetworkForm.{NetworkForm}
use Rattle.api_types.specs.declared.kind.Kind.TheVariants.{Network as NetworkKind}
use Rattle.api_types.specs.declared.kind.Row.TheVariants.{Network}
use Rattle.api_types.specs.declared.network.NetworkRow.{NetworkRow}
use Rattle.api_types.specs.declared.network.Segment.{Segment}
use Rattle.api_types.specs.declared.policy.Action.{Action}
use Rattle.api_types.specs.declared.policy.Action.TheVariants.{External, Shared}
use Rattle.api_types.specs.declared.policy.PolicyRow.{PolicyRow}
use Rattle.api_types.specs.declared.refusal.Refusal.{Refusal}
use Rattle.api_types.specs.declared.refusal.Refusal.TheVariants.{CountersSpent, Invalid, NoNetwork}
use Rattle.call_parts.proofs.EditLemmas.{made-append}
use Rattle.call_parts.specs.Edits.{Edit, accepted, made}
use Rattle.call_parts.specs.State.{State, drawing_at}
use Rattle.net_settings.specs.Settings.{SettingsParts}
use Rattle.apart_laws.proofs.Drawn.{draws_sparing}
use Rattle.apart_laws.proofs.Filtered.{one_pushed, others_put}
use Rattle.kept_laws.proofs.OutcomeLemmas.{moved_rows, named_is, needing_moved, unless_moved}
use Rattle.kept_laws.proofs.EditedRows.{none_refused}
use Rattle.apart_laws.proofs.Steps.{AreOwn, Spares, none_of_others, or_fails, others, own_alone, own_owner, owned, spares_then, unneeded, with_networks, with_policies}
use Rattle.plan_networks.specs.NetworkCalls.{changed_network, closing, creation_refusal, is_cleared, is_kept, network_added, network_changed, network_created, network_edits, network_shown, network_updated, new_network, new_open_policy, one_if, opening, openings, openings_count, opens, reopening, update_refusal}
use Rattle.plan_networks.specs.NetworkRules.{bad_wire}
use Rattle.std.proofs.Common.{Bool, List, None, Option, Some, [], ap, arith, false, if◌then◌else◌, not, refl, subst, sym, true, ℕ, ◌++◌, ◌+◌, ◌∙◌, ◌∷◌, ◌≡◌}
use Rattle.std.specs.Prelude.{codes, filter, ◌||◌}
use Rattle.std.specs.Str.{bytes_eq}

-- a policy for all of an own network is own
opening_spares : (project : List ℕ) (rows : RowLists) (n : NetworkRow) (action : Action) (i : Ident) (b : Bool) → bytes_eq n.project project ≡ true → Spares project rows (made rows (opening n action i b))
opening_spares project rows n action i true own =
    let l : PolicyRow = new_open_policy n action i in
    with_policies project rows (rows.policies ++ l ∷ []) (one_pushed (others (λ (x : PolicyRow). x.project) project) rows.policies l (ap not own))
opening_spares project rows n action i false own = with_policies project rows rows.policies refl

openings_spare : (project : List ℕ) (rows : RowLists) (n : NetworkRow) (d : Drawing) (first : ℕ) (shared external : Bool) → bytes_eq n.project project ≡ true → Spares project rows (made rows (openings n d first shared external))
openings_spare project rows n d first shared external own =
    let one : RowLists = made rows (opening n Shared (drawn_id d first) shared) in
    subst (Spares project rows) (sym (made-append rows (opening n Shared (drawn_id d first) shared) (opening n External (drawn_id d (first + one_if shared)) external)))
    (spares_then project rows one _ (opening_spares project rows n Shared (drawn_id d first) shared own) (opening_spares project one n External (drawn_id d (first + one_if shared)) external own))

pub network_created_spares : (settings : SettingsParts) (state : State) (caller : Caller) (form : NetworkForm) (rows : RowLists) (reply : Reply) → caller.admin ≡ false → IsConsistent state.rows
    → network_created settings state caller form ≡ Moved rows reply → Spares caller.project state.rows rows
network_created_spares settings state caller form rows reply tenant c h =
    let owner : List ℕ = owner_of caller form.project_id form.tenant_id in
    let add : Segment → Drawing → Outcome = λ s d. network_added caller d form (new_network owner form (drawn_id d 0) s) in
    let draw : Segment → Outcome = λ s. needing CountersSpent (drawing_at state owner (1 + openings_count form)) (add s) in
    let refusal : Option Refusal = creation_refusal settings state.rows caller form owner in
    let passed = unless_moved refusal (needing NoNetwork (chosen_segment settings state.rows.networks (asked_segment form)) draw) rows reply h in
    let chosen = needing_moved NoNetwork (chosen_segment settings state.rows.networks (asked_segment form)) draw rows reply passed.1 in
    let drawing = needing_moved CountersSpent (drawing_at state owner (1 + openings_count form)) (add chosen.0) rows reply chosen.2 in
    let d : Drawing = drawing.0 in
    let n : NetworkRow = new_network owner form (drawn_id d 0) chosen.0 in
    let by_admin : Option Refusal = admin_only caller (network_for_admin caller form) in
    let os : List (Option Refusal) =
    when (is_bad_physical form) (Invalid (codes "provider:physical_network"))
    ∷ when (is_bad_number form) (Invalid (codes "provider:segmentation_id"))
    ∷ when (are_unlike form.project_id form.tenant_id) (Invalid (codes "tenant_id"))
    ∷ bad_wire settings form
    ∷ by_admin
    ∷ segment_in_use state.rows.networks (asked_segment form)
    ∷ over_quota settings state.rows owner NetworkKind
    ∷ [] in
    let plain = or_fails
    (is_given form.shared || is_given form.router_external || is_given form.provider_network_type || is_given form.provider_physical_network || is_given form.provider_segmentation_id)
    (is_for_other caller form.project_id form.tenant_id)
    (unneeded caller (network_for_admin caller form) tenant (none_refused os passed.0 4 by_admin refl)) in
    let own : owner ≡ caller.project = own_owner caller form.project_id form.tenant_id plain.1 in
    let itself : bytes_eq owner caller.project ≡ true = ap (λ p. bytes_eq p caller.project) own ∙ bytes_itself caller.project in
    let one : RowLists = record d.rows { networks = d.rows.networks ++ n ∷ [] } in
    let es : List Edit = openings n d 1 (value_or false form.shared) (value_or false form.router_external) in
    let drawn : Spares caller.project state.rows d.rows = (draws_sparing state caller.project owner (1 + openings_count form) d own drawing.1).spares in
    let added : Spares caller.project d.rows one = with_networks caller.project d.rows (d.rows.networks ++ n ∷ [])
    (one_pushed (others (λ (x : NetworkRow). x.project) caller.project) d.rows.networks n (ap not itself)) in
    subst (Spares caller.project state.rows) (moved_rows (made one es) rows _ reply drawing.2)
    (spares_then caller.project state.rows d.rows (made one es) drawn
    (spares_then caller.project d.rows one (made one es) added
    (openings_spare caller.project one n d 1 (value_or false form.shared) (value_or false form.router_external) itself)))

-- where it isn't asked for, a change opens and closes nothing
unopened : (rows : RowLists) (n : NetworkRow) (policies : List PolicyRow) (action : Action) (asked : Given Bool) (i : Ident) → is_given asked ≡ false → made rows (reopening n policies action asked i) ≡ rows
unopened rows n policies action Absent i h = by (open_policy policies n.id action)
  where
    by : (o : Option PolicyRow) → made rows (closing o false) ≡ rows
    by None = refl
    by (Some l) = refl
unopened rows n policies action Null i h = cc
unopened rows n policies action (Is b) i h = cc

pub network_updated_spares : (state : State) (caller : Caller) (name : IdText) (form : NetworkForm) (rows : RowLists) (reply : Reply) → caller.admin ≡ false → IsConsistent state.rows
    → network_updated state caller name form ≡ Moved rows reply → Spares caller.project state.rows rows
network_updated_spares state caller name form rows reply tenant c h =
    let found = needing_moved (not_found NetworkKind name.text) (network_seen state.rows caller name.id) (network_changed state caller form) rows reply h in
    let n : NetworkRow = found.0 in
    let new : NetworkRow = changed_network form n in
    let here = named_is (λ (q : NetworkRow). q.id) (sees_network state.rows caller) state.rows.networks name.id n found.1 in
    let many : ℕ = opens state.rows n Shared form.shared + opens state.rows n External form.router_external in
    let edits : Drawing → List Edit = λ d. network_edits state.rows form n d in
    let set : Drawing → Outcome = λ d. accepted d.rows (edits d) (λ after. OneRow (network_shown after caller new [])) in
    let passed = unless_moved (update_refusal state caller form n) (needing CountersSpent (drawing_at state n.project many) set) rows reply found.2 in
    let drawing = needing_moved CountersSpent (drawing_at state n.project many) set rows reply passed.1 in
    let d : Drawing = drawing.0 in
    let by_admin : Option Refusal = admin_only caller (network_for_admin caller form) in
    let by_owner : Option Refusal = owner_only caller n.project in
    let os : List (Option Refusal) = by_admin ∷ by_owner
    ∷ (if is_cleared form.shared || is_cleared form.router_external then open_in_use state.rows caller (filter (is_kept form n.id) state.rows.policies) n else None)
    ∷ [] in
    let none = none_refused os passed.0 in
    let a = or_fails (is_given form.shared || is_given form.router_external || is_given form.provider_network_type || is_given form.provider_physical_network || is_given form.provider_segmentation_id) _ (unneeded caller (network_for_admin caller form) tenant (none 0 by_admin refl)) in
    let b = or_fails (is_given form.shared || is_given form.router_external || is_given form.provider_network_type || is_given form.provider_physical_network) (is_given form.provider_segmentation_id) a.0 in
    let e = or_fails (is_given form.shared || is_given form.router_external || is_given form.provider_network_type) (is_given form.provider_physical_network) b.0 in
    let f = or_fails (is_given form.shared || is_given form.router_external) (is_given form.provider_network_type) e.0 in
    let plain = or_fails (is_given form.shared) (is_given form.router_external) f.0 in
    let own : bytes_eq n.project caller.project ≡ true = owned caller n.project tenant (none 1 by_owner refl) in
    let drawn = draws_sparing state caller.project n.project many d (bytes_same n.project caller.project own) drawing.1 in
    let put : RowLists = with_put d.rows (Network new) in
    let first : List Edit = reopening n state.rows.policies Shared form.shared (drawn_id d 0) in
    let next : List Edit = reopening n state.rows.policies External form.router_external (drawn_id d (opens state.rows n Shared form.shared)) in
    let same : made put (first ++ next) ≡ put = made-append put first next
    ∙ (ap (λ r. made r next) (unopened put n state.rows.policies Shared form.shared (drawn_id d 0) plain.0)
    ∙ unopened put n state.rows.policies External form.router_external (drawn_id d (opens state.rows n Shared form.shared)) plain.1) in
    let are : AreOwn (λ (q : NetworkRow). q.id) (λ (q : NetworkRow). q.project) caller.project n.id d.rows.networks =
    subst (AreOwn (λ (q : NetworkRow). q.id) (λ (q : NetworkRow). q.project) caller.project n.id) (sym drawn.rest.networks)
    (own_alone (λ (q : NetworkRow). q.id) (λ (q : NetworkRow). q.project) caller.project state.rows.networks here.place n (omega (arith, c.numbered.ids n.id)) here.at own) in
    subst (Spares caller.project state.rows) (sym same ∙ moved_rows (made put (first ++ next)) rows _ reply drawing.2)
    (spares_then caller.project state.rows d.rows put drawn.spares
    (with_networks caller.project d.rows (put_in (λ (q : NetworkRow). q.id) new d.rows.networks)
    (others_put (others (λ (r : NetworkRow). r.project) caller.project) (λ (q : NetworkRow). ident_eq n.id q.id) new d.rows.networks (ap not own)
    (none_of_others (λ (q : NetworkRow). q.id) (λ (q : NetworkRow). q.project) caller.project n.id d.rows.networks are))))

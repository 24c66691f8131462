-- A tenant's network goes with what is on it, and else what others own stays.
use Rattle.api_policy.specs.Permits.{owner_only}
use Rattle.api_policy.specs.Seen.{network_seen}
use Rattle.api_policy.specs.Uses.{network_in_use}
use Rattle.api_policy.specs.Visibility.{sees_network}
use Rattle.api_types.specs.Consistent.{IsConsistent}
use Rattle.api_types.specs.Outcome.{Moved, Outcome}
use Rattle.api_types.specs.Printed.{NoRow, Reply}
use Rattle.api_types.specs.Refusing.{not_found, unless, when}
use Rattle.api_types.specs.RowLists.{RowLists}
use Rattle.api_types.specs.declared.call.Caller.{Caller}
use Rattle.api_types.specs.declared.call.IdText.{IdText}
use Rattle.api_types.specs.declared.kind.Kind.TheVariants.{Network as NetworkKind}
use Rattle.api_types.specs.declared.network.NetworkRow.{NetworkRow}
use Rattle.api_types.specs.declared.refusal.Refusal.{Refusal}
use Rattle.api_types.specs.declared.refusal.Refusal.TheVariants.{CountersSpent}
use Rattle.call_parts.specs.Edits.{accepted, made}
use Rattle.call_parts.specs.State.{State, is_last}
use Rattle.kept_laws.proofs.OutcomeLemmas.{moved_rows, named_is, needing_moved, unless_moved}
use Rattle.kept_laws.proofs.EditedRows.{none_refused}
use Rattle.apart_laws.proofs.Steps.{owned}
use Rattle.apart_laws.specs.Others.{OthersStay}
use Rattle.plan_networks.specs.NetworkCalls.{deletion_refusal, network_deleted, network_gone}
use Rattle.std.proofs.Common.{List, Option, false, refl, subst, sym, ◌∙◌, ◌∷◌, ◌≡◌, []}
use Rattle.apart_laws.proofs.NetworkLeaves.{gone_stays}
use Rattle.plan_networks.proofs.NetworkDropped.{network_rows_gone}

pub network_deleted_stays : (state : State) (caller : Caller) (name : IdText) (rows : RowLists) (reply : Reply) → caller.admin ≡ false → IsConsistent state.rows
    → network_deleted state caller name ≡ Moved rows reply → OthersStay caller.project state.rows rows
network_deleted_stays state caller name rows reply tenant c h =
    let gone : NetworkRow → Outcome = λ n. accepted state.rows (network_gone state.rows n.id) (λ after. NoRow) in
    let rest : NetworkRow → Outcome = λ n. unless (deletion_refusal state caller n) (gone n) in
    let found = needing_moved (not_found NetworkKind name.text) (network_seen state.rows caller name.id) rest rows reply h in
    let n : NetworkRow = found.0 in
    let here = named_is (λ (q : NetworkRow). q.id) (sees_network state.rows caller) state.rows.networks name.id n found.1 in
    let passed = unless_moved (deletion_refusal state caller n) (gone n) rows reply found.2 in
    let by_owner : Option Refusal = owner_only caller n.project in
    let os : List (Option Refusal) = by_owner ∷ network_in_use state.rows caller n.id ∷ when (is_last state) CountersSpent ∷ [] in
    let own = owned caller n.project tenant (none_refused os passed.0 0 by_owner refl) in
    subst (OthersStay caller.project state.rows) (sym (network_rows_gone state.rows c n.id) ∙ moved_rows (made state.rows (network_gone state.rows n.id)) rows _ reply passed.1)
    (gone_stays state.rows c caller.project here.place n here.at own)

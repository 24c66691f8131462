-- What a network's change comes to, where nothing refuses it, and what refuses it.
use Rattle.std.proofs.Common.{◌≡◌, ◌∙◌, ℕ, ◌+◌, true, not, [], Option, Some, None, ap, inl, inr, sym}
use Rattle.std.specs.Prelude.{◌⊎◌}
use Rattle.api_policy.specs.Seen.{network_seen}
use Rattle.api_policy.specs.Visibility.{sees_network}
use Rattle.api_types.specs.Consistent.{IsConsistent}
use Rattle.api_types.specs.Consistent.Named.{is_registered}
use Rattle.api_types.specs.Ident.{Ident}
use Rattle.api_types.specs.Lists.{is_empty}
use Rattle.api_types.specs.Outcome.{Moved, Outcome, Refused}
use Rattle.api_types.specs.Printed.{OneRow}
use Rattle.api_types.specs.Refusing.{needing, not_found, unless}
use Rattle.api_types.specs.Registration.{Drawing}
use Rattle.api_types.specs.RowLists.{RowLists}
use Rattle.api_types.specs.Table.{ident_eq}
use Rattle.api_types.specs.declared.call.Caller.{Caller}
use Rattle.api_types.specs.declared.call.IdText.{IdText}
use Rattle.api_types.specs.declared.form.NetworkForm.{NetworkForm}
use Rattle.api_types.specs.declared.kind.Kind.TheVariants.{Network as NetworkKind}
use Rattle.api_types.specs.declared.network.NetworkRow.{NetworkRow}
use Rattle.api_types.specs.declared.policy.Action.TheVariants.{External, Shared}
use Rattle.api_types.specs.declared.refusal.Refusal.TheVariants.{CountersSpent, OutOfMemory}
use Rattle.api_types.specs.declared.refusal.Refusal.{Refusal}
use Rattle.api_types.proofs.ListLemmas.{each-filter, none_some}
use Rattle.call_parts.specs.Answers.{IsOrMemory, IsRefusalIn, IsRefusalOf, Leads}
use Rattle.call_parts.specs.Drafts.{DraftParts}
use Rattle.call_parts.specs.Edits.{accepted, made}
use Rattle.call_parts.specs.State.{State, drawing_at}
use Rattle.plan_networks.specs.NetworkCalls.{changed_network, network_changed, network_edits, network_shown, network_updated, opens, update_refusal}
use Rattle.row_laws.proofs.PlaceLemmas.{has_name}
use Rattle.call_parts.proofs.OwnerLemmas.{found_holds}

module _ (state : State) (caller : Caller) (name : IdText) (form : NetworkForm) where
  abbrev many : NetworkRow → ℕ
  many n = opens state.rows n Shared form.shared + opens state.rows n External form.router_external

  abbrev on_drawing : NetworkRow → Option Drawing → Outcome
  on_drawing n drew = needing CountersSpent drew (λ d. accepted d.rows (network_edits state.rows form n d) (λ rows. OneRow (network_shown rows caller (changed_network form n) [])))

  abbrev on_network : Option NetworkRow → Outcome
  on_network found = needing (not_found NetworkKind name.text) found (network_changed state caller form)

  pub updated_unfound : (e : Refusal) → network_seen state.rows caller name.id ≡ None → IsOrMemory (not_found NetworkKind name.text) e → IsRefusalOf (network_updated state caller name form) e
  updated_unfound e none (inl memory) = inl memory
  updated_unfound e none (inr is) = inr (ap on_network none ∙ ap Refused (sym is))

  module _ (n : NetworkRow) (seen : network_seen state.rows caller name.id ≡ Some n) where
    pub updated_refused : (e : Refusal) → IsRefusalIn (update_refusal state caller form n) e → IsRefusalOf (network_updated state caller name form) e
    updated_refused e (inl memory) = inl memory
    updated_refused e (inr is) = inr (ap on_network seen ∙ ap (λ r. unless r (on_drawing n (drawing_at state n.project (many n)))) is)

    opened : update_refusal state caller form n ≡ None → network_updated state caller name form ≡ on_drawing n (drawing_at state n.project (many n))
    opened free = ap on_network seen ∙ ap (λ r. unless r (on_drawing n (drawing_at state n.project (many n)))) free

    pub updated_spent : (e : Refusal) → update_refusal state caller form n ≡ None → (e ≡ OutOfMemory) ⊎ ((e ≡ CountersSpent) × (drawing_at state n.project (many n) ≡ None))
        → IsRefusalOf (network_updated state caller name form) e
    updated_spent e free (inl memory) = inl memory
    updated_spent e free (inr spent) = inr (opened free ∙ (ap (on_drawing n) spent.1 ∙ ap Refused (sym spent.0)))

    pub updated : (d : Drawing) (changed : NetworkRow) (draft : DraftParts) → update_refusal state caller form n ≡ None → drawing_at state n.project (many n) ≡ Some d → draft.start ≡ state.rows
        → changed ≡ changed_network form n → draft.rows ≡ made d.rows (network_edits state.rows form n d)
        → Leads state.rows (network_updated state caller name form) draft (λ after. OneRow (network_shown after caller changed []))
    updated d changed draft free drew start is leads = record {
      start = start;
      moved = opened free ∙ (ap (on_drawing n) drew ∙ (λ j. Moved (sym leads j) (OneRow (network_shown (sym leads j) caller (sym is j) []))));
    }

-- the project of a network that is found has a name
pub project_named : (rows : RowLists) (caller : Caller) (name : Option Ident) (n : NetworkRow) → IsConsistent rows → network_seen rows caller name ≡ Some n → not (is_empty n.project) ≡ true
project_named rows caller None n c found = none_some n _ found
project_named rows caller (Some i) n c found =
    let registered : NetworkRow → Type 0 = λ r. is_registered rows.projects r.project ≡ true in
    let known = found_holds registered (λ r. ident_eq i r.id) _ n (each-filter (sees_network rows caller) registered registered rows.networks (λ r seen p. p) c.named.projects.of_networks) found in
    ap not (has_name rows.projects c.numbered.projects n.project known)

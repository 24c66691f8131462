-- Where calls lead whose parts are known.
use Rattle.std.proofs.Common.{◌≡◌, ◌∙◌, ℕ, ◌+◌, false, List, [], ◌∷◌, Option, Some, None, ap, sym, inl, inr}
use Rattle.std.specs.Prelude.{◌⊎◌, is_none}
use Rattle.std.specs.Option.{option_or}
use Rattle.api_ml2.specs.Segments.{asked_segment, chosen_segment}
use Rattle.api_types.specs.Given.{value_or}
use Rattle.api_types.specs.Outcome.{Moved, Outcome, Refused}
use Rattle.api_types.specs.Printed.{NewRow}
use Rattle.api_types.specs.Refusing.{needing, unless, when}
use Rattle.api_types.specs.Registration.{Drawing, drawn_id}
use Rattle.api_types.specs.declared.call.Caller.{Caller}
use Rattle.api_types.specs.declared.form.NetworkForm.{NetworkForm}
use Rattle.api_types.specs.declared.kind.Row.TheVariants.{Network}
use Rattle.api_types.specs.declared.network.NetworkRow.{NetworkRow}
use Rattle.api_types.specs.declared.network.Segment.{Segment}
use Rattle.api_types.specs.declared.refusal.Refusal.{Refusal}
use Rattle.api_types.specs.declared.refusal.Refusal.TheVariants.{CountersSpent, NoNetwork, OutOfMemory as MemoryRefusal}
use Rattle.call_parts.specs.Drafts.{DraftParts}
use Rattle.call_parts.specs.Edits.{Add, made}
use Rattle.call_parts.specs.State.{State, drawing_at}
use Rattle.net_settings.specs.Settings.{SettingsParts}
use Rattle.plan_networks.specs.NetworkCalls.{creation_refusal, network_added, network_made, network_shown, new_network, openings, openings_count}
use Rattle.call_parts.specs.Answers.{IsRefusalIn, IsRefusalOf, Leads}
use Rattle.plan_networks.specs.Plans.{segment_refusal}

module _ (settings : SettingsParts) (state : State) (caller : Caller) (form : NetworkForm) (owner : List ℕ) where
  pub segment_refused : (e : Refusal) → IsRefusalIn (segment_refusal settings state.rows caller form owner) e → IsRefusalOf (network_made settings state caller form owner) e
  segment_refused e (inl memory) = inl memory
  segment_refused e (inr is) = inr (by (creation_refusal settings state.rows caller form owner) (chosen_segment settings state.rows.networks (asked_segment form))
      (λ segment. needing CountersSpent (drawing_at state owner (1 + openings_count form)) (λ d. network_added caller d form (new_network owner form (drawn_id d 0) segment))) is)
    where
      by : (r : Option Refusal) (o : Option Segment) (rest : Segment → Outcome) → option_or r (when (is_none o) NoNetwork) ≡ Some e → unless r (needing NoNetwork o rest) ≡ Refused e
      by (Some r) o rest is = cc
      by None None rest is = cc
      by None (Some segment) rest is = cc

  module _ (segment : Segment) (passed : creation_refusal settings state.rows caller form owner ≡ None) (chosen : chosen_segment settings state.rows.networks (asked_segment form) ≡ Some segment) where
    made_by_drawing : (o : Option Drawing) → drawing_at state owner (1 + openings_count form) ≡ o
        → network_made settings state caller form owner ≡ needing CountersSpent o (λ d. network_added caller d form (new_network owner form (drawn_id d 0) segment))
    made_by_drawing o drew =
        ap (λ r. unless r (needing NoNetwork (chosen_segment settings state.rows.networks (asked_segment form)) (λ s. needing CountersSpent (drawing_at state owner (1 + openings_count form)) (λ d. network_added caller d form (new_network owner form (drawn_id d 0) s))))) passed
        ∙ ap (λ x. needing NoNetwork x (λ s. needing CountersSpent (drawing_at state owner (1 + openings_count form)) (λ d. network_added caller d form (new_network owner form (drawn_id d 0) s)))) chosen
        ∙ ap (λ x. needing CountersSpent x (λ d. network_added caller d form (new_network owner form (drawn_id d 0) segment))) drew

    pub counters_spent : (e : Refusal) → ((e ≡ MemoryRefusal) ⊎ ((e ≡ CountersSpent) × (drawing_at state owner (1 + openings_count form) ≡ None))) → IsRefusalOf (network_made settings state caller form owner) e
    counters_spent e (inl memory) = inl memory
    counters_spent e (inr spent) = inr (made_by_drawing None spent.1 ∙ ap Refused (sym spent.0))

    pub created : (d : Drawing) (draft : DraftParts) (n : NetworkRow) → drawing_at state owner (1 + openings_count form) ≡ Some d → draft.start ≡ state.rows
        → n ≡ new_network owner form (drawn_id d 0) segment
        → draft.rows ≡ made d.rows (Add (Network n) ∷ openings n d 1 (value_or false form.shared) (value_or false form.router_external))
        → Leads state.rows (network_made settings state caller form owner) draft (λ after. NewRow (network_shown after caller n []))
    created d draft n drew start is leads = record {
      start = start;
      moved = made_by_drawing (Some d) drew ∙ ap (network_added caller d form) (sym is) ∙ ap (λ rows. Moved rows (NewRow (network_shown rows caller n []))) (sym leads);
    }

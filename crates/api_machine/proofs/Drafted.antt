-- From the rows that a draft leads to, to what a plan answers.
use Rattle.std.proofs.Common.{◌≡◌, ◌∙◌, ap, sym, subst, List, Option, Some, None, Result, Ok, Err, IfOk}
use Rattle.api_types.specs.Outcome.{Outcome, Moved}
use Rattle.api_types.specs.Printed.{Reply, reply_of}
use Rattle.api_types.specs.RowLists.{RowLists}
use Rattle.api_types.specs.Rows.{Fits, after}
use Rattle.api_types.specs.declared.change.Item.{Item}
use Rattle.call_parts.specs.Answers.{Leads}
use Rattle.call_parts.specs.Drafts.{DraftParts}
use Rattle.call_parts.specs.State.{State}
use Rattle.api_machine.specs.Plan.{Answers, AnswersAs, IsDrafted, IsDraftedAs}
use Rattle.api_machine.specs.declared.planned.Planned.{Planned}

-- a draft from the rows of now, to where the step leads
pub drafted : (state : State) (outcome : Outcome) (draft : DraftParts) (reply given : Reply) (change : Option (List Item)) → draft.start ≡ state.rows → outcome ≡ Moved draft.rows reply
    → IsDraftedAs draft reply change given → AnswersAs state outcome change given
drafted state outcome draft reply given None start moved is = absurd is
drafted state outcome draft reply given (Some change) start moved is = record {
  fits = subst (λ rows. Fits rows change) start is.0.fits;
  moved = moved ∙ (λ j. Moved ((sym is.0.leads ∙ ap (λ rows. after rows change) start) j) (sym is.1 j));
}

-- where a call leads, its draft is planned
pub led : (state : State) (outcome : Outcome) (draft : DraftParts) (reply : RowLists → Reply) (planned : Planned) → Leads state.rows outcome draft reply → IsDrafted draft (reply draft.rows) planned
    → Answers state outcome planned
led state outcome draft reply planned leads drafts = drafted state outcome draft (reply draft.rows) (reply_of planned.answer) planned.change leads.start leads.moved drafts

pub led_ok : {E : Type 0} (state : State) (outcome : Outcome) (draft : DraftParts) (reply : RowLists → Reply) (planned : Result Planned E) → Leads state.rows outcome draft reply
    → IfOk planned (IsDrafted draft (reply draft.rows)) → IfOk planned (Answers state outcome)
led_ok state outcome draft reply (Ok planned) leads drafts = led state outcome draft reply planned leads drafts
led_ok state outcome draft reply (Err e) leads drafts = drafts

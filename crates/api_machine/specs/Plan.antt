-- What a plan says: it answers as the machine's step does, and its change leads where the step
-- leads.
use Rattle.std.specs.Prelude.{◌≡◌, ◌-◌, ◌^◌, ◌<◌, List, Option, Some, None}
use Rattle.api_types.specs.Outcome.{Moved, Outcome, Told}
use Rattle.api_types.specs.Printed.{Reply, reply_of}
use Rattle.api_types.specs.Rows.{Fits, after}
use Rattle.api_types.specs.declared.change.Item.{Item}
use Rattle.api_types.specs.declared.refusal.Refusal.{Refusal}
use Rattle.net_settings.specs.Settings.{SettingsParts}
use Rattle.kept_laws.specs.Kept.{AreKept}
use Rattle.api_machine.specs.declared.planned.Planned.{Planned}
use Rattle.call_parts.specs.Drafts.{DraftParts, LeadsTo}
use Rattle.call_parts.specs.State.{State}

-- the change leads from the draft's first rows to its last ones, and the answer is this reply
abbrev pub IsDraftedAs : DraftParts → Reply → Option (List Item) → Reply → Type 0
IsDraftedAs draft reply None told = ⊥
IsDraftedAs draft reply (Some change) told = LeadsTo draft.start change draft.rows × (told ≡ reply)

abbrev pub IsDrafted : DraftParts → Reply → Planned → Type 0
IsDrafted draft reply planned = IsDraftedAs draft reply planned.change (reply_of planned.answer)

-- the change fits the rows and leads where the step leads, with the step's answer
pub record MovesBy (state : State) (outcome : Outcome) (change : List Item) (reply : Reply)
    : Type 0 where
  pub fits : Fits state.rows change
  pub moved : outcome ≡ Moved (after state.rows change) reply

-- without a change it tells the step's answer
abbrev pub AnswersAs : State → Outcome → Option (List Item) → Reply → Type 0
AnswersAs state outcome None reply = outcome ≡ Told reply
AnswersAs state outcome (Some change) reply = MovesBy state outcome change reply

abbrev pub Answers : State → Outcome → Planned → Type 0
Answers state outcome planned = AnswersAs state outcome planned.change (reply_of planned.answer)

-- moreover the rows after the change are as sound as those before, and the version can rise
pub record Leads (settings : SettingsParts) (state : State) (outcome : Outcome)
    (change : List Item) (reply : Reply) : Type 0 where
  pub fits : Fits state.rows change
  pub moved : outcome ≡ Moved (after state.rows change) reply
  pub kept : AreKept settings state.rows (after state.rows change)
  pub room : state.version < 2 ^ 64 - 1

abbrev pub PlansAs : SettingsParts → State → Outcome → Option (List Item) → Reply → Type 0
PlansAs settings state outcome None reply = outcome ≡ Told reply
PlansAs settings state outcome (Some change) reply = Leads settings state outcome change reply

abbrev pub Plans : SettingsParts → State → Outcome → Planned → Type 0
Plans settings state outcome planned =
    PlansAs settings state outcome planned.change (reply_of planned.answer)

-- What a plan and its checks answer: the refusal that a definition gives, unless memory could not
-- be had, or where the call leads.
use Rattle.api_types.specs.Outcome.{Moved, Outcome, Refused}
use Rattle.api_types.specs.Printed.{Reply}
use Rattle.api_types.specs.Registration.{Drawing}
use Rattle.api_types.specs.RowLists.{RowLists}
use Rattle.api_types.specs.declared.refusal.Refusal.TheVariants.{OutOfMemory}
use Rattle.api_types.specs.declared.refusal.Refusal.{Refusal}
use Rattle.call_parts.specs.Drafts.{DraftParts}
use Rattle.call_parts.specs.declared.drawing.Drawn.{Drawn}
use Rattle.std.specs.Prelude.{Err, None, Ok, Option, Result, Some, ◌≡◌, ◌⊎◌}

-- it is this refusal
abbrev pub IsOrMemory : Refusal → Refusal → Type 0
IsOrMemory refusal e = (e ≡ OutOfMemory) ⊎ (e ≡ refusal)

-- it is the refusal that is given
abbrev pub IsRefusalIn : Option Refusal → Refusal → Type 0
IsRefusalIn refusal e = (e ≡ OutOfMemory) ⊎ (refusal ≡ Some e)

-- it is the refusal of the call
abbrev pub IsRefusalOf : Outcome → Refusal → Type 0
IsRefusalOf outcome e = (e ≡ OutOfMemory) ⊎ (outcome ≡ Refused e)

-- a check passes where no refusal is given, and otherwise answers it
abbrev pub Passes : Option Refusal → Result (Unit {0}) Refusal → Type 0
Passes refusal (Ok passed) = refusal ≡ None
Passes refusal (Err e) = IsRefusalIn refusal e

-- the call is accepted: the draft begins at the current rows and leads where the call does, and
-- the reply is of the rows after it
pub record Leads (rows : RowLists) (outcome : Outcome) (draft : DraftParts)
    (reply : RowLists → Reply) : Type 0 where
  pub start : draft.start ≡ rows
  pub moved : outcome ≡ Moved draft.rows (reply draft.rows)

-- ids that were drawn, with the rows from then on
abbrev pub drawing_of : Drawn → Drawing
drawing_of drawn = record { rows = drawn.draft.rows; ordinal = drawn.ordinal; first = drawn.first }

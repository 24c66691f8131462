-- What a server makes of an ask: the machine's step, which is a message to its hosts, or what the
-- lab answers.
use Rattle.std.specs.Prelude.{◌≡◌, ◌⊎◌, Bool, true, false, List, Result, Ok, Err, ⊤}
use Rattle.api_types.specs.Outcome.{Outcome, Refused as RefusedWith, Told, Moved}
use Rattle.api_types.specs.Printed.{reply_of}
use Rattle.api_types.specs.Refusing.{answer_alone}
use Rattle.api_types.specs.RowLists.{RowLists}
use Rattle.api_types.specs.Rows.{Fits, after}
use Rattle.api_types.specs.declared.call.Caller.{Caller}
use Rattle.api_types.specs.declared.change.Item.{Item}
use Rattle.api_types.specs.declared.refusal.Refusal.{Refusal}
use Rattle.api_types.specs.declared.refusal.Refusal.TheVariants.{OutOfMemory, StoreFault}
use Rattle.plane_types.specs.declared.ask.Ask.{Ask}
use Rattle.plane_types.specs.declared.ask.Ask.TheVariants.{Api, Lab}
use Rattle.plane_types.specs.declared.ask.LabAnswer.{LabAnswer}
use Rattle.plane_types.specs.declared.ask.Reply.{Reply}
use Rattle.plane_types.specs.declared.ask.Reply.TheVariants.{Done, LabDone, Refused}
use Rattle.api_machine.specs.Machine.{state_at}
use Rattle.api_machine.specs.WholeStep.{api_step}
use Rattle.call_parts.specs.InForm.{IsInForm}
use Rattle.call_parts.specs.State.{State}
use Rattle.world_laws.specs.Steps.{Accept, step}
use Rattle.world_laws.specs.World.{World}
use Rattle.lab_world.specs.Lab.{Answered, Barred, LabOutcome, lab_outcome}

-- the current rows, with their version
abbrev pub state_of : World → State
state_of w = state_at w.history.rows w.history.version

-- what is asked comes to the outcome of a call of the API, or of the lab
pub data AskOutcome : Type 0 where
  ByMachine : Outcome → AskOutcome
  ByLab : LabOutcome → AskOutcome

abbrev pub ask_outcome : World → Caller → Ask → AskOutcome
ask_outcome w caller (Api call) = ByMachine (api_step w.settings (state_of w) caller call)
ask_outcome w caller (Lab call) = ByLab (lab_outcome w caller call)

-- what the reading of a request has made sure of
abbrev pub IsAskInForm : Caller → Ask → Type 0
IsAskInForm caller (Api call) = IsInForm caller call
IsAskInForm caller (Lab call) = ⊤

-- an accepted call: some change that fits the rows leads to the rows of its outcome; it is kept as
-- a message, and in automatic delivery each host is told it
pub record Accepts (w : World) (rows : RowLists) (v : World) : Type 0 where
  pub change : List Item
  pub fits : Fits w.history.rows change
  pub leads : rows ≡ after w.history.rows change
  pub is : v ≡ step w (Accept change)

-- how the world moves with an outcome
abbrev pub MovesBy : World → AskOutcome → World → Type 0
MovesBy w (ByMachine (RefusedWith refusal)) v = v ≡ w
MovesBy w (ByMachine (Told reply)) v = v ≡ w
MovesBy w (ByMachine (Moved rows reply)) v = Accepts w rows v
MovesBy w (ByLab (Barred refusal)) v = v ≡ w
MovesBy w (ByLab (Answered answer x)) v = v ≡ x

-- what the caller is told of an outcome
pub data Said : Type 0 where
  OfApi : Outcome → Said
  OfLab : Result LabAnswer Refusal → Said

abbrev pub told_of : AskOutcome → Said
told_of (ByMachine outcome) = OfApi (answer_alone outcome)
told_of (ByLab (Barred refusal)) = OfLab (Err refusal)
told_of (ByLab (Answered answer w)) = OfLab (Ok answer)

-- the reply is the outcome's
abbrev pub IsTold : AskOutcome → Reply → Type 0
IsTold (ByMachine outcome) (Done answer) =
    (outcome ≡ Told (reply_of answer))
    ⊎ ((rows : RowLists) × (outcome ≡ Moved rows (reply_of answer)))
IsTold (ByMachine outcome) (Refused refusal) = outcome ≡ RefusedWith refusal
IsTold (ByMachine outcome) (LabDone answer) = ⊥
IsTold (ByLab outcome) (Done answer) = ⊥
IsTold (ByLab outcome) (Refused refusal) = outcome ≡ Barred refusal
IsTold (ByLab outcome) (LabDone answer) = (w : World) × (outcome ≡ Answered answer w)

-- the ask is answered as its outcome says
pub record IsHandled (outcome : AskOutcome) (old new : World) (reply : Reply) : Type 0 where
  pub tells : IsTold outcome reply
  pub moves : MovesBy old outcome new

-- the outcome is a change of the rows
abbrev pub is_change : AskOutcome → Bool
is_change (ByMachine (RefusedWith refusal)) = false
is_change (ByMachine (Told reply)) = false
is_change (ByMachine (Moved rows reply)) = true
is_change (ByLab outcome) = false

-- memory could not be had, or the store failed to keep a change
abbrev pub IsOutside : AskOutcome → Reply → Type 0
IsOutside outcome reply =
    (reply ≡ Refused OutOfMemory) ⊎ ((reply ≡ Refused StoreFault) × (is_change outcome ≡ true))

-- the ask is answered, or it is refused for one of these and all is as it was
abbrev pub Handles : AskOutcome → World → World → Reply → Type 0
Handles outcome old new reply =
    IsHandled outcome old new reply ⊎ (IsOutside outcome reply × (new ≡ old))

-- What is answered of a call is planned, and what a tenant is told of it.
use Rattle.std.proofs.Common.{◌≡◌, ◌∙◌, ◌<◌, ◌-◌, ◌^◌, ap, arith, sym, subst, inl, inr, Bool, true, false, List, Option, Some, None, Result, Ok, Err, IfOk, IfErr, if◌then◌else◌}
use Rattle.std.specs.Prelude.{not}
use Rattle.std.proofs.lemmas.Bool.Decides.{nat_tests}
use Rattle.api_types.specs.Consistent.{IsConsistent}
use Rattle.api_types.specs.Lists.{is_empty}
use Rattle.api_types.specs.Outcome.{Outcome, Told}
use Rattle.api_types.specs.Printed.{Reply}
use Rattle.api_types.specs.Refusing.{answer_alone}
use Rattle.api_types.specs.Rows.{after}
use Rattle.api_types.specs.declared.call.Call.{Call}
use Rattle.api_types.specs.declared.call.Caller.{Caller}
use Rattle.api_types.specs.declared.change.Item.{Item}
use Rattle.api_types.specs.declared.refusal.Refusal.{Refusal}
use Rattle.net_settings.specs.Rules.{MeetsRules}
use Rattle.net_settings.specs.Settings.{SettingsParts}
use Rattle.call_parts.specs.InForm.{IsInForm}
use Rattle.call_parts.specs.State.{State, is_last}
use Rattle.call_parts.specs.Typed.{AreTyped}
use Rattle.apart_laws.specs.Alike.{AreAlike}
use Rattle.call_parts.specs.Answers.{IsRefusalOf}
use Rattle.api_machine.specs.Plan.{AnswersAs, PlansAs}
use Rattle.api_machine.specs.WholeStep.{api_step}
use Rattle.api_machine.proofs.CallsKept.{call_kept}
use Rattle.api_machine.proofs.RoomLeft.{call_room}
use Rattle.api_machine.proofs.WholeStepApart.{step_apart}

room_of : (state : State) → state.version < 2 ^ 64 → is_last state ≡ false → state.version < 2 ^ 64 - 1
room_of state within last = grind (arith, nat_tests)

-- what is answered of a call is planned
pub planned_so : (settings : SettingsParts) (state : State) (caller : Caller) (call : Call) → MeetsRules settings → IsConsistent state.rows → AreTyped state.rows → IsInForm caller call
    → state.version < 2 ^ 64 → (change : Option (List Item)) (reply : Reply) → AnswersAs state (api_step settings state caller call) change reply → PlansAs settings state (api_step settings state caller call) change reply
planned_so settings state caller call rules c typed form within None reply told = told
planned_so settings state caller call rules c typed form within (Some change) reply moves = record {
  fits = moves.fits;
  moved = moves.moved;
  kept = call_kept settings rules call state caller (after state.rows change) reply c typed form moves.moved;
  room = room_of state within (call_room settings state caller (after state.rows change) reply call moves.moved);
}

-- what a tenant is told

pub told_alike : (settings : SettingsParts) (caller : Caller) (now other : State) (call : Call) → not (is_empty caller.project) ≡ true → IsConsistent now.rows → AreAlike settings caller now other
    → answer_alone (api_step settings now caller call) ≡ answer_alone (api_step settings other caller call)
told_alike settings caller now other call named c alike = step_apart settings caller now other alike.tenant named c alike.consistent alike.same call

pub planned_told : (settings : SettingsParts) (state : State) (outcome : Outcome) (change : Option (List Item)) (reply : Reply) → PlansAs settings state outcome change reply → answer_alone outcome ≡ Told reply
planned_told settings state outcome None reply plans = ap answer_alone plans
planned_told settings state outcome (Some change) reply plans = ap answer_alone plans.moved

pub refused_alike : (outcome other : Outcome) (refusal : Refusal) → answer_alone outcome ≡ answer_alone other → IsRefusalOf outcome refusal → IsRefusalOf (answer_alone other) refusal
refused_alike outcome other refusal same (inl memory) = inl memory
refused_alike outcome other refusal same (inr refused) = inr (sym same ∙ ap answer_alone refused)

pub if_ok : {T E : Type 0} (P Q : T → Type 0) (r : Result T E) → ((x : T) → P x → Q x) → IfOk r P → IfOk r Q
if_ok P Q (Ok x) weaker p = weaker x p
if_ok P Q (Err e) weaker p = p

pub if_err : {T E : Type 0} (P Q : E → Type 0) (r : Result T E) → ((e : E) → P e → Q e) → IfErr r P → IfErr r Q
if_err P Q (Ok x) weaker p = p
if_err P Q (Err e) weaker p = weaker e p

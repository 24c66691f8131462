-- A tenant's asks leave what others own alone.
use Rattle.std.proofs.Common.{◌≡◌, ◌∙◌, List, ℕ, ap, false, not, refl, subst, sym, true}
use Rattle.api_types.specs.Lists.{is_empty}
use Rattle.api_types.specs.Outcome.{Moved, Outcome, Refused, Told}
use Rattle.api_types.specs.Printed.{Reply}
use Rattle.api_types.specs.RowLists.{RowLists}
use Rattle.api_types.specs.declared.call.Caller.{Caller}
use Rattle.plane_types.specs.declared.ask.Ask.{Ask}
use Rattle.plane_types.specs.declared.ask.Ask.TheVariants.{Api, Lab}
use Rattle.plane_types.specs.declared.ask.LabCall.{LabCall}
use Rattle.api_machine.specs.WholeStep.{api_step}
use Rattle.world_laws.specs.Lead.{IsWorld}
use Rattle.world_laws.specs.World.{World}
use Rattle.lab_world.specs.Lab.{Answered, Barred, LabOutcome, lab_outcome}
use Rattle.lab_world.specs.World.{ByLab, ByMachine, MovesBy, ask_outcome, state_of}
use Rattle.lab_world.proofs.LabLaws.{lab_keeps_rows}
use Rattle.lab_world.proofs.WorldLaws.{sound_of}
use Rattle.owner_laws.proofs.CallsSpare.{calls_spare}
use Rattle.apart_laws.proofs.Steps.{others_stay_refl}
use Rattle.apart_laws.specs.Others.{OthersStay}

module _ (project : List ℕ) (old new : World) where
  abbrev Stay : Type 0
  Stay = OthersStay project old.history.rows new.history.rows

  -- where the rows are the same
  by_rows : new.history.rows ≡ old.history.rows → Stay
  by_rows same = subst (OthersStay project old.history.rows) (sym same) (others_stay_refl project old.history.rows)

  by_world : new ≡ old → Stay
  by_world same = by_rows (ap (λ (w : World). w.history.rows) same)

  -- a call of the API
  by_call : (o : Outcome) → ((rows : RowLists) (reply : Reply) → o ≡ Moved rows reply → OthersStay project old.history.rows rows) → MovesBy old (ByMachine o) new → Stay
  by_call (Refused refusal) spares moves = by_world moves
  by_call (Told reply) spares moves = by_world moves
  by_call (Moved rows reply) spares moves =
      subst (OthersStay project old.history.rows) (moves.leads ∙ sym (ap (λ (w : World). w.history.rows) moves.is)) (spares rows reply refl)

  -- a call of the lab
  by_lab : (caller : Caller) (c : LabCall) (o : LabOutcome) → lab_outcome old caller c ≡ o → MovesBy old (ByLab o) new → Stay
  by_lab caller c (Barred refusal) is moves = by_world moves
  by_lab caller c (Answered answer w) is moves = by_rows (ap (λ (x : World). x.history.rows) moves ∙ lab_keeps_rows old w caller c answer is)

pub ask_spares : (caller : Caller) (ask : Ask) (old new : World) → caller.admin ≡ false → not (is_empty caller.project) ≡ true → IsWorld old → MovesBy old (ask_outcome old caller ask) new
    → OthersStay caller.project old.history.rows new.history.rows
ask_spares caller (Api call) old new tenant named world moves =
    by_call caller.project old new (api_step old.settings (state_of old) caller call) (λ rows reply is. calls_spare old.settings call (state_of old) caller rows reply (sound_of old world).consistent tenant named is) moves
ask_spares caller (Lab c) old new tenant named world moves = by_lab caller.project old new caller c (lab_outcome old caller c) refl moves

-- In automatic delivery hosts that hold the version of now hold it after each ask but a restart.
use Rattle.std.proofs.Common.{◌≡◌, Bool, false, refl, subst, sym}
use Rattle.net_addr.specs.Words.{Text}
use Rattle.api_types.specs.Outcome.{Outcome, Moved, Told, Refused as RefusedWith}
use Rattle.api_types.specs.declared.call.Caller.{Caller}
use Rattle.plane_types.specs.declared.ask.Ask.{Ask}
use Rattle.plane_types.specs.declared.ask.Ask.TheVariants.{Api, Lab}
use Rattle.plane_types.specs.declared.ask.LabCall.{LabCall}
use Rattle.plane_types.specs.declared.ask.LabCall.TheVariants as call
use Rattle.api_machine.specs.WholeStep.{api_step}
use Rattle.world_laws.specs.Lead.{IsWorld}
use Rattle.world_laws.specs.Steps.{Accept, Deliver, Forget, Resync, Restart, Send, Settle, Step, restarts}
use Rattle.world_laws.specs.World.{IsSynced, World}
use Rattle.world_laws.proofs.SyncLaw.{accept_syncs, step_syncs}
use Rattle.lab_world.specs.Lab.{Answered, Barred, LabOutcome, lab_outcome}
use Rattle.lab_world.specs.World.{ByLab, ByMachine, MovesBy, ask_outcome, state_of}
use Rattle.lab_world.proofs.LabLaws.{IsAskedBy, LeadsTo, lab_leads}

call_syncs : (w v : World) → w.manual ≡ false → IsSynced w → (o : Outcome) → MovesBy w (ByMachine o) v → IsSynced v
call_syncs w v automatic synced (RefusedWith refusal) moves = subst IsSynced (sym moves) synced
call_syncs w v automatic synced (Told reply) moves = subst IsSynced (sym moves) synced
call_syncs w v automatic synced (Moved rows reply) moves = subst IsSynced (sym moves.is) (accept_syncs w moves.change automatic synced)

lab_syncs : (w v : World) → IsSynced w → (o : LabOutcome) → LeadsTo IsSynced o → MovesBy w (ByLab o) v → IsSynced v
lab_syncs w v synced (Barred refusal) leads moves = subst IsSynced (sym moves) synced
lab_syncs w v synced (Answered answer x) leads moves = subst IsSynced (sym moves) leads

-- a call that restarts no host asks for no such step
no_restart : (c : LabCall) → ((name : Text) → c ≡ call.Restart name → ⊥) → (s : Step) → IsAskedBy c s → restarts s ≡ false
no_restart c other (Accept change) asked = absurd asked
no_restart c other (Deliver name number) asked = refl
no_restart c other (Resync name) asked = refl
no_restart c other (Restart name) asked = absurd (other name asked)
no_restart c other (Forget name) asked = refl
no_restart c other Settle asked = refl
no_restart c other (Send event) asked = refl

pub ask_syncs : (caller : Caller) (ask : Ask) (v w : World) → IsWorld v → v.manual ≡ false → IsSynced v → ((name : Text) → ask ≡ Lab (call.Restart name) → ⊥) → MovesBy v (ask_outcome v caller ask) w → IsSynced w
ask_syncs caller (Api c) v w is automatic synced other moves = call_syncs v w automatic synced (api_step v.settings (state_of v) caller c) moves
ask_syncs caller (Lab c) v w is automatic synced other moves =
    let asks : (s : Step) → IsAskedBy c s → restarts s ≡ false = no_restart c (λ name same. other name (λ j. Lab (same j))) in
    lab_syncs v w synced (lab_outcome v caller c) (lab_leads IsSynced v synced caller c (λ s asked. step_syncs v s is automatic synced (asks s asked))) moves

-- Each world that an ask leaves is one still, and so is the first.
use Rattle.std.proofs.Common.{◌≡◌, Bool, refl, subst, sym}
use Rattle.api_types.specs.Outcome.{Outcome, Moved, Told, Refused as RefusedWith}
use Rattle.api_types.specs.RowLists.{RowLists}
use Rattle.api_types.specs.Rows.{no_rows}
use Rattle.api_types.specs.declared.call.Caller.{Caller}
use Rattle.api_types.specs.declared.change.Item.{Item}
use Rattle.api_types.proofs.ListLemmas.{none_some}
use Rattle.row_laws.proofs.NoRows.{no_rows_consistent}
use Rattle.net_settings.specs.Rules.{MeetsRules}
use Rattle.net_settings.specs.Settings.{SettingsParts}
use Rattle.plane_types.specs.declared.ask.Ask.{Ask}
use Rattle.plane_types.specs.declared.ask.Ask.TheVariants.{Api, Lab}
use Rattle.plane_types.specs.declared.ask.LabCall.{LabCall}
use Rattle.kept_laws.specs.Kept.{AreKept}
use Rattle.api_machine.specs.WholeStep.{api_step}
use Rattle.api_machine.proofs.CallsKept.{call_kept}
use Rattle.world_laws.specs.Lead.{IsWorld}
use Rattle.world_laws.specs.Steps.{Accept, Deliver, Forget, Resync, Restart, Send, Settle, Step, May, step}
use Rattle.world_laws.specs.World.{AreSound, World, first_world}
use Rattle.world_laws.proofs.AgentLaw.{sound_now}
use Rattle.world_laws.proofs.StepLaw.{opened_stands, step_kept}
use Rattle.lab_world.specs.Lab.{Answered, Barred, LabOutcome, lab_outcome}
use Rattle.lab_world.specs.World.{ByLab, ByMachine, IsAskInForm, MovesBy, ask_outcome, state_of}
use Rattle.lab_world.proofs.LabLaws.{IsAskedBy, LeadsTo, lab_leads}

-- ---- a call of the API

pub sound_of : (w : World) → IsWorld w → AreSound w.settings w.history.rows
sound_of w is = sound_now w.settings w.history is.lead.history

by_call : (w v : World) → IsWorld w → (o : Outcome) → ((rows : RowLists) (reply : _) → o ≡ Moved rows reply → AreKept w.settings w.history.rows rows) → MovesBy w (ByMachine o) v → IsWorld v
by_call w v is (RefusedWith refusal) kept moves = subst IsWorld (sym moves) is
by_call w v is (Told reply) kept moves = subst IsWorld (sym moves) is
by_call w v is (Moved rows reply) kept moves =
    let k = kept rows reply refl in
    let sound : AreSound w.settings rows = record { consistent = k.consistent; typed = k.typed; carried = k.carried (sound_of w is).carried } in
    subst IsWorld (sym moves.is) (step_kept w (Accept moves.change) is (moves.fits, subst (AreSound w.settings) moves.leads sound))

-- ---- a call of the lab

may : (w : World) (c : LabCall) (s : Step) → IsAskedBy c s → May w s
may w c (Accept change) asked = absurd asked
may w c (Deliver name number) asked = tt
may w c (Resync name) asked = tt
may w c (Restart name) asked = tt
may w c (Forget name) asked = tt
may w c Settle asked = tt
may w c (Send event) asked = tt

by_lab : (w v : World) → IsWorld w → (o : LabOutcome) → LeadsTo IsWorld o → MovesBy w (ByLab o) v → IsWorld v
by_lab w v is (Barred refusal) leads moves = subst IsWorld (sym moves) is
by_lab w v is (Answered answer x) leads moves = subst IsWorld (sym moves) leads

pub ask_keeps : (caller : Caller) (ask : Ask) (v w : World) → IsAskInForm caller ask → IsWorld v → MovesBy v (ask_outcome v caller ask) w → IsWorld w
ask_keeps caller (Api c) v w form is moves =
    let sound = sound_of v is in
    by_call v w is (api_step v.settings (state_of v) caller c) (λ rows reply e. call_kept v.settings is.rules c (state_of v) caller rows reply sound.consistent sound.typed form e) moves
ask_keeps caller (Lab c) v w form is moves = by_lab v w is (lab_outcome v caller c) (lab_leads IsWorld v is caller c (λ s asked. step_kept v s is (may v c s asked))) moves

-- ---- the first world

-- where there are no rows, nothing is asked of them
pub no_rows_stand : (settings : SettingsParts) (manual : Bool) → MeetsRules settings → IsWorld (first_world settings manual no_rows)
no_rows_stand settings manual rules = opened_stands settings manual no_rows rules (record {
  consistent = no_rows_consistent;
  typed = record { prefixes = λ k s at. none_some s _ at; macs = λ k p at. none_some p _ at };
  carried = record { at_host = λ k p at. none_some p _ at };
})

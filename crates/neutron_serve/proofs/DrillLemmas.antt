-- Requests of a drill, one by one.
use Rattle.std.proofs.Common.{◌≡◌, ◌∙◌, ℕ, List, Bool, true, false, inl, inr, ap, ap₂, refl, subst, sym}
use Rattle.api_types.specs.declared.refusal.Refusal.TheVariants.{OutOfMemory, StoreFault}
use Rattle.http_heads.specs.Fields.{closes}
use Rattle.http_heads.specs.Heads.{Asked}
use Rattle.lab_world.specs.World.{AskOutcome, ByLab, ByMachine, Handles, IsTold}
use Rattle.plane_types.specs.declared.ask.Reply.{Reply}
use Rattle.plane_types.specs.declared.ask.Reply.TheVariants.{Done, LabDone, Refused}
use Rattle.world_laws.specs.World.{IsSynced}
use Rattle.neutron_serve.specs.Drills.{DrillSteps, counted, is_delivered, is_outside, outcome_code, outcome_delivers}
use Rattle.neutron_serve.specs.Replies.{code_in, reply_written}
use Rattle.neutron_serve.specs.Requests.{request_of}
use Rattle.neutron_serve.specs.Steps.{request_outcome}
use Rattle.neutron_serve.specs.declared.drilling.Drill.{Drill}
use Rattle.neutron_serve.proofs.Replying.{handled_steps, inside_handled}

-- a reply has its outcome's status
code_told : (outcome : AskOutcome) (reply : Reply) → IsTold outcome reply → code_in reply ≡ outcome_code outcome
code_told (ByMachine outcome) (Done answer) (inl told) = sym (ap (λ o. outcome_code (ByMachine o)) told)
code_told (ByMachine outcome) (Done answer) (inr moved) = sym (ap (λ o. outcome_code (ByMachine o)) moved.1)
code_told (ByMachine outcome) (Refused refusal) told = sym (ap (λ o. outcome_code (ByMachine o)) told)
code_told (ByMachine outcome) (LabDone answer) told = absurd told
code_told (ByLab outcome) (Done answer) told = absurd told
code_told (ByLab outcome) (Refused refusal) told = sym (ap (λ o. outcome_code (ByLab o)) told)
code_told (ByLab outcome) (LabDone answer) told = sym (ap (λ o. outcome_code (ByLab o)) told.1)

-- and tells of a delivery where that does
delivery_told : (outcome : AskOutcome) (reply : Reply) → IsTold outcome reply → is_delivered reply ≡ outcome_delivers outcome
delivery_told (ByMachine outcome) (Done answer) told = refl
delivery_told (ByMachine outcome) (Refused refusal) told = refl
delivery_told (ByMachine outcome) (LabDone answer) told = absurd told
delivery_told (ByLab outcome) (Done answer) told = absurd told
delivery_told (ByLab outcome) (Refused refusal) told = sym (ap (λ o. outcome_delivers (ByLab o)) told)
delivery_told (ByLab outcome) (LabDone answer) told = sym (ap (λ o. outcome_delivers (ByLab o)) told.1)

never : {X : Type 0} → false ≡ true → X
never e = absurd cc

not_outside : (reply other : Reply) → is_outside reply ≡ false → is_outside other ≡ true → reply ≡ other → ⊥
not_outside reply other inside outside e = never (sym inside ∙ ap is_outside e ∙ outside)

-- a request whose reply is noted
pub noted_step : (old new : Drill) (asked : Asked) (reply : Reply) (close : Bool) (bytes : List ℕ) → bytes ≡ reply_written close reply → close ≡ closes asked.head
    → Handles (request_outcome old.world (request_of asked)) old.world new.world reply → old.tally.whole ≡ true → is_outside reply ≡ false → IsSynced new.world
    → new.tally ≡ counted (code_in reply) (is_delivered reply) old.tally → DrillSteps old asked bytes new
noted_step old new asked reply close bytes written same handles whole inside heard tally =
    let outcome = request_outcome old.world (request_of asked) in
    let handled = inside_handled outcome old.world new.world reply handles (not_outside reply (Refused OutOfMemory) inside refl) (not_outside reply (Refused StoreFault) inside refl) in
    subst (λ b. DrillSteps old asked b new) (sym written) (record {
      whole = λ _. whole;
      steps = λ _. handled_steps old.world new.world asked reply close same handled;
      heard = λ _. heard;
      counts = λ _. tally ∙ ap₂ (λ code delivered. counted code delivered old.tally) (code_told outcome reply handled.tells) (delivery_told outcome reply handled.tells);
    })

-- a request behind which not all is whole
pub spoiled_step : (old new : Drill) (asked : Asked) (bytes : List ℕ) → new.tally.whole ≡ false → DrillSteps old asked bytes new
spoiled_step old new asked bytes spoiled = record {
  whole = λ e. never (sym spoiled ∙ e);
  steps = λ e. never (sym spoiled ∙ e);
  heard = λ e. never (sym spoiled ∙ e);
  counts = λ e. never (sym spoiled ∙ e);
}

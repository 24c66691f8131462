use Rattle.std.proofs.Common.{◌∙◌, ◌≡◌, ap, refl, subst, sym}
use Rattle.keeper_core.specs.Counts.{Tells}
use Rattle.plane_types.specs.declared.ask.LabAnswer.TheVariants.{Seen}
use Rattle.plane_types.specs.declared.ask.LabCall.TheVariants.{Frames}
use Rattle.lab_world.specs.Lab.{Answered, lab_outcome}
use Rattle.lab_world.proofs.FrameLaws.{answer_crosses, answer_let_in, answer_let_out, answer_means}
use Rattle.lab_world.proofs.LabLaws.{answer_keeps_rows}
use Rattle.lab_world.proofs.world.World.handle.Goals as goal

pub returns-in-Ok-answer_lab-clause-frames : goal.returns-in-Ok-answer_lab-clause-frames
returns-in-Ok-answer_lab-clause-frames g c = λ event verdict is done synced.
    let handled = c.in-Ok-answer_lab.ensures.ok in
    let asked = c.in-Lab.is in
    let call_is : c.in-Lab.call ≡ Frames event = cc in
    let answer_is : c.in-Ok-answer_lab.answer ≡ Seen verdict = cc in
    answer_means c.args.self.now handled.tells.0 c.args.caller.now event verdict c.rows-world.ensures.world
    (ap (lab_outcome c.args.self.now c.args.caller.now) (sym call_is) ∙ handled.tells.1 ∙ ap (λ a. Answered a handled.tells.0) answer_is) synced

pub returns-in-Ok-answer_lab-clause-crosses : goal.returns-in-Ok-answer_lab-clause-crosses
returns-in-Ok-answer_lab-clause-crosses g c = λ event verdict is done synced.
    let handled = c.in-Ok-answer_lab.ensures.ok in
    let asked = c.in-Lab.is in
    let call_is : c.in-Lab.call ≡ Frames event = cc in
    let answer_is : c.in-Ok-answer_lab.answer ≡ Seen verdict = cc in
    answer_crosses c.args.self.now handled.tells.0 c.args.caller.now event verdict c.rows-world.ensures.world
    (ap (lab_outcome c.args.self.now c.args.caller.now) (sym call_is) ∙ handled.tells.1 ∙ ap (λ a. Answered a handled.tells.0) answer_is) synced

pub returns-in-Ok-answer_lab-clause-lets_in : goal.returns-in-Ok-answer_lab-clause-lets_in
returns-in-Ok-answer_lab-clause-lets_in g c = λ event verdict is done synced.
    let handled = c.in-Ok-answer_lab.ensures.ok in
    let asked = c.in-Lab.is in
    let call_is : c.in-Lab.call ≡ Frames event = cc in
    let answer_is : c.in-Ok-answer_lab.answer ≡ Seen verdict = cc in
    answer_let_in c.args.self.now handled.tells.0 c.args.caller.now event verdict c.rows-world.ensures.world
    (ap (lab_outcome c.args.self.now c.args.caller.now) (sym call_is) ∙ handled.tells.1 ∙ ap (λ a. Answered a handled.tells.0) answer_is) synced

pub returns-in-Ok-answer_lab-clause-lets_out : goal.returns-in-Ok-answer_lab-clause-lets_out
returns-in-Ok-answer_lab-clause-lets_out g c = λ event verdict is done synced.
    let handled = c.in-Ok-answer_lab.ensures.ok in
    let asked = c.in-Lab.is in
    let call_is : c.in-Lab.call ≡ Frames event = cc in
    let answer_is : c.in-Ok-answer_lab.answer ≡ Seen verdict = cc in
    answer_let_out c.args.self.now handled.tells.0 c.args.caller.now event verdict c.rows-world.ensures.world
    (ap (lab_outcome c.args.self.now c.args.caller.now) (sym call_is) ∙ handled.tells.1 ∙ ap (λ a. Answered a handled.tells.0) answer_is) synced

pub returns-in-Ok-answer_lab-clause-kept : goal.returns-in-Ok-answer_lab-clause-kept
returns-in-Ok-answer_lab-clause-kept g c =
    record { tells = subst (Tells _) (sym (answer_keeps_rows _ _ c.args.caller.now c.in-Lab.call _ c.in-Ok-answer_lab.ensures.ok)) c.requires.kept; as_before = refl }

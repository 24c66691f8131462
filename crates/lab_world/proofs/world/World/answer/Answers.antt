use Rattle.std.proofs.Common.{rules, ◌≡◌, None, Some, subst, sym}
use Rattle.std.proofs.lemmas.Result.{err_from_is_err_and}
use Rattle.api_types.specs.Printed.{reply_of}
use Rattle.api_types.specs.Rows.{after}
use Rattle.api_machine.specs.Plan.{PlansAs}
use Rattle.api_machine.specs.WholeStep.{api_step}
use Rattle.kept_laws.specs.Kept.{AreKept}
use Rattle.api_machine.specs.Machine.{state_at}
use Rattle.world_laws.specs.World.{World}
use Rattle.api_machine.proofs.OwnRefusals.{no_plan_fault}
use Rattle.plane_types.specs.declared.ask.Reply.TheVariants.{Done}
use Rattle.lab_world.specs.World.{ByMachine, IsHandled, state_of}
use Rattle.lab_world.proofs.Planning.{moved_handled, told_handled}
use Rattle.lab_world.proofs.world.World.answer.Goals as goal
use Rattle.lab_world.proofs.world.World.answer.Goals.{in-Some+in_ok-keep, in_default}

pub keep-requires-clause-sound : goal.keep-requires-clause-sound
keep-requires-clause-sound g c =
    let m = c.self.inside.machine in
    let change_is : c.in_ok-change.field-0.change ≡ Some c.in-Some.change = search (rules, c.in_ok-change.change-is, c.in-Some.is) in
    let leads = subst (λ o. PlansAs m.settings (state_at m.rows m.version) (api_step m.settings (state_at m.rows m.version) c.args.caller.now c.args.call.now) o (reply_of c.in_ok-change.field-0.answer)) change_is c.in_ok-change.ensures.ok in
    subst (λ (w : World). AreKept w.settings w.history.rows (after w.history.rows c.in-Some.change)) c.self.view_is leads.kept

pub returns-in_err-change-clause-store_fault : goal.returns-in_err-change-clause-store_fault
returns-in_err-change-clause-store_fault g c =
    let p = err_from_is_err_and c.from_residual.result c.from_residual.ensures.1 in
    rw (p.1, p.2) (λ h. no_plan_fault c.self.inside.machine.settings (state_at c.self.inside.machine.rows c.self.inside.machine.version) c.args.caller.now c.args.call.now c.in_err-change.field-0.0 _ c.in_err-change.ensures.err h)

pub returns-clause-ok : goal.returns-clause-ok
returns-clause-ok g c =
    let now = c.args.self.now in
    let outcome = api_step now.settings (state_of now) c.args.caller.now c.args.call.now in
    let planned = c.in_ok-change.field-0 in
    let plans : PlansAs now.settings (state_of now) outcome planned.change (reply_of planned.answer) =
    subst (λ (w : World). PlansAs w.settings (state_of w) (api_step w.settings (state_of w) c.args.caller.now c.args.call.now) planned.change (reply_of planned.answer)) c.self.view_is c.in_ok-change.ensures.ok in
    elim c.match-change.branch [
      | in-Some+in_ok-keep w ↦
          (let change_is : planned.change ≡ Some w.in-Some.change = search (rules, c.in_ok-change.change-is, w.in-Some.is) in
          let leads = subst (λ o. PlansAs now.settings (state_of now) outcome o (reply_of planned.answer)) change_is plans in
          subst (λ (v : World). IsHandled (ByMachine outcome) now v (Done planned.answer)) (sym w.self-is)
          (moved_handled now w.keep.new.self outcome planned.answer w.in-Some.change leads w.in_ok-keep.ensures.ok))
      | in_default w ↦
          (let none : planned.change ≡ None = search (rules, c.in_ok-change.change-is, w.in_default.is) in
          let told = subst (λ o. PlansAs now.settings (state_of now) outcome o (reply_of planned.answer)) none plans in
          subst (λ (v : World). IsHandled (ByMachine outcome) now v (Done planned.answer)) (sym w.self-is) (told_handled now outcome planned.answer told))
    ]

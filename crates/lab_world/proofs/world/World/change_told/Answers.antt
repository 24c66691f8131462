use Rattle.std.proofs.Common.{◌≡◌, inr, subst}
use Rattle.std.proofs.lemmas.Result.{err_from_is_err_and}
use Rattle.plane_types.specs.declared.ask.LabAnswer.TheVariants.{Change}
use Rattle.plane_types.specs.declared.ask.LabCall.TheVariants as call
use Rattle.world_laws.specs.World.{World}
use Rattle.lab_world.specs.Lab.{Answered, Barred, lab_outcome}
use Rattle.lab_world.proofs.MessageLaws.{change_gone, change_seen}
use Rattle.lab_world.proofs.world.World.change_told.Goals as goal

pub returns-clause-ok : goal.returns-clause-ok
returns-clause-ok c =
    let i = c.self.inside in
    subst (λ (w : World). lab_outcome w c.args.caller.now (call.Change c.args.number) ≡ Answered (Change c.args.number c.in_ok-items.items) w) c.self.view_is
    (change_seen i.machine.settings i.machine.rows i.machine.version i.bus i.hosts i.manual c.self.invariant c.args.caller.now c.args.number c.in_ok-change.change.now c.in_ok-items.items c.in_ok-ensure_admin.ensures.ok c.in_ok-change.ensures.ok c.in_ok-items.ensures)

pub returns-in_err-change-clause-err : goal.returns-in_err-change-clause-err
returns-in_err-change-clause-err c =
    let i = c.self.inside in
    let p = err_from_is_err_and c.from_residual-in_err-change.result c.from_residual-in_err-change.ensures.1 in
    rw (p.1, p.2) (inr
    (subst (λ (w : World). lab_outcome w c.args.caller.now (call.Change c.args.number) ≡ Barred c.in_err-change.field-0.0) c.self.view_is
    (change_gone i.machine.settings i.machine.rows i.machine.version i.bus i.hosts i.manual c.self.invariant c.args.caller.now c.args.number c.in_ok-ensure_admin.ensures.ok c.in_err-change.field-0.0 c.in_err-change.ensures.err)))

use Rattle.std.proofs.Common.{refl}
use Rattle.std.proofs.lemmas.Option.{slice_get_within}
use Rattle.std.proofs.lemmas.Result.{err_from_is_err_and}
use Rattle.world_laws.specs.Steps.{Restart}
use Rattle.lab_world.specs.Lab.{stepped}
use Rattle.lab_world.proofs.MessageLaws.{barred, restarts}
use Rattle.lab_world.proofs.world.World.restart.Goals as goal

pub returns-in_err-at-clause-err : goal.returns-in_err-at-clause-err
returns-in_err-at-clause-err c =
    let i = c.self.inside in
    let p = err_from_is_err_and c.from_residual-in_err-at.result c.from_residual-in_err-at.ensures.1 in
    rw (p.1, p.2) (refl, barred i.machine.settings i.machine.rows i.machine.version i.bus i.hosts i.manual c.self.invariant c.args.caller.now c.args.name.now (λ w a. stepped w (Restart c.args.name.now)) c.args.self.now c.self.view_is c.in_ok-ensure_admin.ensures.ok c.in_err-at.field-0.0 c.in_err-at.ensures.err)

pub restart-requires : goal.restart-requires
restart-requires c = let named = c.in_ok-at.ensures.ok in slice_get_within c.self.inside.hosts c.in_ok-at.at named.0 named.1

pub invariant_of-self : goal.invariant_of-self
invariant_of-self c =
    let i = c.self.inside in
    (restarts i.machine.settings i.machine.rows i.machine.version i.bus i.hosts i.manual c.self.invariant c.args.caller.now c.args.name.now c.in_ok-at.at c.in_ok-states.states c.restart.new.self c.args.self.now c.self.view_is c.in_ok-ensure_admin.ensures.ok c.in_ok-at.ensures.ok c.in_ok-states.ensures c.restart.ensures).0

pub returns-clause-ok : goal.returns-clause-ok
returns-clause-ok c =
    let i = c.self.inside in
    (restarts i.machine.settings i.machine.rows i.machine.version i.bus i.hosts i.manual c.self.invariant c.args.caller.now c.args.name.now c.in_ok-at.at c.in_ok-states.states c.restart.new.self c.args.self.now c.self.view_is c.in_ok-ensure_admin.ensures.ok c.in_ok-at.ensures.ok c.in_ok-states.ensures c.restart.ensures).1

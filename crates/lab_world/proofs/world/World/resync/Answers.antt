use Rattle.std.proofs.Common.{◌≡◌, ◌∙◌, Some, map, refl}
use Rattle.std.proofs.lemmas.Option.{slice_get_within}
use Rattle.std.proofs.lemmas.Result.{err_from_is_err_and}
use Rattle.plane_types.specs.Node.{after_resync, agents_of}
use Rattle.world_laws.specs.Steps.{Resync}
use Rattle.lab_world.specs.Lab.{stepped}
use Rattle.lab_world.specs.Hosts.{at_place, state_with}
use Rattle.lab_world.proofs.MessageLaws.{barred, resyncs}
use Rattle.lab_world.proofs.world.World.resync.Goals as goal

pub returns-in_err-at-clause-err : goal.returns-in_err-at-clause-err
returns-in_err-at-clause-err c =
    let i = c.self.inside in
    let p = err_from_is_err_and c.from_residual-in_err-at.result c.from_residual-in_err-at.ensures.1 in
    rw (p.1, p.2) (refl, barred i.machine.settings i.machine.rows i.machine.version i.bus i.hosts i.manual c.self.invariant c.args.caller.now c.args.name.now (λ w a. stepped w (Resync c.args.name.now)) c.args.self.now c.self.view_is c.in_ok-ensure_admin.ensures.ok c.in_err-at.field-0.0 c.in_err-at.ensures.err)

pub resync-requires-clause-within : goal.resync-requires-clause-within
resync-requires-clause-within c = let named = c.in_ok-at.ensures.ok in slice_get_within c.self.inside.hosts c.in_ok-at.at named.0 named.1

pub invariant_of-self-2 : goal.invariant_of-self-2
invariant_of-self-2 c =
    let i = c.self.inside in
    let told : c.in_ok-states.states ≡ map (state_with c.args.name.now (Some i.machine.version)) (agents_of i.hosts) =
    c.in_ok-states.ensures ∙ (λ j. map (state_with c.args.name.now (Some (c.version-version.ensures j))) (agents_of i.hosts)) in
    let done : agents_of c.resync.new.self ≡ at_place c.in_ok-at.at (after_resync i.machine.version i.machine.rows) (agents_of i.hosts) =
    c.in_ok-resync.ensures.ok ∙ (λ j. at_place c.in_ok-at.at (after_resync (c.version-version.ensures j) (c.rows.ensures.rows j)) (agents_of i.hosts)) in
    (resyncs i.machine.settings i.machine.rows i.machine.version i.bus i.hosts i.manual c.self.invariant c.args.caller.now c.args.name.now c.in_ok-at.at c.in_ok-states.states c.resync.new.self c.args.self.now c.self.view_is c.in_ok-ensure_admin.ensures.ok c.in_ok-at.ensures.ok told done).0

pub returns-clause-ok : goal.returns-clause-ok
returns-clause-ok c =
    let i = c.self.inside in
    let told : c.in_ok-states.states ≡ map (state_with c.args.name.now (Some i.machine.version)) (agents_of i.hosts) =
    c.in_ok-states.ensures ∙ (λ j. map (state_with c.args.name.now (Some (c.version-version.ensures j))) (agents_of i.hosts)) in
    let done : agents_of c.resync.new.self ≡ at_place c.in_ok-at.at (after_resync i.machine.version i.machine.rows) (agents_of i.hosts) =
    c.in_ok-resync.ensures.ok ∙ (λ j. at_place c.in_ok-at.at (after_resync (c.version-version.ensures j) (c.rows.ensures.rows j)) (agents_of i.hosts)) in
    (resyncs i.machine.settings i.machine.rows i.machine.version i.bus i.hosts i.manual c.self.invariant c.args.caller.now c.args.name.now c.in_ok-at.at c.in_ok-states.states c.resync.new.self c.args.self.now c.self.view_is c.in_ok-ensure_admin.ensures.ok c.in_ok-at.ensures.ok told done).1

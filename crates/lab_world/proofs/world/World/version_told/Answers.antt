use Rattle.std.proofs.Common.{◌≡◌, subst}
use Rattle.plane_types.specs.declared.ask.LabAnswer.TheVariants.{Version}
use Rattle.plane_types.specs.declared.ask.LabCall.TheVariants as call
use Rattle.world_laws.specs.World.{World}
use Rattle.lab_world.specs.Lab.{Answered, lab_outcome}
use Rattle.lab_world.proofs.MessageLaws.{version_seen}
use Rattle.lab_world.proofs.world.World.version_told.Goals as goal

pub returns-clause-ok : goal.returns-clause-ok
returns-clause-ok c =
    let i = c.self.inside in
    subst (λ (w : World). lab_outcome w c.args.caller.now call.Version ≡ Answered (Version c.first.result c.last.result) w) c.self.view_is
    (version_seen i.machine.settings i.machine.rows i.machine.version i.bus i.hosts i.manual c.self.invariant c.args.caller.now c.first.result c.last.result c.in_ok-ensure_admin.ensures.ok c.first.ensures c.last.ensures)

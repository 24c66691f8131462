use Rattle.std.proofs.Common.{◌≡◌, subst}
use Rattle.plane_types.specs.declared.ask.LabAnswer.TheVariants.{Hosts}
use Rattle.plane_types.specs.declared.ask.LabCall.TheVariants.{Hosts as HostsCall}
use Rattle.world_laws.specs.World.{World}
use Rattle.lab_world.specs.Lab.{Answered, lab_outcome}
use Rattle.lab_world.proofs.MessageLaws.{hosts_seen}
use Rattle.lab_world.proofs.world.World.hosts_told.Goals as goal

pub returns-clause-ok : goal.returns-clause-ok
returns-clause-ok c =
    let i = c.self.inside in
    subst (λ (w : World). lab_outcome w c.args.caller.now HostsCall ≡ Answered (Hosts c.in_ok-states.field-0) w) c.self.view_is
    (hosts_seen i.machine.settings i.machine.rows i.machine.version i.bus i.hosts i.manual c.self.invariant c.args.caller.now c.in_ok-states.field-0 c.in_ok-ensure_admin.ensures.ok c.in_ok-states.ensures)

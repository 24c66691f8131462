use Rattle.std.proofs.Common.{◌∙◌, ap, sym}
use Rattle.host_plane.specs.Views.{view_of_step}
use Rattle.plane_types.specs.Fabric.{next_position as moved_by}
use Rattle.fabric_run.specs.Views.{view_of_host}
use Rattle.fabric_run.proofs.position.follow_step.Goals as goal

pub returns-in-ToWire-clause-led : goal.returns-in-ToWire-clause-led
returns-in-ToWire-clause-led g c = λ on r. c.cross_wire.ensures.led on r ∙ sym (ap (λ s. moved_by (g.F.Fleet.hosts c.args.fleet.now) on (view_of_host c.args.host.now) r (view_of_step s)) c.in-ToWire.is)

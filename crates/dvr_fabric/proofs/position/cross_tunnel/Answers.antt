use Rattle.std.proofs.Common.{◌∙◌, ◌<◌, ap, length, refl, subst, sym}
use Rattle.std.specs.Prelude.{slice_get}
use Rattle.dvr_fabric.proofs.HostLemmas.{there}
use Rattle.dvr_fabric.proofs.PositionLemmas.{stays_at, tunnelled_to}
use Rattle.dvr_fabric.specs.Found.{view_of_host}
use Rattle.dvr_fabric.specs.declared.position.Next.TheVariants.{Step as NextStep}
use Rattle.dvr_types.specs.DvrFabric.{over_dvr_tunnel}
use Rattle.host_plane.specs.declared.ending.Step.TheVariants.{Next as StepNext}
use Rattle.plane_types.specs.declared.event.Place.TheVariants.{TunnelIn}
use Rattle.dvr_fabric.proofs.position.cross_tunnel.Goals as goal

pub returns-in-Some-clause-led : goal.returns-in-Some-clause-led
returns-in-Some-clause-led c = λ on r.
    let hosts = c.args.fleet.now in
    let d = view_of_host c.args.host.now in
    let x = there hosts c.in-Some.at c.in-Some.ensures.0 in
    tunnelled_to on d c.args.number c.args.frame.now r (NextStep (StepNext (TunnelIn c.args.number c.args.frame.now))) (slice_get hosts c.in-Some.at) x.0 x.1 (λ e s. refl)
    ∙ ap (over_dvr_tunnel on d c.args.number c.args.frame.now r) c.in-Some.ensures.1

pub returns-in-None-clause-within : goal.returns-in-None-clause-within
returns-in-None-clause-within c = subst (λ n. n < length c.args.fleet.now) (sym c.dropped.ensures.at) c.requires.0

pub returns-in-None-clause-led : goal.returns-in-None-clause-led
returns-in-None-clause-led c = λ on r.
    let hosts = c.args.fleet.now in
    let d = view_of_host c.args.host.now in
    stays_at on d r c.dropped.result.next (slice_get hosts c.dropped.result.at) (ap (slice_get hosts) c.dropped.ensures.at ∙ c.requires.1)
    ∙ c.dropped.ensures.next on d r
    ∙ sym (ap (over_dvr_tunnel on d c.args.number c.args.frame.now r) c.in-None.ensures)

use Rattle.std.proofs.Common.{◌≡◌, ◌∙◌, ◌<◌, None, Some, ap, length, subst, sym}
use Rattle.std.specs.Prelude.{slice_get}
use Rattle.api_types.specs.declared.wire.Wire.{Wire}
use Rattle.dvr_fabric.proofs.HostLemmas.{there}
use Rattle.dvr_fabric.proofs.PositionLemmas.{stays_at, wired_to}
use Rattle.dvr_fabric.specs.Found.{view_of_host}
use Rattle.dvr_fabric.specs.declared.position.Next.TheVariants.{Step as NextStep}
use Rattle.dvr_types.specs.DvrFabric.{over_dvr_wire}
use Rattle.host_plane.specs.declared.ending.FrameEnd.TheVariants.{Out as EndOut}
use Rattle.host_plane.specs.declared.ending.Step.TheVariants.{End as StepEnd}
use Rattle.dvr_fabric.proofs.position.cross_wire.Goals as goal

pub returns-in-Some-clause-within : goal.returns-in-Some-clause-within
returns-in-Some-clause-within c = subst (λ n. n < length c.args.fleet.now) (sym c.at_wire.ensures.at) c.in-Some.ensures.0

pub returns-in-Some-clause-led : goal.returns-in-Some-clause-led
returns-in-Some-clause-led c = λ on r.
    let hosts = c.args.fleet.now in
    let d = view_of_host c.args.host.now in
    let w : Wire = record { physical = c.args.physical.now; tag = c.args.tag } in
    let x = there hosts c.in-Some.at c.in-Some.ensures.0 in
    let at : slice_get hosts c.at_wire.result.at ≡ Some x.0 = ap (slice_get hosts) c.at_wire.ensures.at ∙ x.1 in
    wired_to on d w c.args.network c.args.toward c.args.frame.now r c.at_wire.result.next (slice_get hosts c.at_wire.result.at) x.0 at (c.at_wire.ensures.next on)
    ∙ ap (over_dvr_wire on d w c.args.network c.args.toward c.args.frame.now r) (at ∙ sym x.1 ∙ c.in-Some.ensures.1)

pub returns-in-None-clause-led : goal.returns-in-None-clause-led
returns-in-None-clause-led c = λ on r.
    let hosts = c.args.fleet.now in
    let d = view_of_host c.args.host.now in
    let w : Wire = record { physical = c.args.physical.now; tag = c.args.tag } in
    stays_at on d r (NextStep (StepEnd (record { ended = EndOut c.args.network c.args.toward c.args.frame.now; way = None }))) (slice_get hosts c.args.host.now.at) c.requires.1
    ∙ sym (ap (over_dvr_wire on d w c.args.network c.args.toward c.args.frame.now r) c.in-None.ensures)

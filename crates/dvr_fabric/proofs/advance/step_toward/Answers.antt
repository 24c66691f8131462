use Rattle.std.proofs.Common.{◌∙◌, ap, sym}
use Rattle.std.specs.Prelude.{option_map, slice_get}
use Rattle.dvr_fabric.proofs.PositionLemmas.{stays_at}
use Rattle.dvr_fabric.proofs.TellsLemmas.{adds_nothing}
use Rattle.dvr_fabric.specs.Found.{view_of_host}
use Rattle.dvr_fabric.specs.Positions.{ids_of}
use Rattle.dvr_fabric.specs.Steps.{view_of_handled}
use Rattle.dvr_fabric.specs.declared.position.Next.TheVariants.{Step as NextStep}
use Rattle.dvr_types.specs.DvrFabric.{At, fate_at_router, fate_toward}
use Rattle.host_plane.specs.declared.ending.Step.TheVariants.{Next as StepNext}
use Rattle.plane_types.specs.Parts.{packet_of}
use Rattle.plane_types.specs.Places.{TapOut as TapAt}
use Rattle.plane_types.specs.declared.event.Place.TheVariants.{TapOut}
use Rattle.dvr_fabric.proofs.advance.step_toward.Goals as goal

pub returns-in-Tap-clause-leads : goal.returns-in-Tap-clause-leads
returns-in-Tap-clause-leads c = λ fresh on r same.
    let hosts = c.args.fleet.now in
    let d = view_of_host c.args.host.now in
    record {
      next = r;
      adds = adds_nothing d r (ids_of c.none.result) fresh c.none.ensures (sym same);
      same = ap (fate_toward hosts on d c.args.network (packet_of c.args.packet.now) r) c.in-Tap.is
          ∙ ap (λ f. on d (At (TapAt c.in-Tap.port f)) r) (sym c.frame.ensures)
          ∙ sym (stays_at on d r (NextStep (StepNext (TapOut c.in-Tap.port c.frame.result))) (slice_get hosts c.args.host.now.at) c.requires.1);
    }

pub returns-in-Some-clause-leads : goal.returns-in-Some-clause-leads
returns-in-Some-clause-leads c = λ fresh on r same.
    let hosts = c.args.fleet.now in
    let d = view_of_host c.args.host.now in
    let p = packet_of c.args.packet.now in
    let g = c.step_by_copy.ensures.leads fresh on r same in
    record {
      next = g.next;
      adds = g.adds;
      same = ap (fate_toward hosts on d c.args.network p r) c.in-Router.is
          ∙ ap (fate_at_router hosts on d c.in-Router.name c.in-Router.number p r) (sym c.handled_here.ensures ∙ ap (option_map view_of_handled) c.in-Some.is) ∙ g.same;
    }

pub returns-in-None-clause-leads : goal.returns-in-None-clause-leads
returns-in-None-clause-leads c = λ fresh on r same.
    let hosts = c.args.fleet.now in
    let d = view_of_host c.args.host.now in
    let p = packet_of c.args.packet.now in
    let g = c.step_by_tunnel-in-None.ensures.leads fresh on r same in
    record {
      next = g.next;
      adds = g.adds;
      same = ap (fate_toward hosts on d c.args.network p r) c.in-Router.is
          ∙ ap (fate_at_router hosts on d c.in-Router.name c.in-Router.number p r) (sym c.handled_here.ensures ∙ ap (option_map view_of_handled) c.in-None.is) ∙ g.same;
    }

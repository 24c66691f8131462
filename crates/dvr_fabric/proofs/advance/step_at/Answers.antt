use Rattle.std.proofs.Common.{◌∙◌, ap, sym}
use Rattle.std.specs.Prelude.{option_map}
use Rattle.dvr_fabric.specs.Found.{view_of_host}
use Rattle.dvr_fabric.specs.Steps.{view_of_handled}
use Rattle.dvr_types.specs.DvrFabric.{fate_at_place}
use Rattle.plane_types.specs.Places.{view_of_place}
use Rattle.dvr_fabric.proofs.advance.step_at.Goals as goal

pub returns-in-Some-clause-leads : goal.returns-in-Some-clause-leads
returns-in-Some-clause-leads c = λ on r same.
    let g = c.step_by_copy.ensures.leads c.args.fresh.now.items on r same in
    record {
      next = g.next;
      adds = g.adds;
      same = ap (fate_at_place c.args.fleet.now on (view_of_host c.args.host.now) (view_of_place c.args.place.now) r) (sym c.handled_at.ensures ∙ ap (option_map view_of_handled) c.in-Some.is) ∙ g.same;
    }

pub returns-in-None-clause-leads : goal.returns-in-None-clause-leads
returns-in-None-clause-leads c = λ on r same.
    let g = c.step_by_tables.ensures.leads on r same in
    record {
      next = g.next;
      adds = g.adds;
      same = ap (fate_at_place c.args.fleet.now on (view_of_host c.args.host.now) (view_of_place c.args.place.now) r) (sym c.handled_at.ensures ∙ ap (option_map view_of_handled) c.in-None.is) ∙ g.same;
    }

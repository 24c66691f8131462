use Rattle.std.proofs.Common.{◌∙◌, ap, suc}
use Rattle.dvr_fabric.proofs.PositionLemmas.{walk_at}
use Rattle.dvr_fabric.specs.Found.{view_of_host}
use Rattle.dvr_fabric.specs.Positions.{step_fate}
use Rattle.dvr_types.specs.DvrFabric.{dvr_walk}
use Rattle.host_plane.specs.Views.{view_of_step}
use Rattle.plane_types.specs.Places.{view_of_place}
use Rattle.dvr_fabric.proofs.advance.step_on.Goals as goal

pub returns-in-Next-clause-leads : goal.returns-in-Next-clause-leads
returns-in-Next-clause-leads c = λ many r same.
    let hosts = c.args.fleet.now in
    let d = view_of_host c.args.host.now in
    let g = c.step_at.ensures.leads (dvr_walk hosts many) r same in
    record {
      next = g.next;
      adds = g.adds;
      same = ap (λ s. step_fate (dvr_walk hosts (suc many)) d r (view_of_step s)) c.in-Next.is ∙ walk_at hosts many d (view_of_place c.in-Next.place) r ∙ g.same;
    }

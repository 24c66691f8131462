use Rattle.std.proofs.Common.{◌∙◌, ap, suc, subst, sym}
use Rattle.dvr_fabric.proofs.PositionLemmas.{walk_toward}
use Rattle.dvr_fabric.specs.Found.{view_of_host}
use Rattle.dvr_fabric.specs.Positions.{LeadsOn, next_fate}
use Rattle.dvr_types.specs.DvrFabric.{dvr_walk}
use Rattle.plane_types.specs.Parts.{packet_of}
use Rattle.dvr_fabric.proofs.advance.step_from.Goals as goal

pub returns-in-Step-clause-leads : goal.returns-in-Step-clause-leads
returns-in-Step-clause-leads c =
    subst (λ n. LeadsOn c.args.fleet.now c.args.fresh.now.items c.step_on.new.fresh.items (view_of_host c.args.host.now) n c.step_on.result) (sym c.in-Step.is) c.step_on.ensures.leads

pub returns-in-Toward-clause-leads : goal.returns-in-Toward-clause-leads
returns-in-Toward-clause-leads c = λ many r same.
    let hosts = c.args.fleet.now in
    let d = view_of_host c.args.host.now in
    let g = c.step_toward.ensures.leads c.args.fresh.now.items (dvr_walk hosts many) r same in
    record {
      next = g.next;
      adds = g.adds;
      same = ap (next_fate (dvr_walk hosts (suc many)) d r) c.in-Toward.is ∙ walk_toward hosts many d c.in-Toward.network c.in-Toward.to.now (packet_of c.in-Toward.packet) r ∙ g.same;
    }

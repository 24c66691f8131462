use Rattle.std.proofs.Common.{◌∙◌, ap, sym}
use Rattle.std.specs.Prelude.{find}
use Rattle.dvr_fabric.proofs.TellsLemmas.{adds_nothing}
use Rattle.dvr_fabric.specs.Found.{view_of_host}
use Rattle.dvr_fabric.specs.Positions.{ids_of}
use Rattle.dvr_types.specs.DvrFabric.{is_dvr_named, over_dvr_tunnel}
use Rattle.dvr_fabric.proofs.advance.step_by_tunnel.Goals as goal

pub returns-clause-leads : goal.returns-clause-leads
returns-clause-leads c = λ fresh on r same. record {
  next = r;
  adds = adds_nothing (view_of_host c.args.host.now) r (ids_of c.none.result) fresh c.none.ensures (sym same);
  same = ap (λ f. over_dvr_tunnel on (view_of_host c.args.host.now) c.args.number f r (find (is_dvr_named c.args.name.now) c.args.fleet.now)) (sym c.frame.ensures) ∙ sym (c.cross_tunnel.ensures.led on r);
}

use Rattle.std.proofs.Common.{◌∙◌, ◌<◌, ap, length, subst, sym}
use Rattle.std.specs.Prelude.{slice_get}
use Rattle.dvr_fabric.proofs.PositionLemmas.{after_copy}
use Rattle.dvr_fabric.proofs.TellsLemmas.{adds_passed}
use Rattle.dvr_fabric.specs.Found.{view_of_host}
use Rattle.dvr_fabric.specs.Positions.{ids_of}
use Rattle.dvr_fabric.specs.Steps.{ids_after, view_of_copy_step}
use Rattle.dvr_types.specs.DvrFabric.{with_passed}
use Rattle.dvr_fabric.proofs.advance.step_by_copy.Goals as goal

pub returns-clause-within : goal.returns-clause-within
returns-clause-within c = subst (λ n. n < length c.args.fleet.now) (sym c.follow_copy.ensures.at) c.requires.0

pub returns-clause-leads : goal.returns-clause-leads
returns-clause-leads c = λ fresh on r same.
    let hosts = c.args.fleet.now in
    let d = view_of_host c.args.host.now in
    let router = c.args.handled.now.router in
    let s = view_of_copy_step c.args.handled.now.step in
    record {
      next = with_passed r (ids_after router s);
      adds = adds_passed d r (ids_of c.copy_path.result) (ids_after router s) fresh c.copy_path.ensures (sym same);
      same = after_copy on d r router s c.follow_copy.result.next (slice_get hosts c.follow_copy.result.at)
          (ap (slice_get hosts) c.follow_copy.ensures.at ∙ c.requires.1) (c.follow_copy.ensures.next on);
    }

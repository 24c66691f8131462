use Rattle.std.proofs.Common.{◌∙◌, ap, refl, sym}
use Rattle.std.proofs.lemmas.Result.{IfOk-weaker}
use Rattle.dvr_fabric.proofs.TellsLemmas.{told-verdict}
use Rattle.dvr_fabric.specs.Beginnings.{start_fate}
use Rattle.dvr_fabric.specs.Positions.{Tells}
use Rattle.dvr_types.specs.DvrFabric.{fate_of_dvr, run_nowhere}
use Rattle.dvr_types.specs.DvrVerdicts.{verdict_of_dvr}
use Rattle.plane_types.specs.declared.verdict.Outcome.TheVariants.{Dropped}
use Rattle.dvr_fabric.proofs.send.send_over.Goals as goal

pub returns-in-At : goal.returns-in-At
returns-in-At c =
    let hosts = c.args.fleet.now in
    IfOk-weaker c.send_from.result _ _
    (λ v h. h ∙ ap (verdict_of_dvr hosts) (ap (start_fate hosts c.args.event.now) (sym c.in-At.is) ∙ c.begin.ensures.begun))
    c.send_from.ensures

pub returns-in-Dropped : goal.returns-in-Dropped
returns-in-Dropped c =
    let hosts = c.args.fleet.now in
    let told : Tells hosts c.new.result run_nowhere = record { path = c.new.ensures.path; fresh = c.new.ensures.fresh; made = c.new.ensures.made; makers = refl; passed = c.new.ensures.hosts } in
    c.verdict_of.ensures
    ∙ told-verdict hosts (Dropped c.in-Dropped.cause) c.new.result (fate_of_dvr run_nowhere (Dropped c.in-Dropped.cause)) refl told
    ∙ ap (verdict_of_dvr hosts) (ap (start_fate hosts c.args.event.now) (sym c.in-Dropped.is) ∙ c.begin.ensures.begun)

use Rattle.std.proofs.Common.{◌≡◌, subst, sym}
use Rattle.dvr_fabric.proofs.PositionLemmas.{began_at_tap, no_tap}
use Rattle.dvr_fabric.specs.Beginnings.{start_fate}
use Rattle.dvr_fabric.specs.declared.begin.Start.TheVariants.{At as StartAt, Dropped as StartDropped}
use Rattle.dvr_types.specs.DvrFabric.{dvr_fate}
use Rattle.plane_types.specs.declared.verdict.DropCause.TheVariants.{Dead}
use Rattle.dvr_fabric.proofs.begin.begin.Goals as goal

pub returns-in-Some-clause-begun : goal.returns-in-Some-clause-begun
returns-in-Some-clause-begun c =
    subst (λ e. start_fate c.args.fleet.now e (StartAt c.in-Some.at) ≡ dvr_fate c.args.fleet.now e) (sym c.in-FromPort.is)
    (began_at_tap c.args.fleet.now c.in-FromPort.port _ c.in-Some.at c.in-Some.ensures.0 c.in-Some.ensures.1)

pub returns-in-None-clause-begun : goal.returns-in-None-clause-begun
returns-in-None-clause-begun c =
    subst (λ e. start_fate c.args.fleet.now e (StartDropped Dead) ≡ dvr_fate c.args.fleet.now e) (sym c.in-FromPort.is)
    (no_tap c.args.fleet.now c.in-FromPort.port _ c.in-None.ensures)

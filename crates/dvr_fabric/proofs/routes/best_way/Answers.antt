use Rattle.std.proofs.Common.{arith}
use Rattle.std.specs.Prelude.{option_copied, option_map}
use Rattle.plane_types.specs.TableStep.{way_at}
use Rattle.dvr_fabric.proofs.RouteLists.{best_next, best_of_none}
use Rattle.dvr_fabric.proofs.routes.best_way.Goals as goal

pub loop-left-init : goal.loop-left-init
loop-left-init c = (omega arith, best_of_none c.args.router c.args.destination.now c.args.routes.now)

pub loop-left-preserved : goal.loop-left-preserved
loop-left-preserved c = (
  omega (arith, c.loop-left.invariant.0),
  best_next c.args.router c.args.destination.now c.args.routes.now c.loop-left.left c.index-routes-left.result (option_map way_at (option_copied c.loop-left.best)) (option_map way_at (option_copied c.better_for-best.result)) c.loop-left-test.true (omega (arith, c.loop-left.invariant.0, c.loop-left-test.true)) c.index-routes-left.is c.loop-left.invariant.1 c.better_for-best.ensures,
)

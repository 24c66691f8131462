use Rattle.std.proofs.Common.{sym}
use Rattle.api_floating.proofs.AimLemmas.{fixed_four}
use Rattle.plan_floatings.proofs.asked.target_at.Goals as goal

pub target_by-requires : goal.target_by-requires
target_by-requires c = fixed_four c.args.address c.as_slice.result.now c.in-Some.fixed.now (sym c.in-Some.ensures)

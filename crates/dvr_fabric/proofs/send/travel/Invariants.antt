use Rattle.std.proofs.Common.{◌≡◌, ◌-◌, ◌<◌, length}
use Rattle.dvr_types.specs.DvrFabric.{DvrRun as TheRun, dvr_walk}
use Rattle.dvr_fabric.specs.Positions.{Tells, position_fate}
use Rattle.dvr_fabric.proofs.send.travel.Given as goal

-- what a walk from here comes to, is what one from the first position comes to
abbrev pub invariant-loop-steps : goal.invariant-loop-steps
invariant-loop-steps l =
    (l.position.at < length l.fleet)
    × ((r : TheRun) → Tells l.fleet l.fn.run r
    → (s : TheRun) × Tells l.fleet l.run s × (position_fate l.fleet (dvr_walk l.fleet (l.many - l.steps)) l.position s ≡ position_fate l.fleet (dvr_walk l.fleet l.many) l.fn.position r))

use Rattle.std.proofs.Common.{◌≡◌, ◌+◌, ◌-◌, ◌≤◌, length}
use Rattle.plane_types.specs.Fabric.{Run as TheRun, run_from, walk}
use Rattle.fabric_run.specs.Views.{IsWithin, Tells, position_fate}
use Rattle.fabric_run.proofs.trip.travel.Given as goal

-- what a walk from here comes to, is what one from the first place comes to
abbrev pub invariant-loop-looks : goal.invariant-loop-looks
invariant-loop-looks g l =
    (r : TheRun) × Tells (g.F.Fleet.hosts l.fleet) l.run r × IsWithin (g.F.Fleet.hosts l.fleet) l.position × (258 ≤ l.run.fresh.spare + length l.run.fresh.items)
    × (position_fate (g.F.Fleet.hosts l.fleet) (walk (g.F.Fleet.hosts l.fleet) (l.many - l.looks)) l.position r ≡ position_fate (g.F.Fleet.hosts l.fleet) (walk (g.F.Fleet.hosts l.fleet) l.many) l.fn.position (run_from l.fn.run.path))

use Rattle.std.proofs.Common.{◌≡◌, drop}
use Rattle.std.specs.Prelude.{find}
use Rattle.fabric_run.specs.Views.{is_sought_in}
use Rattle.fabric_run.proofs.taker.first.Given as goal

-- none so far is sought
abbrev pub invariant-loop-at : goal.invariant-loop-at
invariant-loop-at g l = find (is_sought_in l.sought) (drop l.at (g.F.Fleet.hosts l.fleet)) ≡ find (is_sought_in l.sought) (g.F.Fleet.hosts l.fleet)

use Rattle.std.proofs.Common.{◌≡◌, drop}
use Rattle.std.specs.Prelude.{find}
use Rattle.dvr_fabric.specs.Found.{is_sought_in}
use Rattle.dvr_fabric.proofs.find.find_host.Given as goal

-- none so far is sought
abbrev pub invariant-loop-at : goal.invariant-loop-at
invariant-loop-at l = find (is_sought_in l.sought) (drop l.at l.fleet) ≡ find (is_sought_in l.sought) l.fleet

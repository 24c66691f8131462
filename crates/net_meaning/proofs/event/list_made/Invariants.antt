use Rattle.std.proofs.Common.{◌≡◌, map, take}
use Rattle.plane_types.specs.Verdicts.{of_nobody}
use Rattle.net_meaning.proofs.event.list_made.Given as goal

-- the entries so far are told
abbrev pub invariant-loop-entry : goal.invariant-loop-entry
invariant-loop-entry l = l.made ≡ map of_nobody (take l.entry-index l.fresh)

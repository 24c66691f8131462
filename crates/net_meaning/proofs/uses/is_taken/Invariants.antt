use Rattle.std.proofs.Common.{◌≡◌, drop, map}
use Rattle.plane_types.specs.Routing.{is_taken as taken}
use Rattle.plane_types.specs.Parts.{use_of}
use Rattle.net_meaning.proofs.uses.is_taken.Given as goal

-- none so far has the port
abbrev pub invariant-loop-entry : goal.invariant-loop-entry
invariant-loop-entry l = taken (map use_of (drop l.entry-index l.uses)) l.key l.port ≡ taken (map use_of l.uses) l.key l.port

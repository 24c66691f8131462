use Rattle.std.proofs.Common.{◌≡◌, Some, drop, map}
use Rattle.std.specs.Prelude.{find}
use Rattle.plane_types.specs.Routing.{answers as answers_to}
use Rattle.plane_types.specs.Parts.{packet_of, use_of}
use Rattle.net_meaning.proofs.uses.answering.Given as goal

-- none so far answers
abbrev pub invariant-loop-entry : goal.invariant-loop-entry
invariant-loop-entry l = find (answers_to (Some l.outer) (packet_of l.packet)) (map use_of (drop l.entry-index l.uses)) ≡ find (answers_to (Some l.outer) (packet_of l.packet)) (map use_of l.uses)

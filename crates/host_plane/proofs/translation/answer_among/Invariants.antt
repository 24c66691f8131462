use Rattle.std.proofs.Common.{◌≡◌, Some, drop}
use Rattle.std.specs.Prelude.{find}
use Rattle.std.specs.List.{filter_map}
use Rattle.plane_types.specs.Routing.{answers as answers_to}
use Rattle.plane_types.specs.Parts.{packet_of, use_if}
use Rattle.host_plane.proofs.translation.answer_among.Given as goal

-- none so far answers
abbrev pub invariant-loop-entry : goal.invariant-loop-entry
invariant-loop-entry l =
    find (answers_to (Some l.outer) (packet_of l.packet)) (filter_map (use_if l.router l.outer) (drop l.entry-index l.entries))
    ≡ find (answers_to (Some l.outer) (packet_of l.packet)) (filter_map (use_if l.router l.outer) l.entries)

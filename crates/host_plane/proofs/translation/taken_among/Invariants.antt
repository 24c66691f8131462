use Rattle.std.proofs.Common.{◌≡◌, drop}
use Rattle.std.specs.List.{filter_map}
use Rattle.plane_types.specs.Routing.{is_taken as taken}
use Rattle.plane_types.specs.Parts.{use_if}
use Rattle.host_plane.proofs.translation.taken_among.Given as goal

-- none so far has the port
abbrev pub invariant-loop-entry : goal.invariant-loop-entry
invariant-loop-entry l = taken (filter_map (use_if l.router l.outer) (drop l.entry-index l.entries)) l.key l.port ≡ taken (filter_map (use_if l.router l.outer) l.entries) l.key l.port

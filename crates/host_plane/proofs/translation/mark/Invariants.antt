use Rattle.std.proofs.Common.{◌≡◌, ◌<◌, ℕ, false, drop, get_or}
use Rattle.std.specs.Prelude.{◌||◌}
use Rattle.std.specs.List.{filter_map}
use Rattle.plane_types.specs.Routing.{is_taken as taken}
use Rattle.plane_types.specs.Parts.{use_if}
use Rattle.host_plane.proofs.translation.mark.Given as goal

-- the marks so far, and those of the entries that are left, are all
abbrev pub invariant-loop-entry : goal.invariant-loop-entry
invariant-loop-entry l =
    (port : ℕ) → port < 65536 → (get_or l.marks port false || taken (filter_map (use_if l.router l.outer) (drop l.entry-index l.entries)) l.key port)
    ≡ (get_or l.fn.marks port false || taken (filter_map (use_if l.router l.outer) l.entries) l.key port)

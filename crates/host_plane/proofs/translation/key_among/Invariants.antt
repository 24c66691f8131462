use Rattle.std.proofs.Common.{◌≡◌, drop}
use Rattle.std.specs.Prelude.{find}
use Rattle.std.specs.List.{filter_map}
use Rattle.plane_types.specs.Keys.{key_eq}
use Rattle.plane_types.specs.Routing.{Use}
use Rattle.plane_types.specs.Parts.{use_if}
use Rattle.host_plane.proofs.translation.key_among.Given as goal

-- none so far has the key
abbrev pub invariant-loop-entry : goal.invariant-loop-entry
invariant-loop-entry l =
    find (λ (u : Use). key_eq u.key l.key) (filter_map (use_if l.router l.outer) (drop l.entry-index l.entries))
    ≡ find (λ (u : Use). key_eq u.key l.key) (filter_map (use_if l.router l.outer) l.entries)

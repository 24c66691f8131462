use Rattle.std.proofs.Common.{◌≡◌, drop, map}
use Rattle.std.specs.Prelude.{find}
use Rattle.plane_types.specs.Keys.{key_eq}
use Rattle.plane_types.specs.Routing.{Use}
use Rattle.plane_types.specs.Parts.{use_of}
use Rattle.net_meaning.proofs.uses.with_key.Given as goal

-- none so far has the key
abbrev pub invariant-loop-entry : goal.invariant-loop-entry
invariant-loop-entry l = find (λ (u : Use). key_eq u.key l.key) (map use_of (drop l.entry-index l.uses)) ≡ find (λ (u : Use). key_eq u.key l.key) (map use_of l.uses)

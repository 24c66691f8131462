use Rattle.std.proofs.Common.{◌≡◌, ◌<◌, ℕ, false, drop, get_or, map}
use Rattle.std.specs.Prelude.{◌||◌}
use Rattle.plane_types.specs.Routing.{is_taken as taken}
use Rattle.plane_types.specs.Parts.{use_of}
use Rattle.net_meaning.proofs.uses.mark.Given as goal

-- the marks so far, and those of the entries that are left, are all
abbrev pub invariant-loop-entry : goal.invariant-loop-entry
invariant-loop-entry l =
    (port : ℕ) → port < 65536 → (get_or l.marks port false || taken (map use_of (drop l.entry-index l.uses)) l.key port)
    ≡ (get_or l.fn.marks port false || taken (map use_of l.uses) l.key port)

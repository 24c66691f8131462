use Rattle.std.proofs.Common.{◌≡◌, ◌++◌, drop, map}
use Rattle.std.specs.List.{filter_map}
use Rattle.plane_types.specs.Parts.{use_if, use_of}
use Rattle.net_meaning.proofs.uses.add_uses.Given as goal

-- those so far, and those among the entries that are left, are all
abbrev pub invariant-loop-entry : goal.invariant-loop-entry
invariant-loop-entry l =
    map use_of l.uses.items ++ filter_map (use_if l.router l.outer) (drop l.entry-index l.entries) ≡ map use_of l.fn.uses.items ++ filter_map (use_if l.router l.outer) l.entries

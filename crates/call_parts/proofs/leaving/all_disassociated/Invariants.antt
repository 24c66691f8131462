use Rattle.std.proofs.Common.{◌≡◌, ◌++◌, drop, filter, map}
use Rattle.api_types.specs.Lists.{is_some_so}
use Rattle.api_types.specs.declared.floating.FloatingRow.{FloatingRow}
use Rattle.call_parts.specs.Leaving.{disassociated, loses_target}
use Rattle.call_parts.proofs.leaving.all_disassociated.Given as goal

-- those so far, and those that are left, are all
abbrev pub invariant-loop-floating : goal.invariant-loop-floating
invariant-loop-floating l =
    l.lost.items ++ map disassociated (filter (λ (f : FloatingRow). is_some_so (loses_target l.port l.kept) f.target) (drop l.floating-index l.floatings))
    ≡ map disassociated (filter (λ (f : FloatingRow). is_some_so (loses_target l.port l.kept) f.target) l.floatings)

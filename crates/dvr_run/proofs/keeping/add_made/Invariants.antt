use Rattle.std.proofs.Common.{drop, length, ◌++◌, ◌≡◌, ◌≤◌}
use Rattle.std.specs.List.{filter_map}
use Rattle.plane_types.specs.Verdicts.{made_at}
use Rattle.dvr_run.proofs.keeping.add_made.Given as goal

-- those so far are added, with those that are left they are all, and there is room for these
abbrev pub invariant-loop-made : goal.invariant-loop-made
invariant-loop-made l =
    (l.entries.items ++ filter_map (made_at l.place) (drop l.made-index l.fresh) ≡ l.fn.entries.items ++ filter_map (made_at l.place) l.fresh)
    × (length (drop l.made-index l.fresh) ≤ l.entries.spare)

use Rattle.std.proofs.Common.{◌≡◌, ◌≤◌, ◌++◌, drop, length, take}
use Rattle.lab_world.proofs.each.add_entries.Given as goal

-- those so far are added, and there is room for the others
abbrev pub invariant-loop-entry : goal.invariant-loop-entry
invariant-loop-entry l =
    (l.entries.items ≡ l.fn.entries.items ++ take l.entry-index l.more) × (length (drop l.entry-index l.more) ≤ l.entries.spare)

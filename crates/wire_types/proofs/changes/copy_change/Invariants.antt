use Rattle.std.proofs.Common.{◌≡◌, take}
use Rattle.wire_types.proofs.changes.copy_change.Given as goal

-- the items so far
abbrev pub invariant-loop-item : goal.invariant-loop-item
invariant-loop-item l = l.items ≡ take l.item-index l.item-items

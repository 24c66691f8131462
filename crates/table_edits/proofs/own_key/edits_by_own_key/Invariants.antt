use Rattle.std.proofs.Common.{◌≡◌, ◌++◌, map, take}
use Rattle.table_edits.proofs.own_key.edits_by_own_key.Given as goal

-- the keys so far are those that were handed over, and those of the rows so far
abbrev pub invariant-loop-row : goal.invariant-loop-row
invariant-loop-row g l = l.keys.items ≡ l.fn.keys.items ++ map g.R.OwnKey.key_of (take l.row-index l.given)

use Rattle.std.proofs.Common.{◌≡◌, ◌++◌, map, drop}
use Rattle.old_rows.proofs.list.migrate_all.Given as goal

-- those so far, and those that are left, are all
abbrev pub invariant-loop-item : goal.invariant-loop-item
invariant-loop-item g l = l.items ++ map g.T.Migrates.migrated (drop l.item-index l.item-items) ≡ map g.T.Migrates.migrated l.old

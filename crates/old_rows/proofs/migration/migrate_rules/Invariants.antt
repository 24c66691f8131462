use Rattle.std.proofs.Common.{◌≡◌, map, take}
use Rattle.old_rows.specs.Migrated.{migrated_rule}
use Rattle.old_rows.proofs.migration.migrate_rules.Given as goal

-- those in front of the place are migrated
abbrev pub invariant-loop-row : goal.invariant-loop-row
invariant-loop-row l = l.rows ≡ record l.fn.rows { rules = map migrated_rule (take l.row-index l.old) }

use Rattle.std.proofs.Common.{◌≡◌, map, take}
use Rattle.old_rows.specs.Migrated.{migrated_subnet}
use Rattle.old_rows.proofs.migration.migrate_subnets.Given as goal

-- those in front of the place are migrated
abbrev pub invariant-loop-row : goal.invariant-loop-row
invariant-loop-row l = l.rows ≡ record l.fn.rows { subnets = map migrated_subnet (take l.row-index l.old) }

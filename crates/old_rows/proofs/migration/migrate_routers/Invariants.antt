use Rattle.std.proofs.Common.{◌≡◌, map, take}
use Rattle.old_rows.specs.Migrated.{migrated_router}
use Rattle.old_rows.proofs.migration.migrate_routers.Given as goal

-- those in front of the place are migrated
abbrev pub invariant-loop-row : goal.invariant-loop-row
invariant-loop-row l = l.rows ≡ record l.fn.rows { routers = map migrated_router (take l.row-index l.old) }

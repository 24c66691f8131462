use Rattle.std.proofs.Common.{◌≡◌, map, take}
use Rattle.old_rows.specs.Migrated.{migrated_port}
use Rattle.old_rows.proofs.migration.migrate_ports.Given as goal

-- those in front of the place are migrated
abbrev pub invariant-loop-row : goal.invariant-loop-row
invariant-loop-row l = l.rows ≡ record l.fn.rows { ports = map migrated_port (take l.row-index l.old) }

use Rattle.std.proofs.Common.{◌≡◌, ◌∙◌, slice_get, refl, sym, ap}
use Rattle.std.proofs.lemmas.Option.{slice_get_read}
use Rattle.api_types.specs.declared.port.PortRow.{PortRow}
use Rattle.old_rows.specs.Migrated.{migrated_port}
use Rattle.old_rows.specs.declared.port.OldPort.{OldPort}
use Rattle.old_rows.proofs.MigrationLemmas.{next_rows}
use Rattle.old_rows.proofs.migration.migrate_ports.Goals as goal

pub loop-row-preserved : goal.loop-row-preserved
loop-row-preserved c =
    next_rows migrated_port (λ (r : OldPort). r.id) (λ (r : PortRow). r.id) (λ r. refl) (λ rows. rows.ports) (λ rows ys. record rows { ports = ys }) (λ rows ys. refl) (λ rows ys zs. refl)
    c.args.old.now c.loop-row.row-index c.row-item.result c.rows-row-items.ensures.own_ids
    (ap (λ xs. slice_get xs c.loop-row.row-index) (sym c.rows-row-items.ensures.rows) ∙ slice_get_read c.rows-row-items.result.now _ _ _ refl c.loop-row-test.true c.row-item.is)
    c.args.rows.now c.loop-row.rows c.add_port.new.self c.in_ok-migrate.field-0 c.in_ok-add_port.field-0
    c.loop-row.invariant c.in_ok-migrate.ensures c.in_ok-add_port.ensures.added.0 c.in_ok-add_port.ensures.added.1

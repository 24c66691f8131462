use Rattle.std.proofs.Common.{◌≡◌, ◌∙◌, slice_get, refl, sym, ap}
use Rattle.std.proofs.lemmas.Option.{slice_get_read}
use Rattle.api_types.specs.declared.subnet.SubnetRow.{SubnetRow}
use Rattle.old_rows.specs.Migrated.{migrated_subnet}
use Rattle.old_rows.specs.declared.subnet.OldSubnet.{OldSubnet}
use Rattle.old_rows.proofs.MigrationLemmas.{next_rows}
use Rattle.old_rows.proofs.migration.migrate_subnets.Goals as goal

pub loop-row-preserved : goal.loop-row-preserved
loop-row-preserved c =
    next_rows migrated_subnet (λ (r : OldSubnet). r.id) (λ (r : SubnetRow). r.id) (λ r. refl) (λ rows. rows.subnets) (λ rows ys. record rows { subnets = ys }) (λ rows ys. refl) (λ rows ys zs. refl)
    c.args.old.now c.loop-row.row-index c.row-item.result c.rows-row-items.ensures.own_ids
    (ap (λ xs. slice_get xs c.loop-row.row-index) (sym c.rows-row-items.ensures.rows) ∙ slice_get_read c.rows-row-items.result.now _ _ _ refl c.loop-row-test.true c.row-item.is)
    c.args.rows.now c.loop-row.rows c.add_subnet.new.self c.in_ok-migrate.field-0 c.in_ok-add_subnet.field-0
    c.loop-row.invariant c.in_ok-migrate.ensures c.in_ok-add_subnet.ensures.added.0 c.in_ok-add_subnet.ensures.added.1

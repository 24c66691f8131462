use Rattle.std.proofs.Common.{◌≡◌, ◌∙◌, slice_get, refl, sym, ap}
use Rattle.std.proofs.lemmas.Option.{slice_get_read}
use Rattle.api_types.specs.declared.router.RouterRow.{RouterRow}
use Rattle.old_rows.specs.Migrated.{migrated_router}
use Rattle.old_rows.specs.declared.router.OldRouter.{OldRouter}
use Rattle.old_rows.proofs.MigrationLemmas.{next_rows}
use Rattle.old_rows.proofs.migration.migrate_routers.Goals as goal

pub loop-row-preserved : goal.loop-row-preserved
loop-row-preserved c =
    next_rows migrated_router (λ (r : OldRouter). r.id) (λ (r : RouterRow). r.id) (λ r. refl) (λ rows. rows.routers) (λ rows ys. record rows { routers = ys }) (λ rows ys. refl) (λ rows ys zs. refl)
    c.args.old.now c.loop-row.row-index c.row-item.result c.rows-row-items.ensures.own_ids
    (ap (λ xs. slice_get xs c.loop-row.row-index) (sym c.rows-row-items.ensures.rows) ∙ slice_get_read c.rows-row-items.result.now _ _ _ refl c.loop-row-test.true c.row-item.is)
    c.args.rows.now c.loop-row.rows c.add_router.new.self c.in_ok-migrate.field-0 c.in_ok-add_router.field-0
    c.loop-row.invariant c.in_ok-migrate.ensures c.in_ok-add_router.ensures.added.0 c.in_ok-add_router.ensures.added.1

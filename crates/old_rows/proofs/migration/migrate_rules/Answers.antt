use Rattle.std.proofs.Common.{◌≡◌, ◌∙◌, slice_get, refl, sym, ap}
use Rattle.std.proofs.lemmas.Option.{slice_get_read}
use Rattle.api_types.specs.declared.group.RuleRow.{RuleRow}
use Rattle.old_rows.specs.Migrated.{migrated_rule}
use Rattle.old_rows.specs.declared.rule.OldRule.{OldRule}
use Rattle.old_rows.proofs.MigrationLemmas.{next_rows}
use Rattle.old_rows.proofs.migration.migrate_rules.Goals as goal

pub loop-row-preserved : goal.loop-row-preserved
loop-row-preserved c =
    next_rows migrated_rule (λ (r : OldRule). r.id) (λ (r : RuleRow). r.id) (λ r. refl) (λ rows. rows.rules) (λ rows ys. record rows { rules = ys }) (λ rows ys. refl) (λ rows ys zs. refl)
    c.args.old.now c.loop-row.row-index c.row-item.result c.rows-row-items.ensures.own_ids
    (ap (λ xs. slice_get xs c.loop-row.row-index) (sym c.rows-row-items.ensures.rows) ∙ slice_get_read c.rows-row-items.result.now _ _ _ refl c.loop-row-test.true c.row-item.is)
    c.args.rows.now c.loop-row.rows c.add_rule.new.self c.in_ok-migrate.field-0 c.in_ok-add_rule.field-0
    c.loop-row.invariant c.in_ok-migrate.ensures c.in_ok-add_rule.ensures.added.0 c.in_ok-add_rule.ensures.added.1

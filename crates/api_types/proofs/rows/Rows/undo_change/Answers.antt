use Rattle.std.proofs.Common.{◌∙◌, ap}
use Rattle.api_types.specs.Rows.{before}
use Rattle.api_types.proofs.ChangeLemmas.{change_undone}
use Rattle.api_types.proofs.rows.Rows.undo_change.Goals as goal

pub returns-clause-old_rows : goal.returns-clause-old_rows
returns-clause-old_rows c rows fits led =
    c.in_ok-undo_items.ensures
    ∙ (λ j. before (c.in_ok-made.ensures j) (c.as_slice.ensures j))
    ∙ ap (λ r. before r c.args.change.now) led ∙ change_undone rows c.args.change.now fits

use Rattle.std.proofs.Common.{subst, sym}
use Rattle.std.specs.Prelude.{nat_lt}
use Rattle.std.specs.List.{filter_map}
use Rattle.std.proofs.lemmas.Result.{IfOk-weaker}
use Rattle.plane_types.specs.Keyed.{rows_by_key}
use Rattle.plane_types.specs.Numbered.{numbered_after, rows_after, with_numbers}
use Rattle.table_edits.specs.Rewires.{Rewires}
use Rattle.table_edits.proofs.NumberedLaw.{rows_lead}
use Rattle.table_edits.proofs.by_row.edits_by_row.Goals as goal

pub returns : goal.returns
returns g c =
    let came = g.T.ByRow.came c.args.table.now in
    let comes = g.T.ByRow.comes c.args.table.now in
    let rows = c.args.numbers.now.rows in
    let items = c.args.numbers.now.items in
    IfOk-weaker c.edits_of.result _ _
    (λ es are.
    subst
    (λ old. Rewires nat_lt (rows_by_key nat_lt came (with_numbers 0 rows)) (rows_by_key nat_lt comes (numbered_after rows items)) old (filter_map comes (rows_after rows items)) es)
    (sym c.requires.rows)
    (rows_lead rows items came comes c.args.touched.now es c.requires.down are c.requires.untouched))
    c.edits_of.ensures

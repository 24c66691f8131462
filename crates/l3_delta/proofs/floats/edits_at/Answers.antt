use Rattle.std.proofs.Common.{◌≡◌, ◌∙◌, ap, sym}
use Rattle.std.specs.Prelude.{nat_lt}
use Rattle.std.specs.List.{filter_map}
use Rattle.std.proofs.Math.Path.{transport}
use Rattle.std.proofs.lemmas.Result.{IfOk-weaker}
use Rattle.api_types.specs.declared.floating.FloatingRow.{FloatingRow}
use Rattle.plane_types.specs.Keyed.{rows_by_key}
use Rattle.plane_types.specs.Numbered.{numbered_after, rows_after, with_numbers}
use Rattle.plane_types.specs.TableRows.{float_row_by, float_rows}
use Rattle.table_edits.specs.Rewires.{Rewires}
use Rattle.table_edits.proofs.KindsAfter.{floatings_after}
use Rattle.l3_delta.proofs.floats.edits_at.Goals as goal

pub edits_by_row-requires-clause-rows : goal.edits_by_row-requires-clause-rows
unfolding float_rows
edits_by_row-requires-clause-rows c =
    let change = c.args.change.now in
    c.floats.ensures ∙ change.realised.floats
    ∙ ap (λ n. filter_map (λ (f : FloatingRow). float_row_by change.before.now change.host.now f f.target) n.rows) (sym c.requires.numbers)

pub returns : goal.returns
unfolding float_rows
returns c =
    let change = c.args.change.now in
    let before = change.before.now in
    let host = change.host.now in
    let items = change.items.now in
    let numbers = c.args.numbers.now in
    let came = λ (f : FloatingRow). float_row_by before host f f.target in
    let comes = λ (f : FloatingRow). float_row_by change.after.now host f f.target in
    let leads = change.leads_on.leads in
    let table : c.floats.result.now ≡ change.tables.now.lists.floats = c.floats.ensures in
    let now : filter_map comes (rows_after numbers.rows numbers.items) ≡ float_rows change.after.now host =
    ap (λ n. filter_map comes (rows_after n.rows n.items)) c.requires.numbers ∙ ap (filter_map comes) (sym (floatings_after before items) ∙ ap (λ r. r.floatings) (sym leads)) in
    IfOk-weaker c.edits_by_row.result _ _
    (λ es are. transport
    (λ j. Rewires nat_lt (rows_by_key nat_lt came (with_numbers 0 (c.requires.numbers j).rows))
    (rows_by_key nat_lt (λ (f : FloatingRow). float_row_by (leads j) host f f.target) (numbered_after (c.requires.numbers j).rows (c.requires.numbers j).items))
    (table j) (now j) es)
    are)
    c.edits_by_row.ensures

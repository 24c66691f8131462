use Rattle.std.proofs.Common.{◌≡◌, ◌∙◌, ap, subst, sym}
use Rattle.std.specs.Prelude.{Option, Some, nat_lt, option_map}
use Rattle.std.specs.List.{filter_map}
use Rattle.std.proofs.Math.Path.{transport}
use Rattle.std.proofs.lemmas.Result.{IfOk-weaker}
use Rattle.api_types.specs.declared.network.NetworkRow.{NetworkRow}
use Rattle.plane_types.specs.Keyed.{rows_by_key}
use Rattle.plane_types.specs.KeyedTables.{tag_row_of}
use Rattle.plane_types.specs.NewTags.{tag_row}
use Rattle.plane_types.specs.Numbered.{numbered_after, rows_after, with_numbers}
use Rattle.plane_types.specs.Realises.{RealisesTags}
use Rattle.plane_types.specs.TableRows.{tag_of}
use Rattle.plane_types.specs.declared.table.TagRow.{TagRow}
use Rattle.table_edits.specs.Rewires.{Rewires}
use Rattle.table_edits.proofs.KindsAfter.{networks_after}
use Rattle.table_edits.proofs.NumberedLaw.{untouched_rows}
use Rattle.l2_delta.proofs.TagLaw.{tags_found, its_network, tag_is_made, realised_after, tag_stays}
use Rattle.l2_delta.proofs.tags.tag_edits.Goals as goal

pub edits_by_row-requires-clause-rows : goal.edits_by_row-requires-clause-rows
edits_by_row-requires-clause-rows c =
    let change = c.args.change.now in
    let before = change.before.now in
    let after = change.after.now in
    let host = change.host.now in
    let tags = change.tables.now.lists.tags in
    let good = change.leads_on.consistent in
    let good_after = change.leads_on.stays_consistent in
    let had = subst (RealisesTags before host) (sym change.had) change.realised.tags in
    let has = realised_after before after host tags change.new change.realised.tags good_after change.given in
    c.tags.ensures ∙ sym (tags_found before host tags good change.realised.tags)
    ∙ (λ j. filter_map (tag_row_of (sym change.had j)) (sym c.requires.numbers j).rows)

pub edits_by_row-requires-clause-sources : goal.edits_by_row-requires-clause-sources
edits_by_row-requires-clause-sources c = λ w r e.
    let change = c.args.change.now in
    let before = change.before.now in
    let after = change.after.now in
    let host = change.host.now in
    let tags = change.tables.now.lists.tags in
    let good = change.leads_on.consistent in
    let good_after = change.leads_on.stays_consistent in
    let had = subst (RealisesTags before host) (sym change.had) change.realised.tags in
    let has = realised_after before after host tags change.new change.realised.tags good_after change.given in
    ap Some (sym (its_network change.old w r e))

pub edits_by_row-requires-clause-untouched : goal.edits_by_row-requires-clause-untouched
edits_by_row-requires-clause-untouched c = λ k away.
    let change = c.args.change.now in
    let before = change.before.now in
    let after = change.after.now in
    let host = change.host.now in
    let tags = change.tables.now.lists.tags in
    let good = change.leads_on.consistent in
    let good_after = change.leads_on.stays_consistent in
    let had = subst (RealisesTags before host) (sym change.had) change.realised.tags in
    let has = realised_after before after host tags change.new change.realised.tags good_after change.given in
    let numbers = c.args.networks.now in
    untouched_rows numbers.rows numbers.items (tag_row_of change.old) (λ w. option_map (tag_row after w.id) (tag_of change.new w.id)) c.args.touched.now c.requires.stay
    (λ k w away at. tag_stays before after host change.old change.new good good_after had has w (c.requires.alike k w away at)) k away

pub returns : goal.returns
returns c =
    let change = c.args.change.now in
    let before = change.before.now in
    let after = change.after.now in
    let host = change.host.now in
    let tags = change.tables.now.lists.tags in
    let good = change.leads_on.consistent in
    let good_after = change.leads_on.stays_consistent in
    let had = subst (RealisesTags before host) (sym change.had) change.realised.tags in
    let has = realised_after before after host tags change.new change.realised.tags good_after change.given in
    let numbers = c.args.networks.now in
    let came : NetworkRow → Option TagRow = (tag_row_of change.old) in
    let comes : NetworkRow → Option TagRow = (λ w. option_map (tag_row after w.id) (tag_of change.new w.id)) in
    let is : NetworkRow → Option TagRow = tag_row_of change.new in
    let made : comes ≡ is = λ j w. tag_is_made after host change.new good_after has w j in
    let table : c.tags.result.now ≡ change.tables.now.lists.tags = c.tags.ensures in
    let networks : rows_after numbers.rows numbers.items ≡ after.networks =
    ap (λ n. rows_after n.rows n.items) c.requires.numbers ∙ sym (networks_after before change.items.now) ∙ ap (λ r. r.networks) (sym change.leads_on.leads) in
    let now = (λ j. filter_map (made j) (networks j)) ∙ tags_found after host change.new good_after has in
    IfOk-weaker c.edits_by_row.result _ _
    (λ es are. transport
    (λ j. Rewires nat_lt (rows_by_key nat_lt came (with_numbers 0 (c.requires.numbers j).rows))
    (rows_by_key nat_lt (made j) (numbered_after (c.requires.numbers j).rows (c.requires.numbers j).items)) (table j) (now j) es)
    are)
    c.edits_by_row.ensures

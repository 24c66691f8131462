use Rattle.std.proofs.Common.{◌≡◌, ◌∙◌, ap, sym}
use Rattle.std.specs.Prelude.{nat_lt}
use Rattle.std.specs.List.{filter_map}
use Rattle.std.proofs.Math.Path.{transport}
use Rattle.std.proofs.lemmas.Result.{IfOk-weaker}
use Rattle.plane_types.specs.Keyed.{rows_by_key}
use Rattle.plane_types.specs.Numbered.{numbered_after, rows_after, with_numbers}
use Rattle.plane_types.specs.TableRows.{tap_row, tap_rows}
use Rattle.plane_types.proofs.StayLemmas.{ports_after}
use Rattle.table_edits.specs.Rewires.{Rewires}
use Rattle.table_edits.proofs.NumberedLaw.{untouched_rows}
use Rattle.l2_delta.proofs.SeenPorts.{tap_seen}
use Rattle.l2_delta.proofs.taps.tap_edits.Goals as goal

pub edits_by_row-requires-clause-rows : goal.edits_by_row-requires-clause-rows
unfolding tap_rows
edits_by_row-requires-clause-rows c =
    let change = c.args.change.now in
    c.taps.ensures ∙ change.realised.taps
    ∙ (λ j. filter_map (tap_row change.before.now change.host.now (sym change.had j)) (sym change.numbered j).rows)

pub edits_by_row-requires-clause-untouched : goal.edits_by_row-requires-clause-untouched
edits_by_row-requires-clause-untouched c = λ k away.
    let change = c.args.change.now in
    let before = change.before.now in
    let now = change.after.now in
    let host = change.host.now in
    untouched_rows change.ports.rows change.ports.items (tap_row before host change.old) (tap_row now host change.new) c.args.ports.now c.requires.stay
    (λ k p away at. tap_seen before now host change.old change.new p (c.requires.networks k p away at)) k away

pub returns : goal.returns
unfolding tap_rows
returns c =
    let change = c.args.change.now in
    let before = change.before.now in
    let host = change.host.now in
    let items = change.items.now in
    let numbers = change.ports in
    let came = tap_row before host change.old in
    let comes = tap_row change.after.now host change.new in
    let leads = change.leads_on.leads in
    let table : c.taps.result.now ≡ change.tables.now.lists.taps = c.taps.ensures in
    let now : filter_map comes (rows_after numbers.rows numbers.items) ≡ tap_rows change.after.now host change.new =
    ap (λ n. filter_map comes (rows_after n.rows n.items)) change.numbered ∙ ap (filter_map comes) (sym (ports_after before items) ∙ ap (λ r. r.ports) (sym leads)) in
    IfOk-weaker c.edits_by_row.result _ _
    (λ es are. transport
    (λ j. Rewires nat_lt (rows_by_key nat_lt came (with_numbers 0 (change.numbered j).rows))
    (rows_by_key nat_lt (tap_row (leads j) host change.new) (numbered_after (change.numbered j).rows (change.numbered j).items))
    (table j) (now j) es)
    are)
    c.edits_by_row.ensures

use Rattle.std.proofs.Common.{◌≡◌, ◌∙◌, None, Option, Some, ap, refl, sym}
use Rattle.std.specs.Prelude.{nat_lt, option_map}
use Rattle.std.specs.HashSet.{contains}
use Rattle.std.proofs.Math.Path.{transport}
use Rattle.std.proofs.lemmas.Result.{IfOk-weaker}
use Rattle.api_types.specs.Live.{is_live}
use Rattle.api_types.specs.RowLists.{RowLists}
use Rattle.api_types.specs.Table.{ident_eq}
use Rattle.api_types.specs.declared.port.PortRow.{PortRow}
use Rattle.plane_types.specs.Keyed.{chunks}
use Rattle.plane_types.specs.KeyedTables.{filter_order, port_filters}
use Rattle.plane_types.specs.Numbered.{numbered_after, rows_after, with_numbers}
use Rattle.plane_types.specs.NumberedRows.{numbered_rows, numbered_rows_after}
use Rattle.plane_types.specs.TableRows.{filter_rows}
use Rattle.table_edits.specs.ChunksSeen.{chunk_rows}
use Rattle.table_edits.specs.EditsAt.{among}
use Rattle.table_edits.specs.NumbersSeen.{Renumbered, at_before}
use Rattle.table_edits.specs.Rewires.{Rewires}
use Rattle.touched_rows.proofs.SeesLemmas.{live_seen}
use Rattle.l2_delta.proofs.FilterLemmas.{left_alone, of_port, rises_after, rises_before, rows_are, rows_were}
use Rattle.l2_delta.proofs.filters.filter_edits.Goals as goal

pub edits_by_chunk-requires-clause-rows : goal.edits_by_chunk-requires-clause-rows
edits_by_chunk-requires-clause-rows c =
    let change = c.args.change.now in
    c.filters-rows.ensures ∙ change.realised.filters ∙ sym (rows_were change.before.now change.items.now change.host.now)
    ∙ ap (λ (n : Renumbered PortRow). chunk_rows (port_filters (numbered_rows change.before.now) change.host.now) n.rows) (sym change.numbered)

pub edits_by_chunk-requires-clause-sources : goal.edits_by_chunk-requires-clause-sources
edits_by_chunk-requires-clause-sources c = λ p.
    let change = c.args.change.now in
    of_port p (numbered_rows change.before.now) change.host.now

pub edits_by_chunk-requires-clause-rise : goal.edits_by_chunk-requires-clause-rise
edits_by_chunk-requires-clause-rise c =
    let change = c.args.change.now in
    rises_before change.before.now change.items.now change.host.now

pub edits_by_chunk-requires-clause-rise_after : goal.edits_by_chunk-requires-clause-rise_after
edits_by_chunk-requires-clause-rise_after c =
    let change = c.args.change.now in
    rises_after change.before.now change.items.now change.host.now

pub edits_by_chunk-requires-clause-untouched : goal.edits_by_chunk-requires-clause-untouched
edits_by_chunk-requires-clause-untouched c = λ k away.
    let change = c.args.change.now in
    let before = change.before.now in
    let items = change.items.now in
    let host = change.host.now in
    let came = port_filters (numbered_rows before) host in
    let comes = port_filters (numbered_rows_after before items) host in
    let gone = ap (among nat_lt k) (sym c.as_slice-2.ensures.value) ∙ away in
    let off = c.in_ok-ports.ensures.touched k gone in
    go came comes (at_before change.ports k) (λ p at.
    left_alone before items host c.args.groups.now c.args.rules.now (contains ident_eq c.in_ok-named.named) c.requires.groups c.requires.rules c.in_ok-named.ensures.groups c.in_ok-named.ensures.rules p
    (live_seen before change.after.now change.old change.new p (c.requires.networks k p off at) ∙ ap (λ (now : RowLists). is_live now p) change.leads_on.leads)
    (c.in_ok-ports.ensures.others k p gone at))
    ∙ ap (option_map comes) (c.requires.stay k off)
  where
    go : {X C : Type 0} (f g : X → C) (o : Option X) → ((p : X) → o ≡ Some p → f p ≡ g p) → option_map f o ≡ option_map g o
    go f g None each = refl
    go f g (Some p) each = ap Some (each p refl)

pub returns : goal.returns
returns c =
    let change = c.args.change.now in
    let before = change.before.now in
    let items = change.items.now in
    let host = change.host.now in
    let came = port_filters (numbered_rows before) host in
    let comes = port_filters (numbered_rows_after before items) host in
    let table : c.filters-rows.result.now ≡ change.tables.now.lists.filters = c.filters-rows.ensures in
    let now : chunk_rows comes (rows_after change.ports.rows change.ports.items) ≡ filter_rows change.after.now host =
    ap (λ (n : Renumbered PortRow). chunk_rows comes (rows_after n.rows n.items)) change.numbered ∙ rows_are before items host ∙ ap (λ (r : RowLists). filter_rows r host) (sym change.leads_on.leads) in
    IfOk-weaker c.edits_by_chunk.result _ _
    (λ es are. transport
    (λ j. Rewires filter_order (chunks came (with_numbers 0 (change.numbered j).rows)) (chunks comes (numbered_after (change.numbered j).rows (change.numbered j).items)) (table j) (now j) es)
    are)
    c.edits_by_chunk.ensures

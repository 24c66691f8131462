use Rattle.std.proofs.Common.{◌≡◌, ◌∙◌, ap, sym}
use Rattle.std.specs.Prelude.{nat_lt, option_and_then}
use Rattle.std.specs.List.{filter_map}
use Rattle.std.proofs.Math.Path.{transport}
use Rattle.std.proofs.lemmas.Result.{IfOk-weaker}
use Rattle.plane_types.specs.Keyed.{rows_by_key}
use Rattle.plane_types.specs.KeyedTables.{hosted_router}
use Rattle.plane_types.specs.Numbered.{numbered_after, rows_after, with_numbers}
use Rattle.plane_types.specs.NumberedRows.{numbered_rows}
use Rattle.plane_types.specs.TableRows.{router_rows}
use Rattle.table_edits.specs.NumbersSeen.{at_after}
use Rattle.table_edits.specs.Rewires.{Rewires}
use Rattle.table_edits.proofs.KindsAfter.{routers_after}
use Rattle.l3_delta.proofs.HostedLemmas.{row_stays}
use Rattle.l3_delta.proofs.TouchedLemmas.{Ports}
use Rattle.l3_delta.proofs.routers.router_edits.Goals as goal

pub edits_by_row-requires-clause-rows : goal.edits_by_row-requires-clause-rows
unfolding router_rows
edits_by_row-requires-clause-rows c =
    let change = c.args.change.now in
    c.routers.ensures ∙ change.realised.routers
    ∙ (λ j. filter_map (hosted_router (numbered_rows change.before.now) change.host.now (sym change.had j)) (sym c.requires.routers j).rows)

pub edits_by_row-requires-clause-untouched : goal.edits_by_row-requires-clause-untouched
edits_by_row-requires-clause-untouched c = λ k off.
    let change = c.args.change.now in
    let routers = c.args.routers.now in
    let s : Ports change.before.now change.after.now change.items.now change.ports routers =
    record { leads_on = change.leads_on; numbered = change.numbered; routed = c.requires.routers } in
    row_stays change.before.now change.after.now change.items.now change.ports routers s change.host.now change.old change.new c.args.touched.now c.requires.named c.requires.stay k off
    ∙ (λ j. option_and_then (hosted_router (numbered_rows (sym c.requires.legs j)) change.host.now change.new) (at_after routers k))

pub returns : goal.returns
unfolding router_rows
returns c =
    let change = c.args.change.now in
    let before = change.before.now in
    let host = change.host.now in
    let items = change.items.now in
    let numbers = c.args.routers.now in
    let came = hosted_router (numbered_rows before) host change.old in
    let comes = hosted_router (numbered_rows change.after.now) host change.new in
    let leads = change.leads_on.leads in
    let table : c.routers.result.now ≡ change.tables.now.lists.routers = c.routers.ensures in
    let legs : c.args.legs.now ≡ change.after.now = c.requires.legs in
    let now : filter_map comes (rows_after numbers.rows numbers.items) ≡ router_rows change.after.now host change.new =
    ap (λ n. filter_map comes (rows_after n.rows n.items)) c.requires.routers ∙ ap (filter_map comes) (sym (routers_after before items) ∙ ap (λ r. r.routers) (sym leads)) in
    IfOk-weaker c.edits_by_row.result _ _
    (λ es are. transport
    (λ j. Rewires nat_lt (rows_by_key nat_lt came (with_numbers 0 (c.requires.routers j).rows))
    (rows_by_key nat_lt (hosted_router (numbered_rows (leads j)) host change.new) (numbered_after (c.requires.routers j).rows (c.requires.routers j).items))
    (table j) (now j) es)
    (transport
    (λ j. Rewires nat_lt (rows_by_key nat_lt came (with_numbers 0 numbers.rows))
    (rows_by_key nat_lt (hosted_router (numbered_rows (legs j)) host change.new) (numbered_after numbers.rows numbers.items))
    c.routers.result.now (filter_map (hosted_router (numbered_rows (legs j)) host change.new) (rows_after numbers.rows numbers.items)) es)
    are))
    c.edits_by_row.ensures

use Rattle.std.proofs.Common.{◌≡◌, ◌∙◌, ap, sym}
use Rattle.std.specs.Prelude.{nat_lt}
use Rattle.std.specs.List.{filter_map}
use Rattle.std.proofs.Math.Path.{transport}
use Rattle.std.proofs.lemmas.Result.{IfOk-weaker}
use Rattle.plane_types.specs.Keyed.{rows_by_key}
use Rattle.plane_types.specs.Numbered.{numbered_after, rows_after, with_numbers}
use Rattle.plane_types.specs.TableRows.{lease_row, lease_rows}
use Rattle.plane_types.proofs.StayLemmas.{ports_after}
use Rattle.table_edits.specs.Rewires.{Rewires}
use Rattle.dhcp_delta.proofs.RowLemmas.{lease_source}
use Rattle.dhcp_delta.proofs.delta.edits_by.Goals as goal

pub edits_by_row-requires-clause-rows : goal.edits_by_row-requires-clause-rows
unfolding lease_rows
edits_by_row-requires-clause-rows c =
    let change = c.args.servers.now.change.now in
    c.leases.ensures ∙ change.realised.leases
    ∙ (λ j. filter_map (lease_row change.before.now change.host.now (sym change.had j)) (sym change.numbered j).rows)

pub returns : goal.returns
unfolding lease_rows
returns c =
    let change = c.args.servers.now.change.now in
    let before = change.before.now in
    let host = change.host.now in
    let items = change.items.now in
    let numbers = change.ports in
    let came = lease_row before host change.old in
    let comes = lease_row change.after.now host change.new in
    let leads = change.leads_on.leads in
    let table : c.leases.result.now ≡ change.tables.now.lists.leases = c.leases.ensures in
    let now : filter_map comes (rows_after numbers.rows numbers.items) ≡ lease_rows change.after.now host change.new =
    ap (λ n. filter_map comes (rows_after n.rows n.items)) change.numbered ∙ ap (filter_map comes) (sym (ports_after before items) ∙ ap (λ r. r.ports) (sym leads)) in
    IfOk-weaker c.edits_by_row.result _ _
    (λ es are. transport
    (λ j. Rewires nat_lt (rows_by_key nat_lt came (with_numbers 0 (change.numbered j).rows))
    (rows_by_key nat_lt (lease_row (leads j) host change.new) (numbered_after (change.numbered j).rows (change.numbered j).items))
    (table j) (now j) es)
    are)
    c.edits_by_row.ensures

pub edits_by_row-requires-clause-sources : goal.edits_by_row-requires-clause-sources
edits_by_row-requires-clause-sources c s r is =
    let change = c.args.servers.now.change.now in
    lease_source change.before.now change.host.now change.old s r is

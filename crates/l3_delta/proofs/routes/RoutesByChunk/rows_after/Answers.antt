use Rattle.std.proofs.Common.{◌≡◌, ◌∙◌, ap, map, sym, true}
use Rattle.std.proofs.lemmas.Result.{IfOk-weaker}
use Rattle.api_types.specs.RouterRows.{ways_of}
use Rattle.plane_types.specs.KeyedTables.{router_routes}
use Rattle.plane_types.specs.NumberedRows.{numbered_rows_after}
use Rattle.plane_types.specs.TableRows.{is_on_host, route_row}
use Rattle.plane_rows.specs.Ways.{way_of}
use Rattle.l3_delta.specs.declared.when.When.TheVariants.{After}
use Rattle.l3_delta.proofs.PortNumbers.{plain_when}
use Rattle.l3_delta.proofs.RouteRows.{keys_of_ways, no_routes, rows_by, rows_of_ways, same_length}
use Rattle.l3_delta.proofs.routes.RoutesByChunk.rows_after.Goals as goal

pub keys_of-requires : goal.keys_of-requires
keys_of-requires c = c.args.self.now.is

pub returns-then-not-is_hosted : goal.returns-then-not-is_hosted
returns-then-not-is_hosted c =
    let change = c.args.self.now.change.now in
    ap (map (λ r. (r.key, r.row))) c.new.ensures.items
    ∙ sym (no_routes (numbered_rows_after change.before.now change.items.now) change.host.now c.args.router.now (sym c.is_hosted.ensures ∙ c.if-not-is_hosted.true))

pub keyed-requires : goal.keyed-requires
keyed-requires c =
    let change = c.args.self.now.change.now in
    let n = numbered_rows_after change.before.now change.items.now in
    let r = c.args.router.now in
    let here : is_on_host change.host.now r ≡ true = sym c.is_hosted.ensures ∙ c.if-not-is_hosted.false in
    let rows = c.args.self.now.is ∙ change.leads_on.leads in
    let plain = plain_when change.before.now change.after.now change.items.now change.ports change.leads_on change.numbered After in
    same_length (router_routes n change.host.now r) c.as_slice.result.now c.as_slice-2.result.now (λ w. route_row r.id (way_of w))
    (keys_of_ways n change.host.now r here ∙ sym (c.as_slice.ensures.value ∙ c.in_ok-keys.ensures))
    (rows_of_ways n change.host.now r plain here
    ∙ ap (map (route_row r.id)) (sym (ap (map way_of) c.as_slice-2.ensures.value ∙ c.in_ok-ways.ensures ∙ ap (λ rows. ways_of rows r) rows))
    ∙ rows_by way_of r.id c.as_slice-2.result.now)

pub returns : goal.returns
returns c =
    let change = c.args.self.now.change.now in
    let n = numbered_rows_after change.before.now change.items.now in
    let r = c.args.router.now in
    let here : is_on_host change.host.now r ≡ true = sym c.is_hosted.ensures ∙ c.if-not-is_hosted.false in
    let rows = c.args.self.now.is ∙ change.leads_on.leads in
    let plain = plain_when change.before.now change.after.now change.items.now change.ports change.leads_on change.numbered After in
    IfOk-weaker c.keyed.result _ _
    (λ rs is. is (router_routes n change.host.now r)
    (keys_of_ways n change.host.now r here ∙ sym (c.as_slice.ensures.value ∙ c.in_ok-keys.ensures))
    (rows_of_ways n change.host.now r plain here
    ∙ ap (map (route_row r.id)) (sym (ap (map way_of) c.as_slice-2.ensures.value ∙ c.in_ok-ways.ensures ∙ ap (λ rows. ways_of rows r) rows))
    ∙ rows_by way_of r.id c.as_slice-2.result.now))
    c.keyed.ensures

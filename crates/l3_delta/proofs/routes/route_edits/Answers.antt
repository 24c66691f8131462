use Rattle.std.proofs.Common.{◌∙◌}
use Rattle.std.proofs.lemmas.Result.{IfOk-weaker}
use Rattle.plane_types.specs.NumberedRows.{numbered_rows}
use Rattle.l3_delta.proofs.RouteRows.{sources_are}
use Rattle.l3_delta.proofs.RoutesLaw.{as_routes, rise, rise_after, routes_stay, rows_before}
use Rattle.l3_delta.proofs.TouchedLemmas.{Ports}
use Rattle.l3_delta.proofs.routes.route_edits.Goals as goal

pub edits_by_chunk-requires-clause-rows : goal.edits_by_chunk-requires-clause-rows
edits_by_chunk-requires-clause-rows c =
    let change = c.args.change.now in
    let routers = c.args.routers.now in
    let s : Ports change.before.now change.after.now change.items.now change.ports routers =
    record { leads_on = change.leads_on; numbered = change.numbered; routed = c.requires.routers } in
    c.routes.ensures ∙ change.realised.routes
    ∙ rows_before change.before.now change.after.now change.items.now change.ports routers s change.host.now change.old change.new c.args.touched.now c.requires.named c.requires.stay

pub edits_by_chunk-requires-clause-sources : goal.edits_by_chunk-requires-clause-sources
edits_by_chunk-requires-clause-sources c =
    let change = c.args.change.now in sources_are (numbered_rows change.before.now) change.host.now

pub edits_by_chunk-requires-clause-rise : goal.edits_by_chunk-requires-clause-rise
edits_by_chunk-requires-clause-rise c =
    let change = c.args.change.now in
    let routers = c.args.routers.now in
    let s : Ports change.before.now change.after.now change.items.now change.ports routers =
    record { leads_on = change.leads_on; numbered = change.numbered; routed = c.requires.routers } in
    rise change.before.now change.after.now change.items.now change.ports routers s change.host.now change.old change.new c.args.touched.now c.requires.named c.requires.stay

pub edits_by_chunk-requires-clause-rise_after : goal.edits_by_chunk-requires-clause-rise_after
edits_by_chunk-requires-clause-rise_after c =
    let change = c.args.change.now in
    let routers = c.args.routers.now in
    let s : Ports change.before.now change.after.now change.items.now change.ports routers =
    record { leads_on = change.leads_on; numbered = change.numbered; routed = c.requires.routers } in
    rise_after change.before.now change.after.now change.items.now change.ports routers s change.host.now change.old change.new c.args.touched.now c.requires.named c.requires.stay

pub edits_by_chunk-requires-clause-untouched : goal.edits_by_chunk-requires-clause-untouched
edits_by_chunk-requires-clause-untouched c =
    let change = c.args.change.now in
    let routers = c.args.routers.now in
    let s : Ports change.before.now change.after.now change.items.now change.ports routers =
    record { leads_on = change.leads_on; numbered = change.numbered; routed = c.requires.routers } in
    routes_stay change.before.now change.after.now change.items.now change.ports routers s change.host.now change.old change.new c.args.touched.now c.requires.named c.requires.stay

pub returns : goal.returns
returns c =
    let change = c.args.change.now in
    let routers = c.args.routers.now in
    let s : Ports change.before.now change.after.now change.items.now change.ports routers =
    record { leads_on = change.leads_on; numbered = change.numbered; routed = c.requires.routers } in
    IfOk-weaker c.edits_by_chunk.result _ _
    (λ es are.
    as_routes change.before.now change.after.now change.items.now change.ports routers s change.host.now change.old change.new c.args.touched.now c.requires.named c.requires.stay
    c.routes.result.now change.tables.now.lists.routes c.routes.ensures es are)
    c.edits_by_chunk.ensures

use Rattle.std.proofs.Common.{◌∙◌, ap, map, sym}
use Rattle.std.proofs.lemmas.Result.{IfOk-weaker}
use Rattle.plane_types.specs.KeyedTables.{WayKey}
use Rattle.plane_types.specs.NumberedRows.{numbered_rows}
use Rattle.plane_types.specs.declared.table.RouteRow.{RouteRow}
use Rattle.l3_delta.proofs.RouteRows.{keys_of_ways, no_routes}
use Rattle.l3_delta.proofs.routes.RoutesByChunk.keys_before.Goals as goal

pub keys_of-requires : goal.keys_of-requires
keys_of-requires c = c.args.self.now.was

pub returns-then-not-is_hosted : goal.returns-then-not-is_hosted
returns-then-not-is_hosted c =
    let change = c.args.self.now.change.now in
    c.new.ensures.items
    ∙ sym (ap (map (λ (x : WayKey × RouteRow). x.0))
    (no_routes (numbered_rows change.before.now) change.host.now c.args.router.now (sym c.is_hosted.ensures ∙ c.if-not-is_hosted.true)))

pub returns : goal.returns
returns c =
    let change = c.args.self.now.change.now in
    IfOk-weaker c.keys_of.result _ _
    (λ ks is. is ∙ sym (keys_of_ways (numbered_rows change.before.now) change.host.now c.args.router.now (sym c.is_hosted.ensures ∙ c.if-not-is_hosted.false)))
    c.keys_of.ensures

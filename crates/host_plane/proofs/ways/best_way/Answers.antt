use Rattle.std.proofs.Common.{◌∙◌, ap}
use Rattle.api_types.specs.Table.{ident_eq}
use Rattle.plane_types.specs.Routing.{best_way}
use Rattle.plane_types.specs.TableStep.{way_at}
use Rattle.plane_types.specs.declared.table.RouteRow.{RouteRow}
use Rattle.plane_types.proofs.RunLemmas.{made_near}
use Rattle.host_plane.proofs.ways.best_way.Goals as goal

pub returns : goal.returns
returns c =
    c.best_among.ensures
    ∙ ap (best_way c.args.destination.now) (made_near (λ (r : RouteRow). ident_eq c.args.router r.router) way_at c.routes_near.result.now c.args.tables.now.lists.routes c.routes_near.ensures)

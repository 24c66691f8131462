use Rattle.std.proofs.Common.{◌∙◌}
use Rattle.std.specs.List.{list_any}
use Rattle.api_types.specs.RouterWays.{interfaces_of}
use Rattle.api_router.specs.Ways.{meets_network}
use Rattle.api_router.proofs.WayLemmas.{met_overlaps}
use Rattle.api_router.proofs.ways.overlaps_interface.Goals as goal

pub returns : goal.returns
returns c =
    let rows = c.args.rows.now in
    let router = c.args.router.now in
    let n = c.args.network.now in
    let subnets = c.rows.ensures.rows ∙ c.subnets.ensures in
    let ports = c.rows-2.ensures.rows ∙ c.ports.ensures in
    c.meets_interface.ensures ∙ ((λ j. list_any (meets_network (subnets j) n.id) (interfaces_of (ports j) router)) ∙ met_overlaps rows (interfaces_of rows.ports router) n)

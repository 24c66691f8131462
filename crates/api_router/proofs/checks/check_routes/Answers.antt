use Rattle.std.proofs.Common.{◌∙◌, List, Option, ap, subst}
use Rattle.std.specs.List.{list_any}
use Rattle.std.specs.Prelude.{option_and_then}
use Rattle.api_types.specs.RouterWays.{is_bad_hop, router_ports}
use Rattle.api_types.specs.Table.{row_of}
use Rattle.api_types.specs.declared.router.RouterRow.{RouterRow}
use Rattle.api_types.specs.declared.subnet.Hop.{Hop}
use Rattle.api_router.specs.RouterChecks.{IsTold, told_if}
use Rattle.api_router.specs.declared.checks.RouterRefusal.TheVariants.{BadRoutes}
use Rattle.api_router.specs.declared.checks.RouterRefusal.{RouterRefusal}
use Rattle.api_router.proofs.checks.check_routes.Goals as goal

pub returns-in-Some : goal.returns-in-Some
returns-in-Some c =
    let rows = c.args.rows.now in
    let told_of_hops : List Hop → RouterRow → Option RouterRefusal = λ hops r. told_if (list_any (is_bad_hop rows.subnets (router_ports rows.ports r)) hops) BadRoutes in
    let told = subst (λ (hops : List Hop). IsTold (told_of_hops hops c.in-Some.router.now) c.check_hops.result) c.as_slice.ensures c.check_hops.ensures in
    subst (λ (o : Option RouterRow). IsTold (option_and_then (told_of_hops c.args.routes.now) o) c.check_hops.result)
    (c.in-Some.ensures ∙ ap (λ (t : List RouterRow). row_of (λ (r : RouterRow). r.id) c.args.router t) c.routers.ensures) told

use Rattle.std.proofs.Common.{◌∙◌, List, Option, ap, subst}
use Rattle.std.specs.Prelude.{option_and_then}
use Rattle.api_types.specs.Table.{row_of}
use Rattle.api_types.specs.declared.router.RouterRow.{RouterRow}
use Rattle.api_types.specs.declared.subnet.Hop.{Hop}
use Rattle.api_router.specs.RouterChecks.{IsTold, bad_gateway}
use Rattle.api_router.proofs.checks.check_gateway.Goals as goal

pub returns-in-Some : goal.returns-in-Some
returns-in-Some c =
    let rows = c.args.rows.now in
    let told = subst (λ (hops : List Hop). IsTold (bad_gateway rows c.args.network hops c.in-Some.router.now) c.check_both.result) c.as_slice.ensures c.check_both.ensures in
    subst (λ (o : Option RouterRow). IsTold (option_and_then (bad_gateway rows c.args.network c.args.routes.now) o) c.check_both.result)
    (c.in-Some.ensures ∙ ap (λ (t : List RouterRow). row_of (λ (r : RouterRow). r.id) c.args.router t) c.routers.ensures) told

use Rattle.std.proofs.Common.{◌∙◌, ap, subst}
use Rattle.std.specs.Prelude.{option_and_then}
use Rattle.api_types.specs.Table.{row_of}
use Rattle.api_types.specs.declared.port.PortRow.{PortRow}
use Rattle.api_policy.specs.Checks.{IsAnswerOf}
use Rattle.api_policy.specs.Uses.{route_in_use}
use Rattle.api_policy.proofs.router_uses.port_route_in_use.Goals as goal

pub returns-in-Some : goal.returns-in-Some
returns-in-Some c =
    subst (λ o. IsAnswerOf (option_and_then (route_in_use c.args.rows.now c.args.caller.now c.args.router.now c.args.routes.now) o) c.route_in_use.result)
    (c.in-Some.ensures ∙ ap (row_of {R = PortRow} (λ p. p.id) c.args.port) c.ports.ensures) c.route_in_use.ensures

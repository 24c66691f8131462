use Rattle.std.proofs.Common.{◌∙◌, List, Option, ap, subst}
use Rattle.std.specs.Prelude.{option_and_then}
use Rattle.api_types.specs.Table.{row_of}
use Rattle.api_types.specs.declared.port.PortRow.{PortRow}
use Rattle.api_router.specs.RouterChecks.{IsTold, bad_port}
use Rattle.api_router.proofs.checks.check_by_port.Goals as goal

pub returns-in-Some : goal.returns-in-Some
returns-in-Some c =
    let rows = c.args.rows.now in
    subst (λ (o : Option PortRow). IsTold (option_and_then (bad_port rows c.args.router.now) o) c.check_port.result)
    (c.in-Some.ensures ∙ ap (λ (t : List PortRow). row_of (λ (r : PortRow). r.id) c.args.id t) c.ports.ensures) c.check_port.ensures

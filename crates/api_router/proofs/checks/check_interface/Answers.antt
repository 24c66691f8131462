use Rattle.std.proofs.Common.{◌∙◌, List, Option, ap, subst}
use Rattle.std.specs.Prelude.{option_and_then}
use Rattle.api_types.specs.Table.{row_of}
use Rattle.api_types.specs.declared.router.RouterRow.{RouterRow}
use Rattle.api_router.specs.RouterChecks.{IsTold, bad_interface}
use Rattle.api_router.proofs.checks.check_interface.Goals as goal

pub returns-in-Some : goal.returns-in-Some
returns-in-Some c =
    let rows = c.args.rows.now in
    subst (λ (o : Option RouterRow). IsTold (option_and_then (bad_interface rows c.args.by.now) o) c.check_by.result)
    (c.in-Some.ensures ∙ ap (λ (t : List RouterRow). row_of (λ (r : RouterRow). r.id) c.args.router t) c.routers.ensures) c.check_by.ensures

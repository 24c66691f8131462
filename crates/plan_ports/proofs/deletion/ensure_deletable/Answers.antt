use Rattle.std.proofs.Common.{◌∙◌, ◌∷◌, [], true, ap, sym}
use Rattle.std.proofs.lemmas.Result.{err_from_is_err_and}
use Rattle.api_types.specs.Refusing.{first_refusal, when}
use Rattle.api_types.specs.declared.refusal.Refusal.TheVariants.{CountersSpent}
use Rattle.api_policy.specs.Permits.{port_delete}
use Rattle.api_policy.specs.Uses.{service_in_use}
use Rattle.call_parts.specs.State.{is_last}
use Rattle.plan_ports.proofs.deletion.ensure_deletable.Goals as goal

pub returns-in_err-port_delete : goal.returns-in_err-port_delete
returns-in_err-port_delete c =
    let state = c.args.asking.now.state in
    let caller = c.args.asking.now.caller in
    let port = c.args.port.now in
    let refused = sym (λ j. port_delete (c.rows.ensures.rows j) (c.caller.ensures j) port) ∙ c.in_err-port_delete.ensures in
    let p = err_from_is_err_and c.from_residual.result c.from_residual.ensures.1 in
    rw (p.1, p.2) (ap (λ r. first_refusal (r ∷ service_in_use state.rows caller true port ∷ when (is_last state) CountersSpent ∷ [])) refused)

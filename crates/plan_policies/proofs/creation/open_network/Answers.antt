use Rattle.std.proofs.Common.{◌∙◌, ap, inr, sym}
use Rattle.std.proofs.lemmas.Result.{err_from_is_err_and}
use Rattle.api_types.specs.Given.{owner_of}
use Rattle.api_policy.specs.Seen.{network_seen}
use Rattle.plan_policies.specs.PolicyCalls.{creation_refusal}
use Rattle.plan_policies.proofs.CallLemmas.{created_refused}
use Rattle.plan_policies.proofs.creation.open_network.Goals as goal

pub returns-in_err-ensure_creatable-clause-err : goal.returns-in_err-ensure_creatable-clause-err
returns-in_err-ensure_creatable-clause-err c =
    let settings = c.args.asking.now.settings in
    let state = c.args.asking.now.state in
    let rows = state.rows in
    let caller = c.args.asking.now.caller in
    let form = c.args.form.now in
    let n = c.in-Some.network.now in
    let found = sym (λ j. network_seen (c.rows.ensures.rows j) (c.caller-caller.ensures j) (c.value_of.ensures j)) ∙ sym c.in-Some.ensures in
    let owned = c.owner-owner.ensures ∙ (λ j. owner_of (c.caller-caller.ensures j) form.project_id form.tenant_id) in
    let refused = ap (λ owner. creation_refusal settings rows caller form owner n) (sym owned) ∙ c.in_err-ensure_creatable.ensures in
    let p = err_from_is_err_and c.from_residual.result c.from_residual.ensures.1 in
    rw (p.1, p.2) (inr (created_refused settings state caller form n c.in_err-ensure_creatable.field-0.0 (sym c.are_unlike.ensures ∙ c.if-are_unlike.false) found refused))

pub returns-clause-ok : goal.returns-clause-ok
returns-clause-ok c =
    let rows = c.args.asking.now.state.rows in
    let caller = c.args.asking.now.caller in
    let form = c.args.form.now in
    let owned = c.owner-owner.ensures ∙ (λ j. owner_of (c.caller-caller.ensures j) form.project_id form.tenant_id) in
    record {
      alike = sym c.are_unlike.ensures ∙ c.if-are_unlike.false;
      seen = sym (λ j. network_seen (c.rows.ensures.rows j) (c.caller-caller.ensures j) (c.value_of.ensures j)) ∙ sym c.in-Some.ensures;
      free = ap (λ owner. creation_refusal c.args.asking.now.settings rows caller form owner c.in-Some.network.now) (sym owned) ∙ c.in_ok-ensure_creatable.ensures;
    }

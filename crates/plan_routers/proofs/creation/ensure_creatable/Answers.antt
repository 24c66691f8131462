use Rattle.std.proofs.Common.{◌≡◌, ◌∙◌, [], ◌∷◌, Option, subst, sym}
use Rattle.std.specs.Prelude.{codes, option_and_then}
use Rattle.std.proofs.lemmas.Result.{err_from_is_err_and}
use Rattle.api_policy.specs.Permits.{admin_only}
use Rattle.api_policy.specs.Quotas.{over_quota}
use Rattle.api_types.specs.Given.{are_unlike}
use Rattle.api_types.specs.Refusing.{when}
use Rattle.api_types.specs.declared.kind.Kind.TheVariants.{Network as NetworkKind, Router as RouterKind}
use Rattle.api_types.specs.declared.refusal.Refusal.TheVariants.{Invalid}
use Rattle.api_types.specs.declared.refusal.Refusal.{Refusal}
use Rattle.call_parts.specs.Answers.{IsRefusalIn, Passes}
use Rattle.call_parts.specs.BodyNames.{unless_found}
use Rattle.plan_routers.specs.Plans.{first_body_refusal, first_standing_refusal}
use Rattle.plan_routers.specs.RouterCalls.{bad_first_gateway, gateway_name, gateway_network, outer_taken}
use Rattle.call_parts.proofs.RefusalLemmas.{first_joined, passed_first, refused_first}
use Rattle.api_policy.specs.Reserved.{router_for_admin}
use Rattle.plan_routers.proofs.creation.ensure_creatable.Goals as goal

pub returns-in_err-ensure_body_valid : goal.returns-in_err-ensure_body_valid
returns-in_err-ensure_body_valid c =
    let settings = c.args.asking.now.settings in
    let rows = c.args.asking.now.state.rows in
    let caller = c.args.asking.now.caller in
    let form = c.args.form.now in
    let owner = c.args.owner.now in
    let network = gateway_network rows caller form in
    let e : Refusal = c.in_err-ensure_body_valid.field-0.0 in
    let body_is : first_body_refusal c.rows.result.now c.caller.result.now form owner ≡ first_body_refusal rows caller form owner = λ j. first_body_refusal (c.rows.ensures.rows j) (c.caller.ensures j) form owner in
    let refused = subst (λ (o : Option Refusal). IsRefusalIn o e) body_is c.in_err-ensure_body_valid.ensures in
    let p = err_from_is_err_and c.from_residual.result c.from_residual.ensures.1 in
    rw (p.1, p.2)
    (subst (λ (o : Option Refusal). IsRefusalIn o e)
    (sym (first_joined ((when (are_unlike form.project_id form.tenant_id) (Invalid (codes "tenant_id"))) ∷ (bad_first_gateway rows caller form owner) ∷ (unless_found NetworkKind (gateway_name form) network) ∷ []) ((admin_only caller (router_for_admin caller form)) ∷ (option_and_then (outer_taken rows) network) ∷ (over_quota settings rows owner RouterKind) ∷ [])))
    (refused_first (first_body_refusal rows caller form owner) (first_standing_refusal settings rows caller form owner) e refused))

pub returns : goal.returns
returns c =
    let settings = c.args.asking.now.settings in
    let rows = c.args.asking.now.state.rows in
    let caller = c.args.asking.now.caller in
    let form = c.args.form.now in
    let owner = c.args.owner.now in
    let network = gateway_network rows caller form in
    let body_is : first_body_refusal c.rows.result.now c.caller.result.now form owner ≡ first_body_refusal rows caller form owner = λ j. first_body_refusal (c.rows.ensures.rows j) (c.caller.ensures j) form owner in
    subst (λ (o : Option Refusal). Passes o c.ensure_allowed.result)
    (sym (first_joined ((when (are_unlike form.project_id form.tenant_id) (Invalid (codes "tenant_id"))) ∷ (bad_first_gateway rows caller form owner) ∷ (unless_found NetworkKind (gateway_name form) network) ∷ []) ((admin_only caller (router_for_admin caller form)) ∷ (option_and_then (outer_taken rows) network) ∷ (over_quota settings rows owner RouterKind) ∷ [])))
    (passed_first (first_body_refusal rows caller form owner) (first_standing_refusal settings rows caller form owner) c.ensure_allowed.result (sym body_is ∙ c.in_ok-ensure_body_valid.ensures) c.ensure_allowed.ensures)

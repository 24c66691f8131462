use Rattle.std.proofs.Common.{[], ◌∷◌, Option, subst, sym}
use Rattle.std.specs.Prelude.{is_some, option_and_then}
use Rattle.std.proofs.lemmas.Result.{err_from_is_err_and}
use Rattle.api_policy.specs.Permits.{admin_only, owner_only}
use Rattle.api_policy.specs.Uses.{gateway_use}
use Rattle.api_types.specs.RouterWays.{interfaces_of}
use Rattle.api_types.specs.declared.kind.Kind.TheVariants.{Network as NetworkKind}
use Rattle.api_types.specs.declared.refusal.Refusal.{Refusal}
use Rattle.call_parts.specs.Answers.{IsRefusalIn, Passes}
use Rattle.call_parts.specs.BodyNames.{unless_found}
use Rattle.plan_routers.specs.Plans.{body_refusal, standing_refusal}
use Rattle.plan_routers.specs.RouterCalls.{gateway_name, gateway_network, lost_gateway, new_gateway, outer_taken}
use Rattle.api_router.specs.RouterRules.{bad_gateway, bad_routes}
use Rattle.call_parts.proofs.RefusalLemmas.{first_joined, passed_first, refused_first}
use Rattle.api_policy.specs.Reserved.{snat_asked}
use Rattle.plan_routers.proofs.update.ensure_changeable.Goals as goal

pub returns-in_err-ensure_body_valid : goal.returns-in_err-ensure_body_valid
returns-in_err-ensure_body_valid c =
    let rows = c.args.rows.now in
    let caller = c.args.caller.now in
    let form = c.args.form.now in
    let old = c.args.old.now in
    let new = c.args.new.now in
    let network = gateway_network rows caller form in
    let e : Refusal = c.in_err-ensure_body_valid.field-0.0 in
    let p = err_from_is_err_and c.from_residual.result c.from_residual.ensures.1 in
    rw (p.1, p.2)
    (subst (λ (o : Option Refusal). IsRefusalIn o e)
    (sym (first_joined ((option_and_then (bad_gateway rows old.project (interfaces_of rows.ports old)) network) ∷ (bad_routes rows old form.routes) ∷ (unless_found NetworkKind (gateway_name form) network) ∷ []) ((admin_only caller (is_some (snat_asked form))) ∷ (owner_only caller old.project) ∷ (gateway_use rows caller old new.routes (lost_gateway old.gateway new.gateway)) ∷ (option_and_then (outer_taken rows) (new_gateway network new.gateway)) ∷ [])))
    (refused_first (body_refusal rows caller form old) (standing_refusal rows caller form old new) e c.in_err-ensure_body_valid.ensures))

pub returns : goal.returns
returns c =
    let rows = c.args.rows.now in
    let caller = c.args.caller.now in
    let form = c.args.form.now in
    let old = c.args.old.now in
    let new = c.args.new.now in
    let network = gateway_network rows caller form in
    subst (λ (o : Option Refusal). Passes o c.ensure_allowed.result)
    (sym (first_joined ((option_and_then (bad_gateway rows old.project (interfaces_of rows.ports old)) network) ∷ (bad_routes rows old form.routes) ∷ (unless_found NetworkKind (gateway_name form) network) ∷ []) ((admin_only caller (is_some (snat_asked form))) ∷ (owner_only caller old.project) ∷ (gateway_use rows caller old new.routes (lost_gateway old.gateway new.gateway)) ∷ (option_and_then (outer_taken rows) (new_gateway network new.gateway)) ∷ [])))
    (passed_first (body_refusal rows caller form old) (standing_refusal rows caller form old new) c.ensure_allowed.result c.in_ok-ensure_body_valid.ensures c.ensure_allowed.ensures)

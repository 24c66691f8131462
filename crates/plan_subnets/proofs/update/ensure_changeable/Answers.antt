use Rattle.std.proofs.Common.{[], ◌∷◌, Option, subst, sym, true}
use Rattle.std.proofs.lemmas.Result.{err_from_is_err_and}
use Rattle.api_policy.specs.Checks.{IsAnswerOf}
use Rattle.api_policy.specs.Permits.{network_owner}
use Rattle.api_policy.specs.Uses.{old_gateway_in_use}
use Rattle.api_types.specs.declared.refusal.Refusal.{Refusal}
use Rattle.call_parts.specs.Answers.{IsRefusalIn, Passes}
use Rattle.plan_subnets.specs.Plans.{change_refusal, standing_refusal}
use Rattle.plan_subnets.specs.SubnetRules.{bad_dhcp, bad_subnet, bad_versions}
use Rattle.call_parts.proofs.RefusalLemmas.{first_joined, refused_first}
use Rattle.plan_subnets.proofs.RefusalLemmas.{passed_first}
use Rattle.plan_subnets.proofs.update.ensure_changeable.Goals as goal

pub returns-in_err-ensure_rules_kept : goal.returns-in_err-ensure_rules_kept
returns-in_err-ensure_rules_kept c =
    let form = c.args.form.now in
    let old = c.args.old.now in
    let new = c.args.new.now in
    let rows = c.args.asking.now.state.rows in
    let caller = c.args.asking.now.caller in
    let e : Refusal = c.in_err-ensure_rules_kept.field-0.0 in
    let p = err_from_is_err_and c.from_residual.result c.from_residual.ensures.1 in
    rw (p.1, p.2)
    (subst (λ (o : Option Refusal). IsRefusalIn o e)
    (sym (first_joined ((bad_versions old.prefix.base form) ∷ (bad_subnet new.prefix new.gateway new.pools) ∷ (bad_dhcp form old) ∷ []) ((network_owner rows caller true old.network) ∷ (old_gateway_in_use rows caller old new) ∷ [])))
    (refused_first (change_refusal form old new) (standing_refusal rows caller old new) e c.in_err-ensure_rules_kept.ensures))

pub returns : goal.returns
returns c =
    let form = c.args.form.now in
    let old = c.args.old.now in
    let new = c.args.new.now in
    let rows = c.args.asking.now.state.rows in
    let caller = c.args.asking.now.caller in
    let permitted = subst (λ (o : Option Refusal). IsAnswerOf o c.ensure_permitted.result) (λ j. standing_refusal (c.rows.ensures.rows j) (c.caller.ensures j) old new) c.ensure_permitted.ensures in
    subst (λ (o : Option Refusal). Passes o c.ensure_permitted.result)
    (sym (first_joined ((bad_versions old.prefix.base form) ∷ (bad_subnet new.prefix new.gateway new.pools) ∷ (bad_dhcp form old) ∷ []) ((network_owner rows caller true old.network) ∷ (old_gateway_in_use rows caller old new) ∷ [])))
    (passed_first (change_refusal form old new) (standing_refusal rows caller old new) c.ensure_permitted.result c.in_ok-ensure_rules_kept.ensures permitted)

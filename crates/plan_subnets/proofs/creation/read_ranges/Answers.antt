use Rattle.std.proofs.Common.{◌∙◌, ap, subst, sym}
use Rattle.std.specs.Prelude.{option_and_then}
use Rattle.std.proofs.lemmas.Result.{err_from_is_err_and}
use Rattle.api_policy.specs.Seen.{network_seen}
use Rattle.api_types.specs.Given.{value_of}
use Rattle.call_parts.specs.Answers.{IsRefusalIn}
use Rattle.net_addr.specs.Prefixes.{Prefix}
use Rattle.plan_subnets.specs.SubnetCalls.{gateway_asked, pools_asked, prefix_asked}
use Rattle.plan_subnets.specs.SubnetRules.{bad_cidr, bad_parts, bad_subnet}
use Rattle.plan_subnets.proofs.RefusalLemmas.{first_in, none_in, second_in, third_in}
use Rattle.plan_subnets.proofs.creation.read_ranges.Goals as goal

pub returns-in_err-ensure_parts_agree-clause-refused : goal.returns-in_err-ensure_parts_agree-clause-refused
returns-in_err-ensure_parts_agree-clause-refused c =
    let rows = c.args.rows.now in
    let form = c.args.form.now in
    let p = err_from_is_err_and c.from_residual.result c.from_residual.ensures.1 in
    rw (p.1, p.2)
    (first_in (bad_parts form) (option_and_then (bad_cidr rows (prefix_asked form)) (network_seen rows c.args.caller.now (value_of form.network_id))) (bad_subnet (prefix_asked form) (gateway_asked form) (pools_asked form))
    c.in_err-ensure_parts_agree.field-0.0 c.in_err-ensure_parts_agree.ensures)

pub returns-in_err-ensure_prefix_free-clause-refused : goal.returns-in_err-ensure_prefix_free-clause-refused
returns-in_err-ensure_prefix_free-clause-refused c =
    let rows = c.args.rows.now in
    let form = c.args.form.now in
    let seen = network_seen rows c.args.caller.now (value_of form.network_id) in
    let e = c.in_err-ensure_prefix_free.field-0.0 in
    let p = err_from_is_err_and c.from_residual-in_err-ensure_prefix_free.result c.from_residual-in_err-ensure_prefix_free.ensures.1 in
    rw (p.1, p.2)
    (second_in (bad_parts form) (option_and_then (bad_cidr rows (prefix_asked form)) seen) (bad_subnet (prefix_asked form) (gateway_asked form) (pools_asked form)) e
    c.in_ok-ensure_parts_agree.ensures (subst (λ (q : Prefix). IsRefusalIn (option_and_then (bad_cidr rows q) seen) e) c.in_ok-ranges.ensures.prefix c.in_err-ensure_prefix_free.ensures))

pub returns-in_err-ensure_ranges_fit-clause-refused : goal.returns-in_err-ensure_ranges_fit-clause-refused
returns-in_err-ensure_ranges_fit-clause-refused c =
    let rows = c.args.rows.now in
    let form = c.args.form.now in
    let seen = network_seen rows c.args.caller.now (value_of form.network_id) in
    let e = c.in_err-ensure_ranges_fit.field-0.0 in
    let asked = c.in_ok-ranges.ensures in
    let p = err_from_is_err_and c.from_residual-in_err-ensure_ranges_fit.result c.from_residual-in_err-ensure_ranges_fit.ensures.1 in
    rw (p.1, p.2)
    (third_in (bad_parts form) (option_and_then (bad_cidr rows (prefix_asked form)) seen) (bad_subnet (prefix_asked form) (gateway_asked form) (pools_asked form)) e
    c.in_ok-ensure_parts_agree.ensures (ap (λ (q : Prefix). option_and_then (bad_cidr rows q) seen) (sym asked.prefix) ∙ c.in_ok-ensure_prefix_free.ensures)
    (subst (λ o. IsRefusalIn o e) (λ j. bad_subnet (asked.prefix j) (asked.gateway j) ((c.as_slice.ensures ∙ asked.pools) j)) c.in_err-ensure_ranges_fit.ensures))

pub returns-clause-passes : goal.returns-clause-passes
returns-clause-passes c =
    let rows = c.args.rows.now in
    let form = c.args.form.now in
    let seen = network_seen rows c.args.caller.now (value_of form.network_id) in
    let asked = c.in_ok-ranges.ensures in
    none_in (bad_parts form) (option_and_then (bad_cidr rows (prefix_asked form)) seen) (bad_subnet (prefix_asked form) (gateway_asked form) (pools_asked form))
    c.in_ok-ensure_parts_agree.ensures (ap (λ (q : Prefix). option_and_then (bad_cidr rows q) seen) (sym asked.prefix) ∙ c.in_ok-ensure_prefix_free.ensures)
    ((λ j. bad_subnet (sym asked.prefix j) (sym asked.gateway j) (sym (c.as_slice.ensures ∙ asked.pools) j)) ∙ c.in_ok-ensure_ranges_fit.ensures)

use Rattle.std.proofs.Common.{◌∙◌, Option, [], subst, sym}
use Rattle.std.specs.Prelude.{IfErr, IfOk}
use Rattle.std.proofs.lemmas.Result.{err_from_is_err_and}
use Rattle.api_policy.specs.Seen.{network_seen}
use Rattle.api_types.specs.Given.{value_of}
use Rattle.api_types.specs.Ident.{Ident}
use Rattle.api_types.specs.Outcome.{Outcome}
use Rattle.api_types.specs.Printed.{NewRow}
use Rattle.api_types.specs.Refusing.{not_found}
use Rattle.api_types.specs.declared.kind.Kind.TheVariants.{Network as NetworkKind}
use Rattle.api_types.specs.declared.refusal.Refusal.{Refusal}
use Rattle.call_parts.specs.Answers.{IsOrMemory, IsRefusalIn, IsRefusalOf, Leads}
use Rattle.call_parts.specs.BodyNames.{no_id, text_of}
use Rattle.plan_subnets.specs.Plans.{body_refusal}
use Rattle.plan_subnets.specs.SubnetCalls.{subnet_shown}
use Rattle.plan_subnets.proofs.CallLemmas.{body_refused, body_unfound, created_on, parts_passed, seen_named}
use Rattle.plan_subnets.proofs.FormLemmas.{new_fits}
use Rattle.plan_subnets.proofs.creation.create_subnet.Goals as goal

pub returns-in_err-ranges-clause-err : goal.returns-in_err-ranges-clause-err
returns-in_err-ranges-clause-err c =
    let asking = c.args.asking.now in
    let e = c.in_err-ranges.field-0.0 in
    let refused = subst (λ (o : Option Refusal). IsRefusalIn o e) (λ j. body_refusal (c.rows-rows.ensures.rows j) (c.caller-caller.ensures j) c.args.form.now) c.in_err-ranges.ensures.refused in
    let p = err_from_is_err_and c.from_residual.result c.from_residual.ensures.1 in
    rw (p.1, p.2) (body_refused asking.settings asking.state asking.caller c.args.form.now e refused)

pub returns-in_default-clause-err : goal.returns-in_default-clause-err
returns-in_default-clause-err c =
    let asking = c.args.asking.now in
    let passed = sym (λ j. body_refusal (c.rows-rows.ensures.rows j) (c.caller-caller.ensures j) c.args.form.now) ∙ c.in_ok-ranges.ensures.passes in
    let none = sym (λ j. network_seen (c.rows-rows.ensures.rows j) (c.caller-caller.ensures j) (c.value_of.ensures j)) ∙ sym c.in_default.ensures in
    body_unfound asking.settings asking.state asking.caller c.args.form.now c.none_with_id.result passed none
    (subst (λ (i : Option Ident). IsOrMemory (not_found NetworkKind (text_of i)) c.none_with_id.result) c.value_of-id.ensures c.none_with_id.ensures)

pub make_subnet-requires-clause-named : goal.make_subnet-requires-clause-named
make_subnet-requires-clause-named c =
    let asking = c.args.asking.now in
    let seen = sym (λ j. network_seen (c.rows-rows.ensures.rows j) (c.caller-caller.ensures j) (c.value_of.ensures j)) ∙ sym c.in-Some.ensures in
    seen_named asking.state.rows asking.caller (value_of c.args.form.now.network_id) c.in-Some.network.now c.rows-rows.ensures.consistent seen

pub make_subnet-requires-clause-fits : goal.make_subnet-requires-clause-fits
make_subnet-requires-clause-fits c =
    new_fits c.args.form.now c.in-Some.network.now no_id c.requires.cidr (parts_passed c.rows-rows.result.now c.caller-caller.result.now c.args.form.now c.in_ok-ranges.ensures.passes)

pub returns-clause-ok : goal.returns-clause-ok
returns-clause-ok c =
    let asking = c.args.asking.now in
    let passed = sym (λ j. body_refusal (c.rows-rows.ensures.rows j) (c.caller-caller.ensures j) c.args.form.now) ∙ c.in_ok-ranges.ensures.passes in
    let seen = sym (λ j. network_seen (c.rows-rows.ensures.rows j) (c.caller-caller.ensures j) (c.value_of.ensures j)) ∙ sym c.in-Some.ensures in
    let on = created_on asking.settings asking.state asking.caller c.args.form.now c.in-Some.network.now passed seen in
    subst (λ (o : Outcome). IfOk c.make_subnet.result (λ p. Leads asking.state.rows o p.draft (λ after. NewRow (subnet_shown after asking.caller p.row [])))) (sym on) c.make_subnet.ensures.ok

pub returns-clause-err : goal.returns-clause-err
returns-clause-err c =
    let asking = c.args.asking.now in
    let passed = sym (λ j. body_refusal (c.rows-rows.ensures.rows j) (c.caller-caller.ensures j) c.args.form.now) ∙ c.in_ok-ranges.ensures.passes in
    let seen = sym (λ j. network_seen (c.rows-rows.ensures.rows j) (c.caller-caller.ensures j) (c.value_of.ensures j)) ∙ sym c.in-Some.ensures in
    let on = created_on asking.settings asking.state asking.caller c.args.form.now c.in-Some.network.now passed seen in
    subst (λ (o : Outcome). IfErr c.make_subnet.result (IsRefusalOf o)) (sym on) c.make_subnet.ensures.err

use Rattle.std.proofs.Common.{◌∙◌, Option, [], ap, subst, sym}
use Rattle.std.specs.Prelude.{IfErr, IfOk, not}
use Rattle.std.proofs.lemmas.Result.{err_from_is_err_and}
use Rattle.api_policy.specs.Seen.{network_seen}
use Rattle.api_types.specs.Given.{owner_of}
use Rattle.api_types.specs.Ident.{Ident}
use Rattle.api_types.specs.Lists.{is_empty}
use Rattle.api_types.specs.Outcome.{Outcome}
use Rattle.api_types.specs.Printed.{NewRow}
use Rattle.api_types.specs.Refusing.{not_found}
use Rattle.api_types.specs.declared.kind.Kind.TheVariants.{Network as NetworkKind}
use Rattle.api_types.specs.declared.refusal.Refusal.{Refusal}
use Rattle.call_parts.specs.Answers.{IsOrMemory, IsRefusalIn, IsRefusalOf, Leads}
use Rattle.call_parts.specs.BodyNames.{text_of}
use Rattle.plan_ports.specs.PortCalls.{body_refusal, port_made, port_shown}
use Rattle.call_parts.proofs.OwnerLemmas.{owner_named}
use Rattle.plan_ports.proofs.CallLemmas.{body_refused, body_unfound, created_on, owners_so}
use Rattle.plan_ports.proofs.creation.create_port.Goals as goal

pub returns-in_err-ensure_body_valid-clause-err : goal.returns-in_err-ensure_body_valid-clause-err
returns-in_err-ensure_body_valid-clause-err c =
    let form = c.args.form.now in
    let e = c.in_err-ensure_body_valid.field-0.0 in
    let refused = subst (λ (r : Option Refusal). IsRefusalIn r e) (λ j. body_refusal (c.rows-rows.ensures.rows j) (c.caller-caller.ensures j) form) c.in_err-ensure_body_valid.ensures in
    let p = err_from_is_err_and c.from_residual.result c.from_residual.ensures.1 in
    rw (p.1, p.2) (body_refused c.args.asking.now.settings c.args.asking.now.state c.args.asking.now.caller form e refused)

pub returns-in_default-clause-err : goal.returns-in_default-clause-err
returns-in_default-clause-err c =
    let form = c.args.form.now in
    let passed = sym (λ j. body_refusal (c.rows-rows.ensures.rows j) (c.caller-caller.ensures j) form) ∙ c.in_ok-ensure_body_valid.ensures in
    let none = sym (λ j. network_seen (c.rows-rows.ensures.rows j) (c.caller-caller.ensures j) (c.value_of.ensures j)) ∙ sym c.in_default.ensures in
    body_unfound c.args.asking.now.settings c.args.asking.now.state c.args.asking.now.caller form passed c.none_with_id.result none
    (subst (λ (i : Option Ident). IsOrMemory (not_found NetworkKind (text_of i)) c.none_with_id.result) c.value_of-id.ensures c.none_with_id.ensures)

pub make_port-requires : goal.make_port-requires
make_port-requires c =
    let form = c.args.form.now in
    let owned = c.owner-owner.ensures ∙ (λ j. owner_of (c.caller-caller.ensures j) form.project_id form.tenant_id) in
    ap (λ owner. not (is_empty owner)) owned ∙ owner_named c.args.asking.now.caller form.project_id form.tenant_id c.requires.named (owners_so form c.requires.in_form)

pub returns-clause-ok : goal.returns-clause-ok
returns-clause-ok c =
    let settings = c.args.asking.now.settings in
    let state = c.args.asking.now.state in
    let caller = c.args.asking.now.caller in
    let form = c.args.form.now in
    let n = c.in-Some.network.now in
    let passed = sym (λ j. body_refusal (c.rows-rows.ensures.rows j) (c.caller-caller.ensures j) form) ∙ c.in_ok-ensure_body_valid.ensures in
    let seen = sym (λ j. network_seen (c.rows-rows.ensures.rows j) (c.caller-caller.ensures j) (c.value_of.ensures j)) ∙ sym c.in-Some.ensures in
    let owned = c.owner-owner.ensures ∙ (λ j. owner_of (c.caller-caller.ensures j) form.project_id form.tenant_id) in
    let on = created_on settings state caller form passed n seen ∙ ap (port_made settings state caller form n) (sym owned) in
    subst (λ (o : Outcome). IfOk c.make_port.result (λ p. Leads state.rows o p.draft (λ after. NewRow (port_shown after caller p.row [])))) (sym on) c.make_port.ensures.ok

pub returns-clause-err : goal.returns-clause-err
returns-clause-err c =
    let settings = c.args.asking.now.settings in
    let state = c.args.asking.now.state in
    let caller = c.args.asking.now.caller in
    let form = c.args.form.now in
    let n = c.in-Some.network.now in
    let passed = sym (λ j. body_refusal (c.rows-rows.ensures.rows j) (c.caller-caller.ensures j) form) ∙ c.in_ok-ensure_body_valid.ensures in
    let seen = sym (λ j. network_seen (c.rows-rows.ensures.rows j) (c.caller-caller.ensures j) (c.value_of.ensures j)) ∙ sym c.in-Some.ensures in
    let owned = c.owner-owner.ensures ∙ (λ j. owner_of (c.caller-caller.ensures j) form.project_id form.tenant_id) in
    let on = created_on settings state caller form passed n seen ∙ ap (port_made settings state caller form n) (sym owned) in
    subst (λ (o : Outcome). IfErr c.make_port.result (IsRefusalOf o)) (sym on) c.make_port.ensures.err

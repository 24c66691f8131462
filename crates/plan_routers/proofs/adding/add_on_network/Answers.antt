use Rattle.std.proofs.Common.{◌≡◌, ◌∙◌, List, None, Option, Some, ap, arith, inr, subst, sym}
use Rattle.std.proofs.lemmas.Result.{err_from_is_err_and}
use Rattle.api_ipam.specs.MacChoice.{free_mac}
use Rattle.api_types.specs.Printed.{shown_row}
use Rattle.api_types.specs.RowLists.{RowLists}
use Rattle.api_types.specs.declared.port.PortRow.{PortRow}
use Rattle.api_types.specs.declared.refusal.Refusal.{Refusal}
use Rattle.call_parts.specs.Answers.{IsRefusalIn, drawing_of}
use Rattle.plan_routers.specs.InterfaceCalls.{subnet_refusal}
use Rattle.plan_routers.proofs.InterfaceLemmas.{no_mac, subnet_moved, subnet_refused, subnet_spent}
use Rattle.plan_routers.proofs.adding.add_on_network.Goals as goal

pub returns-in_err-ensure_addable_by_subnet-clause-err : goal.returns-in_err-ensure_addable_by_subnet-clause-err
returns-in_err-ensure_addable_by_subnet-clause-err c =
    let asking = c.args.asking.now in
    let r = c.args.router.now in
    let s = c.args.subnet.now in
    let x = c.args.gateway.now in
    let e = c.in_err-ensure_addable_by_subnet.field-0.0 in
    let refusal_is : subnet_refusal c.rows-rows.result.now c.caller.result.now r s x ≡ subnet_refusal asking.state.rows asking.caller r s x = λ j. subnet_refusal (c.rows-rows.ensures.rows j) (c.caller.ensures j) r s x in
    let refused = subst (λ (o : Option Refusal). IsRefusalIn o e) refusal_is c.in_err-ensure_addable_by_subnet.ensures in
    let p = err_from_is_err_and c.from_residual.result c.from_residual.ensures.1 in
    rw (p.1, p.2) (subnet_refused asking.settings asking.state asking.caller r s c.args.network.now x e refused)

pub add_port-requires-clause-new : goal.add_port-requires-clause-new
add_port-requires-clause-new c = (c.in_ok-drawn.ensures.new 0 (omega arith)).ports

pub returns-in_default-clause-err : goal.returns-in_default-clause-err
returns-in_default-clause-err c =
    let asking = c.args.asking.now in
    let r = c.args.router.now in
    let s = c.args.subnet.now in
    let n = c.args.network.now in
    let x = c.args.gateway.now in
    let refusal_is : subnet_refusal c.rows-rows.result.now c.caller.result.now r s x ≡ subnet_refusal asking.state.rows asking.caller r s x = λ j. subnet_refusal (c.rows-rows.ensures.rows j) (c.caller.ensures j) r s x in
    let passed = sym refusal_is ∙ c.in_ok-ensure_addable_by_subnet.ensures in
    let ports = c.rows.ensures.rows ∙ (c.ports.ensures ∙ ap (λ (rows : RowLists). rows.ports) c.rows-rows.ensures.rows) in
    let none : free_mac asking.state.rows.ports n.id ≡ None = ap (λ (ps : List PortRow). free_mac ps n.id) (sym ports) ∙ sym c.in_default.ensures in
    inr (no_mac asking.settings asking.state asking.caller r s n x passed none)

pub returns-in_err-drawn-clause-err : goal.returns-in_err-drawn-clause-err
returns-in_err-drawn-clause-err c =
    let asking = c.args.asking.now in
    let r = c.args.router.now in
    let s = c.args.subnet.now in
    let n = c.args.network.now in
    let x = c.args.gateway.now in
    let refusal_is : subnet_refusal c.rows-rows.result.now c.caller.result.now r s x ≡ subnet_refusal asking.state.rows asking.caller r s x = λ j. subnet_refusal (c.rows-rows.ensures.rows j) (c.caller.ensures j) r s x in
    let passed = sym refusal_is ∙ c.in_ok-ensure_addable_by_subnet.ensures in
    let ports = c.rows.ensures.rows ∙ (c.ports.ensures ∙ ap (λ (rows : RowLists). rows.ports) c.rows-rows.ensures.rows) in
    let mac : free_mac asking.state.rows.ports n.id ≡ Some c.in-Some.mac = ap (λ (ps : List PortRow). free_mac ps n.id) (sym ports) ∙ sym c.in-Some.ensures in
    let p = err_from_is_err_and c.from_residual-in_err-drawn.result c.from_residual-in_err-drawn.ensures.1 in
    rw (p.1, p.2) (subnet_spent asking.settings asking.state asking.caller r s n x passed c.in-Some.mac mac c.in_err-drawn.field-0.0 c.in_err-drawn.ensures.spent)

pub returns-clause-ok : goal.returns-clause-ok
returns-clause-ok c =
    let asking = c.args.asking.now in
    let r = c.args.router.now in
    let s = c.args.subnet.now in
    let n = c.args.network.now in
    let x = c.args.gateway.now in
    let planned = c.in_ok-add_port.field-0 in
    let refusal_is : subnet_refusal c.rows-rows.result.now c.caller.result.now r s x ≡ subnet_refusal asking.state.rows asking.caller r s x = λ j. subnet_refusal (c.rows-rows.ensures.rows j) (c.caller.ensures j) r s x in
    let passed = sym refusal_is ∙ c.in_ok-ensure_addable_by_subnet.ensures in
    let ports = c.rows.ensures.rows ∙ (c.ports.ensures ∙ ap (λ (rows : RowLists). rows.ports) c.rows-rows.ensures.rows) in
    let mac : free_mac asking.state.rows.ports n.id ≡ Some c.in-Some.mac = ap (λ (ps : List PortRow). free_mac ps n.id) (sym ports) ∙ sym c.in-Some.ensures in
    subnet_moved asking.settings asking.state asking.caller r s n x passed c.in-Some.mac mac (drawing_of c.in_ok-drawn.drawn) planned.draft (shown_row planned.shown)
    c.in_ok-drawn.ensures.drawn (c.in_ok-add_port.ensures.start ∙ c.in_ok-drawn.ensures.start) c.in_ok-add_port.ensures.rows c.in_ok-add_port.ensures.shown

use Rattle.std.proofs.Common.{◌≡◌, ◌∙◌, Some, ap, arith, subst, sym}
use Rattle.std.proofs.lemmas.Result.{err_from_is_err_and}
use Rattle.api_ipam.specs.MacChoice.{free_mac}
use Rattle.api_types.specs.RowLists.{RowLists}
use Rattle.call_parts.specs.Answers.{IsRefusalIn, drawing_of}
use Rattle.plan_routers.specs.Plans.{outer_refusal}
use Rattle.plan_routers.specs.RouterCalls.{outer_addresses}
use Rattle.plan_routers.proofs.CreationLemmas.{with_moved, with_spent, with_unsupplied}
use Rattle.plan_routers.proofs.creation.make_with_gateway.Goals as goal

pub returns-in_err-outer-clause-err : goal.returns-in_err-outer-clause-err
returns-in_err-outer-clause-err c =
    let asking = c.args.asking.now in
    let n = c.args.network.now in
    let e = c.in_err-outer.field-0.0 in
    let refused = subst (λ (rows : RowLists). IsRefusalIn (outer_refusal rows n) e) c.rows.ensures.rows c.in_err-outer.ensures.refused in
    let p = err_from_is_err_and c.from_residual.result c.from_residual.ensures.1 in
    rw (p.1, p.2) (with_unsupplied asking.settings asking.state asking.caller c.args.form.now c.args.owner.now n e refused)

pub returns-in_err-drawn-clause-err : goal.returns-in_err-drawn-clause-err
returns-in_err-drawn-clause-err c =
    let asking = c.args.asking.now in
    let n = c.args.network.now in
    let outer = c.in_ok-outer.outer in
    let fixed : outer_addresses asking.state.rows n ≡ Some outer.fixed = ap (λ (rows : RowLists). outer_addresses rows n) (sym c.rows.ensures.rows) ∙ c.in_ok-outer.ensures.fixed in
    let mac : free_mac asking.state.rows.ports n.id ≡ Some outer.mac = ap (λ (rows : RowLists). free_mac rows.ports n.id) (sym c.rows.ensures.rows) ∙ c.in_ok-outer.ensures.mac in
    let p = err_from_is_err_and c.from_residual-in_err-drawn.result c.from_residual-in_err-drawn.ensures.1 in
    rw (p.1, p.2)
    (with_spent asking.settings asking.state asking.caller c.args.form.now c.args.owner.now n outer.fixed outer.mac fixed mac
    c.in_err-drawn.field-0.0 c.in_err-drawn.ensures.spent)

pub add_with_gateway-requires-clause-new_router : goal.add_with_gateway-requires-clause-new_router
add_with_gateway-requires-clause-new_router c = (c.in_ok-drawn.ensures.new 0 (omega arith)).routers

pub add_with_gateway-requires-clause-new_port : goal.add_with_gateway-requires-clause-new_port
add_with_gateway-requires-clause-new_port c = (c.in_ok-drawn.ensures.new 1 (omega arith)).ports

pub returns-clause-ok : goal.returns-clause-ok
returns-clause-ok c =
    let asking = c.args.asking.now in
    let n = c.args.network.now in
    let outer = c.in_ok-outer.outer in
    let fixed : outer_addresses asking.state.rows n ≡ Some outer.fixed = ap (λ (rows : RowLists). outer_addresses rows n) (sym c.rows.ensures.rows) ∙ c.in_ok-outer.ensures.fixed in
    let mac : free_mac asking.state.rows.ports n.id ≡ Some outer.mac = ap (λ (rows : RowLists). free_mac rows.ports n.id) (sym c.rows.ensures.rows) ∙ c.in_ok-outer.ensures.mac in
    let planned = c.in_ok-add_with_gateway.field-0 in
    with_moved asking.settings asking.state asking.caller c.args.form.now c.args.owner.now n outer.fixed outer.mac fixed mac
    (drawing_of c.in_ok-drawn.drawn) planned.draft planned.row c.in_ok-drawn.ensures.drawn (c.in_ok-add_with_gateway.ensures.start ∙ c.in_ok-drawn.ensures.start)
    c.in_ok-add_with_gateway.ensures.row c.in_ok-add_with_gateway.ensures.rows

use Rattle.std.proofs.Common.{◌≡◌, ◌∙◌, ◌+◌, Some, None, ap, arith, subst, sym}
use Rattle.std.specs.Prelude.{List, unwrap_or, ◌∷◌, ◌++◌}
use Rattle.std.proofs.lemmas.Result.{err_from_is_err_and}
use Rattle.api_ipam.specs.MacChoice.{free_mac}
use Rattle.api_types.specs.Ident.{Ident}
use Rattle.api_types.specs.Registration.{ident}
use Rattle.api_types.specs.RowLists.{RowLists}
use Rattle.api_types.specs.Table.{row_of}
use Rattle.api_types.specs.declared.kind.Row.TheVariants.{Router}
use Rattle.api_types.specs.declared.port.PortRow.{PortRow}
use Rattle.api_types.specs.declared.router.RouterRow.{RouterRow}
use Rattle.call_parts.specs.Answers.{IsRefusalIn, drawing_of}
use Rattle.call_parts.specs.Edits.{Edit, Put, made}
use Rattle.plan_routers.specs.Plans.{outer_refusal}
use Rattle.plan_routers.specs.RouterCalls.{gateway_edits, gateway_gone, gateway_port, lost_gateway, old_snat, outer_addresses, with_gateway}
use Rattle.call_parts.proofs.EditLemmas.{made-append}
use Rattle.plan_routers.proofs.EditLemmas.{absent_put}
use Rattle.plan_routers.proofs.UpdateLemmas.{to_moved, to_spent, to_unsupplied}
use Rattle.api_policy.specs.Reserved.{snat_asked}
use Rattle.plan_routers.proofs.update.move_to.Goals as goal

pub returns-in_err-outer-clause-err : goal.returns-in_err-outer-clause-err
returns-in_err-outer-clause-err c =
    let asking = c.args.asking.now in
    let n = c.args.network.now in
    let e = c.in_err-outer.field-0.0 in
    let refused = subst (λ (rows : RowLists). IsRefusalIn (outer_refusal rows n) e) c.rows.ensures.rows c.in_err-outer.ensures.refused in
    let p = err_from_is_err_and c.from_residual.result c.from_residual.ensures.1 in
    rw (p.1, p.2) (to_unsupplied asking.settings asking.state asking.caller c.args.form.now c.args.old.now c.args.new n e refused)

pub returns-in_err-drawn-clause-err : goal.returns-in_err-drawn-clause-err
returns-in_err-drawn-clause-err c =
    let asking = c.args.asking.now in
    let n = c.args.network.now in
    let outer = c.in_ok-outer.outer in
    let fixed : outer_addresses asking.state.rows n ≡ Some outer.fixed = ap (λ (rows : RowLists). outer_addresses rows n) (sym c.rows.ensures.rows) ∙ c.in_ok-outer.ensures.fixed in
    let mac : free_mac asking.state.rows.ports n.id ≡ Some outer.mac = ap (λ (rows : RowLists). free_mac rows.ports n.id) (sym c.rows.ensures.rows) ∙ c.in_ok-outer.ensures.mac in
    let p = err_from_is_err_and c.from_residual-in_err-drawn.result c.from_residual-in_err-drawn.ensures.1 in
    rw (p.1, p.2)
    (to_spent asking.settings asking.state asking.caller c.args.form.now c.args.old.now c.args.new n outer.fixed outer.mac fixed mac c.in_err-drawn.field-0.0 c.in_err-drawn.ensures.spent)

pub set_gateway-requires : goal.set_gateway-requires
set_gateway-requires c =
    let drawn = c.in_ok-drawn.drawn in
    let old = c.args.old.now in
    let new : RouterRow = c.args.new in
    let i : Ident = ident drawn.ordinal (drawn.first + 0) in
    let id : c.id-id.result ≡ i = c.id-id.ensures drawn.draft.rows in
    let absent = absent_put i drawn.draft.rows new (lost_gateway old.gateway new.gateway) (c.in_ok-drawn.ensures.new 0 (omega arith)).ports in
    subst (λ (k : Ident). row_of (λ (p : PortRow). p.id) k c.in_ok-draft.draft.rows.ports ≡ None) (sym id)
    (subst (λ (r : RowLists). row_of (λ (p : PortRow). p.id) i r.ports ≡ None) (sym c.in_ok-draft.ensures.rows) absent)

pub returns-clause-ok : goal.returns-clause-ok
returns-clause-ok c =
    let asking = c.args.asking.now in
    let n = c.args.network.now in
    let form = c.args.form.now in
    let old = c.args.old.now in
    let new : RouterRow = c.args.new in
    let outer = c.in_ok-outer.outer in
    let drawn = c.in_ok-drawn.drawn in
    let planned = c.in_ok-set_gateway.field-0 in
    let fixed : outer_addresses asking.state.rows n ≡ Some outer.fixed = ap (λ (rows : RowLists). outer_addresses rows n) (sym c.rows.ensures.rows) ∙ c.in_ok-outer.ensures.fixed in
    let mac : free_mac asking.state.rows.ports n.id ≡ Some outer.mac = ap (λ (rows : RowLists). free_mac rows.ports n.id) (sym c.rows.ensures.rows) ∙ c.in_ok-outer.ensures.mac in
    let i : Ident = ident drawn.ordinal (drawn.first + 0) in
    let id : c.id-id.result ≡ i = c.id-id.ensures drawn.draft.rows in
    let snat_is : c.unwrap_or-snat.result ≡ unwrap_or (snat_asked form) (old_snat old.gateway) = c.unwrap_or-snat.ensures ∙ (λ j. unwrap_or (c.snat_asked.ensures j) (c.old_snat.ensures j)) in
    let row : planned.row ≡ with_gateway new n.id i (unwrap_or (snat_asked form) (old_snat old.gateway)) = c.in_ok-set_gateway.ensures.row ∙ (λ j. with_gateway new n.id (id j) (snat_is j)) in
    let first : List Edit = Put (Router new) ∷ gateway_gone (lost_gateway old.gateway new.gateway) in
    let last : List Edit = gateway_edits new (gateway_port asking.settings new n i outer.mac outer.fixed) (unwrap_or (snat_asked form) (old_snat old.gateway)) in
    let rows : planned.draft.rows ≡ made drawn.draft.rows (first ++ last) =
    c.in_ok-set_gateway.ensures.rows
    ∙ ((λ j. made (c.in_ok-draft.ensures.rows j) (gateway_edits new (gateway_port asking.settings new n (id j) outer.mac outer.fixed) (snat_is j))) ∙ sym (made-append drawn.draft.rows first last)) in
    let start = c.in_ok-set_gateway.ensures.start ∙ (c.in_ok-draft.ensures.start ∙ c.in_ok-drawn.ensures.start) in
    to_moved asking.settings asking.state asking.caller form old new n outer.fixed outer.mac fixed mac (drawing_of drawn) planned.draft planned.row c.requires.changed c.in_ok-drawn.ensures.drawn start row rows

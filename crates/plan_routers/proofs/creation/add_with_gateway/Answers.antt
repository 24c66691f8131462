use Rattle.std.proofs.Common.{◌≡◌, ◌∙◌, ◌+◌, None, ap, arith, subst, sym}
use Rattle.std.specs.Prelude.{IfOk, true, unwrap_or}
use Rattle.api_types.specs.Ident.{Ident}
use Rattle.api_types.specs.Registration.{ident}
use Rattle.api_types.specs.RowLists.{RowLists}
use Rattle.api_types.specs.Table.{row_of}
use Rattle.api_types.specs.declared.kind.Row.TheVariants.{Router}
use Rattle.api_types.specs.declared.port.PortRow.{PortRow}
use Rattle.api_types.specs.declared.router.RouterRow.{RouterRow}
use Rattle.call_parts.specs.Edits.{made}
use Rattle.api_types.specs.WithRows.{with_added}
use Rattle.plan_routers.specs.RouterCalls.{gateway_edits, gateway_port, new_router, with_gateway}
use Rattle.api_policy.specs.Reserved.{snat_asked}
use Rattle.plan_routers.proofs.creation.add_with_gateway.Goals as goal

pub add_row-requires : goal.add_row-requires
add_row-requires c =
    let start : c.args.drawn.first ≡ c.args.drawn.first + 0 = omega arith in
    let id : c.in_ok-router.router.id ≡ ident c.args.drawn.ordinal (c.args.drawn.first + 0) =
    ap (λ (r : RouterRow). r.id) c.in_ok-router.ensures ∙ (c.make.ensures ∙ ap (ident c.args.drawn.ordinal) start) in
    subst (λ (i : Ident). row_of (λ (r : RouterRow). r.id) i c.args.drawn.draft.rows.routers ≡ None) (sym id) c.requires.new_router

pub set_gateway-requires : goal.set_gateway-requires
set_gateway-requires c =
    subst (λ (i : Ident). row_of (λ (p : PortRow). p.id) i c.in_ok-draft.draft.rows.ports ≡ None) (sym c.make-id.ensures)
    (subst (λ (r : RowLists). row_of (λ (p : PortRow). p.id) (ident c.args.drawn.ordinal (c.args.drawn.first + 1)) r.ports ≡ None) (sym c.in_ok-draft.ensures.rows) c.requires.new_port)

pub returns-clause-row : goal.returns-clause-row
returns-clause-row c =
    let settings = c.args.asking.now.settings in
    let n = c.args.network.now in
    let form = c.args.form.now in
    let owner = c.args.owner.now in
    let start : c.args.drawn.first ≡ c.args.drawn.first + 0 = omega arith in
    let id : c.make.result ≡ ident c.args.drawn.ordinal (c.args.drawn.first + 0) = c.make.ensures ∙ ap (ident c.args.drawn.ordinal) start in
    let first_is : c.in_ok-router.router ≡ new_router settings form owner (ident c.args.drawn.ordinal (c.args.drawn.first + 0)) =
    c.in_ok-router.ensures ∙ (λ j. new_router (c.settings.ensures j) form owner (id j)) in
    let snat_is : c.unwrap_or-snat.result ≡ unwrap_or (snat_asked form) true = c.unwrap_or-snat.ensures ∙ ap (λ o. unwrap_or o true) c.snat_asked.ensures in
    subst (λ (r : RouterRow). IfOk c.set_gateway.result (λ p. p.row ≡ r)) (λ j. with_gateway (first_is j) n.id (c.make-id.ensures j) (snat_is j)) c.set_gateway.ensures.row

pub returns-clause-rows : goal.returns-clause-rows
returns-clause-rows c =
    let settings = c.args.asking.now.settings in
    let n = c.args.network.now in
    let form = c.args.form.now in
    let owner = c.args.owner.now in
    let rows : RowLists = c.args.drawn.draft.rows in
    let start : c.args.drawn.first ≡ c.args.drawn.first + 0 = omega arith in
    let id : c.make.result ≡ ident c.args.drawn.ordinal (c.args.drawn.first + 0) = c.make.ensures ∙ ap (ident c.args.drawn.ordinal) start in
    let first_is : c.in_ok-router.router ≡ new_router settings form owner (ident c.args.drawn.ordinal (c.args.drawn.first + 0)) =
    c.in_ok-router.ensures ∙ (λ j. new_router (c.settings.ensures j) form owner (id j)) in
    let snat_is : c.unwrap_or-snat.result ≡ unwrap_or (snat_asked form) true = c.unwrap_or-snat.ensures ∙ ap (λ o. unwrap_or o true) c.snat_asked.ensures in
    let added : c.in_ok-draft.draft.rows ≡ with_added rows (Router c.in_ok-router.router) = c.in_ok-draft.ensures.rows in
    let added_first = added ∙ ap (λ (r : RouterRow). with_added rows (Router r)) first_is in
    subst (λ (r : RowLists). IfOk c.set_gateway.result (λ p. p.draft.rows ≡ r))
    (λ j. made (added_first j) (gateway_edits (first_is j) (gateway_port settings (first_is j) n (c.make-id.ensures j) c.args.outer.mac c.args.outer.fixed) (snat_is j)))
    c.set_gateway.ensures.rows

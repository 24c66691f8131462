use Rattle.std.proofs.Common.{◌≡◌, ◌∙◌, IfOk, [], ◌∷◌, ◌++◌, ap, subst, sym}
use Rattle.api_types.specs.RowLists.{RowLists}
use Rattle.api_types.specs.declared.kind.Kind.TheVariants.{Router}
use Rattle.api_types.specs.declared.router.RouterRow.{RouterRow}
use Rattle.call_parts.specs.Edits.{Drop, Edit, edited, made}
use Rattle.plan_routers.specs.RouterCalls.{gateway_gone}
use Rattle.call_parts.proofs.EditLemmas.{made-append}
use Rattle.plan_routers.proofs.deletion.without_router.Goals as goal

pub returns-clause-rows : goal.returns-clause-rows
returns-clause-rows c =
    let rows : RowLists = c.args.rows.now in
    let r : RouterRow = c.args.router.now in
    let last : Edit = Drop Router r.id in
    let same : edited c.in_ok-draft-2.draft.rows last ≡ made rows (gateway_gone r.gateway ++ last ∷ []) =
    ap (λ (q : RowLists). edited q last) (c.in_ok-draft-2.ensures.rows ∙ ap (λ (q : RowLists). made q (gateway_gone r.gateway)) c.in_ok-draft.ensures.rows)
    ∙ sym (made-append rows (gateway_gone r.gateway) (last ∷ [])) in
    subst (λ (q : RowLists). IfOk c.drop_row.result (λ d. d.rows ≡ q)) same c.drop_row.ensures.rows

use Rattle.std.proofs.Common.{◌≡◌, ◌∙◌, IfOk, [], ◌∷◌, ap, subst, sym}
use Rattle.api_types.specs.RowLists.{RowLists}
use Rattle.api_types.specs.declared.kind.Kind.TheVariants.{Port}
use Rattle.api_types.specs.declared.port.PortRow.{PortRow}
use Rattle.call_parts.specs.Edits.{Drop, Edit, edited, made}
use Rattle.call_parts.specs.Leaving.{disassociations}
use Rattle.plan_routers.specs.InterfaceCalls.{interface_gone}
use Rattle.call_parts.proofs.EditLemmas.{made-append}
use Rattle.plan_routers.proofs.removal.without_port.Goals as goal

pub returns-clause-rows : goal.returns-clause-rows
returns-clause-rows c =
    let rows : RowLists = c.args.rows.now in
    let p : PortRow = c.args.port.now in
    let last : Edit = Drop Port p.id in
    let freed : RowLists → RowLists = λ q. made q (disassociations q.floatings p.id []) in
    let same : edited c.in_ok-draft-2.draft.rows last ≡ made rows (interface_gone rows.floatings p) =
    ap (λ (q : RowLists). edited q last) (c.in_ok-draft-2.ensures.rows ∙ ap freed c.in_ok-draft.ensures.rows) ∙ sym (made-append rows (disassociations rows.floatings p.id []) (last ∷ [])) in
    subst (λ (q : RowLists). IfOk c.drop_row.result (λ d. d.rows ≡ q)) same c.drop_row.ensures.rows

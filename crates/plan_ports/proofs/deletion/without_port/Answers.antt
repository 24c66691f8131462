use Rattle.std.proofs.Common.{◌≡◌, ◌∙◌, IfOk, [], ◌∷◌, ap, subst, sym}
use Rattle.api_types.specs.Ident.{Ident}
use Rattle.api_types.specs.RowLists.{RowLists}
use Rattle.api_types.specs.declared.kind.Kind.TheVariants.{Port}
use Rattle.call_parts.specs.Edits.{Drop, Edit, edited, made}
use Rattle.call_parts.specs.Leaving.{disassociations}
use Rattle.plan_ports.specs.PortCalls.{port_gone}
use Rattle.call_parts.proofs.EditLemmas.{made-append}
use Rattle.plan_ports.proofs.deletion.without_port.Goals as goal

pub returns-clause-rows : goal.returns-clause-rows
returns-clause-rows c =
    let rows : RowLists = c.args.rows.now in
    let i : Ident = c.args.port in
    let last : Edit = Drop Port i in
    let same : edited c.in_ok-draft-2.draft.rows last ≡ made rows (port_gone rows.floatings i) =
    ap (λ (r : RowLists). edited r last)
    (c.in_ok-draft-2.ensures.rows ∙ ap (λ (r : RowLists). made r (disassociations r.floatings i [])) c.in_ok-draft.ensures.rows)
    ∙ sym (made-append rows (disassociations rows.floatings i []) (last ∷ [])) in
    subst (λ (r : RowLists). IfOk c.drop_row.result (λ d. d.rows ≡ r)) same c.drop_row.ensures.rows

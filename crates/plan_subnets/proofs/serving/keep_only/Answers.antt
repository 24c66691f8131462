use Rattle.std.proofs.Common.{◌≡◌, ◌∙◌, IfOk, List, [], ◌∷◌, ap, subst, sym}
use Rattle.api_types.specs.RowLists.{RowLists}
use Rattle.api_types.specs.declared.port.Fixed.{Fixed}
use Rattle.call_parts.specs.Edits.{Edit, edited, made}
use Rattle.call_parts.specs.Leaving.{disassociations}
use Rattle.plan_subnets.specs.DhcpUpkeep.{giving_back, port_left}
use Rattle.call_parts.proofs.EditLemmas.{made-append}
use Rattle.plan_subnets.proofs.serving.keep_only.Goals as goal

pub returns-clause-rows : goal.returns-clause-rows
returns-clause-rows c =
    let rows : RowLists = c.args.draft.rows in
    let last : Edit = port_left c.args.port c.args.left in
    let gone : List Fixed → RowLists = λ kept. made rows (disassociations rows.floatings c.args.port.id kept) in
    let same : edited c.in_ok-draft.draft.rows last ≡ made rows (giving_back rows.floatings c.args.port c.args.left) =
    ap (λ (r : RowLists). edited r last) (c.in_ok-draft.ensures.rows ∙ ap gone c.as_slice.ensures)
    ∙ sym (made-append rows (disassociations rows.floatings c.args.port.id c.args.left) (last ∷ [])) in
    subst (λ (r : RowLists). IfOk c.leave_port.result (λ d. d.rows ≡ r)) same c.leave_port.ensures.rows

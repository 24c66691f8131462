use Rattle.std.proofs.Common.{◌≡◌, ◌∙◌, IfOk, [], ◌∷◌, ap, subst, sym}
use Rattle.api_types.specs.RowLists.{RowLists}
use Rattle.api_types.specs.declared.kind.Kind.TheVariants.{Subnet}
use Rattle.api_types.specs.declared.subnet.SubnetRow.{SubnetRow}
use Rattle.call_parts.specs.Edits.{Drop, Edit, edited, made}
use Rattle.plan_subnets.specs.DhcpUpkeep.{end_serving}
use Rattle.plan_subnets.specs.SubnetCalls.{subnet_gone}
use Rattle.call_parts.proofs.EditLemmas.{made-append}
use Rattle.plan_subnets.proofs.deletion.without_subnet.Goals as goal

pub returns-clause-rows : goal.returns-clause-rows
returns-clause-rows c =
    let rows : RowLists = c.args.rows.now in
    let s : SubnetRow = c.args.subnet.now in
    let last : Edit = Drop Subnet s.id in
    let same : edited c.in_ok-draft-2.draft.rows last ≡ made rows (subnet_gone rows s) =
    ap (λ (r : RowLists). edited r last)
    (c.in_ok-draft-2.ensures.rows ∙ ap (λ (r : RowLists). made r (end_serving r s.network s.dhcp s.id)) c.in_ok-draft.ensures.rows)
    ∙ sym (made-append rows (end_serving rows s.network s.dhcp s.id) (last ∷ [])) in
    subst (λ (r : RowLists). IfOk c.drop_row.result (λ d. d.rows ≡ r)) same c.drop_row.ensures.rows

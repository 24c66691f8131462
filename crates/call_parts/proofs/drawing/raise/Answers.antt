use Rattle.std.proofs.Common.{◌≡◌, ◌∙◌, ap, ◌+◌}
use Rattle.api_types.specs.declared.kind.Row.TheVariants.{Project}
use Rattle.api_types.specs.declared.project.ProjectRow.{ProjectRow}
use Rattle.call_parts.specs.Drafts.{raised}
use Rattle.api_types.specs.WithRows.{with_put}
use Rattle.call_parts.proofs.EditLaws.{ok_by}
use Rattle.call_parts.proofs.drawing.raise.Goals as goal

pub returns-clause-rows : goal.returns-clause-rows
returns-clause-rows c =
    let row : (record c.in_ok-more.more { count = c.in_ok-more.more.count + c.args.many }) ≡ (record c.args.project.now { count = c.args.project.now.count + c.args.many })
    = ap (λ (p : ProjectRow). record p { count = p.count + c.args.many }) c.in_ok-more.ensures in
    let ends : with_put c.in_ok-begin.field-0.rows (Project (record c.in_ok-more.more { count = c.in_ok-more.more.count + c.args.many })) ≡ raised c.args.rows.now c.args.project.now c.args.many
    = λ j. with_put (c.in_ok-begin.ensures.rows j) (Project (row j)) in
    ok_by _ _ c.put.result (λ d leads. leads ∙ ends) c.put.ensures.rows

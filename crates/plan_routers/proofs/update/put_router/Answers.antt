use Rattle.std.proofs.Common.{◌≡◌, ◌∙◌, ap, subst}
use Rattle.std.specs.Prelude.{IfOk}
use Rattle.api_types.specs.RowLists.{RowLists}
use Rattle.api_types.specs.declared.kind.Row.TheVariants.{Router}
use Rattle.api_types.specs.declared.router.RouterRow.{RouterRow}
use Rattle.call_parts.specs.Edits.{made}
use Rattle.api_types.specs.WithRows.{with_put}
use Rattle.plan_routers.specs.RouterCalls.{gateway_gone}
use Rattle.plan_routers.proofs.update.put_router.Goals as goal

pub returns-clause-rows : goal.returns-clause-rows
returns-clause-rows c =
    let put = c.in_ok-draft.ensures.rows ∙ ap (λ (r : RouterRow). with_put c.args.draft.rows (Router r)) c.in_ok-copy.ensures in
    subst (λ (r : RowLists). IfOk c.drop_gateway.result (λ d. d.rows ≡ r)) (λ j. made (put j) (gateway_gone (c.lost_gateway.ensures j))) c.drop_gateway.ensures.rows

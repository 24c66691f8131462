use Rattle.std.proofs.Common.{◌≡◌, ◌∙◌, ap, option_map, subst}
use Rattle.std.specs.Prelude.{MatchOption}
use Rattle.std.proofs.lemmas.Result.{IfOk-weaker}
use Rattle.api_types.specs.RowLists.{RowLists}
use Rattle.api_types.specs.Rows.{Fits, after}
use Rattle.api_types.proofs.ListLemmas.{none_some, some_equal}
use Rattle.plane_types.specs.Node.{Agent}
use Rattle.agent_wire.proofs.agent.WireAgent.next_rows.Goals as goal

pub returns-in-Some : goal.returns-in-Some
returns-in-Some c =
    let change = c.args.change.now in
    IfOk-weaker c.rows_after.result _ _ (λ o said a held.
    let same : c.in-Some.rows.now ≡ a.rows = some_equal c.in-Some.rows.now a.rows (c.in-Some.ensures ∙ ap (option_map (λ (x : Agent). x.rows)) held) in
    subst (λ (r : RowLists). MatchOption o (Fits r change → ⊥) (λ rows. Fits r change × (rows ≡ after r change))) same said) c.rows_after.ensures

pub returns-in-None : goal.returns-in-None
returns-in-None c = λ a held. none_some a.rows _ (c.in-None.ensures ∙ ap (option_map (λ (x : Agent). x.rows)) held)

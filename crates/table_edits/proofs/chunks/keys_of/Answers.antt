use Rattle.std.proofs.Common.{◌≡◌, ◌∙◌, ◌++◌, ap, arith, map, take, take_all}
use Rattle.std.proofs.lemmas.Result.{IfOk-weaker}
use Rattle.table_edits.specs.EditsAt.{among}
use Rattle.table_edits.proofs.chunks.keys_of.Goals as goal

pub returns-clause-all : goal.returns-clause-all
returns-clause-all g c =
    let before = g.T.Key.TableKey.before in
    let keys = c.args.chunk.now.keys.items in
    let rows = c.as_slice-row-items.result.now in
    let all : take c.loop-row.row-index rows ≡ rows = take_all c.loop-row.row-index rows (omega (arith, c.loop-row-test.false, c.loop-row.auto.row-index-end)) in
    let had : c.loop-row.keys.items ≡ keys ++ map (λ r. r.key) c.args.chunk.now.after.items = c.loop-row.invariant ∙ ap (λ l. keys ++ map (λ r. r.key) l) (all ∙ c.as_slice-row-items.ensures.value) in
    IfOk-weaker c.descending.result _ _ (λ ks same j. same j ∙ ap (among before j) had) c.descending.ensures.same

use Rattle.std.proofs.Common.{◌<◌, ◌≤◌, ◌+◌, length, arith, subst, sym}
use Rattle.std.proofs.lemmas.Result.{err_from_is_err_and}
use Rattle.api_types.specs.Lists.{Each}
use Rattle.api_types.proofs.ListLemmas.{each-push}
use Rattle.json_trees.specs.Printed.{tree_data}
use Rattle.wire_text.proofs.ListsRead.{Left, all_read, next_one, one_read}
use Rattle.wire_text.proofs.list.read_all.Goals as goal

pub returns-in_err-from_json-clause-reads : goal.returns-in_err-from_json-clause-reads
returns-in_err-from_json-clause-reads g c xs all same =
    let less : c.loop-value.value-index < length c.args.values.now = omega arith in
    let next = next_one (λ x. tree_data (g.T.ToJson.tree x)) g.T.FromJson.fits c.args.values.now c.loop-value.value-index c.loop-value.items c.value-item.result xs less c.value-item.is (c.loop-value.invariant.1 xs all same) in
    let p = err_from_is_err_and c.from_residual.result c.from_residual.ensures.1 in
    rw (p.1, p.2) (c.in_err-from_json.ensures.reads next.0 next.1 next.2)

pub loop-value-preserved : goal.loop-value-preserved
loop-value-preserved g c = (
  subst (Each g.T.FromJson.fits) (sym c.in_ok-push.ensures.ok) (each-push g.T.FromJson.fits c.loop-value.items c.in_ok-from_json.field-0 c.loop-value.invariant.0 c.in_ok-from_json.ensures.fits),
  λ xs all same.
      let less : c.loop-value.value-index < length c.args.values.now = omega arith in
      subst (λ ys. Left (λ x. tree_data (g.T.ToJson.tree x)) g.T.FromJson.fits c.args.values.now (c.loop-value.value-index + 1) ys xs) (sym c.in_ok-push.ensures.ok)
      (one_read (λ x. tree_data (g.T.ToJson.tree x)) g.T.FromJson.fits c.args.values.now c.loop-value.value-index c.loop-value.items c.value-item.result c.in_ok-from_json.field-0 xs less c.value-item.is c.in_ok-from_json.ensures.reads (c.loop-value.invariant.1 xs all same)),
)

pub returns-clause-reads : goal.returns-clause-reads
returns-clause-reads g c xs all same =
    let past : length c.args.values.now ≤ c.loop-value.value-index = omega arith in
    all_read (λ x. tree_data (g.T.ToJson.tree x)) g.T.FromJson.fits c.args.values.now c.loop-value.value-index c.loop-value.items xs past (c.loop-value.invariant.1 xs all same)

use Rattle.std.proofs.Common.{Some, of_calls, rules}
use Rattle.std.proofs.lemmas.List.Sorted.{IsPartitionPoint-from_clause}
use Rattle.plane_types.specs.Keyed.{with_keys}
use Rattle.plane_types.proofs.KeyedTablesLemmas.{with_keys-rows}
use Rattle.table_edits.proofs.PlaceLemmas.{halved, have_own, is_under}
use Rattle.table_edits.proofs.own_key.place_in.Goals as goal

pub returns : goal.returns
returns g c =
    let before = g.R.Key.TableKey.before in
    let order = g.met.R.Key.TableKey.total in
    let key_of = g.R.OwnKey.key_of in
    let rows = c.args.rows.now in
    halved before order (λ r. Some (key_of r)) c.args.key.now (with_keys key_of rows) c.requires (have_own key_of rows) rows (with_keys-rows key_of rows) c.partition_point.result
    (λ ok. IsPartitionPoint-from_clause (is_under before order (λ r. Some (key_of r)) c.args.key.now) rows c.partition_point.result c.partition_point.ensures.partitioned ok (λ a r q k. search (rules, of_calls)))
    (search (rules, of_calls))

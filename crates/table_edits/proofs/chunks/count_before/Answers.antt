use Rattle.std.proofs.Common.{Some, of_calls, rules}
use Rattle.std.proofs.lemmas.List.Sorted.{IsPartitionPoint-from_clause}
use Rattle.plane_types.specs.Keyed.{with_keys}
use Rattle.plane_types.proofs.KeyedTablesLemmas.{with_keys-rows}
use Rattle.table_edits.proofs.PlaceLemmas.{halved, have_own, is_under}
use Rattle.table_edits.proofs.chunks.count_before.Goals as goal

pub returns : goal.returns
returns g c =
    let before = g.K.TableKey.before in
    let order = g.met.K.TableKey.total in
    let keys = c.args.keys.now in
    halved before order (λ k. Some k) c.args.key.now (with_keys (λ k. k) keys) c.requires (have_own (λ k. k) keys) keys (with_keys-rows (λ k. k) keys) c.partition_point.result
    (λ ok. IsPartitionPoint-from_clause (is_under before order (λ k. Some k) c.args.key.now) keys c.partition_point.result c.partition_point.ensures.partitioned ok (λ a r q k. search (rules, of_calls)))
    (search (rules, of_calls))

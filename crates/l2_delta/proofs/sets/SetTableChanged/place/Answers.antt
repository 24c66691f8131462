use Rattle.std.proofs.Common.{of_calls, rules}
use Rattle.std.proofs.lemmas.List.Sorted.{IsPartitionPoint-from_clause}
use Rattle.l2_delta.proofs.SetPlaces.{comes_before, place_found}
use Rattle.l2_delta.proofs.sets.SetTableChanged.place.Goals as goal

pub returns : goal.returns
returns c =
    let self = c.args.self.now in
    let before = self.change.now.before.now in
    let host = self.change.now.host.now in
    let test = comes_before before host self.rows.now self.sets self.groups.now.rows self.numbered self.own_ids c.args.key.now in
    place_found before host self.rows.now self.sets self.groups.now.rows self.numbered self.own_ids c.args.key.now c.partition_point.result
    (λ ok. IsPartitionPoint-from_clause test self.rows.now c.partition_point.result c.partition_point.ensures.partitioned ok (λ a r q k. search (rules, of_calls)))
    c.partition_point.ensures.bound

use Rattle.std.proofs.Common.{◌≤◌, arith, length, of_calls, rules, subst}
use Rattle.std.proofs.lemmas.List.Sorted.{IsPartitionPoint-from_clause}
use Rattle.plane_types.proofs.NumberedLemmas.{number_order}
use Rattle.std.specs.Prelude.{nat_lt}
use Rattle.table_edits.specs.Places.{number_in}
use Rattle.table_edits.proofs.NumberPlaces.{all_before, place_found}
use Rattle.table_edits.proofs.PlaceLemmas.{is_under}
use Rattle.table_edits.proofs.by_row.NumberedChanged.place.Goals as goal

pub returns-then-key-rows : goal.returns-then-key-rows
returns-then-key-rows g c =
    let self = c.args.self.now in
    let id_of = g.T.Source.Keyed.id_of in
    let came = g.T.ByRow.came self.table.now in
    let source = g.T.ByRow.source_of self.table.now in
    let rows = self.numbers.now.rows in
    let high : length c.rows.result.now ≤ c.args.key.now = omega (arith, c.if-key-rows.true) in
    let past : length rows ≤ c.args.key.now = subst (λ rs. length rs ≤ c.args.key.now) c.rows.ensures.rows high in
    all_before id_of came source rows self.rows.now self.own_ids self.sources self.came c.args.key.now past

pub returns : goal.returns
returns g c =
    let self = c.args.self.now in
    let id_of = g.T.Source.Keyed.id_of in
    let came = g.T.ByRow.came self.table.now in
    let source = g.T.ByRow.source_of self.table.now in
    let rows = self.numbers.now.rows in
    let test = is_under nat_lt number_order (number_in id_of source rows) c.args.key.now in
    place_found id_of came source rows self.rows.now self.own_ids self.sources self.came c.args.key.now c.partition_point.result
    (λ ok. IsPartitionPoint-from_clause test self.rows.now c.partition_point.result c.partition_point.ensures.partitioned ok (λ a r q k. search (rules, of_calls)))
    c.partition_point.ensures.bound

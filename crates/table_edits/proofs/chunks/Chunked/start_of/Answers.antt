use Rattle.std.proofs.Common.{◌∙◌, ◌≤◌, ap, arith, length, of_calls, rules, subst, sym}
use Rattle.std.proofs.lemmas.List.Sorted.{IsPartitionPoint-from_clause}
use Rattle.table_edits.proofs.ChunkPlaces.{is_first, start_found, start_past}
use Rattle.table_edits.proofs.chunks.Chunked.start_of.Goals as goal

pub returns-then-number-rows : goal.returns-then-number-rows
returns-then-number-rows g c =
    let self = c.args.self.now in
    let came = g.T.ByChunk.came self.table.now in
    let rows = self.numbers.now.rows in
    let high : length c.rows.result.now ≤ c.args.number = omega (arith, c.if-number-rows.true) in
    let past : length rows ≤ c.args.number = subst (λ rs. length rs ≤ c.args.number) c.rows.ensures.rows high in
    ap length self.came ∙ sym (start_past came rows c.args.number past)

pub returns : goal.returns
returns g c =
    let self = c.args.self.now in
    let id_of = g.T.Source.Keyed.id_of in
    let came = g.T.ByChunk.came self.table.now in
    let source = g.T.ByChunk.source_of self.table.now in
    let rows = self.numbers.now.rows in
    let test = is_first id_of came source rows self.own_ids self.sources self.rows.now self.came c.args.number in
    start_found id_of came source rows self.own_ids self.sources self.rows.now self.came c.args.number c.partition_point.result
    (λ ok. IsPartitionPoint-from_clause test self.rows.now c.partition_point.result c.partition_point.ensures.partitioned ok (λ a r q k. search (rules, of_calls)))
    c.partition_point.ensures.bound

use Rattle.std.proofs.Common.{◌≡◌, ◌∙◌, ◌+◌, ap, arith, map, sym}
use Rattle.std.specs.Prelude.{nat_lt, option_copied}
use Rattle.plane_types.specs.Keyed.{row_at}
use Rattle.plane_types.specs.Numbered.{with_numbers}
use Rattle.table_edits.specs.ChunksSeen.{chunk_at}
use Rattle.table_edits.specs.NumbersSeen.{at_before}
use Rattle.table_edits.proofs.ChunkPlaces.{chunk_holds, chunk_rise}
use Rattle.table_edits.proofs.NumberSteps.{place_row}
use Rattle.table_edits.proofs.chunks.Chunked.chunk_of.Goals as goal

pub invariant_of-result-clause-keyed : goal.invariant_of-result-clause-keyed
invariant_of-result-clause-keyed g c =
    let self = c.args.self.now in
    let rows = self.numbers.now.rows in
    let number = c.args.number in
    let start : 0 + number ≡ number = omega arith in
    let at : option_copied c.row.result ≡ at_before self.numbers.now number = c.row.ensures ∙ sym (place_row 0 rows number) ∙ ap (λ k. row_at nat_lt k (with_numbers 0 rows)) start in
    c.requires.keyed ∙ ap (λ o. map (λ x. x.0) (chunk_at (g.T.ByChunk.came self.table.now) o)) (sym at)

pub invariant_of-result-clause-within : goal.invariant_of-result-clause-within
invariant_of-result-clause-within g c =
    let self = c.args.self.now in
    let rows = self.numbers.now.rows in
    let number = c.args.number in
    let start : 0 + number ≡ number = omega arith in
    let at : option_copied c.row.result ≡ at_before self.numbers.now number = c.row.ensures ∙ sym (place_row 0 rows number) ∙ ap (λ k. row_at nat_lt k (with_numbers 0 rows)) start in
    (chunk_holds (g.T.ByChunk.came self.table.now) self.rows.now number rows self.came (option_copied c.row.result) c.row.ensures c.start_of.result c.start_of.ensures
    c.args.keys.items (c.requires.keyed ∙ ap (λ o. map (λ x. x.0) (chunk_at (g.T.ByChunk.came self.table.now) o)) (sym at))).0

pub invariant_of-result-clause-stand : goal.invariant_of-result-clause-stand
invariant_of-result-clause-stand g c =
    let self = c.args.self.now in
    let rows = self.numbers.now.rows in
    let number = c.args.number in
    let start : 0 + number ≡ number = omega arith in
    let at : option_copied c.row.result ≡ at_before self.numbers.now number = c.row.ensures ∙ sym (place_row 0 rows number) ∙ ap (λ k. row_at nat_lt k (with_numbers 0 rows)) start in
    (chunk_holds (g.T.ByChunk.came self.table.now) self.rows.now number rows self.came (option_copied c.row.result) c.row.ensures c.start_of.result c.start_of.ensures
    c.args.keys.items (c.requires.keyed ∙ ap (λ o. map (λ x. x.0) (chunk_at (g.T.ByChunk.came self.table.now) o)) (sym at))).1

pub invariant_of-result-clause-rise : goal.invariant_of-result-clause-rise
invariant_of-result-clause-rise g c =
    let self = c.args.self.now in
    chunk_rise g.T.Key.TableKey.before (g.T.ByChunk.came self.table.now) self.rise (option_copied c.row.result)

pub invariant_of-result-clause-rise_after : goal.invariant_of-result-clause-rise_after
invariant_of-result-clause-rise_after g c =
    let self = c.args.self.now in
    chunk_rise g.T.Key.TableKey.before (g.T.ByChunk.comes self.table.now) self.rise_after (option_copied c.row_after.result)

pub returns-clause-old : goal.returns-clause-old
returns-clause-old g c =
    let rows = c.args.self.now.numbers.now.rows in
    let number = c.args.number in
    let start : 0 + number ≡ number = omega arith in
    c.row.ensures ∙ sym (place_row 0 rows number) ∙ ap (λ k. row_at nat_lt k (with_numbers 0 rows)) start

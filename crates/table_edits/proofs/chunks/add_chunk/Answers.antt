use Rattle.std.proofs.Common.{◌≡◌, ◌∙◌, ◌+◌, ◌++◌, ◌<◌, ◌≤◌, ◌^◌, Option, [], ap, arith, length, map, refl, rules, subst, sym}
use Rattle.std.specs.Prelude.{nat_lt, option_copied}
use Rattle.std.proofs.Math.Path.{transport}
use Rattle.std.proofs.lemmas.List.{append-nil}
use Rattle.std.proofs.lemmas.Result.{on_ok_weaker}
use Rattle.plane_types.specs.Keyed.{row_at}
use Rattle.plane_types.specs.Numbered.{with_numbers}
use Rattle.table_edits.specs.ChunksSeen.{AreChunkEdits, chunk_at, moved_edit}
use Rattle.table_edits.specs.EditsAt.{AreEditsAt, among}
use Rattle.table_edits.specs.NumbersSeen.{at_after, at_before}
use Rattle.table_edits.proofs.ChunkLaw.{edits_within, keys_only, none_at_others, none_made, none_mapped}
use Rattle.table_edits.proofs.NumberSteps.{place_row}
use Rattle.table_edits.proofs.chunks.add_chunk.Goals as goal

pub returns-then-is_empty-2 : goal.returns-then-is_empty-2
returns-then-is_empty-2 g c =
    let before = g.T.Key.TableKey.before in
    let table = c.args.table.now in
    let numbers = table.numbers.now in
    let number = c.args.number in
    let came = g.T.ByChunk.came table.table.now in
    let comes = g.T.ByChunk.comes table.table.now in
    let start : 0 + number ≡ number = omega arith in
    let none_before : length c.in_ok-before.before.items ≡ 0 = search (rules, arith) in
    let none_after : length c.in_ok-after.after.items ≡ 0 = search (rules, arith) in
    let at : option_copied c.row.result ≡ at_before numbers number = c.row.ensures ∙ sym (place_row 0 numbers.rows number) ∙ ap (λ k. row_at nat_lt k (with_numbers 0 numbers.rows)) start in
    let old : chunk_at came (at_before numbers number) ≡ [] = ap (chunk_at came) (sym at) ∙ none_mapped (λ x. x.0) (chunk_at came (option_copied c.row.result)) c.in_ok-before.before.items c.in_ok-before.ensures none_before in
    let new : chunk_at comes (at_after numbers number) ≡ [] = ap (chunk_at comes) (sym c.row_after.ensures) ∙ none_made (λ r. (r.key, r.row)) c.in_ok-after.after.items (chunk_at comes (option_copied c.row_after.result)) c.in_ok-after.ensures none_after in
    record {
      found = [];
      are = record {
        keys = [];
        down = tt;
        are = refl;
        others = λ j away. ap (row_at before j) old ∙ sym (ap (row_at before j) new);
      };
      added = sym (append-nil c.args.edits.now);
    }

pub chunk_of-chunk-requires-clause-keyed : goal.chunk_of-chunk-requires-clause-keyed
chunk_of-chunk-requires-clause-keyed g c =
    let table = c.args.table.now in
    let rows = table.numbers.now.rows in
    let number = c.args.number in
    let start : 0 + number ≡ number = omega arith in
    c.in_ok-before.ensures
    ∙ ap (λ o. map (λ x. x.0) (chunk_at (g.T.ByChunk.came table.table.now) o))
    (c.row.ensures ∙ sym (place_row 0 rows number) ∙ ap (λ k. row_at nat_lt k (with_numbers 0 rows)) start)

pub add_edits-requires : goal.add_edits-requires
add_edits-requires g c =
    let before = g.T.Key.TableKey.before in
    let chunk = c.chunk_of-chunk.result in
    let old = chunk_at (g.T.ByChunk.came chunk.table.now) (option_copied chunk.old) in
    let new = chunk_at (g.T.ByChunk.comes chunk.table.now) (option_copied chunk.new) in
    let small : length chunk.rows.now < 2 ^ 64 = search rules in
    edits_within before old (λ j. row_at before j new) chunk.start (length chunk.rows.now)
    (subst (λ ks. chunk.start + length ks ≤ length chunk.rows.now) chunk.keyed chunk.within) small c.as_slice.result.now c.in_ok-found.found c.in_ok-found.ensures

pub returns : goal.returns
returns g c =
    let before = g.T.Key.TableKey.before in
    let chunk = c.chunk_of-chunk.result in
    let old = chunk_at (g.T.ByChunk.came chunk.table.now) (option_copied chunk.old) in
    let new = chunk_at (g.T.ByChunk.comes chunk.table.now) (option_copied chunk.new) in
    let found = c.in_ok-found.found in
    let keys = c.in_ok-keys.keys.items in
    let lent : c.as_slice.result.now ≡ keys = c.as_slice.ensures.value in
    let all : chunk.keys.items ++ map (λ r. r.key) chunk.after.items ≡ map (λ x. x.0) old ++ map (λ x. x.0) new =
    λ j. chunk.keyed j ++ (keys_only (λ r. r.key) (λ r. r.row) chunk.after.items ∙ ap (map (λ x. x.0)) chunk.comes) j in
    let are : AreChunkEdits before old new found = record {
      keys = keys;
      down = c.in_ok-keys.ensures.down;
      are = subst (λ ks. AreEditsAt before old (λ j. row_at before j new) ks found) lent c.in_ok-found.ensures;
      others = λ j away. none_at_others before j old new (sym (c.in_ok-keys.ensures.all j ∙ ap (among before j) all) ∙ away);
    } in
    on_ok_weaker c.add_edits.result
    (λ added. record {
      found = found;
      are = transport (λ j. AreChunkEdits before
          (chunk_at (g.T.ByChunk.came (c.chunk_of-chunk.ensures.table j)) (c.chunk_of-chunk.ensures.old j))
          (chunk_at (g.T.ByChunk.comes (c.chunk_of-chunk.ensures.table j)) (c.chunk_of-chunk.ensures.new j)) found) are;
      added = added ∙ ap (λ n. c.args.edits.now ++ map (moved_edit n) found) c.chunk_of-chunk.ensures.start;
    })
    c.add_edits.ensures

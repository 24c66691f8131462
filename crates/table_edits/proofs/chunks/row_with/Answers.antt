use Rattle.std.proofs.Common.{◌≡◌, ◌∙◌, None, Some, ap, false, map, not, of_calls, rules, slice_get, sym, true}
use Rattle.std.specs.Prelude.{if◌then◌else◌, option_copied, option_map}
use Rattle.std.proofs.lemmas.List.Sorted.{IsPartitionPoint-from_clause}
use Rattle.plane_types.specs.Keyed.{row_at}
use Rattle.table_edits.proofs.ChunkPlaces.{paired_found}
use Rattle.table_edits.proofs.PlaceLemmas.{got_at, is_under, row_here}
use Rattle.table_edits.proofs.chunks.row_with.Goals as goal

pub returns-in_err-row : goal.returns-in_err-row
returns-in_err-row g c =
    let before = g.K.TableKey.before in
    let order = g.met.K.TableKey.total in
    let rows = c.args.rows.now in
    let key = c.args.key.now in
    let place = c.partition_point-place.result in
    let found : row_at before key (map (λ r. (r.key, r.row)) rows) ≡ option_map (λ r. r.row) (row_here before order (λ r. r.key) key (slice_get rows place)) =
    paired_found before order (λ r. r.key) (λ r. r.row) key rows c.requires place
    (λ ok. IsPartitionPoint-from_clause (is_under before order (λ r. Some r.key) key) rows place c.partition_point-place.ensures.partitioned ok (λ a r q k. search (rules, of_calls)))
    (search (rules, of_calls)) in
    let gone : c.get.result ≡ None = search rules in
    let at : None ≡ slice_get rows place = ap option_copied (sym gone) ∙ got_at rows place c.get.result c.get.ensures.lookup.3 in
    let none : option_copied c.from_residual.result ≡ None = search rules in
    none ∙ ap (λ o. option_map (λ r. r.row) (row_here before order (λ r. r.key) key o)) at ∙ sym found

pub returns-then-is_before : goal.returns-then-is_before
returns-then-is_before g c =
    let before = g.K.TableKey.before in
    let order = g.met.K.TableKey.total in
    let rows = c.args.rows.now in
    let key = c.args.key.now in
    let place = c.partition_point-place.result in
    let row = c.in_ok-row.row.now in
    let found : row_at before key (map (λ r. (r.key, r.row)) rows) ≡ option_map (λ r. r.row) (row_here before order (λ r. r.key) key (slice_get rows place)) =
    paired_found before order (λ r. r.key) (λ r. r.row) key rows c.requires place
    (λ ok. IsPartitionPoint-from_clause (is_under before order (λ r. Some r.key) key) rows place c.partition_point-place.ensures.partitioned ok (λ a r q k. search (rules, of_calls)))
    (search (rules, of_calls)) in
    let got : c.get.result ≡ Some c.in_ok-row.row = search rules in
    let at : Some row ≡ slice_get rows place = ap option_copied (sym got) ∙ got_at rows place c.get.result c.get.ensures.lookup.3 in
    let past : before key row.key ≡ true = sym c.is_before.ensures ∙ c.if-is_before.true in
    (λ j. option_map (λ r. r.row) (if not (sym past j) then Some row else None)) ∙ ap (λ o. option_map (λ r. r.row) (row_here before order (λ r. r.key) key o)) at ∙ sym found

pub returns-else-is_before : goal.returns-else-is_before
returns-else-is_before g c =
    let before = g.K.TableKey.before in
    let order = g.met.K.TableKey.total in
    let rows = c.args.rows.now in
    let key = c.args.key.now in
    let place = c.partition_point-place.result in
    let row = c.in_ok-row.row.now in
    let found : row_at before key (map (λ r. (r.key, r.row)) rows) ≡ option_map (λ r. r.row) (row_here before order (λ r. r.key) key (slice_get rows place)) =
    paired_found before order (λ r. r.key) (λ r. r.row) key rows c.requires place
    (λ ok. IsPartitionPoint-from_clause (is_under before order (λ r. Some r.key) key) rows place c.partition_point-place.ensures.partitioned ok (λ a r q k. search (rules, of_calls)))
    (search (rules, of_calls)) in
    let got : c.get.result ≡ Some c.in_ok-row.row = search rules in
    let at : Some row ≡ slice_get rows place = ap option_copied (sym got) ∙ got_at rows place c.get.result c.get.ensures.lookup.3 in
    let past : before key row.key ≡ false = sym c.is_before.ensures ∙ c.if-is_before.false in
    (λ j. option_map (λ r. r.row) (if not (sym past j) then Some row else None)) ∙ ap (λ o. option_map (λ r. r.row) (row_here before order (λ r. r.key) key o)) at ∙ sym found

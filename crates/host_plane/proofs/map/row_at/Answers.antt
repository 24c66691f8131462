use Rattle.std.proofs.Common.{◌∙◌, ◌<◌, refl, sym, arith, rules, of_calls, length}
use Rattle.std.proofs.lemmas.List.Sorted.{IsPartitionPoint-from_clause}
use Rattle.std.proofs.lemmas.Option.{slice_get_read}
use Rattle.plane_types.specs.Hosts.{pair_before}
use Rattle.host_plane.proofs.MapLemmas.{all_before, another, found, partitioned}
use Rattle.host_plane.proofs.map.row_at.Goals as goal

pub returns-then-place-rows : goal.returns-then-place-rows
returns-then-place-rows g c = λ up.
    all_before g.R.Mapped.first_of g.R.Mapped.second_of c.args.first c.args.second c.args.rows.now up c.partition_point-place.result
    (IsPartitionPoint-from_clause (λ r. pair_before (g.R.Mapped.first_of r) (g.R.Mapped.second_of r) c.args.first c.args.second) c.args.rows.now c.partition_point-place.result c.partition_point-place.ensures.partitioned (partitioned g.R.Mapped.first_of g.R.Mapped.second_of c.args.first c.args.second c.args.rows.now up) (λ a r q k. search (rules, of_calls)))
    (omega (arith, c.if-place-rows.true))

pub returns-then-is_at : goal.returns-then-is_at
returns-then-is_at g c = λ up.
    let below : c.partition_point-place.result < length c.args.rows.now = omega (arith, c.if-place-rows.false, c.partition_point-place.ensures.bound) in
    found g.R.Mapped.first_of g.R.Mapped.second_of c.args.first c.args.second c.args.rows.now up c.partition_point-place.result
    (IsPartitionPoint-from_clause (λ r. pair_before (g.R.Mapped.first_of r) (g.R.Mapped.second_of r) c.args.first c.args.second) c.args.rows.now c.partition_point-place.result c.partition_point-place.ensures.partitioned (partitioned g.R.Mapped.first_of g.R.Mapped.second_of c.args.first c.args.second c.args.rows.now up) (λ a r q k. search (rules, of_calls)))
    c.partition_point-place.ensures.bound c.index-rows-place.result (slice_get_read c.args.rows.now (length c.args.rows.now) c.partition_point-place.result c.index-rows-place.result refl below c.index-rows-place.is) (sym c.is_at.ensures ∙ c.if-is_at.true)

pub returns-else-is_at : goal.returns-else-is_at
returns-else-is_at g c = λ up.
    let below : c.partition_point-place.result < length c.args.rows.now = omega (arith, c.if-place-rows.false, c.partition_point-place.ensures.bound) in
    another g.R.Mapped.first_of g.R.Mapped.second_of c.args.first c.args.second c.args.rows.now up c.partition_point-place.result
    (IsPartitionPoint-from_clause (λ r. pair_before (g.R.Mapped.first_of r) (g.R.Mapped.second_of r) c.args.first c.args.second) c.args.rows.now c.partition_point-place.result c.partition_point-place.ensures.partitioned (partitioned g.R.Mapped.first_of g.R.Mapped.second_of c.args.first c.args.second c.args.rows.now up) (λ a r q k. search (rules, of_calls)))
    below c.index-rows-place.result (slice_get_read c.args.rows.now (length c.args.rows.now) c.partition_point-place.result c.index-rows-place.result refl below c.index-rows-place.is) (sym c.is_at.ensures ∙ c.if-is_at.false)

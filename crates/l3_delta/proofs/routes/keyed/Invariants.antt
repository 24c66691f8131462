use Rattle.std.proofs.Common.{◌≡◌, ◌++◌, List, drop, map}
use Rattle.plane_types.specs.KeyedTables.{WayKey as TheKey}
use Rattle.plane_types.specs.declared.table.RouteRow.{RouteRow}
use Rattle.plane_types.specs.TableRows.{route_row}
use Rattle.plane_rows.specs.Ways.{way_of}
use Rattle.l3_delta.proofs.routes.keyed.Given as goal

-- those so far, and those that are left, are all
abbrev pub invariant-loop-place : goal.invariant-loop-place
invariant-loop-place l =
    (xs : List (TheKey × RouteRow)) → map (λ (x : TheKey × RouteRow). x.0) xs ≡ l.keys
    → map (λ (x : TheKey × RouteRow). x.1) xs ≡ map (λ w. route_row l.router (way_of w)) l.ways
    → map (λ r. (r.key, r.row)) l.rows.items ++ drop l.place xs ≡ xs

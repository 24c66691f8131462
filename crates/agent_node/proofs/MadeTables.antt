-- The tables that a host makes of rows realise them, and its two maps are in the order of their keys.
use Rattle.std.proofs.Common.{arith, refl, ℕ}
use Rattle.std.specs.List.Sorted.{IsSortedBy}
use Rattle.std.specs.Cmp.{IsStrictWeakOrder}
use Rattle.std.proofs.lemmas.Bool.Decides.{nat_tests}
use Rattle.std.specs.Prelude.{◌++◌, List, flat_map}
use Rattle.std.specs.List.{filter_map}
use Rattle.api_types.specs.Consistent.{IsConsistent}
use Rattle.api_types.specs.RowLists.{RowLists}
use Rattle.api_types.proofs.SortLemmas.{ascending_sorted}
use Rattle.plane_types.specs.Hosts.{bridge_before, neighbour_before}
use Rattle.plane_types.specs.NewTags.{AreTags, new_tags}
use Rattle.plane_types.specs.Realises.{Realises}
use Rattle.plane_types.proofs.RetaggedLaw.{tags_stand}
use Rattle.plane_types.specs.TablesOfRows.{tables_of_rows}
use Rattle.plane_types.specs.TableRows.{bridge_rows, dhcp_row, floating_neighbour, mac_row, neighbour_rows, neighbours_of}
use Rattle.plane_types.specs.declared.table.TagRow.{TagRow}

bridge_is_order : IsStrictWeakOrder bridge_before
bridge_is_order = record { one_way = λ x y h. grind (arith, nat_tests); chain = λ x y z h k. grind (arith, nat_tests) }

neighbour_is_order : IsStrictWeakOrder neighbour_before
neighbour_is_order = record { one_way = λ x y h. grind (arith, nat_tests); chain = λ x y z h k. grind (arith, nat_tests) }

bridge_sorted : (rows : RowLists) (host : List ℕ) (tags : List TagRow) → IsSortedBy bridge_before (bridge_rows rows host tags)
unfolding bridge_rows
bridge_sorted rows host tags = ascending_sorted bridge_before bridge_is_order (filter_map (mac_row rows host tags) rows.ports ++ filter_map (dhcp_row rows host tags) rows.ports)

neighbours_sorted : (rows : RowLists) (host : List ℕ) (tags : List TagRow) → IsSortedBy neighbour_before (neighbour_rows rows host tags)
unfolding neighbour_rows
neighbours_sorted rows host tags = ascending_sorted neighbour_before neighbour_is_order (flat_map (neighbours_of rows host tags) rows.ports ++ filter_map (floating_neighbour rows host tags) rows.floatings)

-- so are those of its tables
pub bridge_in_order : (rows : RowLists) (host : List ℕ) (old : List TagRow) → IsSortedBy bridge_before (tables_of_rows rows host old).bridge
unfolding tables_of_rows
bridge_in_order rows host old = bridge_sorted rows host (new_tags rows host old)

pub neighbours_in_order : (rows : RowLists) (host : List ℕ) (old : List TagRow) → IsSortedBy neighbour_before (tables_of_rows rows host old).neighbours
unfolding tables_of_rows
neighbours_in_order rows host old = neighbours_sorted rows host (new_tags rows host old)

-- and these realise the rows
pub tables_realise : (rows : RowLists) (host : List ℕ) (old : List TagRow) → AreTags old → IsConsistent rows → Realises rows host (tables_of_rows rows host old)
unfolding tables_of_rows
tables_realise rows host old tags consistent = record {
  tags = tags_stand rows host old tags consistent;
  taps = refl;
  filters = refl;
  sets = refl;
  bridge = refl;
  inward = refl;
  neighbours = refl;
  routers = refl;
  routes = refl;
  floats = refl;
  leases = refl;
}

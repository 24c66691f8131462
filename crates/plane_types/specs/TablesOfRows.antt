-- The tables that a host makes of rows.
use Rattle.std.specs.Prelude.{List}
use Rattle.net_addr.specs.Words.{Text}
use Rattle.api_types.specs.RowLists.{RowLists}
use Rattle.plane_types.specs.NewTags.{new_tags}
use Rattle.plane_types.specs.TableRows.{bridge_rows, filter_rows, float_rows, inward_rows, lease_rows, neighbour_rows, route_rows, router_rows, set_rows, tap_rows}
use Rattle.plane_types.specs.declared.table.TagRow.{TagRow}
use Rattle.plane_types.specs.declared.lists.TableLists.{TableLists}

-- for these tags
abbrev pub tables_for_tags : RowLists → Text → List TagRow → TableLists
tables_for_tags rows host tags = record {
  tags = tags;
  taps = tap_rows rows host tags;
  filters = filter_rows rows host;
  sets = set_rows rows (filter_rows rows host);
  bridge = bridge_rows rows host tags;
  inward = inward_rows rows tags;
  neighbours = neighbour_rows rows host tags;
  routers = router_rows rows host tags;
  routes = route_rows rows host;
  floats = float_rows rows host;
  leases = lease_rows rows host tags;
}

-- where its tags were these
unfoldable pub tables_of_rows : RowLists → Text → List TagRow → TableLists
tables_of_rows rows host old = tables_for_tags rows host (new_tags rows host old)

-- The edits of all tables of a host: what they lead to, how many rows they write, what room they
-- need, and that they write no more rows than they have to.
use Rattle.std.specs.Prelude.{◌≤◌, ℕ, ◌+◌, nat_lt, List}
use Rattle.net_addr.specs.Words.{Text}
use Rattle.plane_types.specs.Edits.{AreFew, all_puts, all_writes, with_edits}
use Rattle.plane_types.specs.KeyedTables.{bridge_order, filter_order, keyed_bridge, keyed_filters, keyed_floats, keyed_inward, keyed_leases, keyed_neighbours, keyed_routers, keyed_routes, keyed_sets, keyed_tags, keyed_taps, neighbour_order, route_order, set_order}
use Rattle.plane_types.specs.NumberedRows.{NumberedRows}
use Rattle.plane_types.specs.Room.{TableRoom}
use Rattle.plane_types.specs.declared.delta.Delta.{Delta}
use Rattle.plane_types.specs.declared.lists.TableLists.{TableLists}
use Rattle.plane_types.specs.declared.table.TagRow.{TagRow}

-- the tables with all edits of each
abbrev pub with_delta : TableLists → Delta → TableLists
with_delta t d = record {
  tags = with_edits t.tags d.l2.tag_edits;
  taps = with_edits t.taps d.l2.taps;
  filters = with_edits t.filters d.l2.filters;
  sets = with_edits t.sets d.l2.sets;
  bridge = with_edits t.bridge d.l2.bridge;
  inward = with_edits t.inward d.l2.inward;
  neighbours = with_edits t.neighbours d.l2.neighbours;
  routers = with_edits t.routers d.l3.routers;
  routes = with_edits t.routes d.l3.routes;
  floats = with_edits t.floats d.l3.floats;
  leases = with_edits t.leases d.dhcp.leases;
}

-- how many rows are taken out and put in
abbrev pub l2_steps : Delta → ℕ
l2_steps d =
    all_writes d.l2.tag_edits + all_writes d.l2.taps + all_writes d.l2.filters
    + all_writes d.l2.sets + all_writes d.l2.bridge + all_writes d.l2.inward
    + all_writes d.l2.neighbours

abbrev pub l3_steps : Delta → ℕ
l3_steps d = all_writes d.l3.routers + all_writes d.l3.routes + all_writes d.l3.floats

abbrev pub all_steps : Delta → ℕ
all_steps d = l2_steps d + l3_steps d + all_writes d.dhcp.leases

-- how many rows are put into each table
abbrev pub puts_into : Delta → TableRoom
puts_into d = record {
  tags = all_puts d.l2.tag_edits;
  taps = all_puts d.l2.taps;
  filters = all_puts d.l2.filters;
  sets = all_puts d.l2.sets;
  bridge = all_puts d.l2.bridge;
  inward = all_puts d.l2.inward;
  neighbours = all_puts d.l2.neighbours;
  routers = all_puts d.l3.routers;
  routes = all_puts d.l3.routes;
  floats = all_puts d.l3.floats;
  leases = all_puts d.dhcp.leases;
}

-- in each table no more than this
pub record IsWithin (less more : TableRoom) : Type 0 where
  pub tags : less.tags ≤ more.tags
  pub taps : less.taps ≤ more.taps
  pub filters : less.filters ≤ more.filters
  pub sets : less.sets ≤ more.sets
  pub bridge : less.bridge ≤ more.bridge
  pub inward : less.inward ≤ more.inward
  pub neighbours : less.neighbours ≤ more.neighbours
  pub routers : less.routers ≤ more.routers
  pub routes : less.routes ≤ more.routes
  pub floats : less.floats ≤ more.floats
  pub leases : less.leases ≤ more.leases

abbrev pub room_sum : TableRoom → TableRoom → TableRoom
room_sum a b = record {
  tags = a.tags + b.tags;
  taps = a.taps + b.taps;
  filters = a.filters + b.filters;
  sets = a.sets + b.sets;
  bridge = a.bridge + b.bridge;
  inward = a.inward + b.inward;
  neighbours = a.neighbours + b.neighbours;
  routers = a.routers + b.routers;
  routes = a.routes + b.routes;
  floats = a.floats + b.floats;
  leases = a.leases + b.leases;
}

-- each table takes in what is put into it
abbrev pub HasRoom : TableRoom → Delta → Type 0
HasRoom room d = IsWithin (puts_into d) room

-- each row that was put in took room for one row, and no more
abbrev pub TookRoom : TableRoom → TableRoom → Delta → Type 0
TookRoom old new d = IsWithin old (room_sum new (puts_into d))

-- in each table no row is written that stands there before and after, with the same key: the edits
-- of a change to rows, for the tags before and after
pub record AreFewEdits (host : Text) (before after : NumberedRows) (old new : List TagRow)
    (d : Delta) : Type 0 where
  pub tags : AreFew nat_lt (keyed_tags before old) (keyed_tags after new) d.l2.tag_edits
  pub taps : AreFew nat_lt (keyed_taps before host old) (keyed_taps after host new) d.l2.taps
  pub filters : AreFew filter_order (keyed_filters before host) (keyed_filters after host)
      d.l2.filters
  pub sets : AreFew set_order (keyed_sets before host) (keyed_sets after host) d.l2.sets
  pub bridge :
      AreFew bridge_order (keyed_bridge before host old) (keyed_bridge after host new) d.l2.bridge
  pub inward : AreFew nat_lt (keyed_inward before old) (keyed_inward after new) d.l2.inward
  pub neighbours :
      AreFew neighbour_order
      (keyed_neighbours before host old) (keyed_neighbours after host new) d.l2.neighbours
  pub routers : AreFew nat_lt (keyed_routers before host old) (keyed_routers after host new)
      d.l3.routers
  pub routes : AreFew route_order (keyed_routes before host) (keyed_routes after host) d.l3.routes
  pub floats : AreFew nat_lt (keyed_floats before host) (keyed_floats after host) d.l3.floats
  pub leases : AreFew nat_lt (keyed_leases before host old) (keyed_leases after host new)
      d.dhcp.leases

-- The rows of the API from which rows of tables come, with their numbers: before a change, and
-- after it.
use Rattle.std.specs.Prelude.{ℕ, Bool, true, false, List, [], ◌∷◌, Option, option_and_then, if◌then◌else◌}
use Rattle.api_types.specs.Parts.{floating_of, group_of, network_of, port_of, router_of, rule_of}
use Rattle.api_types.specs.RowLists.{RowLists}
use Rattle.api_types.specs.Rows.{after}
use Rattle.api_types.specs.declared.change.Item.{Item}
use Rattle.api_types.specs.declared.floating.FloatingRow.{FloatingRow}
use Rattle.api_types.specs.declared.group.GroupRow.{GroupRow}
use Rattle.api_types.specs.declared.group.RuleRow.{RuleRow}
use Rattle.api_types.specs.declared.kind.Kind.{Kind}
use Rattle.api_types.specs.declared.kind.Kind.TheVariants.{Project, Network, Subnet, Port, Group, Rule, Router, Floating, Policy}
use Rattle.api_types.specs.declared.kind.Row.{Row}
use Rattle.api_types.specs.declared.network.NetworkRow.{NetworkRow}
use Rattle.api_types.specs.declared.port.PortRow.{PortRow}
use Rattle.api_types.specs.declared.router.RouterRow.{RouterRow}
use Rattle.plane_types.specs.Numbered.{RowItem, numbered_after, with_numbers}

abbrev pub is_kind : Kind → Kind → Bool
is_kind Project Project = true
is_kind Network Network = true
is_kind Subnet Subnet = true
is_kind Port Port = true
is_kind Group Group = true
is_kind Rule Rule = true
is_kind Router Router = true
is_kind Floating Floating = true
is_kind Policy Policy = true
is_kind _ _ = false

module _ {R : Type 0} (kind : Kind) (part : Row → Option R) where
  abbrev pub row_item : Item → RowItem R
  row_item item = record {
    place = item.place;
    old = option_and_then part item.before;
    new = option_and_then part item.after;
  }

  -- what a change does to the rows of a kind
  abbrev pub row_items : List Item → List (RowItem R)
  row_items [] = []
  row_items (item ∷ items) =
      if is_kind kind item.kind then row_item item ∷ row_items items else row_items items

-- the rows, and those of six kinds with their numbers
pub record NumberedRows : Type 0 where
  pub rows : RowLists
  pub networks : List (ℕ × NetworkRow)
  pub ports : List (ℕ × PortRow)
  pub groups : List (ℕ × GroupRow)
  pub rules : List (ℕ × RuleRow)
  pub routers : List (ℕ × RouterRow)
  pub floatings : List (ℕ × FloatingRow)

-- before a change
abbrev pub numbered_rows : RowLists → NumberedRows
numbered_rows rows = record {
  rows = rows;
  networks = with_numbers 0 rows.networks;
  ports = with_numbers 0 rows.ports;
  groups = with_numbers 0 rows.groups;
  rules = with_numbers 0 rows.rules;
  routers = with_numbers 0 rows.routers;
  floatings = with_numbers 0 rows.floatings;
}

-- after it
abbrev pub numbered_rows_after : RowLists → List Item → NumberedRows
numbered_rows_after rows items = record {
  rows = after rows items;
  networks = numbered_after rows.networks (row_items Network network_of items);
  ports = numbered_after rows.ports (row_items Port port_of items);
  groups = numbered_after rows.groups (row_items Group group_of items);
  rules = numbered_after rows.rules (row_items Rule rule_of items);
  routers = numbered_after rows.routers (row_items Router router_of items);
  floatings = numbered_after rows.floatings (row_items Floating floating_of items);
}

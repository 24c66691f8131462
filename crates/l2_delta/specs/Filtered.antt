-- Ports whose filters a change touches by their groups, and groups that a change touches.
use Rattle.std.specs.Prelude.{◌&&◌, ℕ, nat_lt, Bool, true, false, List, [], Option, Some, None, if◌then◌else◌}
use Rattle.std.specs.List.{list_any}
use Rattle.net_addr.specs.Words.{Text}
use Rattle.api_types.specs.Ident.{Ident}
use Rattle.api_types.specs.RowLists.{RowLists}
use Rattle.api_types.specs.Table.{ident_eq}
use Rattle.api_types.specs.declared.group.GroupRow.{GroupRow}
use Rattle.api_types.specs.declared.group.RuleRow.{RuleRow}
use Rattle.api_types.specs.declared.port.PortRow.{PortRow}
use Rattle.plane_types.specs.Keyed.{chunks, cons_at}
use Rattle.plane_types.specs.KeyedTables.{group_filters}
use Rattle.plane_types.specs.NumberedRows.{NumberedRows}
use Rattle.plane_types.specs.TableRows.{filter_by, is_tap}
use Rattle.plane_types.specs.declared.table.FilterRow.{FilterRow}
use Rattle.l2_delta.specs.Gathered.{piece_at}

-- a port of the host whose groups filter what it sends and gets
abbrev pub is_filtered : RowLists → Text → PortRow → Bool
is_filtered rows host p = is_tap rows host p && p.secured

-- such a port, of which a group is one of some
abbrev pub is_filtered_by : RowLists → Text → (Ident → Bool) → PortRow → Bool
is_filtered_by rows host groups p = is_filtered rows host p && list_any groups p.groups

-- whether it is the id of a group
abbrev pub is_group : Ident → Option GroupRow → Bool
is_group i None = false
is_group i (Some g) = ident_eq i g.id

-- whether these are the rows of one group, or none
abbrev pub is_one_group : Option GroupRow → Option GroupRow → Bool
is_one_group None None = true
is_one_group None (Some h) = false
is_one_group (Some g) None = false
is_one_group (Some g) (Some h) = ident_eq g.id h.id

-- whether it is the id of a rule's group
abbrev pub is_of_group : Ident → Option RuleRow → Bool
is_of_group i None = false
is_of_group i (Some r) = ident_eq i r.group

-- a rule, if it is one of a group
abbrev pub rule_of_group : Ident → Option RuleRow → Option RuleRow
rule_of_group i None = None
rule_of_group i (Some r) = if ident_eq r.group i then Some r else None

-- the filter by a rule, under the rule's number, if it is one of a group
abbrev pub rule_filter : PortRow → GroupRow → ℕ → RuleRow → List (ℕ × FilterRow)
rule_filter p g k r = cons_at nat_lt k (filter_by p g r) []

abbrev pub rule_filters : PortRow → GroupRow → ℕ → Option RuleRow → List (ℕ × FilterRow)
rule_filters p g = piece_at (rule_filter p g)

-- the filters of a port by all groups that it names
abbrev pub filters_by_groups : NumberedRows → PortRow → List ((ℕ × ℕ) × FilterRow)
filters_by_groups n p = chunks (group_filters n p) n.groups

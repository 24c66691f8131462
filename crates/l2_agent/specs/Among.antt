-- Networks and groups that are among some.
use Rattle.std.specs.Prelude.{Bool, List, [], flat_map, map, if◌then◌else◌}
use Rattle.std.specs.HashSet.{HashSet, contains}
use Rattle.std.specs.List.{filter}
use Rattle.net_addr.specs.Prefixes.{Prefix}
use Rattle.api_types.specs.Ident.{Ident}
use Rattle.api_types.specs.Members.{members}
use Rattle.api_types.specs.RowLists.{RowLists}
use Rattle.api_types.specs.Table.{ident_eq}
use Rattle.api_types.specs.declared.group.GroupRow.{GroupRow}
use Rattle.api_types.specs.declared.network.NetworkRow.{NetworkRow}
use Rattle.plane_types.specs.declared.table.SetRow.{SetRow}

abbrev pub is_in : {S : Type 0} → HashSet Ident S → NetworkRow → Bool
is_in ids n = contains ident_eq ids n.id

-- those of the networks, in order of creation
abbrev pub ids_among : {S : Type 0} → HashSet Ident S → List NetworkRow → List Ident
ids_among ids networks = map (λ (n : NetworkRow). n.id) (filter (is_in ids) networks)

-- the members of a group, where it is named
abbrev pub set_if : RowLists → Bool → GroupRow → List SetRow
set_if rows named g =
    if named then map (λ (p : Prefix). record { group = g.id; prefix = p }) (members rows g.id)
    else []

abbrev pub sets_among : {S : Type 0} → RowLists → HashSet Ident S → List SetRow
sets_among rows ids =
    flat_map (λ (g : GroupRow). set_if rows (contains ident_eq ids g.id) g) rows.groups

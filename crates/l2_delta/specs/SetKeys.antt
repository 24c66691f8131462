-- The sets of groups that a change may touch: which groups filters name, what ports give to them,
-- and the prefixes of a set at which a row may go or is to stand.
use Rattle.std.specs.Prelude.{◌||◌, ◌++◌, ℕ, Bool, false, List, [], ◌∷◌, map, flat_map, Option, Some, None, option_map, if◌then◌else◌, remove}
use Rattle.std.specs.List.{filter, filter_map, list_any}
use Rattle.net_addr.specs.Prefixes.{Prefix}
use Rattle.api_types.specs.Ascending.{prefix_before}
use Rattle.api_types.specs.Ident.{Ident}
use Rattle.api_types.specs.Members.{prefixes_of}
use Rattle.api_types.specs.Table.{ident_eq, place_of}
use Rattle.api_types.specs.declared.group.GroupRow.{GroupRow}
use Rattle.api_types.specs.declared.port.PortRow.{PortRow}
use Rattle.plane_types.specs.Edits.{with_put}
use Rattle.plane_types.specs.KeyedTables.{SetKey}
use Rattle.plane_types.specs.TableRows.{names_remote}
use Rattle.plane_types.specs.declared.delta.Edit.{Edit}
use Rattle.plane_types.specs.declared.table.FilterRow.{FilterRow}
use Rattle.plane_types.specs.declared.table.SetRow.{SetRow}
use Rattle.table_edits.specs.EditsAt.{among}

-- the number of a group before a change, if it is there
abbrev pub group_number : List GroupRow → Ident → Option ℕ
group_number groups g = place_of (λ (x : GroupRow). x.id) g groups

-- the key of a row
abbrev pub set_key : List GroupRow → SetRow → Option SetKey
set_key groups r = option_map (λ (n : ℕ). (n, r.prefix)) (group_number groups r.group)

abbrev pub keys_at : ℕ → List Prefix → List SetKey
keys_at n ps = map (λ (p : Prefix). (n, p)) ps

-- ---- what filters name

abbrev pub is_named : List FilterRow → Ident → Bool
is_named filters g = list_any (λ (r : FilterRow). names_remote g r.remote_group) filters

abbrev pub is_remote : List (Option Ident) → Ident → Bool
is_remote remotes g = list_any (names_remote g) remotes

-- the remote groups of filters, after edits of these
abbrev pub with_remote : List (Option Ident) → Edit FilterRow → List (Option Ident)
with_remote remotes e =
    with_put (if e.out then remove remotes e.place else remotes) e.place
    (option_map (λ (r : FilterRow). r.remote_group) e.put)

abbrev pub with_remotes : List (Option Ident) → List (Edit FilterRow) → List (Option Ident)
with_remotes remotes [] = remotes
with_remotes remotes (e ∷ es) = with_remotes (with_remote remotes e) es

-- a group, if it is named
abbrev pub named_by : (Ident → Bool) → Option GroupRow → Option Ident
named_by test None = None
named_by test (Some g) = if test g.id then Some g.id else None

-- whether this is the same group, and named both before and after
abbrev pub is_kept : Option Ident → Option Ident → Bool
is_kept None new = false
is_kept (Some g) None = false
is_kept (Some g) (Some h) = ident_eq g h

-- ---- what stands in sets

-- what ports give to a group
abbrev pub given_to : List PortRow → Option Ident → List Prefix
given_to ports None = []
given_to ports (Some g) = flat_map (prefixes_of g) ports

abbrev pub gives_prefix : Ident → Prefix → PortRow → Bool
gives_prefix g p x = among prefix_before p (prefixes_of g x)

abbrev pub is_given : List PortRow → Option Ident → Prefix → Bool
is_given ports g p = among prefix_before p (given_to ports g)

abbrev pub prefix_in : Ident → SetRow → Option Prefix
prefix_in g r = if ident_eq g r.group then Some r.prefix else None

-- the prefixes of a group's rows
abbrev pub prefixes_in : List SetRow → Option Ident → List Prefix
prefixes_in sets None = []
prefixes_in sets (Some g) = filter_map (prefix_in g) sets

-- the prefixes at which a row of a set may go
abbrev pub may_go : List SetRow → List PortRow → Option Ident → Option Ident → List Prefix
may_go sets were old new = if is_kept old new then given_to were new else prefixes_in sets old

-- those at which one is to stand
abbrev pub to_stand : List PortRow → List PortRow → List PortRow → Option Ident → Option Ident
    → List Prefix
to_stand ports were are old new =
    if is_kept old new
    then given_to are new
    ++ filter (λ p. is_given are new p || is_given ports new p) (given_to were new)
    else given_to ports new

-- The keys of the routes of a router, by its live ports with their numbers.
use Rattle.std.specs.Prelude.{◌≡◌, ⊤, ℕ, ◌+◌, ◌&&◌, Bool, false, is_some, List, [], ◌∷◌, ◌++◌, map, nat_lt, Option, Some, None, flat_map, if◌then◌else◌}
use Rattle.std.specs.List.{filter, list_any}
use Rattle.api_types.specs.Ascending.{ascending}
use Rattle.api_types.specs.Holders.{gateway_port}
use Rattle.api_types.specs.Live.{is_live}
use Rattle.api_types.specs.Owners.{holds_in}
use Rattle.api_types.specs.RouterRows.{by_address, holds_next}
use Rattle.api_types.specs.RowLists.{RowLists}
use Rattle.api_types.specs.RowsWith.{subnet_with}
use Rattle.api_types.specs.declared.change.Item.{Item}
use Rattle.api_types.specs.declared.port.Fixed.{Fixed}
use Rattle.api_types.specs.declared.port.PortRow.{PortRow}
use Rattle.api_types.specs.declared.router.RouterRow.{RouterRow}
use Rattle.api_types.specs.declared.subnet.Hop.{Hop}
use Rattle.api_types.specs.declared.subnet.SubnetRow.{SubnetRow}
use Rattle.plane_types.specs.Keyed.{row_at}
use Rattle.plane_types.specs.KeyedTables.{WayKey}
use Rattle.plane_types.specs.Numbered.{numbered_after, with_numbers}
use Rattle.plane_types.specs.NumberedRows.{NumberedRows, numbered_rows, numbered_rows_after}
use Rattle.table_edits.specs.NumbersSeen.{Renumbered}
use Rattle.l3_delta.specs.declared.when.When.{When}
use Rattle.l3_delta.specs.declared.when.When.TheVariants.{After, Before}

-- rows with their numbers, before a change and after it
abbrev pub ports_when : When → Renumbered PortRow → List (ℕ × PortRow)
ports_when Before ports = with_numbers 0 ports.rows
ports_when After ports = numbered_after ports.rows ports.items

-- each of these rows stands there at its number
abbrev pub StandIn : List (ℕ × PortRow) → List (ℕ × PortRow) → Type 0
StandIn ports [] = ⊤
StandIn ports (x ∷ xs) = (row_at nat_lt x.0 ports ≡ Some x.1) × StandIn ports xs

abbrev pub rows_when : When → RowLists → RowLists → RowLists
rows_when Before before after = before
rows_when After before after = after

abbrev pub numbered_when : When → RowLists → List Item → NumberedRows
numbered_when Before before items = numbered_rows before
numbered_when After before items = numbered_rows_after before items

-- connected routes: to the subnet of each address of a port
abbrev pub names_subnet : RowLists → Fixed → Bool
names_subnet rows f = is_some (subnet_with rows f.subnet)

abbrev pub connected_key : ℕ → Fixed → WayKey
connected_key number f = (0, (number, f.address))

abbrev pub connected_keys : RowLists → ℕ × PortRow → List WayKey
connected_keys rows x =
    map (connected_key x.0) (filter (names_subnet rows) (ascending by_address (x.1).fixed))

-- extra ones: whose next hop lies in the subnet of an address of one of these ports
abbrev pub leads : RowLists → List PortRow → Hop → Bool
leads rows legs h =
    list_any (λ (p : PortRow). list_any (holds_next rows h.next) p.fixed) legs

abbrev pub extra_keys : (Hop → Bool) → ℕ → List Hop → List WayKey
extra_keys test k [] = []
extra_keys test k (h ∷ hops) =
    if test h then (1, (k, h.next)) ∷ extra_keys test (k + 1) hops
    else extra_keys test (k + 1) hops

-- default ones: by each address of the gateway port, while it is live, whose subnet has a gateway
abbrev pub has_default_in : List PortRow → Option SubnetRow → Bool
has_default_in legs None = false
has_default_in legs (Some s) = is_some s.gateway && list_any (holds_in s.id) legs

abbrev pub has_default : RowLists → List PortRow → Fixed → Bool
has_default rows legs f = has_default_in legs (subnet_with rows f.subnet)

abbrev pub default_key : Fixed → WayKey
default_key f = (2, (0, f.address))

abbrev pub default_keys : RowLists → List PortRow → PortRow → List WayKey
default_keys rows legs p =
    map default_key (filter (has_default rows legs) (ascending by_address p.fixed))

abbrev pub defaults_of : RowLists → List PortRow → Option PortRow → List WayKey
defaults_of rows legs None = []
defaults_of rows legs (Some p) = if is_live rows p then default_keys rows legs p else []

abbrev pub way_keys : RowLists → List (ℕ × PortRow) → RouterRow → List WayKey
way_keys rows legs r =
    flat_map (connected_keys rows) legs
    ++ extra_keys (leads rows (map (λ (x : ℕ × PortRow). x.1) legs)) 0 r.routes
    ++ defaults_of rows (map (λ (x : ℕ × PortRow). x.1) legs) (gateway_port rows r)

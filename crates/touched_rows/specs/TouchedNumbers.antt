-- The numbers of rows that a change touches by other rows.
use Rattle.std.specs.Prelude.{ℕ, ◌+◌, ◌&&◌, ◌||◌, Bool, false, List, [], ◌∷◌, Option, Some, None, option_and_then, slice_get, if◌then◌else◌}
use Rattle.std.specs.List.{cons_option, list_any}
use Rattle.api_types.specs.Holders.{router_of}
use Rattle.api_types.specs.Ident.{Ident}
use Rattle.api_types.specs.Owners.{is_router_port}
use Rattle.api_types.specs.RowLists.{RowLists}
use Rattle.api_types.specs.Table.{ident_eq, place_of}
use Rattle.api_types.specs.declared.floating.FloatingRow.{FloatingRow}
use Rattle.api_types.specs.declared.port.Fixed.{Fixed}
use Rattle.api_types.specs.declared.port.PortRow.{PortRow}
use Rattle.api_types.specs.declared.router.RouterRow.{RouterRow}
use Rattle.table_edits.specs.NumbersSeen.{Renumbered, at_after}
use Rattle.touched_rows.specs.CanLive.{can_live}

-- the numbers of the rows that pass a test, of which the first has this one
module _ {R : Type 0} (test : R → Bool) where
  abbrev pub numbers_from : ℕ → List R → List ℕ
  numbers_from n [] = []
  numbers_from n (r ∷ rs) =
      if test r then n ∷ numbers_from (n + 1) rs else numbers_from (n + 1) rs

-- whether a port can be live, and is on one of some networks
abbrev pub can_live_on : (Ident → Bool) → PortRow → Bool
can_live_on networks p = can_live p && networks p.network

-- whether a port holds an address in one of some subnets
abbrev pub holds_in_any : (Ident → Bool) → PortRow → Bool
holds_in_any subnets p = list_any (λ (f : Fixed). subnets f.subnet) p.fixed

-- the number before a change of the router of which a port is
abbrev pub router_number : RowLists → List RouterRow → PortRow → Option ℕ
router_number rows routers p =
    if is_router_port p.owner
    then option_and_then (λ (r : RouterRow). place_of (λ (r : RouterRow). r.id) r.id routers)
    (router_of rows p)
    else None

-- of the router of a port that holds an address in one of some subnets
abbrev pub router_in : (Ident → Bool) → RowLists → List RouterRow → PortRow → Option ℕ
router_in subnets rows routers p =
    if holds_in_any subnets p then router_number rows routers p else None

-- of the routers of the port with a number, before the change and after it
abbrev pub routers_by : RowLists → RowLists → List RouterRow → Renumbered PortRow → ℕ → List ℕ
routers_by before after routers ports k =
    cons_option (option_and_then (router_number before routers) (slice_get ports.rows k))
    (cons_option (option_and_then (router_number after routers) (at_after ports k)) [])

-- whether it is the id of a row
abbrev pub is_router : Ident → Option RouterRow → Bool
is_router i None = false
is_router i (Some r) = ident_eq i r.id

-- whether a router with one of these numbers, before the change or after it, has this id
abbrev pub names_any : Renumbered RouterRow → List ℕ → Ident → Bool
names_any routers numbers i =
    list_any (λ k. is_router i (slice_get routers.rows k) || is_router i (at_after routers k))
    numbers

-- whether a floating address is associated by one of some routers
abbrev pub is_by : (Ident → Bool) → FloatingRow → Bool
is_by routers f = elim f.target [ None ↦ false | Some t ↦ routers t.router ]

-- Rows that are added one after the other.
use Rattle.std.specs.Prelude.{◌&&◌, Bool, true, List, [], ◌∷◌, ◌++◌}
use Rattle.api_types.specs.RowLists.{RowLists}
use Rattle.api_types.specs.Rows.{project_id}
use Rattle.api_types.specs.Table.{is_new}
use Rattle.api_types.specs.declared.kind.Row.{Row}
use Rattle.api_types.specs.declared.kind.Row.TheVariants.{Project, Network, Subnet, Port, Group, Rule, Router, Floating, Policy}
use Rattle.api_types.specs.declared.page.PageRow.{PageRow}
use Rattle.wire_laws.specs.WireStates.{Check, Draft, Held, Lost, WireState}

-- no row of its kind has its id
abbrev pub is_new_row : Row → RowLists → Bool
is_new_row (Project row) rows = is_new project_id row rows.projects
is_new_row (Network row) rows = is_new (λ r. r.id) row rows.networks
is_new_row (Subnet row) rows = is_new (λ r. r.id) row rows.subnets
is_new_row (Port row) rows = is_new (λ r. r.id) row rows.ports
is_new_row (Group row) rows = is_new (λ r. r.id) row rows.groups
is_new_row (Rule row) rows = is_new (λ r. r.id) row rows.rules
is_new_row (Router row) rows = is_new (λ r. r.id) row rows.routers
is_new_row (Floating row) rows = is_new (λ r. r.id) row rows.floatings
is_new_row (Policy row) rows = is_new (λ r. r.id) row rows.policies

-- a row after the others of its kind
abbrev pub put_last : Row → RowLists → RowLists
put_last (Project row) rows = record rows { projects = rows.projects ++ row ∷ [] }
put_last (Network row) rows = record rows { networks = rows.networks ++ row ∷ [] }
put_last (Subnet row) rows = record rows { subnets = rows.subnets ++ row ∷ [] }
put_last (Port row) rows = record rows { ports = rows.ports ++ row ∷ [] }
put_last (Group row) rows = record rows { groups = rows.groups ++ row ∷ [] }
put_last (Rule row) rows = record rows { rules = rows.rules ++ row ∷ [] }
put_last (Router row) rows = record rows { routers = rows.routers ++ row ∷ [] }
put_last (Floating row) rows = record rows { floatings = rows.floatings ++ row ∷ [] }
put_last (Policy row) rows = record rows { policies = rows.policies ++ row ∷ [] }

-- each is new when it is added
unfoldable pub are_new : List PageRow → RowLists → Bool
are_new [] rows = true
are_new (p ∷ ps) rows = is_new_row p.row rows && are_new ps (put_last p.row rows)

unfoldable pub put_all : List PageRow → RowLists → RowLists
put_all [] rows = rows
put_all (p ∷ ps) rows = put_all ps (put_last p.row rows)

-- the rows of a draft's earlier pages
abbrev pub drafted : WireState → List PageRow
drafted Lost = []
drafted (Check a) = []
drafted (Draft a version number rows) = rows
drafted (Held a) = []

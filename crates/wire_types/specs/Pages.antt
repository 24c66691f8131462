-- Rows of all kinds as one list, and its pages.
use Rattle.std.specs.Prelude.{ℕ, ◌+◌, ◌*◌, ◌||◌, ◌==◌, nat_lt, nat_le, Bool, List, [], ◌∷◌, ◌++◌, map, length, take, drop}
use Rattle.api_types.specs.RowLists.{RowLists}
use Rattle.api_types.specs.Rows.{no_rows}
use Rattle.api_types.specs.declared.kind.Kind.{Kind}
use Rattle.api_types.specs.declared.kind.Kind.TheVariants as kind
use Rattle.api_types.specs.declared.kind.Row.{Row}
use Rattle.api_types.specs.declared.kind.Row.TheVariants.{Project, Network, Subnet, Port, Group, Rule, Router, Floating, Policy}
use Rattle.api_types.specs.declared.page.PageRow.{PageRow}

-- how many rows a page has at most
abbrev pub page_size : ℕ
page_size = 64

abbrev pub kind_of : Row → Kind
kind_of (Project row) = kind.Project
kind_of (Network row) = kind.Network
kind_of (Subnet row) = kind.Subnet
kind_of (Port row) = kind.Port
kind_of (Group row) = kind.Group
kind_of (Rule row) = kind.Rule
kind_of (Router row) = kind.Router
kind_of (Floating row) = kind.Floating
kind_of (Policy row) = kind.Policy

-- a row with its kind
abbrev pub page_row : Row → PageRow
page_row row = record { kind = kind_of row; row = row }

abbrev pub page_rows : {R : Type 0} → (R → Row) → List R → List PageRow
page_rows of rows = map (λ row. page_row (of row)) rows

-- the rows in the order of their kinds, and of each kind in order of creation
abbrev pub all_rows : RowLists → List PageRow
all_rows rows =
    page_rows Project rows.projects
    ++ (page_rows Network rows.networks
    ++ (page_rows Subnet rows.subnets
    ++ (page_rows Port rows.ports
    ++ (page_rows Group rows.groups
    ++ (page_rows Rule rows.rules
    ++ (page_rows Router rows.routers
    ++ (page_rows Floating rows.floatings
    ++ page_rows Policy rows.policies)))))))

-- a row before others of its kind
abbrev pub put_before : Row → RowLists → RowLists
put_before (Project row) rows = record rows { projects = row ∷ rows.projects }
put_before (Network row) rows = record rows { networks = row ∷ rows.networks }
put_before (Subnet row) rows = record rows { subnets = row ∷ rows.subnets }
put_before (Port row) rows = record rows { ports = row ∷ rows.ports }
put_before (Group row) rows = record rows { groups = row ∷ rows.groups }
put_before (Rule row) rows = record rows { rules = row ∷ rows.rules }
put_before (Router row) rows = record rows { routers = row ∷ rows.routers }
put_before (Floating row) rows = record rows { floatings = row ∷ rows.floatings }
put_before (Policy row) rows = record rows { policies = row ∷ rows.policies }

-- the rows of a list, each kind in the list's order
unfoldable pub rows_from : List PageRow → RowLists
rows_from [] = no_rows
rows_from (p ∷ ps) = put_before p.row (rows_from ps)

-- the rows of a page
abbrev pub page : ℕ → List PageRow → List PageRow
page number rows = take page_size (drop (page_size * number) rows)

-- page 0 is always there, each other one begins with a row
abbrev pub is_page : ℕ → List PageRow → Bool
is_page number rows = (number == 0) || nat_lt (page_size * number) (length rows)

abbrev pub is_last_page : ℕ → List PageRow → Bool
is_last_page number rows = nat_le (length rows) (page_size * (number + 1))

-- Rows of all kinds, and what a change makes of them.
use Rattle.std.specs.Prelude.{◌≡◌, List, [], ◌∷◌, ⊤}
use Rattle.api_types.specs.Ident.{Ident}
use Rattle.api_types.specs.Table.{HaveOwnIds}
use Rattle.api_types.specs.declared.project.ProjectRow.{ProjectRow}
use Rattle.api_types.specs.Parts.{project_of, network_of, subnet_of, port_of, group_of, rule_of, router_of, floating_of, policy_of}
use Rattle.api_types.specs.Edits.{list_after, list_before, FitsTable, CameFrom}
use Rattle.api_types.specs.RowLists.{RowLists}
use Rattle.api_types.specs.declared.change.Item.{Item}
use Rattle.api_types.specs.declared.kind.Kind.{Kind}
use Rattle.api_types.specs.declared.kind.Kind.TheVariants.{Project, Network, Subnet, Port, Group, Rule, Router, Floating, Policy}

-- a project is named by the id with its ordinal and count 0
abbrev pub project_id : ProjectRow → Ident
project_id r = record { ordinal = r.ordinal; count = 0 }

abbrev pub no_rows : RowLists
no_rows = record {
  projects = [];
  networks = [];
  subnets = [];
  ports = [];
  groups = [];
  rules = [];
  routers = [];
  floatings = [];
  policies = [];
}

-- the rows after an item of a kind
abbrev pub after_of_kind : Kind → RowLists → Item → RowLists
after_of_kind Project rows item =
    record rows { projects = list_after project_of rows.projects item }
after_of_kind Network rows item =
    record rows { networks = list_after network_of rows.networks item }
after_of_kind Subnet rows item = record rows { subnets = list_after subnet_of rows.subnets item }
after_of_kind Port rows item = record rows { ports = list_after port_of rows.ports item }
after_of_kind Group rows item = record rows { groups = list_after group_of rows.groups item }
after_of_kind Rule rows item = record rows { rules = list_after rule_of rows.rules item }
after_of_kind Router rows item = record rows { routers = list_after router_of rows.routers item }
after_of_kind Floating rows item =
    record rows { floatings = list_after floating_of rows.floatings item }
after_of_kind Policy rows item = record rows { policies = list_after policy_of rows.policies item }

abbrev pub after_item : RowLists → Item → RowLists
after_item rows item = after_of_kind item.kind rows item

-- the rows before it
abbrev pub before_of_kind : Kind → RowLists → Item → RowLists
before_of_kind Project rows item =
    record rows { projects = list_before project_of rows.projects item }
before_of_kind Network rows item =
    record rows { networks = list_before network_of rows.networks item }
before_of_kind Subnet rows item = record rows { subnets = list_before subnet_of rows.subnets item }
before_of_kind Port rows item = record rows { ports = list_before port_of rows.ports item }
before_of_kind Group rows item = record rows { groups = list_before group_of rows.groups item }
before_of_kind Rule rows item = record rows { rules = list_before rule_of rows.rules item }
before_of_kind Router rows item = record rows { routers = list_before router_of rows.routers item }
before_of_kind Floating rows item =
    record rows { floatings = list_before floating_of rows.floatings item }
before_of_kind Policy rows item =
    record rows { policies = list_before policy_of rows.policies item }

abbrev pub before_item : RowLists → Item → RowLists
before_item rows item = before_of_kind item.kind rows item

abbrev pub FitsOfKind : Kind → RowLists → Item → Type 0
FitsOfKind Project rows item = FitsTable project_of project_id rows.projects item
FitsOfKind Network rows item = FitsTable network_of (λ r. r.id) rows.networks item
FitsOfKind Subnet rows item = FitsTable subnet_of (λ r. r.id) rows.subnets item
FitsOfKind Port rows item = FitsTable port_of (λ r. r.id) rows.ports item
FitsOfKind Group rows item = FitsTable group_of (λ r. r.id) rows.groups item
FitsOfKind Rule rows item = FitsTable rule_of (λ r. r.id) rows.rules item
FitsOfKind Router rows item = FitsTable router_of (λ r. r.id) rows.routers item
FitsOfKind Floating rows item = FitsTable floating_of (λ r. r.id) rows.floatings item
FitsOfKind Policy rows item = FitsTable policy_of (λ r. r.id) rows.policies item

abbrev pub FitsItem : RowLists → Item → Type 0
FitsItem rows item = FitsOfKind item.kind rows item

-- the rows after the items, put in one after the other
abbrev pub after : RowLists → List Item → RowLists
after rows [] = rows
after rows (item ∷ items) = after (after_item rows item) items

-- the rows before the items, taken back one after the other, the last one first
abbrev pub before : RowLists → List Item → RowLists
before rows [] = rows
before rows (item ∷ items) = before_item (before rows items) item

-- each item fits the rows as the earlier ones left them
abbrev pub Fits : RowLists → List Item → Type 0
Fits rows [] = ⊤
Fits rows (item ∷ items) = FitsItem rows item × Fits (after_item rows item) items

-- in each list no two rows have the same id
pub record AreTables (rows : RowLists) : Type 0 where
  pub projects : HaveOwnIds project_id rows.projects
  pub networks : HaveOwnIds (λ r. r.id) rows.networks
  pub subnets : HaveOwnIds (λ r. r.id) rows.subnets
  pub ports : HaveOwnIds (λ r. r.id) rows.ports
  pub groups : HaveOwnIds (λ r. r.id) rows.groups
  pub rules : HaveOwnIds (λ r. r.id) rows.rules
  pub routers : HaveOwnIds (λ r. r.id) rows.routers
  pub floatings : HaveOwnIds (λ r. r.id) rows.floatings
  pub policies : HaveOwnIds (λ r. r.id) rows.policies

-- an item led to the list of its kind from one that it fitted
abbrev pub CameOfKind : Kind → RowLists → Item → Type 0
CameOfKind Project now item = CameFrom project_of project_id now.projects item
CameOfKind Network now item = CameFrom network_of (λ r. r.id) now.networks item
CameOfKind Subnet now item = CameFrom subnet_of (λ r. r.id) now.subnets item
CameOfKind Port now item = CameFrom port_of (λ r. r.id) now.ports item
CameOfKind Group now item = CameFrom group_of (λ r. r.id) now.groups item
CameOfKind Rule now item = CameFrom rule_of (λ r. r.id) now.rules item
CameOfKind Router now item = CameFrom router_of (λ r. r.id) now.routers item
CameOfKind Floating now item = CameFrom floating_of (λ r. r.id) now.floatings item
CameOfKind Policy now item = CameFrom policy_of (λ r. r.id) now.policies item

abbrev pub CameByItem : RowLists → Item → Type 0
CameByItem now item = CameOfKind item.kind now item

-- rows to which a change led from some that it fitted
pub record CameBy (now : RowLists) (items : List Item) : Type 0 where
  pub rows : RowLists
  pub tables : AreTables rows
  pub fits : Fits rows items
  pub now_is : now ≡ after rows items

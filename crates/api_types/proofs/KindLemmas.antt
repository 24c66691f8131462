-- The table of each kind after the items of a change of rows of all kinds.
use Rattle.std.proofs.Common.{◌≡◌, ℕ, zero, suc, ◌<◌, List, [], ◌∷◌, length, take, get_or, arith, refl, ap, sym, ◌∙◌, subst}
use Rattle.std.specs.Prelude.{◌↔◌, if◌then◌else◌, IsTrue, Bool, Option}
use Rattle.api_types.specs.Ident.{Ident}
use Rattle.api_types.specs.Edits.{list_after, FitsTable}
use Rattle.api_types.specs.Parts.{project_of, network_of, subnet_of, port_of, group_of, rule_of, router_of, floating_of, policy_of}
use Rattle.api_types.specs.RowLists.{RowLists}
use Rattle.api_types.specs.Rows.{project_id, after, after_item, after_of_kind, Fits, FitsItem, FitsOfKind}
use Rattle.api_types.specs.TableItems.{same_kind, after_one, after_all, FitsIf, FitAll}
use Rattle.api_types.specs.declared.change.Item.{Item}
use Rattle.api_types.specs.declared.kind.Kind.{Kind}
use Rattle.api_types.specs.declared.kind.Kind.TheVariants.{Project, Network, Subnet, Port, Group, Rule, Router, Floating, Policy}
use Rattle.api_types.specs.declared.kind.Row.{Row}
use Rattle.api_types.specs.declared.project.ProjectRow.{ProjectRow}
use Rattle.api_types.specs.declared.network.NetworkRow.{NetworkRow}
use Rattle.api_types.specs.declared.subnet.SubnetRow.{SubnetRow}
use Rattle.api_types.specs.declared.port.PortRow.{PortRow}
use Rattle.api_types.specs.declared.group.GroupRow.{GroupRow}
use Rattle.api_types.specs.declared.group.RuleRow.{RuleRow}
use Rattle.api_types.specs.declared.router.RouterRow.{RouterRow}
use Rattle.api_types.specs.declared.floating.FloatingRow.{FloatingRow}
use Rattle.api_types.specs.declared.policy.PolicyRow.{PolicyRow}

-- an item changes the table of its kind alone
record IsOfOne (k : Kind) (rows : RowLists) (item : Item) : Type 0 where
  pub projects : (after_of_kind k rows item).projects ≡ (if same_kind k Project then list_after project_of rows.projects item else rows.projects)
  pub networks : (after_of_kind k rows item).networks ≡ (if same_kind k Network then list_after network_of rows.networks item else rows.networks)
  pub subnets : (after_of_kind k rows item).subnets ≡ (if same_kind k Subnet then list_after subnet_of rows.subnets item else rows.subnets)
  pub ports : (after_of_kind k rows item).ports ≡ (if same_kind k Port then list_after port_of rows.ports item else rows.ports)
  pub groups : (after_of_kind k rows item).groups ≡ (if same_kind k Group then list_after group_of rows.groups item else rows.groups)
  pub rules : (after_of_kind k rows item).rules ≡ (if same_kind k Rule then list_after rule_of rows.rules item else rows.rules)
  pub routers : (after_of_kind k rows item).routers ≡ (if same_kind k Router then list_after router_of rows.routers item else rows.routers)
  pub floatings : (after_of_kind k rows item).floatings ≡ (if same_kind k Floating then list_after floating_of rows.floatings item else rows.floatings)
  pub policies : (after_of_kind k rows item).policies ≡ (if same_kind k Policy then list_after policy_of rows.policies item else rows.policies)

of_one : (k : Kind) (rows : RowLists) (item : Item) → IsOfOne k rows item
of_one Project rows item = record { projects = refl; networks = refl; subnets = refl; ports = refl; groups = refl; rules = refl; routers = refl; floatings = refl; policies = refl }
of_one Network rows item = record { projects = refl; networks = refl; subnets = refl; ports = refl; groups = refl; rules = refl; routers = refl; floatings = refl; policies = refl }
of_one Subnet rows item = record { projects = refl; networks = refl; subnets = refl; ports = refl; groups = refl; rules = refl; routers = refl; floatings = refl; policies = refl }
of_one Port rows item = record { projects = refl; networks = refl; subnets = refl; ports = refl; groups = refl; rules = refl; routers = refl; floatings = refl; policies = refl }
of_one Group rows item = record { projects = refl; networks = refl; subnets = refl; ports = refl; groups = refl; rules = refl; routers = refl; floatings = refl; policies = refl }
of_one Rule rows item = record { projects = refl; networks = refl; subnets = refl; ports = refl; groups = refl; rules = refl; routers = refl; floatings = refl; policies = refl }
of_one Router rows item = record { projects = refl; networks = refl; subnets = refl; ports = refl; groups = refl; rules = refl; routers = refl; floatings = refl; policies = refl }
of_one Floating rows item = record { projects = refl; networks = refl; subnets = refl; ports = refl; groups = refl; rules = refl; routers = refl; floatings = refl; policies = refl }
of_one Policy rows item = record { projects = refl; networks = refl; subnets = refl; ports = refl; groups = refl; rules = refl; routers = refl; floatings = refl; policies = refl }

-- and fits it
record FitsOne (k : Kind) (rows : RowLists) (item : Item) : Type 0 where
  pub projects : FitsIf (same_kind k Project) project_of project_id rows.projects item
  pub networks : FitsIf (same_kind k Network) network_of (λ r. r.id) rows.networks item
  pub subnets : FitsIf (same_kind k Subnet) subnet_of (λ r. r.id) rows.subnets item
  pub ports : FitsIf (same_kind k Port) port_of (λ r. r.id) rows.ports item
  pub groups : FitsIf (same_kind k Group) group_of (λ r. r.id) rows.groups item
  pub rules : FitsIf (same_kind k Rule) rule_of (λ r. r.id) rows.rules item
  pub routers : FitsIf (same_kind k Router) router_of (λ r. r.id) rows.routers item
  pub floatings : FitsIf (same_kind k Floating) floating_of (λ r. r.id) rows.floatings item
  pub policies : FitsIf (same_kind k Policy) policy_of (λ r. r.id) rows.policies item

fits_one : (k : Kind) (rows : RowLists) (item : Item) → FitsOfKind k rows item → FitsOne k rows item
fits_one Project rows item fits = record { projects = fits; networks = tt; subnets = tt; ports = tt; groups = tt; rules = tt; routers = tt; floatings = tt; policies = tt }
fits_one Network rows item fits = record { projects = tt; networks = fits; subnets = tt; ports = tt; groups = tt; rules = tt; routers = tt; floatings = tt; policies = tt }
fits_one Subnet rows item fits = record { projects = tt; networks = tt; subnets = fits; ports = tt; groups = tt; rules = tt; routers = tt; floatings = tt; policies = tt }
fits_one Port rows item fits = record { projects = tt; networks = tt; subnets = tt; ports = fits; groups = tt; rules = tt; routers = tt; floatings = tt; policies = tt }
fits_one Group rows item fits = record { projects = tt; networks = tt; subnets = tt; ports = tt; groups = fits; rules = tt; routers = tt; floatings = tt; policies = tt }
fits_one Rule rows item fits = record { projects = tt; networks = tt; subnets = tt; ports = tt; groups = tt; rules = fits; routers = tt; floatings = tt; policies = tt }
fits_one Router rows item fits = record { projects = tt; networks = tt; subnets = tt; ports = tt; groups = tt; rules = tt; routers = fits; floatings = tt; policies = tt }
fits_one Floating rows item fits = record { projects = tt; networks = tt; subnets = tt; ports = tt; groups = tt; rules = tt; routers = tt; floatings = fits; policies = tt }
fits_one Policy rows item fits = record { projects = tt; networks = tt; subnets = tt; ports = tt; groups = tt; rules = tt; routers = tt; floatings = tt; policies = fits }

-- one table, after the items of its kind
module _ {R : Type 0} (kind : Kind) (part : Row → Option R) (id_of : R → Ident) (list : RowLists → List R)
    (changes : (rows : RowLists) (item : Item) → list (after_item rows item) ≡ after_one kind part (list rows) item)
    (fit : (rows : RowLists) (item : Item) → FitsItem rows item → FitsIf (same_kind item.kind kind) part id_of (list rows) item)
    (here : (rows : RowLists) (item : Item) → FitsOfKind kind rows item ↔ FitsTable part id_of (list rows) item) where
  table_after : (rows : RowLists) (items : List Item) → list (after rows items) ≡ after_all kind part (list rows) items
  table_after rows [] = refl
  table_after rows (x ∷ items) = table_after (after_item rows x) items ∙ ap (λ rs. after_all kind part rs items) (changes rows x)

  table_fits : (rows : RowLists) (items : List Item) → Fits rows items → FitAll kind part id_of (list rows) items
  table_fits rows [] fits = tt
  table_fits rows (x ∷ items) fits =
      (fit rows x fits.0, subst (λ rs. FitAll kind part id_of rs items) (changes rows x) (table_fits (after_item rows x) items fits.1))

  -- the same of a table that is the one of the rows
  items_fit : (rows : RowLists) (items : List Item) (table : List R) → table ≡ list rows → Fits rows items → FitAll kind part id_of table items
  items_fit rows items table is fits = subst (λ rs. FitAll kind part id_of rs items) (sym is) (table_fits rows items fits)

  item_fits : (rows : RowLists) (items : List Item) (item : Item) (table : List R) (b : Bool) → table ≡ list rows → item.kind ≡ kind
      → IsTrue b ↔ FitsTable part id_of (after_all kind part table items) item → IsTrue b ↔ FitsItem (after rows items) item
  item_fits rows items item table b is of_kind told =
      let led : after_all kind part table items ≡ list (after rows items) = ap (λ rs. after_all kind part rs items) is ∙ sym (table_after rows items) in
      let there = subst (λ rs. IsTrue b ↔ FitsTable part id_of rs item) led told in
      subst (λ k. IsTrue b ↔ FitsOfKind k (after rows items) item) (sym of_kind)
      ((λ t. (here (after rows items) item).1 (there.0 t)), (λ f. there.1 ((here (after rows items) item).0 f)))

pub project_items : (rows : RowLists) (items : List Item) (table : List ProjectRow) → table ≡ rows.projects → Fits rows items → FitAll Project project_of project_id table items
project_items = items_fit Project project_of project_id (λ rows. rows.projects) (λ rows item. (of_one item.kind rows item).projects) (λ rows item fits. (fits_one item.kind rows item fits).projects) (λ rows item. ((λ f. f), (λ f. f)))

pub project_item : (rows : RowLists) (items : List Item) (item : Item) (table : List ProjectRow) (b : Bool) → table ≡ rows.projects → item.kind ≡ Project
    → IsTrue b ↔ FitsTable project_of project_id (after_all Project project_of table items) item → IsTrue b ↔ FitsItem (after rows items) item
project_item = item_fits Project project_of project_id (λ rows. rows.projects) (λ rows item. (of_one item.kind rows item).projects) (λ rows item fits. (fits_one item.kind rows item fits).projects) (λ rows item. ((λ f. f), (λ f. f)))

pub network_items : (rows : RowLists) (items : List Item) (table : List NetworkRow) → table ≡ rows.networks → Fits rows items → FitAll Network network_of (λ r. r.id) table items
network_items = items_fit Network network_of (λ r. r.id) (λ rows. rows.networks) (λ rows item. (of_one item.kind rows item).networks) (λ rows item fits. (fits_one item.kind rows item fits).networks) (λ rows item. ((λ f. f), (λ f. f)))

pub network_item : (rows : RowLists) (items : List Item) (item : Item) (table : List NetworkRow) (b : Bool) → table ≡ rows.networks → item.kind ≡ Network
    → IsTrue b ↔ FitsTable network_of (λ r. r.id) (after_all Network network_of table items) item → IsTrue b ↔ FitsItem (after rows items) item
network_item = item_fits Network network_of (λ r. r.id) (λ rows. rows.networks) (λ rows item. (of_one item.kind rows item).networks) (λ rows item fits. (fits_one item.kind rows item fits).networks) (λ rows item. ((λ f. f), (λ f. f)))

pub subnet_items : (rows : RowLists) (items : List Item) (table : List SubnetRow) → table ≡ rows.subnets → Fits rows items → FitAll Subnet subnet_of (λ r. r.id) table items
subnet_items = items_fit Subnet subnet_of (λ r. r.id) (λ rows. rows.subnets) (λ rows item. (of_one item.kind rows item).subnets) (λ rows item fits. (fits_one item.kind rows item fits).subnets) (λ rows item. ((λ f. f), (λ f. f)))

pub subnet_item : (rows : RowLists) (items : List Item) (item : Item) (table : List SubnetRow) (b : Bool) → table ≡ rows.subnets → item.kind ≡ Subnet
    → IsTrue b ↔ FitsTable subnet_of (λ r. r.id) (after_all Subnet subnet_of table items) item → IsTrue b ↔ FitsItem (after rows items) item
subnet_item = item_fits Subnet subnet_of (λ r. r.id) (λ rows. rows.subnets) (λ rows item. (of_one item.kind rows item).subnets) (λ rows item fits. (fits_one item.kind rows item fits).subnets) (λ rows item. ((λ f. f), (λ f. f)))

pub port_items : (rows : RowLists) (items : List Item) (table : List PortRow) → table ≡ rows.ports → Fits rows items → FitAll Port port_of (λ r. r.id) table items
port_items = items_fit Port port_of (λ r. r.id) (λ rows. rows.ports) (λ rows item. (of_one item.kind rows item).ports) (λ rows item fits. (fits_one item.kind rows item fits).ports) (λ rows item. ((λ f. f), (λ f. f)))

pub port_item : (rows : RowLists) (items : List Item) (item : Item) (table : List PortRow) (b : Bool) → table ≡ rows.ports → item.kind ≡ Port
    → IsTrue b ↔ FitsTable port_of (λ r. r.id) (after_all Port port_of table items) item → IsTrue b ↔ FitsItem (after rows items) item
port_item = item_fits Port port_of (λ r. r.id) (λ rows. rows.ports) (λ rows item. (of_one item.kind rows item).ports) (λ rows item fits. (fits_one item.kind rows item fits).ports) (λ rows item. ((λ f. f), (λ f. f)))

pub group_items : (rows : RowLists) (items : List Item) (table : List GroupRow) → table ≡ rows.groups → Fits rows items → FitAll Group group_of (λ r. r.id) table items
group_items = items_fit Group group_of (λ r. r.id) (λ rows. rows.groups) (λ rows item. (of_one item.kind rows item).groups) (λ rows item fits. (fits_one item.kind rows item fits).groups) (λ rows item. ((λ f. f), (λ f. f)))

pub group_item : (rows : RowLists) (items : List Item) (item : Item) (table : List GroupRow) (b : Bool) → table ≡ rows.groups → item.kind ≡ Group
    → IsTrue b ↔ FitsTable group_of (λ r. r.id) (after_all Group group_of table items) item → IsTrue b ↔ FitsItem (after rows items) item
group_item = item_fits Group group_of (λ r. r.id) (λ rows. rows.groups) (λ rows item. (of_one item.kind rows item).groups) (λ rows item fits. (fits_one item.kind rows item fits).groups) (λ rows item. ((λ f. f), (λ f. f)))

pub rule_items : (rows : RowLists) (items : List Item) (table : List RuleRow) → table ≡ rows.rules → Fits rows items → FitAll Rule rule_of (λ r. r.id) table items
rule_items = items_fit Rule rule_of (λ r. r.id) (λ rows. rows.rules) (λ rows item. (of_one item.kind rows item).rules) (λ rows item fits. (fits_one item.kind rows item fits).rules) (λ rows item. ((λ f. f), (λ f. f)))

pub rule_item : (rows : RowLists) (items : List Item) (item : Item) (table : List RuleRow) (b : Bool) → table ≡ rows.rules → item.kind ≡ Rule
    → IsTrue b ↔ FitsTable rule_of (λ r. r.id) (after_all Rule rule_of table items) item → IsTrue b ↔ FitsItem (after rows items) item
rule_item = item_fits Rule rule_of (λ r. r.id) (λ rows. rows.rules) (λ rows item. (of_one item.kind rows item).rules) (λ rows item fits. (fits_one item.kind rows item fits).rules) (λ rows item. ((λ f. f), (λ f. f)))

pub router_items : (rows : RowLists) (items : List Item) (table : List RouterRow) → table ≡ rows.routers → Fits rows items → FitAll Router router_of (λ r. r.id) table items
router_items = items_fit Router router_of (λ r. r.id) (λ rows. rows.routers) (λ rows item. (of_one item.kind rows item).routers) (λ rows item fits. (fits_one item.kind rows item fits).routers) (λ rows item. ((λ f. f), (λ f. f)))

pub router_item : (rows : RowLists) (items : List Item) (item : Item) (table : List RouterRow) (b : Bool) → table ≡ rows.routers → item.kind ≡ Router
    → IsTrue b ↔ FitsTable router_of (λ r. r.id) (after_all Router router_of table items) item → IsTrue b ↔ FitsItem (after rows items) item
router_item = item_fits Router router_of (λ r. r.id) (λ rows. rows.routers) (λ rows item. (of_one item.kind rows item).routers) (λ rows item fits. (fits_one item.kind rows item fits).routers) (λ rows item. ((λ f. f), (λ f. f)))

pub floating_items : (rows : RowLists) (items : List Item) (table : List FloatingRow) → table ≡ rows.floatings → Fits rows items → FitAll Floating floating_of (λ r. r.id) table items
floating_items = items_fit Floating floating_of (λ r. r.id) (λ rows. rows.floatings) (λ rows item. (of_one item.kind rows item).floatings) (λ rows item fits. (fits_one item.kind rows item fits).floatings) (λ rows item. ((λ f. f), (λ f. f)))

pub floating_item : (rows : RowLists) (items : List Item) (item : Item) (table : List FloatingRow) (b : Bool) → table ≡ rows.floatings → item.kind ≡ Floating
    → IsTrue b ↔ FitsTable floating_of (λ r. r.id) (after_all Floating floating_of table items) item → IsTrue b ↔ FitsItem (after rows items) item
floating_item = item_fits Floating floating_of (λ r. r.id) (λ rows. rows.floatings) (λ rows item. (of_one item.kind rows item).floatings) (λ rows item fits. (fits_one item.kind rows item fits).floatings) (λ rows item. ((λ f. f), (λ f. f)))

pub policy_items : (rows : RowLists) (items : List Item) (table : List PolicyRow) → table ≡ rows.policies → Fits rows items → FitAll Policy policy_of (λ r. r.id) table items
policy_items = items_fit Policy policy_of (λ r. r.id) (λ rows. rows.policies) (λ rows item. (of_one item.kind rows item).policies) (λ rows item fits. (fits_one item.kind rows item fits).policies) (λ rows item. ((λ f. f), (λ f. f)))

pub policy_item : (rows : RowLists) (items : List Item) (item : Item) (table : List PolicyRow) (b : Bool) → table ≡ rows.policies → item.kind ≡ Policy
    → IsTrue b ↔ FitsTable policy_of (λ r. r.id) (after_all Policy policy_of table items) item → IsTrue b ↔ FitsItem (after rows items) item
policy_item = item_fits Policy policy_of (λ r. r.id) (λ rows. rows.policies) (λ rows item. (of_one item.kind rows item).policies) (λ rows item fits. (fits_one item.kind rows item fits).policies) (λ rows item. ((λ f. f), (λ f. f)))

-- of items that fit, the one at a place
pub Fits-at : (rows : RowLists) (items : List Item) (item : Item) (place : ℕ) → place < length items → item ≡ get_or items place item → Fits rows items
    → FitsItem (after rows (take place items)) item
Fits-at rows [] item place within is fits = absurd (omega arith)
Fits-at rows (x ∷ items) item zero within is fits = subst (FitsItem rows) (sym is) fits.0
Fits-at rows (x ∷ items) item (suc place) within is fits = Fits-at (after_item rows x) items item place (omega arith) is fits.1

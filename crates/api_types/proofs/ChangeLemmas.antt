-- Changes of rows of all kinds, put in one item after the other and taken back.
use Rattle.std.proofs.Common.{◌≡◌, ℕ, suc, ◌+◌, ◌-◌, ◌<◌, List, [], ◌∷◌, ◌++◌, Option, length, take, get_or, arith, refl, ap, sym, ◌∙◌, subst, option_and_then}
use Rattle.std.proofs.Math.Seq.{take-suc}
use Rattle.api_types.specs.Ident.{Ident}
use Rattle.api_types.specs.Table.{HaveOwnIds}
use Rattle.api_types.specs.Parts.{project_of, network_of, subnet_of, port_of, group_of, rule_of, router_of, floating_of, policy_of}
use Rattle.api_types.specs.Edits.{list_after, list_before, FitsTable}
use Rattle.api_types.specs.RowLists.{RowLists}
use Rattle.api_types.specs.Rows.{project_id, after, before, after_item, before_item, after_of_kind, before_of_kind, Fits, FitsItem, FitsOfKind, AreTables, CameOfKind, CameByItem, CameBy}
use Rattle.api_types.specs.declared.change.Item.{Item}
use Rattle.api_types.specs.declared.kind.Kind.{Kind}
use Rattle.api_types.specs.declared.kind.Row.{Row}
use Rattle.api_types.specs.declared.project.ProjectRow.{ProjectRow}
use Rattle.api_types.specs.declared.kind.Kind.TheVariants.{Project, Network, Subnet, Port, Group, Rule, Router, Floating, Policy}
use Rattle.api_types.proofs.EditLemmas.{undone, own_still}

-- one more item at the end

pub after-push : (rows : RowLists) (items : List Item) (item : Item) → after rows (items ++ item ∷ []) ≡ after_item (after rows items) item
after-push rows [] item = refl
after-push rows (x ∷ items) item = after-push (after_item rows x) items item

pub before-push : (rows : RowLists) (items : List Item) (item : Item) → before rows (items ++ item ∷ []) ≡ before (before_item rows item) items
before-push rows [] item = refl
before-push rows (x ∷ items) item = ap (λ r. before_item r x) (before-push rows items item)

pub Fits-push : (rows : RowLists) (items : List Item) (item : Item) → Fits rows items → FitsItem (after rows items) item → Fits rows (items ++ item ∷ [])
Fits-push rows [] item fits one = (one, tt)
Fits-push rows (x ∷ items) item fits one = (fits.0, Fits-push (after_item rows x) items item fits.1 one)

pub Fits-parts : (rows : RowLists) (items : List Item) (item : Item) → Fits rows (items ++ item ∷ []) → Fits rows items × FitsItem (after rows items) item
Fits-parts rows [] item fits = (tt, fits.0)
Fits-parts rows (x ∷ items) item fits = let rest = Fits-parts (after_item rows x) items item fits.1 in ((fits.0, rest.0), rest.1)

-- two changes, one after the other

pub after-append : (rows : RowLists) (items more : List Item) → after rows (items ++ more) ≡ after (after rows items) more
after-append rows [] more = refl
after-append rows (x ∷ items) more = after-append (after_item rows x) items more

pub Fits-append : (rows : RowLists) (items more : List Item) → Fits rows items → Fits (after rows items) more → Fits rows (items ++ more)
Fits-append rows [] more fits rest = rest
Fits-append rows (x ∷ items) more fits rest = (fits.0, Fits-append (after_item rows x) items more fits.1 rest)

table_undone : {R : Type 0} (part : Row → Option R) (id_of : R → Ident) (rows : List R) (item : Item) → FitsTable part id_of rows item → list_before part (list_after part rows item) item ≡ rows
table_undone part id_of rows item fits = undone id_of rows item.place (option_and_then part item.before) (option_and_then part item.after) fits.2

kind_undone : (k : Kind) (rows : RowLists) (item : Item) → FitsOfKind k rows item → before_of_kind k (after_of_kind k rows item) item ≡ rows
kind_undone Project rows item fits = ap (λ rs. record rows { projects = rs }) (table_undone project_of project_id rows.projects item fits)
kind_undone Network rows item fits = ap (λ rs. record rows { networks = rs }) (table_undone network_of (λ r. r.id) rows.networks item fits)
kind_undone Subnet rows item fits = ap (λ rs. record rows { subnets = rs }) (table_undone subnet_of (λ r. r.id) rows.subnets item fits)
kind_undone Port rows item fits = ap (λ rs. record rows { ports = rs }) (table_undone port_of (λ r. r.id) rows.ports item fits)
kind_undone Group rows item fits = ap (λ rs. record rows { groups = rs }) (table_undone group_of (λ r. r.id) rows.groups item fits)
kind_undone Rule rows item fits = ap (λ rs. record rows { rules = rs }) (table_undone rule_of (λ r. r.id) rows.rules item fits)
kind_undone Router rows item fits = ap (λ rs. record rows { routers = rs }) (table_undone router_of (λ r. r.id) rows.routers item fits)
kind_undone Floating rows item fits = ap (λ rs. record rows { floatings = rs }) (table_undone floating_of (λ r. r.id) rows.floatings item fits)
kind_undone Policy rows item fits = ap (λ rs. record rows { policies = rs }) (table_undone policy_of (λ r. r.id) rows.policies item fits)

-- an item that is taken back leaves the rows as they were
pub item_undone : (rows : RowLists) (item : Item) → FitsItem rows item → before_item (after_item rows item) item ≡ rows
item_undone rows item fits = kind_undone item.kind rows item fits

-- and so does a change
pub change_undone : (rows : RowLists) (items : List Item) → Fits rows items → before (after rows items) items ≡ rows
change_undone rows [] fits = refl
change_undone rows (x ∷ items) fits = ap (λ r. before_item r x) (change_undone (after_item rows x) items fits.1) ∙ item_undone rows x fits.0

table_still : {R : Type 0} (part : Row → Option R) (id_of : R → Ident) (rows : List R) (item : Item) → HaveOwnIds id_of rows → FitsTable part id_of rows item → HaveOwnIds id_of (list_after part rows item)
table_still part id_of rows item own fits = own_still id_of rows item.place (option_and_then part item.before) (option_and_then part item.after) own fits.2

tables_of_kind : (k : Kind) (rows : RowLists) (item : Item) → AreTables rows → FitsOfKind k rows item → AreTables (after_of_kind k rows item)
tables_of_kind Project rows item t fits = record { projects = table_still project_of project_id rows.projects item t.projects fits; networks = t.networks; subnets = t.subnets; ports = t.ports; groups = t.groups; rules = t.rules; routers = t.routers; floatings = t.floatings; policies = t.policies }
tables_of_kind Network rows item t fits = record { projects = t.projects; networks = table_still network_of (λ r. r.id) rows.networks item t.networks fits; subnets = t.subnets; ports = t.ports; groups = t.groups; rules = t.rules; routers = t.routers; floatings = t.floatings; policies = t.policies }
tables_of_kind Subnet rows item t fits = record { projects = t.projects; networks = t.networks; subnets = table_still subnet_of (λ r. r.id) rows.subnets item t.subnets fits; ports = t.ports; groups = t.groups; rules = t.rules; routers = t.routers; floatings = t.floatings; policies = t.policies }
tables_of_kind Port rows item t fits = record { projects = t.projects; networks = t.networks; subnets = t.subnets; ports = table_still port_of (λ r. r.id) rows.ports item t.ports fits; groups = t.groups; rules = t.rules; routers = t.routers; floatings = t.floatings; policies = t.policies }
tables_of_kind Group rows item t fits = record { projects = t.projects; networks = t.networks; subnets = t.subnets; ports = t.ports; groups = table_still group_of (λ r. r.id) rows.groups item t.groups fits; rules = t.rules; routers = t.routers; floatings = t.floatings; policies = t.policies }
tables_of_kind Rule rows item t fits = record { projects = t.projects; networks = t.networks; subnets = t.subnets; ports = t.ports; groups = t.groups; rules = table_still rule_of (λ r. r.id) rows.rules item t.rules fits; routers = t.routers; floatings = t.floatings; policies = t.policies }
tables_of_kind Router rows item t fits = record { projects = t.projects; networks = t.networks; subnets = t.subnets; ports = t.ports; groups = t.groups; rules = t.rules; routers = table_still router_of (λ r. r.id) rows.routers item t.routers fits; floatings = t.floatings; policies = t.policies }
tables_of_kind Floating rows item t fits = record { projects = t.projects; networks = t.networks; subnets = t.subnets; ports = t.ports; groups = t.groups; rules = t.rules; routers = t.routers; floatings = table_still floating_of (λ r. r.id) rows.floatings item t.floatings fits; policies = t.policies }
tables_of_kind Policy rows item t fits = record { projects = t.projects; networks = t.networks; subnets = t.subnets; ports = t.ports; groups = t.groups; rules = t.rules; routers = t.routers; floatings = t.floatings; policies = table_still policy_of (λ r. r.id) rows.policies item t.policies fits }

-- items that fit leave each row an id of its own
pub tables_still : (rows : RowLists) (items : List Item) → AreTables rows → Fits rows items → AreTables (after rows items)
tables_still rows [] tables fits = tables
tables_still rows (x ∷ items) tables fits = tables_still (after_item rows x) items (tables_of_kind x.kind rows x tables fits.0) fits.1

came_of_kind : (k : Kind) (rows : RowLists) (item : Item) → AreTables rows → FitsOfKind k rows item → CameOfKind k (after_of_kind k rows item) item
came_of_kind Project rows item t fits = record { rows = rows.projects; own_ids = t.projects; fits = fits; now_is = refl }
came_of_kind Network rows item t fits = record { rows = rows.networks; own_ids = t.networks; fits = fits; now_is = refl }
came_of_kind Subnet rows item t fits = record { rows = rows.subnets; own_ids = t.subnets; fits = fits; now_is = refl }
came_of_kind Port rows item t fits = record { rows = rows.ports; own_ids = t.ports; fits = fits; now_is = refl }
came_of_kind Group rows item t fits = record { rows = rows.groups; own_ids = t.groups; fits = fits; now_is = refl }
came_of_kind Rule rows item t fits = record { rows = rows.rules; own_ids = t.rules; fits = fits; now_is = refl }
came_of_kind Router rows item t fits = record { rows = rows.routers; own_ids = t.routers; fits = fits; now_is = refl }
came_of_kind Floating rows item t fits = record { rows = rows.floatings; own_ids = t.floatings; fits = fits; now_is = refl }
came_of_kind Policy rows item t fits = record { rows = rows.policies; own_ids = t.policies; fits = fits; now_is = refl }

pub came_by_item : (rows : RowLists) (item : Item) → AreTables rows → FitsItem rows item → CameByItem (after_item rows item) item
came_by_item rows item tables fits = came_of_kind item.kind rows item tables fits

-- the last of the items that are left, taken back
pub record Back (now : RowLists) (items : List Item) (item : Item) : Type 0 where
  pub last : CameByItem now item
  pub rest : CameBy (before_item now item) items
  pub leads : before (before_item now item) items ≡ before now (items ++ item ∷ [])

pub step_back : (now : RowLists) (items : List Item) (item : Item) → CameBy now (items ++ item ∷ []) → Back now items item
step_back now items item came =
    let parts = Fits-parts came.rows items item came.fits in
    let tables = tables_still came.rows items came.tables parts.0 in
    let here : now ≡ after_item (after came.rows items) item = came.now_is ∙ after-push came.rows items item in
    record {
      last = subst (λ n. CameByItem n item) (sym here) (came_by_item (after came.rows items) item tables parts.1);
      rest = record { rows = came.rows; tables = came.tables; fits = parts.0; now_is = ap (λ n. before_item n item) here ∙ item_undone (after came.rows items) item parts.1 };
      leads = sym (before-push now items item);
    }

-- what is left, with its last item apart
pub last_of : (items : List Item) (i : ℕ) (x : Item) → i < length items → x ≡ get_or items (length items - 1 - i) x → take (length items - i) items ≡ take (length items - (i + 1)) items ++ x ∷ []
last_of items i x within is =
    let place : length items - i ≡ suc (length items - 1 - i) = omega arith in
    let before_it : length items - 1 - i ≡ length items - (i + 1) = omega arith in
    ap (λ n. take n items) place ∙ take-suc items (length items - 1 - i) x (omega arith)
    ∙ (λ j. take (before_it j) items ++ sym is j ∷ [])

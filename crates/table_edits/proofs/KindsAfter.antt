-- The rows of each kind after a change, item by item, and that its items fit them.
use Rattle.std.proofs.Common.{◌≡◌, ◌∙◌, List, [], ◌∷◌, Option, Bool, true, false, refl, ap, subst}
use Rattle.std.specs.Prelude.{if◌then◌else◌}
use Rattle.api_types.specs.Edits.{FitsTable, list_after}
use Rattle.api_types.specs.Ident.{Ident}
use Rattle.api_types.specs.Parts.{floating_of, group_of, network_of, port_of, router_of, rule_of, subnet_of}
use Rattle.api_types.specs.RowLists.{RowLists}
use Rattle.api_types.specs.Rows.{Fits, FitsItem, FitsOfKind, after, after_item, after_of_kind}
use Rattle.api_types.specs.declared.change.Item.{Item}
use Rattle.api_types.specs.declared.kind.Kind.{Kind}
use Rattle.api_types.specs.declared.kind.Kind.TheVariants.{Project, Network, Subnet, Port, Group, Rule, Router, Floating, Policy}
use Rattle.api_types.specs.declared.kind.Row.{Row}
use Rattle.plane_types.specs.Numbered.{rows_after}
use Rattle.plane_types.specs.NumberedRows.{is_kind, row_item, row_items}
use Rattle.table_edits.specs.NumbersTold.{FitRows}

-- where each item edits the list of its kind, and no other
module _ {R : Type 0} (kind : Kind) (part : Row → Option R) (list_of : RowLists → List R)
    (one : (rows : RowLists) (item : Item) → list_of (after_item rows item) ≡ (if is_kind kind item.kind then list_after part (list_of rows) item else list_of rows)) where
  pub kind_after : (rows : RowLists) (items : List Item) → list_of (after rows items) ≡ rows_after (list_of rows) (row_items kind part items)
  kind_after rows [] = refl
  kind_after rows (item ∷ items) = kind_after (after_item rows item) items ∙ go (is_kind kind item.kind) (one rows item)
    where
      go : (b : Bool) → list_of (after_item rows item) ≡ (if b then list_after part (list_of rows) item else list_of rows)
          → rows_after (list_of (after_item rows item)) (row_items kind part items)
          ≡ rows_after (list_of rows) (if b then row_item kind part item ∷ row_items kind part items else row_items kind part items)
      go true e = ap (λ l. rows_after l (row_items kind part items)) e
      go false e = ap (λ l. rows_after l (row_items kind part items)) e

-- and fits it, where it is of the kind
module _ {R : Type 0} (kind : Kind) (part : Row → Option R) (id_of : R → Ident) (list_of : RowLists → List R)
    (one : (rows : RowLists) (item : Item) → list_of (after_item rows item) ≡ (if is_kind kind item.kind then list_after part (list_of rows) item else list_of rows))
    (fit : (rows : RowLists) (item : Item) → FitsItem rows item → is_kind kind item.kind ≡ true → FitsTable part id_of (list_of rows) item) where
  pub kind_fits : (rows : RowLists) (items : List Item) → Fits rows items → FitRows id_of (list_of rows) (row_items kind part items)
  kind_fits rows [] f = tt
  kind_fits rows (item ∷ items) f = go (is_kind kind item.kind) refl (one rows item) (kind_fits (after_item rows item) items f.1)
    where
      go : (b : Bool) → is_kind kind item.kind ≡ b → list_of (after_item rows item) ≡ (if b then list_after part (list_of rows) item else list_of rows)
          → FitRows id_of (list_of (after_item rows item)) (row_items kind part items)
          → FitRows id_of (list_of rows) (if b then row_item kind part item ∷ row_items kind part items else row_items kind part items)
      go true e is rest = ((fit rows item f.0 e).2, subst (λ l. FitRows id_of l (row_items kind part items)) is rest)
      go false e is rest = subst (λ l. FitRows id_of l (row_items kind part items)) is rest

router_item : (rows : RowLists) (item : Item) → (after_item rows item).routers ≡ (if is_kind Router item.kind then list_after router_of rows.routers item else rows.routers)
router_item rows item = go item.kind
  where
    go : (k : Kind) → (after_of_kind k rows item).routers ≡ (if is_kind Router k then list_after router_of rows.routers item else rows.routers)
    go Router = refl
    go Project = refl
    go Network = refl
    go Subnet = refl
    go Port = refl
    go Group = refl
    go Rule = refl
    go Floating = refl
    go Policy = refl

pub routers_after : (rows : RowLists) (items : List Item) → (after rows items).routers ≡ rows_after rows.routers (row_items Router router_of items)
routers_after = kind_after Router router_of (λ (rows : RowLists). rows.routers) router_item

floating_item : (rows : RowLists) (item : Item) → (after_item rows item).floatings ≡ (if is_kind Floating item.kind then list_after floating_of rows.floatings item else rows.floatings)
floating_item rows item = go item.kind
  where
    go : (k : Kind) → (after_of_kind k rows item).floatings ≡ (if is_kind Floating k then list_after floating_of rows.floatings item else rows.floatings)
    go Floating = refl
    go Project = refl
    go Network = refl
    go Subnet = refl
    go Port = refl
    go Group = refl
    go Rule = refl
    go Router = refl
    go Policy = refl

pub floatings_after : (rows : RowLists) (items : List Item) → (after rows items).floatings ≡ rows_after rows.floatings (row_items Floating floating_of items)
floatings_after = kind_after Floating floating_of (λ (rows : RowLists). rows.floatings) floating_item

group_item : (rows : RowLists) (item : Item) → (after_item rows item).groups ≡ (if is_kind Group item.kind then list_after group_of rows.groups item else rows.groups)
group_item rows item = go item.kind
  where
    go : (k : Kind) → (after_of_kind k rows item).groups ≡ (if is_kind Group k then list_after group_of rows.groups item else rows.groups)
    go Group = refl
    go Project = refl
    go Network = refl
    go Subnet = refl
    go Port = refl
    go Rule = refl
    go Router = refl
    go Floating = refl
    go Policy = refl

pub groups_after : (rows : RowLists) (items : List Item) → (after rows items).groups ≡ rows_after rows.groups (row_items Group group_of items)
groups_after = kind_after Group group_of (λ (rows : RowLists). rows.groups) group_item

rule_item : (rows : RowLists) (item : Item) → (after_item rows item).rules ≡ (if is_kind Rule item.kind then list_after rule_of rows.rules item else rows.rules)
rule_item rows item = go item.kind
  where
    go : (k : Kind) → (after_of_kind k rows item).rules ≡ (if is_kind Rule k then list_after rule_of rows.rules item else rows.rules)
    go Rule = refl
    go Project = refl
    go Network = refl
    go Subnet = refl
    go Port = refl
    go Group = refl
    go Router = refl
    go Floating = refl
    go Policy = refl

pub rules_after : (rows : RowLists) (items : List Item) → (after rows items).rules ≡ rows_after rows.rules (row_items Rule rule_of items)
rules_after = kind_after Rule rule_of (λ (rows : RowLists). rows.rules) rule_item

network_item : (rows : RowLists) (item : Item) → (after_item rows item).networks ≡ (if is_kind Network item.kind then list_after network_of rows.networks item else rows.networks)
network_item rows item = go item.kind
  where
    go : (k : Kind) → (after_of_kind k rows item).networks ≡ (if is_kind Network k then list_after network_of rows.networks item else rows.networks)
    go Network = refl
    go Project = refl
    go Subnet = refl
    go Port = refl
    go Group = refl
    go Rule = refl
    go Router = refl
    go Floating = refl
    go Policy = refl

pub networks_after : (rows : RowLists) (items : List Item) → (after rows items).networks ≡ rows_after rows.networks (row_items Network network_of items)
networks_after = kind_after Network network_of (λ (rows : RowLists). rows.networks) network_item

port_item : (rows : RowLists) (item : Item) → (after_item rows item).ports ≡ (if is_kind Port item.kind then list_after port_of rows.ports item else rows.ports)
port_item rows item = go item.kind
  where
    go : (k : Kind) → (after_of_kind k rows item).ports ≡ (if is_kind Port k then list_after port_of rows.ports item else rows.ports)
    go Project = refl
    go Network = refl
    go Subnet = refl
    go Port = refl
    go Group = refl
    go Rule = refl
    go Router = refl
    go Floating = refl
    go Policy = refl

subnet_item : (rows : RowLists) (item : Item) → (after_item rows item).subnets ≡ (if is_kind Subnet item.kind then list_after subnet_of rows.subnets item else rows.subnets)
subnet_item rows item = go item.kind
  where
    go : (k : Kind) → (after_of_kind k rows item).subnets ≡ (if is_kind Subnet k then list_after subnet_of rows.subnets item else rows.subnets)
    go Project = refl
    go Network = refl
    go Subnet = refl
    go Port = refl
    go Group = refl
    go Rule = refl
    go Router = refl
    go Floating = refl
    go Policy = refl

pub subnets_after : (rows : RowLists) (items : List Item) → (after rows items).subnets ≡ rows_after rows.subnets (row_items Subnet subnet_of items)
subnets_after = kind_after Subnet subnet_of (λ (rows : RowLists). rows.subnets) subnet_item

network_fits : (rows : RowLists) (item : Item) → FitsItem rows item → is_kind Network item.kind ≡ true → FitsTable network_of (λ r. r.id) rows.networks item
network_fits rows item = go item.kind
  where
    go : (k : Kind) → FitsOfKind k rows item → is_kind Network k ≡ true → FitsTable network_of (λ r. r.id) rows.networks item
    go Network h e = h
    go Project h e = cc
    go Subnet h e = cc
    go Port h e = cc
    go Group h e = cc
    go Rule h e = cc
    go Router h e = cc
    go Floating h e = cc
    go Policy h e = cc

pub networks_fit : (rows : RowLists) (items : List Item) → Fits rows items → FitRows (λ r. r.id) rows.networks (row_items Network network_of items)
networks_fit = kind_fits Network network_of (λ r. r.id) (λ (rows : RowLists). rows.networks) network_item network_fits

port_fits : (rows : RowLists) (item : Item) → FitsItem rows item → is_kind Port item.kind ≡ true → FitsTable port_of (λ r. r.id) rows.ports item
port_fits rows item = go item.kind
  where
    go : (k : Kind) → FitsOfKind k rows item → is_kind Port k ≡ true → FitsTable port_of (λ r. r.id) rows.ports item
    go Port h e = h
    go Project h e = cc
    go Network h e = cc
    go Subnet h e = cc
    go Group h e = cc
    go Rule h e = cc
    go Router h e = cc
    go Floating h e = cc
    go Policy h e = cc

pub ports_fit : (rows : RowLists) (items : List Item) → Fits rows items → FitRows (λ r. r.id) rows.ports (row_items Port port_of items)
ports_fit = kind_fits Port port_of (λ r. r.id) (λ (rows : RowLists). rows.ports) port_item port_fits

subnet_fits : (rows : RowLists) (item : Item) → FitsItem rows item → is_kind Subnet item.kind ≡ true → FitsTable subnet_of (λ r. r.id) rows.subnets item
subnet_fits rows item = go item.kind
  where
    go : (k : Kind) → FitsOfKind k rows item → is_kind Subnet k ≡ true → FitsTable subnet_of (λ r. r.id) rows.subnets item
    go Subnet h e = h
    go Project h e = cc
    go Network h e = cc
    go Port h e = cc
    go Group h e = cc
    go Rule h e = cc
    go Router h e = cc
    go Floating h e = cc
    go Policy h e = cc

pub subnets_fit : (rows : RowLists) (items : List Item) → Fits rows items → FitRows (λ r. r.id) rows.subnets (row_items Subnet subnet_of items)
subnets_fit = kind_fits Subnet subnet_of (λ r. r.id) (λ (rows : RowLists). rows.subnets) subnet_item subnet_fits

group_fits : (rows : RowLists) (item : Item) → FitsItem rows item → is_kind Group item.kind ≡ true → FitsTable group_of (λ r. r.id) rows.groups item
group_fits rows item = go item.kind
  where
    go : (k : Kind) → FitsOfKind k rows item → is_kind Group k ≡ true → FitsTable group_of (λ r. r.id) rows.groups item
    go Group h e = h
    go Project h e = cc
    go Network h e = cc
    go Subnet h e = cc
    go Port h e = cc
    go Rule h e = cc
    go Router h e = cc
    go Floating h e = cc
    go Policy h e = cc

pub groups_fit : (rows : RowLists) (items : List Item) → Fits rows items → FitRows (λ r. r.id) rows.groups (row_items Group group_of items)
groups_fit = kind_fits Group group_of (λ r. r.id) (λ (rows : RowLists). rows.groups) group_item group_fits

rule_fits : (rows : RowLists) (item : Item) → FitsItem rows item → is_kind Rule item.kind ≡ true → FitsTable rule_of (λ r. r.id) rows.rules item
rule_fits rows item = go item.kind
  where
    go : (k : Kind) → FitsOfKind k rows item → is_kind Rule k ≡ true → FitsTable rule_of (λ r. r.id) rows.rules item
    go Rule h e = h
    go Project h e = cc
    go Network h e = cc
    go Subnet h e = cc
    go Port h e = cc
    go Group h e = cc
    go Router h e = cc
    go Floating h e = cc
    go Policy h e = cc

pub rules_fit : (rows : RowLists) (items : List Item) → Fits rows items → FitRows (λ r. r.id) rows.rules (row_items Rule rule_of items)
rules_fit = kind_fits Rule rule_of (λ r. r.id) (λ (rows : RowLists). rows.rules) rule_item rule_fits

router_fits : (rows : RowLists) (item : Item) → FitsItem rows item → is_kind Router item.kind ≡ true → FitsTable router_of (λ r. r.id) rows.routers item
router_fits rows item = go item.kind
  where
    go : (k : Kind) → FitsOfKind k rows item → is_kind Router k ≡ true → FitsTable router_of (λ r. r.id) rows.routers item
    go Router h e = h
    go Project h e = cc
    go Network h e = cc
    go Subnet h e = cc
    go Port h e = cc
    go Group h e = cc
    go Rule h e = cc
    go Floating h e = cc
    go Policy h e = cc

pub routers_fit : (rows : RowLists) (items : List Item) → Fits rows items → FitRows (λ r. r.id) rows.routers (row_items Router router_of items)
routers_fit = kind_fits Router router_of (λ r. r.id) (λ (rows : RowLists). rows.routers) router_item router_fits

floating_fits : (rows : RowLists) (item : Item) → FitsItem rows item → is_kind Floating item.kind ≡ true → FitsTable floating_of (λ r. r.id) rows.floatings item
floating_fits rows item = go item.kind
  where
    go : (k : Kind) → FitsOfKind k rows item → is_kind Floating k ≡ true → FitsTable floating_of (λ r. r.id) rows.floatings item
    go Floating h e = h
    go Project h e = cc
    go Network h e = cc
    go Subnet h e = cc
    go Port h e = cc
    go Group h e = cc
    go Rule h e = cc
    go Router h e = cc
    go Policy h e = cc

pub floatings_fit : (rows : RowLists) (items : List Item) → Fits rows items → FitRows (λ r. r.id) rows.floatings (row_items Floating floating_of items)
floatings_fit = kind_fits Floating floating_of (λ r. r.id) (λ (rows : RowLists). rows.floatings) floating_item floating_fits

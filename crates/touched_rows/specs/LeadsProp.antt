-- That a change leads from consistent rows to consistent rows has at most one proof.
use Rattle.std.specs.Prelude.{ℕ, List, [], ◌∷◌, Option, Some, None}
use Rattle.std.specs.Coded.{×_prop, Unit-prop}
use Rattle.std.proofs.Props.{props}
use Rattle.api_types.specs.Edits.{FitsAt, FitsTable}
use Rattle.api_types.specs.Ident.{Ident}
use Rattle.api_types.specs.Parts.{floating_of, group_of, network_of, policy_of, port_of, project_of, router_of, rule_of, subnet_of}
use Rattle.api_types.specs.RowLists.{RowLists}
use Rattle.api_types.specs.Rows.{Fits, FitsOfKind, after_item, project_id}
use Rattle.api_types.specs.declared.change.Item.{Item}
use Rattle.api_types.specs.declared.kind.Kind.{Kind}
use Rattle.api_types.specs.declared.kind.Kind.TheVariants.{Project, Network, Subnet, Port, Group, Rule, Router, Floating, Policy}
use Rattle.api_types.specs.declared.kind.Row.{Row}
use Rattle.api_types.specs.declared.floating.FloatingRow.{FloatingRow}
use Rattle.api_types.specs.declared.group.GroupRow.{GroupRow}
use Rattle.api_types.specs.declared.group.RuleRow.{RuleRow}
use Rattle.api_types.specs.declared.network.NetworkRow.{NetworkRow}
use Rattle.api_types.specs.declared.policy.PolicyRow.{PolicyRow}
use Rattle.api_types.specs.declared.port.PortRow.{PortRow}
use Rattle.api_types.specs.declared.router.RouterRow.{RouterRow}
use Rattle.api_types.specs.declared.subnet.SubnetRow.{SubnetRow}
use Rattle.table_edits.specs.Rewires.{LeadsOn}

module _ {R : Type 0} (set : IsSet R) where
  FitsAt-prop : (id_of : R → Ident) (rows : List R) (place : ℕ) (old new : Option R)
      → IsProp (FitsAt id_of rows place old new)
  FitsAt-prop id_of rows place None None = hlevel props
  FitsAt-prop id_of rows place None (Some row) = hlevel (props, set)
  FitsAt-prop id_of rows place (Some old) None = hlevel (props, set)
  FitsAt-prop id_of rows place (Some old) (Some row) = hlevel (props, set)

  FitsTable-prop : (part : Row → Option R) (id_of : R → Ident) (rows : List R) (item : Item)
      → IsProp (FitsTable part id_of rows item)
  FitsTable-prop part id_of rows item =
      hlevel (props, λ (old new : Option R). FitsAt-prop id_of rows item.place old new)

FitsOfKind-prop : (kind : Kind) (rows : RowLists) (item : Item)
    → IsProp (FitsOfKind kind rows item)
FitsOfKind-prop Project rows item =
    FitsTable-prop (hlevel props) project_of project_id rows.projects item
FitsOfKind-prop Network rows item =
    FitsTable-prop (hlevel props) network_of (λ (r : NetworkRow). r.id) rows.networks item
FitsOfKind-prop Subnet rows item =
    FitsTable-prop (hlevel props) subnet_of (λ (r : SubnetRow). r.id) rows.subnets item
FitsOfKind-prop Port rows item =
    FitsTable-prop (hlevel props) port_of (λ (r : PortRow). r.id) rows.ports item
FitsOfKind-prop Group rows item =
    FitsTable-prop (hlevel props) group_of (λ (r : GroupRow). r.id) rows.groups item
FitsOfKind-prop Rule rows item =
    FitsTable-prop (hlevel props) rule_of (λ (r : RuleRow). r.id) rows.rules item
FitsOfKind-prop Router rows item =
    FitsTable-prop (hlevel props) router_of (λ (r : RouterRow). r.id) rows.routers item
FitsOfKind-prop Floating rows item =
    FitsTable-prop (hlevel props) floating_of (λ (r : FloatingRow). r.id) rows.floatings item
FitsOfKind-prop Policy rows item =
    FitsTable-prop (hlevel props) policy_of (λ (r : PolicyRow). r.id) rows.policies item

Fits-prop : (rows : RowLists) (items : List Item) → IsProp (Fits rows items)
Fits-prop rows [] = Unit-prop
Fits-prop rows (item ∷ items) =
    ×_prop (FitsOfKind-prop item.kind rows item) (Fits-prop (after_item rows item) items)

pub LeadsOn-prop : (before : RowLists) (change : List Item) (now : RowLists)
    → IsProp (LeadsOn before change now)
LeadsOn-prop before change now = hlevel (props, Fits-prop before change)

-- Rows with one row more, with one in place of that with its id, or without one.
use Rattle.std.specs.Prelude.{List, [], ◌∷◌, ◌++◌, filter, if◌then◌else◌, map, not}
use Rattle.api_types.specs.Ident.{Ident}
use Rattle.api_types.specs.RowLists.{RowLists}
use Rattle.api_types.specs.Rows.{project_id}
use Rattle.api_types.specs.Table.{ident_eq}
use Rattle.api_types.specs.declared.kind.Kind.{Kind}
use Rattle.api_types.specs.declared.kind.Kind.TheVariants.{Project as ProjectKind, Network as NetworkKind, Subnet as SubnetKind, Port as PortKind, Group as GroupKind, Rule as RuleKind, Router as RouterKind, Floating as FloatingKind, Policy as PolicyKind}
use Rattle.api_types.specs.declared.kind.Row.{Row}
use Rattle.api_types.specs.declared.kind.Row.TheVariants.{Project, Network, Subnet, Port, Group, Rule, Router, Floating, Policy}

-- the rows of a kind with one in place of that with its id, and without the one with an id
module _ {R : Type 0} where
  abbrev pub put_in : (R → Ident) → R → List R → List R
  put_in id_of r rows = map (λ q. if ident_eq (id_of r) (id_of q) then r else q) rows

  abbrev pub gone_from : (R → Ident) → Ident → List R → List R
  gone_from id_of i rows = filter (λ q. not (ident_eq i (id_of q))) rows

abbrev pub with_added : RowLists → Row → RowLists
with_added rows (Project r) = record rows { projects = rows.projects ++ r ∷ [] }
with_added rows (Network r) = record rows { networks = rows.networks ++ r ∷ [] }
with_added rows (Subnet r) = record rows { subnets = rows.subnets ++ r ∷ [] }
with_added rows (Port r) = record rows { ports = rows.ports ++ r ∷ [] }
with_added rows (Group r) = record rows { groups = rows.groups ++ r ∷ [] }
with_added rows (Rule r) = record rows { rules = rows.rules ++ r ∷ [] }
with_added rows (Router r) = record rows { routers = rows.routers ++ r ∷ [] }
with_added rows (Floating r) = record rows { floatings = rows.floatings ++ r ∷ [] }
with_added rows (Policy r) = record rows { policies = rows.policies ++ r ∷ [] }

abbrev pub with_put : RowLists → Row → RowLists
with_put rows (Project r) = record rows { projects = put_in project_id r rows.projects }
with_put rows (Network r) = record rows { networks = put_in (λ q. q.id) r rows.networks }
with_put rows (Subnet r) = record rows { subnets = put_in (λ q. q.id) r rows.subnets }
with_put rows (Port r) = record rows { ports = put_in (λ q. q.id) r rows.ports }
with_put rows (Group r) = record rows { groups = put_in (λ q. q.id) r rows.groups }
with_put rows (Rule r) = record rows { rules = put_in (λ q. q.id) r rows.rules }
with_put rows (Router r) = record rows { routers = put_in (λ q. q.id) r rows.routers }
with_put rows (Floating r) = record rows { floatings = put_in (λ q. q.id) r rows.floatings }
with_put rows (Policy r) = record rows { policies = put_in (λ q. q.id) r rows.policies }

abbrev pub without_row : RowLists → Kind → Ident → RowLists
without_row rows ProjectKind i = record rows { projects = gone_from project_id i rows.projects }
without_row rows NetworkKind i = record rows { networks = gone_from (λ q. q.id) i rows.networks }
without_row rows SubnetKind i = record rows { subnets = gone_from (λ q. q.id) i rows.subnets }
without_row rows PortKind i = record rows { ports = gone_from (λ q. q.id) i rows.ports }
without_row rows GroupKind i = record rows { groups = gone_from (λ q. q.id) i rows.groups }
without_row rows RuleKind i = record rows { rules = gone_from (λ q. q.id) i rows.rules }
without_row rows RouterKind i = record rows { routers = gone_from (λ q. q.id) i rows.routers }
without_row rows FloatingKind i =
    record rows { floatings = gone_from (λ q. q.id) i rows.floatings }
without_row rows PolicyKind i = record rows { policies = gone_from (λ q. q.id) i rows.policies }

-- Lists of rows (Networking API reference, pagination and filtering): of the rows after the
-- marker's, those that the caller sees and that meet the filters, cut to the limit.
use Rattle.std.specs.Prelude.{ℕ, List, [], ◌∷◌, Bool, true, false, ◌&&◌, Option, None, Some, map, nat_le, take, if◌then◌else◌}
use Rattle.std.specs.List.{filter}
use Rattle.api_types.specs.Ident.{Ident}
use Rattle.api_types.specs.Lists.{is_some_so}
use Rattle.api_types.specs.Printed.{NamedTree, ShownRow}
use Rattle.api_types.specs.RowLists.{RowLists}
use Rattle.api_types.specs.Table.{ident_eq}
use Rattle.api_types.specs.declared.call.Caller.{Caller}
use Rattle.api_types.specs.declared.call.IdText.{IdText}
use Rattle.api_types.specs.declared.call.Query.{Query}
use Rattle.api_types.specs.declared.kind.Kind.{Kind}
use Rattle.api_types.specs.declared.kind.Kind.TheVariants.{Floating, Group, Network, Policy, Port, Project, Router, Rule, Subnet}
use Rattle.api_policy.specs.Visibility.{is_own, sees_network, sees_port, sees_row, sees_subnet}
use Rattle.api_policy.specs.Filtered.{meets}
use Rattle.api_policy.specs.Floatings.{floating_members}
use Rattle.api_policy.specs.Groups.{group_members, rule_members}
use Rattle.api_policy.specs.Networks.{network_members}
use Rattle.api_policy.specs.Policies.{policy_members}
use Rattle.api_policy.specs.Ports.{port_members}
use Rattle.api_policy.specs.Routers.{router_members}
use Rattle.api_policy.specs.Shown.{shown_as}
use Rattle.api_policy.specs.Subnets.{subnet_members}

-- whether the marker, where there is one, is a row of the kind that the caller sees
abbrev pub has_marker : RowLists → Caller → Kind → Option IdText → Bool
has_marker rows caller kind None = true
has_marker rows caller kind (Some m) = is_some_so (sees_row rows caller kind) m.id

-- the rows after the one with the id
abbrev pub behind : {R : Type 0} → (R → Ident) → Ident → List R → List R
behind id_of i [] = []
behind id_of i (r ∷ rs) = if ident_eq i (id_of r) then rs else behind id_of i rs

abbrev pub behind_id : {R : Type 0} → (R → Ident) → Option Ident → List R → List R
behind_id id_of None rows = []
behind_id id_of (Some i) rows = behind id_of i rows

abbrev pub behind_marker : {R : Type 0} → (R → Ident) → Option IdText → List R → List R
behind_marker id_of None rows = rows
behind_marker id_of (Some m) rows = behind_id id_of m.id rows

abbrev pub cut : {X : Type 0} → Option ℕ → List X → List X
cut None xs = xs
cut (Some n) xs = take n xs

-- this many are as many as the limit
abbrev pub is_full : Option ℕ → ℕ → Bool
is_full None many = false
is_full (Some n) many = nat_le n many

-- of rows with these members, those that are seen and meet the filters
abbrev pub listed_of : {R : Type 0} → (R → Bool) → (R → List NamedTree) → Kind → Bool → Query
    → List R → List ShownRow
listed_of seen members kind admin q rows =
    map (λ r. shown_as kind admin q.fields (members r))
    (filter (λ r. seen r && meets admin q.filters (members r)) rows)

-- the same of the rows after the marker, up to the limit
abbrev pub listed_in : {R : Type 0} → (R → Ident) → (R → Bool) → (R → List NamedTree) → Kind → Bool
    → Query → List R → List ShownRow
listed_in id_of seen members kind admin q rows =
    cut q.limit (listed_of seen members kind admin q (behind_marker id_of q.marker rows))

-- what a caller is listed of a kind; projects are no rows that are shown
abbrev pub listed : RowLists → Caller → Kind → Query → List ShownRow
listed rows caller Project q = []
listed rows caller Network q =
    listed_in (λ r. r.id) (sees_network rows caller) (network_members rows caller) Network
    caller.admin q rows.networks
listed rows caller Subnet q =
    listed_in (λ r. r.id) (sees_subnet rows caller) subnet_members Subnet caller.admin q
    rows.subnets
listed rows caller Port q =
    listed_in (λ r. r.id) (sees_port rows caller) (port_members rows) Port caller.admin q
    rows.ports
listed rows caller Group q =
    listed_in (λ r. r.id) (λ r. is_own caller r.project) (group_members rows) Group caller.admin q
    rows.groups
listed rows caller Rule q =
    listed_in (λ r. r.id) (λ r. is_own caller r.project) rule_members Rule caller.admin q
    rows.rules
listed rows caller Router q =
    listed_in (λ r. r.id) (λ r. is_own caller r.project) (router_members rows) Router caller.admin
    q rows.routers
listed rows caller Floating q =
    listed_in (λ r. r.id) (λ r. is_own caller r.project) floating_members Floating caller.admin q
    rows.floatings
listed rows caller Policy q =
    listed_in (λ r. r.id) (λ r. is_own caller r.project) policy_members Policy caller.admin q
    rows.policies

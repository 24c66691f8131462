-- Projects of routers have names.
use Rattle.std.proofs.Common.{◌≡◌, true, not, Option, Some, None, ap}
use Rattle.api_policy.specs.Seen.{router_seen}
use Rattle.api_policy.specs.Visibility.{is_own}
use Rattle.api_types.specs.Consistent.{IsConsistent}
use Rattle.api_types.specs.Consistent.Named.{is_registered}
use Rattle.api_types.specs.Ident.{Ident}
use Rattle.api_types.specs.Lists.{is_empty}
use Rattle.api_types.specs.RowLists.{RowLists}
use Rattle.api_types.specs.Table.{ident_eq}
use Rattle.api_types.specs.declared.call.Caller.{Caller}
use Rattle.api_types.specs.declared.router.RouterRow.{RouterRow}
use Rattle.api_types.proofs.ListLemmas.{each-filter, none_some}
use Rattle.row_laws.proofs.PlaceLemmas.{has_name}
use Rattle.call_parts.proofs.OwnerLemmas.{found_holds}

-- the project of a router that is found has a name
pub project_named : (rows : RowLists) (caller : Caller) (name : Option Ident) (r : RouterRow) → IsConsistent rows → router_seen rows caller name ≡ Some r → not (is_empty r.project) ≡ true
project_named rows caller None r c found = none_some r _ found
project_named rows caller (Some i) r c found =
    let registered : RouterRow → Type 0 = λ q. is_registered rows.projects q.project ≡ true in
    let known = found_holds registered (λ q. ident_eq i q.id) _ r (each-filter (λ (q : RouterRow). is_own caller q.project) registered registered rows.routers (λ q seen p. p) c.named.projects.of_routers) found in
    ap not (has_name rows.projects c.numbered.projects r.project known)

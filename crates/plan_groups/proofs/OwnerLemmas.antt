-- Projects of groups have names.
use Rattle.std.proofs.Common.{◌≡◌, true, not, Option, Some, None, ap}
use Rattle.api_policy.specs.Seen.{group_seen}
use Rattle.api_policy.specs.Visibility.{is_own}
use Rattle.api_types.specs.Consistent.{IsConsistent}
use Rattle.api_types.specs.Consistent.Named.{is_registered}
use Rattle.api_types.specs.Ident.{Ident}
use Rattle.api_types.specs.Lists.{is_empty}
use Rattle.api_types.specs.RowLists.{RowLists}
use Rattle.api_types.specs.Table.{ident_eq}
use Rattle.api_types.specs.declared.call.Caller.{Caller}
use Rattle.api_types.specs.declared.group.GroupRow.{GroupRow}
use Rattle.api_types.proofs.ListLemmas.{each-filter, none_some}
use Rattle.row_laws.proofs.PlaceLemmas.{has_name}
use Rattle.call_parts.proofs.OwnerLemmas.{found_holds}

-- the project of a group that is found has a name
pub project_named : (rows : RowLists) (caller : Caller) (name : Option Ident) (g : GroupRow) → IsConsistent rows → group_seen rows caller name ≡ Some g → not (is_empty g.project) ≡ true
project_named rows caller None g c found = none_some g _ found
project_named rows caller (Some i) g c found =
    let registered : GroupRow → Type 0 = λ r. is_registered rows.projects r.project ≡ true in
    let known = found_holds registered (λ r. ident_eq i r.id) _ g (each-filter (λ (r : GroupRow). is_own caller r.project) registered registered rows.groups (λ r seen p. p) c.named.projects.of_groups) found in
    ap not (has_name rows.projects c.numbered.projects g.project known)

-- Gateways and floating addresses are on networks that are external to their project, and no
-- policy stands twice.
use Rattle.std.specs.Prelude.{◌≤◌, ◌&&◌, Bool, List, count_by}
use Rattle.std.specs.Str.{bytes_eq}
use Rattle.api_types.specs.Table.{ident_eq}
use Rattle.api_types.specs.Lists.{Pass, if_some}
use Rattle.api_types.specs.Sharing.{is_action, is_external_to}
use Rattle.api_types.specs.declared.router.RouterRow.{RouterRow}
use Rattle.api_types.specs.declared.router.Gateway.{Gateway}
use Rattle.api_types.specs.declared.floating.FloatingRow.{FloatingRow}
use Rattle.api_types.specs.declared.policy.PolicyRow.{PolicyRow}

abbrev pub same_policy : PolicyRow → PolicyRow → Bool
same_policy p q =
    ident_eq p.object q.object && (is_action p.action q.action && bytes_eq p.target q.target)

pub record OutsidesAreAllowed (routers : List RouterRow) (floatings : List FloatingRow)
    (policies : List PolicyRow) : Type 0 where
  pub gateways : Pass
      (λ r. if_some (λ (g : Gateway). is_external_to policies g.network r.project) r.gateway)
      routers
  pub addresses : Pass (λ f. is_external_to policies f.network f.project) floatings
  pub once : (p : PolicyRow) → count_by (same_policy p) policies ≤ 1

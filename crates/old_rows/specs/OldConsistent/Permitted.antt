-- Gateways and floating addresses are on networks that are external to their project, and no
-- policy stands twice.
use Rattle.std.specs.Prelude.{◌≤◌, List, count_by}
use Rattle.api_types.specs.Lists.{Pass, if_some}
use Rattle.api_types.specs.Sharing.{is_external_to}
use Rattle.api_types.specs.Consistent.Permitted.{same_policy}
use Rattle.api_types.specs.declared.router.Gateway.{Gateway}
use Rattle.api_types.specs.declared.floating.FloatingRow.{FloatingRow}
use Rattle.api_types.specs.declared.policy.PolicyRow.{PolicyRow}
use Rattle.old_rows.specs.declared.router.OldRouter.{OldRouter}

pub record OutsidesAreAllowed (routers : List OldRouter) (floatings : List FloatingRow)
    (policies : List PolicyRow) : Type 0 where
  pub gateways : Pass
      (λ r. if_some (λ (g : Gateway). is_external_to policies g.network r.project) r.gateway)
      routers
  pub addresses : Pass (λ f. is_external_to policies f.network f.project) floatings
  pub once : (p : PolicyRow) → count_by (same_policy p) policies ≤ 1

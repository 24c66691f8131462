-- What consistency asks of policies, and of what they permit (Networking API reference v2.0, the
-- refusals of each call). Where two rows break a clause together, both fail.
use Rattle.std.specs.Prelude.{nat_le, Bool, List, count_by}
use Rattle.api_types.specs.Lists.{if_some}
use Rattle.api_types.specs.Sharing.{is_external_to}
use Rattle.api_types.specs.Consistent.Permitted.{same_policy}
use Rattle.api_types.specs.declared.router.RouterRow.{RouterRow}
use Rattle.api_types.specs.declared.router.Gateway.{Gateway}
use Rattle.api_types.specs.declared.policy.PolicyRow.{PolicyRow}

abbrev pub router_permitted : List PolicyRow → RouterRow → Bool
router_permitted policies r =
    if_some (λ (g : Gateway). is_external_to policies g.network r.project) r.gateway

abbrev pub policy_alone : List PolicyRow → PolicyRow → Bool
policy_alone policies p = nat_le (count_by (same_policy p) policies) 1

-- Whether a policy can go, or get another target, by the port that needs it as it stands.
use Rattle.api_policy.specs.PolicyNeeds.{policy_user}
use Rattle.api_policy.specs.Standing.{with_aimed, without}
use Rattle.api_types.specs.Ident.{Ident}
use Rattle.api_types.specs.RowLists.{RowLists}
use Rattle.api_types.specs.Table.{row_of}
use Rattle.api_types.specs.declared.kind.Kind.TheVariants.{Port as PortKind}
use Rattle.api_types.specs.declared.kind.Kind.{Kind}
use Rattle.api_types.specs.declared.policy.PolicyRow.{PolicyRow}
use Rattle.api_types.specs.declared.port.PortRow.{PortRow}
use Rattle.std.specs.Prelude.{List, None, Option, Some, option_and_then, option_map}
use Rattle.net_addr.specs.Words.{Text}

-- the policies with this target of the policy, or without it
abbrev pub retargeted : PolicyRow → Option Text → List PolicyRow → List PolicyRow
retargeted l None policies = without l.id policies
retargeted l (Some target) policies = with_aimed l target policies

-- the first port on the policy's network that would lack what it needs
abbrev pub port_in_need : RowLists → PolicyRow → List PolicyRow → Option PortRow
port_in_need rows l policies =
    option_and_then (policy_user rows policies) (row_of (λ n. n.id) l.object rows.networks)

abbrev pub user_of_policy : RowLists → Ident → Option Text → Option (Kind × Ident)
user_of_policy rows i target =
    option_and_then (λ l.
    option_map (λ (p : PortRow). (PortKind, p.id))
    (port_in_need rows l (retargeted l target rows.policies)))
    (row_of (λ l. l.id) i rows.policies)

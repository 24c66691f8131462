-- To whom a network is shared or external, by RBAC policies (Networking API v2.0, RBAC policies).
use Rattle.std.specs.Prelude.{◌&&◌, ◌||◌, Bool, true, false, List, [], ◌∷◌}
use Rattle.std.specs.List.{list_any}
use Rattle.std.specs.Str.{bytes_eq}
use Rattle.net_addr.specs.Words.{Text}
use Rattle.api_types.specs.Ident.{Ident}
use Rattle.api_types.specs.Table.{ident_eq}
use Rattle.api_types.specs.declared.policy.PolicyRow.{PolicyRow}
use Rattle.api_types.specs.declared.policy.Action.{Action}
use Rattle.api_types.specs.declared.policy.Action.TheVariants.{Shared, External}

abbrev pub is_action : Action → Action → Bool
is_action Shared Shared = true
is_action External External = true
is_action _ _ = false

-- the target `*`
abbrev pub everyone : Text
everyone = 42 ∷ []

-- whether a policy permits an action on a network to a project
abbrev pub grants : Action → Ident → Text → PolicyRow → Bool
grants action network project p =
    ident_eq network p.object
    && (is_action action p.action && (bytes_eq p.target project || bytes_eq p.target everyone))

abbrev pub is_granted : List PolicyRow → Action → Ident → Text → Bool
is_granted policies action network project = list_any (grants action network project) policies

-- a network is shared with a project where a policy lets the project, or everyone, use it as its
-- own
abbrev pub is_shared_with : List PolicyRow → Ident → Text → Bool
is_shared_with policies network project = is_granted policies Shared network project

-- a network is external to a project where a policy lets the project, or everyone, use it as an
-- external one
abbrev pub is_external_to : List PolicyRow → Ident → Text → Bool
is_external_to policies network project = is_granted policies External network project

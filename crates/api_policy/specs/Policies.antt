-- What is printed of an RBAC policy (Networking API reference, Show RBAC policy details).
use Rattle.std.specs.Prelude.{List, [], ◌∷◌, codes}
use Rattle.net_addr.specs.Words.{Text}
use Rattle.api_types.specs.Printed.{NamedTree, word}
use Rattle.api_types.specs.declared.policy.Action.{Action}
use Rattle.api_types.specs.declared.policy.Action.TheVariants.{External, Shared}
use Rattle.api_types.specs.declared.policy.PolicyRow.{PolicyRow}
use Rattle.api_policy.specs.Trees.{id_word}

abbrev pub action_word : Action → Text
action_word Shared = codes "access_as_shared"
action_word External = codes "access_as_external"

-- in byte order of the names
abbrev pub policy_members : PolicyRow → List NamedTree
policy_members p =
    (codes "action", word (action_word p.action))
    ∷ (codes "id", id_word p.id)
    ∷ (codes "object_id", id_word p.object)
    ∷ (codes "object_type", word (codes "network"))
    ∷ (codes "project_id", word p.project)
    ∷ (codes "target_tenant", word p.target)
    ∷ (codes "tenant_id", word p.project)
    ∷ []

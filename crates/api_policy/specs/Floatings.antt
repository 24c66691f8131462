-- What is printed of a floating address (Networking API reference, Show floating IP details).
use Rattle.std.specs.Prelude.{List, [], ◌∷◌, codes, is_some}
use Rattle.api_types.specs.Printed.{NamedTree, word}
use Rattle.api_types.specs.declared.floating.FloatingRow.{FloatingRow}
use Rattle.api_types.specs.declared.floating.Target.{Target}
use Rattle.api_policy.specs.Ports.{status_word}
use Rattle.api_policy.specs.Trees.{four_word, id_word, null_or}

-- in byte order of the names
abbrev pub floating_members : FloatingRow → List NamedTree
floating_members f =
    (codes "description", word f.description)
    ∷ (codes "fixed_ip_address", null_or (λ (t : Target). four_word t.fixed) f.target)
    ∷ (codes "floating_ip_address", four_word f.address)
    ∷ (codes "floating_network_id", id_word f.network)
    ∷ (codes "id", id_word f.id)
    ∷ (codes "port_id", null_or (λ (t : Target). id_word t.port) f.target)
    ∷ (codes "project_id", word f.project)
    ∷ (codes "router_id", null_or (λ (t : Target). id_word t.router) f.target)
    ∷ (codes "status", word (status_word (is_some f.target)))
    ∷ (codes "tenant_id", word f.project)
    ∷ []

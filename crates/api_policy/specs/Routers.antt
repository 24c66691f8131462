-- What is printed of a router (Networking API reference, Show router details).
use Rattle.std.specs.Prelude.{List, [], ◌∷◌, Option, Some, None, codes}
use Rattle.api_types.specs.Printed.{NamedTree, Tree, branches_of, object, truth, word}
use Rattle.api_types.specs.RowLists.{RowLists}
use Rattle.api_types.specs.Table.{row_of}
use Rattle.api_types.specs.declared.port.Fixed.{Fixed}
use Rattle.api_types.specs.declared.port.PortRow.{PortRow}
use Rattle.api_types.specs.declared.router.Gateway.{Gateway}
use Rattle.api_types.specs.declared.router.RouterRow.{RouterRow}
use Rattle.api_policy.specs.Trees.{fixed_object, id_word, list_of, null_or, route_object}

abbrev pub fixed_of : Option PortRow → List Fixed
fixed_of None = []
fixed_of (Some p) = p.fixed

-- the gateway with the addresses that its port holds
abbrev pub gateway_object : RowLists → Gateway → Tree
gateway_object rows g = object (branches_of (
    (codes "enable_snat", truth g.snat)
    ∷ (
      codes "external_fixed_ips",
      list_of fixed_object (fixed_of (row_of (λ (p : PortRow). p.id) g.port rows.ports)),
    )
    ∷ (codes "network_id", id_word g.network)
    ∷ []))

-- in byte order of the names
abbrev pub router_members : RowLists → RouterRow → List NamedTree
router_members rows r =
    (codes "admin_state_up", truth r.up)
    ∷ (codes "description", word r.description)
    ∷ (codes "external_gateway_info", null_or (gateway_object rows) r.gateway)
    ∷ (codes "id", id_word r.id)
    ∷ (codes "name", word r.name)
    ∷ (codes "project_id", word r.project)
    ∷ (codes "routes", list_of route_object r.routes)
    ∷ (codes "status", word (codes "ACTIVE"))
    ∷ (codes "tenant_id", word r.project)
    ∷ []

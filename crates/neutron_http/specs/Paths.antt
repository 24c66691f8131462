-- The paths of the Networking API and of the lab, and which of them a text is.
use Rattle.std.specs.Prelude.{List, [], ◌∷◌, ◌++◌, Result, Ok, Err, Option, option_map, codes}
use Rattle.net_addr.specs.Words.{Text}
use Rattle.matchit.specs.Route.{Scan, parse_route}
use Rattle.matchit.specs.declared.error.InsertError.{InsertError}
use Rattle.matchit.specs.Rows.{RowsOf}
use Rattle.matchit.specs.Order.{placed}
use Rattle.matchit.specs.Router.{RouteOf, route_from}
use Rattle.matchit.specs.Seek.{first}
use Rattle.api_types.specs.declared.kind.Kind.{Kind}
use Rattle.api_types.specs.declared.kind.Kind.TheVariants.{Project, Network, Subnet, Port, Group, Rule, Router, Floating, Policy}
use Rattle.neutron_http.specs.declared.route.RoutePath.{RoutePath}
use Rattle.neutron_http.specs.declared.route.RoutePath.TheVariants.{Rows, Row, AddInterface, RemoveInterface, Frames, Explain, Deliver, Resync, Restart, Forget, Settle, Hosts, Tables, Version, Change, Page}

-- the text of the path of all rows of a kind (OpenStack API reference, Networking API v2.0);
-- projects have none
abbrev pub rows_text : Kind → Text
rows_text Project = []
rows_text Network = codes "/v2.0/networks"
rows_text Subnet = codes "/v2.0/subnets"
rows_text Port = codes "/v2.0/ports"
rows_text Group = codes "/v2.0/security-groups"
rows_text Rule = codes "/v2.0/security-group-rules"
rows_text Router = codes "/v2.0/routers"
rows_text Floating = codes "/v2.0/floatingips"
rows_text Policy = codes "/v2.0/rbac-policies"

-- the text of the path of one row of a kind
abbrev pub row_text : Kind → Text
row_text Project = []
row_text Network = rows_text Network ++ codes "/{id}"
row_text Subnet = rows_text Subnet ++ codes "/{id}"
row_text Port = rows_text Port ++ codes "/{id}"
row_text Group = rows_text Group ++ codes "/{id}"
row_text Rule = rows_text Rule ++ codes "/{id}"
row_text Router = rows_text Router ++ codes "/{id}"
row_text Floating = rows_text Floating ++ codes "/{id}"
row_text Policy = rows_text Policy ++ codes "/{id}"

-- the text of a path, with a name in braces for each parameter
abbrev pub template_of : RoutePath → Text
template_of (Rows kind) = rows_text kind
template_of (Row kind) = row_text kind
template_of AddInterface = codes "/v2.0/routers/{id}/add_router_interface"
template_of RemoveInterface = codes "/v2.0/routers/{id}/remove_router_interface"
template_of Frames = codes "/lab/v1/frames"
template_of Explain = codes "/lab/v1/explain"
template_of Deliver = codes "/lab/v1/deliver"
template_of Resync = codes "/lab/v1/resync"
template_of Restart = codes "/lab/v1/restart"
template_of Forget = codes "/lab/v1/forget"
template_of Settle = codes "/lab/v1/settle"
template_of Hosts = codes "/lab/v1/hosts"
template_of Tables = codes "/lab/v1/hosts/{name}/tables"
template_of Version = codes "/lab/v1/version"
template_of Change = codes "/lab/v1/changes/{number}"
template_of Page = codes "/lab/v1/snapshot/{version}/{page}"

-- the paths, in the order in which the router takes them
abbrev pub all_paths : List RoutePath
all_paths =
    Rows Network ∷ Row Network ∷ Rows Subnet ∷ Row Subnet ∷ Rows Port ∷ Row Port ∷ Rows Group
    ∷ Row Group ∷ Rows Rule ∷ Row Rule
    ∷ Rows Router ∷ Row Router ∷ Rows Floating ∷ Row Floating ∷ Rows Policy ∷ Row Policy
    ∷ AddInterface ∷ RemoveInterface
    ∷ Frames ∷ Explain ∷ Deliver ∷ Resync ∷ Restart ∷ Forget ∷ Settle ∷ Hosts ∷ Tables
    ∷ Version ∷ Change ∷ Page ∷ []

-- the rows of a router with the route of that text
abbrev pub with_route : {T : Type 0} → Result Scan InsertError → T → RowsOf (RouteOf T)
    → RowsOf (RouteOf T)
with_route (Ok s) value rows = placed ((route_from s value).pattern, route_from s value) rows
with_route (Err e) value rows = rows

-- the rows with the routes of these paths
abbrev pub with_routes : List RoutePath → RowsOf (RouteOf RoutePath) → RowsOf (RouteOf RoutePath)
with_routes [] rows = rows
with_routes (path ∷ paths) rows =
    with_routes paths (with_route (parse_route (template_of path)) path rows)

-- the router that holds the paths
abbrev pub routes : RowsOf (RouteOf RoutePath)
routes = with_routes all_paths []

-- the path that `matchit` finds for a text
abbrev pub path_at : Text → Option RoutePath
path_at text = option_map (λ route. route.value) (first routes text)

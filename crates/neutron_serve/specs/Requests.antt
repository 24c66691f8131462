-- Who asks, and what, by the parts of a request (OpenStack API reference, Networking API v2.0:
-- requests; RFC 9110; the identity middleware names the caller by `X-Project-Id` and `X-Roles`).
use Rattle.std.specs.Prelude.{Bool, map, if◌then◌else◌, Option, Some, None, Result, Ok, Err, option_map}
use Rattle.net_addr.specs.Words.{Bytes, Text}
use Rattle.api_types.specs.declared.call.Caller.{Caller}
use Rattle.api_types.specs.declared.call.Filter.{Filter}
use Rattle.api_types.specs.declared.call.Query.{Query}
use Rattle.api_types.specs.declared.refusal.Refusal.{Refusal}
use Rattle.api_types.specs.declared.refusal.Refusal.TheVariants.{NoCaller, NoRoute, NoMethod, BadBody, Invalid}
use Rattle.http_heads.specs.Fields.{project_of, is_admin}
use Rattle.http_heads.specs.Heads.{Asked}
use Rattle.http_heads.specs.Parts.{path_of, query_of}
use Rattle.json_values.specs.Grammars.{is_project_name}
use Rattle.neutron_http.specs.Queries.{QueryRead, Asks, query_read}
use Rattle.neutron_http.specs.Queries as queries
use Rattle.neutron_http.specs.Replies.{Named}
use Rattle.neutron_http.specs.Routes.{Routed, Nowhere, Without, To, allowed_text, route_of}
use Rattle.neutron_http.specs.declared.route.Route.{Route}
use Rattle.neutron_json.specs.Asks.{ask_of, id_text}
use Rattle.neutron_json.specs.Bodies.{Read, Says, NoFrame, BadName}
use Rattle.plane_types.specs.declared.ask.Ask.{Ask}

-- the caller: the project that is named, and whether the roles have `admin`
abbrev pub caller_named : Text → Bool → Option Caller
caller_named name admin =
    if is_project_name name then Some (record { project = name; admin = admin }) else None

-- no project, or a text that is no project's name, names no caller
abbrev pub caller_of : Option Text → Bool → Option Caller
caller_of None admin = None
caller_of (Some name) admin = caller_named name admin

abbrev pub filter_of : Named → Filter
filter_of pair = record { name = pair.0; value = pair.1 }

-- what a query asks, as the machine is asked it
abbrev pub query_asked : queries.Asked → Query
query_asked asked = record {
  filters = map filter_of asked.filters;
  limit = asked.limit;
  marker = option_map id_text asked.marker;
  fields = asked.fields;
}

-- a body that can't be read is refused
abbrev pub by_body : Read Ask → Result Ask Refusal
by_body (Says ask) = Ok ask
by_body (NoFrame member) = Err (BadBody member)
by_body (BadName name) = Err (Invalid name)

-- so is a query, before the body is looked at
abbrev pub by_query : Route → Bytes → QueryRead → Result Ask Refusal
by_query route body (Asks asked) = by_body (ask_of route (query_asked asked) body)
by_query route body (queries.BadName name) = Err (Invalid name)

-- and so are a path that isn't there, and a method that it hasn't
abbrev pub by_route : Bytes → Bytes → Routed → Result Ask Refusal
by_route query body Nowhere = Err NoRoute
by_route query body (Without path) = Err (NoMethod (allowed_text path))
by_route query body (To path method parameters) =
    by_query (record { path = path; method = method; parameters = parameters }) body
    (query_read path method query)

-- what a request asks, or its refusal
unfoldable pub asked_by : Text → Bytes → Bytes → Bytes → Result Ask Refusal
asked_by method path query body = by_route query body (route_of method path)

abbrev pub with_caller : Caller → Result Ask Refusal → Result (Caller × Ask) Refusal
with_caller caller (Ok ask) = Ok (caller, ask)
with_caller caller (Err refusal) = Err refusal

-- a request without a caller is refused before anything else is looked at
abbrev pub by_caller : Option Caller → Result Ask Refusal → Result (Caller × Ask) Refusal
by_caller None asked = Err NoCaller
by_caller (Some caller) asked = with_caller caller asked

-- who asks what by a request
unfoldable pub request_of : Asked → Result (Caller × Ask) Refusal
request_of asked =
    by_caller (caller_of (project_of asked.head) (is_admin asked.head))
    (asked_by asked.head.method (path_of asked.head.target) (query_of asked.head.target)
    asked.body)

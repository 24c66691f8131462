-- Where a method and a path lead.
use Rattle.std.specs.Prelude.{◌≡◌, ◌==◌, Bool, List, [], ◌∷◌, if◌then◌else◌, Result, Ok, Err, Option, Some, None, codes, slice_index}
use Rattle.std.specs.List.{find, join_by, slice_split}
use Rattle.std.specs.Str.{bytes_eq, is_utf8}
use Rattle.net_addr.specs.Words.{Bytes, Text}
use Rattle.api_types.specs.declared.kind.Kind.{Kind}
use Rattle.api_types.specs.declared.kind.Kind.TheVariants.{Project, Network, Subnet, Port, Group, Rule, Router, Floating, Policy}
use Rattle.neutron_http.specs.declared.route.Method.{Method}
use Rattle.neutron_http.specs.declared.route.Method.TheVariants.{Delete, Get, Post, Put}
use Rattle.neutron_http.specs.declared.route.Route.{Route}
use Rattle.neutron_http.specs.declared.route.RoutePath.{RoutePath}
use Rattle.neutron_http.specs.declared.route.RoutePath.TheVariants.{Rows, Row, AddInterface, RemoveInterface, Frames, Explain, Deliver, Resync, Restart, Forget, Settle, Hosts, Tables, Version, Change, Page}
use Rattle.neutron_http.specs.declared.route.RouteRefusal.{RouteRefusal}
use Rattle.neutron_http.specs.declared.route.RouteRefusal.TheVariants.{NoRoute, NoMethod, OutOfMemory}
use Rattle.neutron_http.specs.Paths.{template_of, path_at}
use Rattle.neutron_http.specs.Replies.{IsFieldValue}

-- the name of a method, which is compared exactly (RFC 9110, section 9.1)
abbrev pub method_name : Method → Text
method_name Delete = codes "DELETE"
method_name Get = codes "GET"
method_name Post = codes "POST"
method_name Put = codes "PUT"

-- the methods for one row of a kind: rules are never changed
abbrev pub row_methods : Kind → List Method
row_methods Rule = Delete ∷ Get ∷ []
row_methods Project = Delete ∷ Get ∷ Put ∷ []
row_methods Network = Delete ∷ Get ∷ Put ∷ []
row_methods Subnet = Delete ∷ Get ∷ Put ∷ []
row_methods Port = Delete ∷ Get ∷ Put ∷ []
row_methods Group = Delete ∷ Get ∷ Put ∷ []
row_methods Router = Delete ∷ Get ∷ Put ∷ []
row_methods Floating = Delete ∷ Get ∷ Put ∷ []
row_methods Policy = Delete ∷ Get ∷ Put ∷ []

-- the methods of a path
abbrev pub methods_of : RoutePath → List Method
methods_of (Rows kind) = Get ∷ Post ∷ []
methods_of (Row kind) = row_methods kind
methods_of AddInterface = Put ∷ []
methods_of RemoveInterface = Put ∷ []
methods_of Frames = Post ∷ []
methods_of Explain = Post ∷ []
methods_of Deliver = Post ∷ []
methods_of Resync = Post ∷ []
methods_of Restart = Post ∷ []
methods_of Forget = Post ∷ []
methods_of Settle = Post ∷ []
methods_of Hosts = Get ∷ []
methods_of Tables = Get ∷ []
methods_of Version = Get ∷ []
methods_of Change = Get ∷ []
methods_of Page = Get ∷ []

-- the method of that name among some
abbrev pub method_in : List Method → Text → Option Method
method_in methods name = find (λ m. bytes_eq (method_name m) name) methods

-- the methods of a path as one text (RFC 9110, section 10.2.1)
abbrev pub allowed_text : RoutePath → Text
allowed_text path = join_by method_name (codes ", ") (methods_of path)

-- a part of a route's text is a name in braces
abbrev pub is_parameter : Text → Bool
is_parameter part = slice_index part 0 == 123

-- the parts that stand where the names in braces stand
abbrev pub parameters_in : List Text → List Text → List Text
parameters_in [] parts = []
parameters_in (name ∷ names) [] = []
parameters_in (name ∷ names) (part ∷ parts) =
    if is_parameter name then part ∷ parameters_in names parts else parameters_in names parts

-- the parts between slashes
abbrev pub segments_of : Text → List Text
segments_of text = slice_split (λ b. b == 47) text

-- the parameters of a path, by the text of its route
abbrev pub parameters_of : Text → Text → List Text
parameters_of template path = parameters_in (segments_of template) (segments_of path)

-- where a request leads: nowhere, to a path without its method, or to a path with its method and
-- parameters
pub data Routed : Type 0 where
  Nowhere : Routed
  Without : RoutePath → Routed
  To : RoutePath → Method → List Text → Routed

abbrev pub routed_by : Text → RoutePath → Option Method → Routed
routed_by text path None = Without path
routed_by text path (Some method) = To path method (parameters_of (template_of path) text)

abbrev pub routed : Text → Text → Option RoutePath → Routed
routed method text None = Nowhere
routed method text (Some path) = routed_by text path (method_in (methods_of path) method)

-- a path that is no text leads nowhere
unfoldable pub route_of : Text → Bytes → Routed
route_of method path = if is_utf8 path then routed method path (path_at path) else Nowhere

-- the answer is that route, or the refusal that it is; out of memory says nothing
abbrev pub Answers : Result Route RouteRefusal → Routed → Type 0
Answers (Ok r) routed = routed ≡ To r.path r.method r.parameters
Answers (Err NoRoute) routed = routed ≡ Nowhere
Answers (Err (NoMethod allowed)) routed =
    (path : RoutePath) × (routed ≡ Without path) × (allowed ≡ allowed_text path)
Answers (Err OutOfMemory) routed = Unit {0}

-- the methods that are told are a field's value
abbrev pub AllowsValue : Result Route RouteRefusal → Type 0
AllowsValue (Ok r) = Unit {0}
AllowsValue (Err NoRoute) = Unit {0}
AllowsValue (Err (NoMethod allowed)) = IsFieldValue allowed
AllowsValue (Err OutOfMemory) = Unit {0}

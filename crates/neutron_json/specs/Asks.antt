-- What a request asks, by its route, its query and its body (OpenStack API reference, Networking
-- API v2.0; the lab is this server's own).
use Rattle.std.specs.Prelude.{ℕ, List, [], ◌∷◌, Option, Some, None, option_map, codes}
use Rattle.net_addr.specs.Words.{Bytes, Text}
use Rattle.api_types.specs.declared.call.Call.TheVariants.{List as ListRows, Show, Create as CreateRow, Update as UpdateRow, Delete as DeleteRow, AddInterface, RemoveInterface}
use Rattle.api_types.specs.declared.call.IdText.{IdText}
use Rattle.api_types.specs.declared.call.InterfaceBy.{InterfaceBy}
use Rattle.api_types.specs.declared.call.Query.{Query}
use Rattle.api_types.specs.declared.form.Form.{Form}
use Rattle.api_types.specs.declared.kind.Kind.{Kind}
use Rattle.api_types.specs.Titles.{resource_of}
use Rattle.neutron_http.specs.declared.route.Method.{Method}
use Rattle.neutron_http.specs.declared.route.Method.TheVariants.{Delete, Get, Post, Put}
use Rattle.neutron_http.specs.declared.route.Route.{Route}
use Rattle.neutron_http.specs.declared.route.RoutePath.TheVariants as path
use Rattle.plane_types.specs.declared.ask.Ask.{Ask}
use Rattle.plane_types.specs.declared.ask.Ask.TheVariants.{Api, Lab}
use Rattle.plane_types.specs.declared.ask.LabCall.{LabCall}
use Rattle.plane_types.specs.declared.ask.LabCall.TheVariants.{Frames, Explain, Resync, Restart, Forget, Settle, Hosts, Tables, Version, Change, Page}
use Rattle.plane_types.specs.declared.event.Event.{Event}
use Rattle.json_values.specs.Texts.{id_in}
use Rattle.neutron_json.specs.Tables.{attributes_of, host_attributes, deliver_attributes}
use Rattle.neutron_json.specs.Forms.{form_of}
use Rattle.neutron_json.specs.Events.{event_attributes, event_of, host_of, deliver_of}
use Rattle.neutron_json.specs.Bodies.{Read, Says, NoFrame, BadName, member_read, interface_read}
use Rattle.neutron_json.specs.PathNumbers.{path_number}
use Rattle.neutron_json.specs.declared.attribute.Edit.TheVariants.{Create, Update}

-- the first text that stands in the path where the route has a name, or none
abbrev pub first_text : List Text → Text
first_text [] = []
first_text (text ∷ texts) = text

-- the second one
abbrev pub second_text : List Text → Text
second_text [] = []
second_text (text ∷ texts) = first_text texts

-- a text with the id that it spells, if any
abbrev pub id_text : Text → IdText
id_text text = record { text = text; id = id_in text }

abbrev pub row_named : Route → IdText
row_named route = id_text (first_text route.parameters)

abbrev pub mapped : {A B : Type 0} → (A → B) → Read A → Read B
mapped f (Says x) = Says (f x)
mapped f (NoFrame member) = NoFrame member
mapped f (BadName name) = BadName name

abbrev pub creation : Form → Ask
creation form = Api (CreateRow form)

abbrev pub update : IdText → Form → Ask
update name form = Api (UpdateRow name form)

-- a body that creates a row
abbrev pub creation_read : Kind → Bytes → Read Ask
creation_read kind body =
    member_read Create (resource_of kind) (λ d. attributes_of kind)
    (λ d. option_map creation (form_of kind d)) body

-- a body that updates one
abbrev pub update_read : Kind → IdText → Bytes → Read Ask
update_read kind name body =
    member_read Update (resource_of kind) (λ d. attributes_of kind)
    (λ d. option_map (update name) (form_of kind d)) body

abbrev pub on_event : (Event → LabCall) → Event → Ask
on_event call event = Lab (call event)

abbrev pub event_read : (Event → LabCall) → Bytes → Read Ask
event_read call body =
    member_read Create (codes "event") event_attributes
    (λ d. option_map (on_event call) (event_of d)) body

abbrev pub on_host : (Text → LabCall) → Text → Ask
on_host call host = Lab (call host)

abbrev pub host_read : Text → (Text → LabCall) → Bytes → Read Ask
host_read name call body =
    member_read Create name (λ d. host_attributes) (λ d. option_map (on_host call) (host_of d))
    body

abbrev pub deliver_read : Bytes → Read Ask
deliver_read body =
    member_read Create (codes "deliver") (λ d. deliver_attributes)
    (λ d. option_map Lab (deliver_of d)) body

abbrev pub settle_read : Bytes → Read Ask
settle_read body = member_read Create (codes "settle") (λ d. []) (λ d. Some (Lab Settle)) body

-- what is asked under a number in the path, or its name if it is none
abbrev pub with_number : Text → (ℕ → Read Ask) → Option ℕ → Read Ask
with_number name asked None = BadName name
with_number name asked (Some n) = asked n

abbrev pub change_asked : ℕ → Read Ask
change_asked n = Says (Lab (Change n))

abbrev pub change_read : List Text → Read Ask
change_read texts = with_number (codes "number") change_asked (path_number (first_text texts))

abbrev pub page_asked : ℕ → ℕ → Read Ask
page_asked version n = Says (Lab (Page version n))

abbrev pub page_read : List Text → Read Ask
page_read texts =
    with_number (codes "version")
    (λ version. with_number (codes "page") (page_asked version) (path_number (second_text texts)))
    (path_number (first_text texts))

abbrev pub adding : IdText → InterfaceBy → Ask
adding router by = Api (AddInterface router by)

abbrev pub removing : IdText → InterfaceBy → Ask
removing router by = Api (RemoveInterface router by)

-- a query is asked of all rows of a kind, any other method creates one
abbrev pub rows_read : Kind → Method → Query → Bytes → Read Ask
rows_read kind Get query body = Says (Api (ListRows kind query))
rows_read kind Post query body = creation_read kind body
rows_read kind Put query body = creation_read kind body
rows_read kind Delete query body = creation_read kind body

-- one row is shown, deleted, or by any other method updated
abbrev pub row_read : Kind → Method → IdText → Query → Bytes → Read Ask
row_read kind Get name query body = Says (Api (Show kind name query.fields))
row_read kind Delete name query body = Says (Api (DeleteRow kind name))
row_read kind Put name query body = update_read kind name body
row_read kind Post name query body = update_read kind name body

-- what a request asks, or why its body is refused. GET and DELETE have no body to look at
abbrev pub ask_of : Route → Query → Bytes → Read Ask
ask_of route query body = elim route.path [
  | path.Rows kind ↦ rows_read kind route.method query body
  | path.Row kind ↦ row_read kind route.method (row_named route) query body
  | path.AddInterface ↦ mapped (adding (row_named route)) (interface_read body)
  | path.RemoveInterface ↦ mapped (removing (row_named route)) (interface_read body)
  | path.Frames ↦ event_read Frames body
  | path.Explain ↦ event_read Explain body
  | path.Deliver ↦ deliver_read body
  | path.Resync ↦ host_read (codes "resync") Resync body
  | path.Restart ↦ host_read (codes "restart") Restart body
  | path.Forget ↦ host_read (codes "forget") Forget body
  | path.Settle ↦ settle_read body
  | path.Hosts ↦ Says (Lab Hosts)
  | path.Tables ↦ Says (Lab (Tables (first_text route.parameters)))
  | path.Version ↦ Says (Lab Version)
  | path.Change ↦ change_read route.parameters
  | path.Page ↦ page_read route.parameters
]

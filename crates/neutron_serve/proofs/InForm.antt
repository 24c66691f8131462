-- What requests ask is in form.
use Rattle.std.proofs.Common.{◌≡◌, ◌∙◌, ℕ, true, not, List, Option, Some, None, refl, subst, option_map}
use Rattle.std.specs.Prelude.{⊤, ◌&&◌, codes, Ok, option_and_then}
use Rattle.serde_json.specs.Data.{Data}
use Rattle.serde_json.specs.Find.{as_object}
use Rattle.api_types.specs.Lists.{is_empty}
use Rattle.api_types.specs.declared.call.Call.{Call}
use Rattle.api_types.specs.declared.call.Caller.{Caller}
use Rattle.api_types.specs.declared.call.InterfaceBy.{InterfaceBy}
use Rattle.api_types.specs.declared.call.IdText.{IdText}
use Rattle.api_types.specs.declared.call.Query.{Query}
use Rattle.api_types.specs.declared.form.Form.{Form}
use Rattle.api_types.specs.declared.kind.Kind.{Kind}
use Rattle.call_parts.specs.InForm.{IsTypedCall, IsTypedForm, has_needed, is_call, is_form}
use Rattle.lab_world.specs.World.{IsAskInForm}
use Rattle.neutron_http.specs.declared.route.Method.{Method}
use Rattle.neutron_http.specs.declared.route.Method.TheVariants.{Delete, Get, Post, Put}
use Rattle.neutron_http.specs.declared.route.RoutePath.{RoutePath}
use Rattle.neutron_http.specs.declared.route.RoutePath.TheVariants as path
use Rattle.api_types.specs.Titles.{resource_of}
use Rattle.neutron_http.specs.Queries.{QueryRead, Asks}
use Rattle.neutron_http.specs.Queries as queries
use Rattle.neutron_http.specs.Routes.{Routed, Nowhere, Without, To, route_of}
use Rattle.neutron_json.specs.Asks.{ask_of, rows_read, row_read, row_named, creation, update, on_event, on_host, mapped, adding, removing, change_asked, first_text, page_asked, second_text, with_number}
use Rattle.neutron_json.specs.PathNumbers.{path_number}
use Rattle.neutron_json.specs.Events.{event_of, host_of, deliver_of}
use Rattle.neutron_json.specs.Attributes.{bad_among, for_creation, for_update, missing_in, or_else}
use Rattle.neutron_json.specs.Bodies.{Read, Says, NoFrame, BadName, checked, framed, interface_read, json_of}
use Rattle.neutron_json.specs.Forms.{form_of}
use Rattle.neutron_json.specs.Tables.{attributes_of}
use Rattle.neutron_serve.proofs.FormsGiven.{form_needed, form_so, form_typed}
use Rattle.neutron_serve.specs.Requests.{asked_by, by_body, by_query, by_route}
use Rattle.plane_types.specs.declared.ask.Ask.{Ask}
use Rattle.plane_types.specs.declared.ask.Ask.TheVariants.{Api, Lab}
use Rattle.plane_types.specs.declared.ask.LabCall.TheVariants.{Frames, Explain, Resync, Restart, Forget, Settle}

none_of_both : (bad missing : Option (List ℕ)) → or_else bad missing ≡ None → (bad ≡ None) × (missing ≡ None)
none_of_both None missing h = (refl, h)
none_of_both (Some name) missing h = absurd cc

-- a form that changes a row, and one that makes it
record IsChange (form : Form) : Type 0 where
  formed : is_form form ≡ true
  typed : IsTypedForm form

record IsNew (form : Form) : Type 0 where
  formed : has_needed form && is_form form ≡ true
  typed : IsTypedForm form

change_in_form : (k : Kind) (d : Data) (form : Form) → bad_among for_update (attributes_of k) (as_object d) ≡ None → form_of k d ≡ Some form → IsChange form
change_in_form k d form good is = record { formed = form_so for_update d k form good is; typed = form_typed d k form is }

new_in_form : (k : Kind) (d : Data) (form : Form) → bad_among for_creation (attributes_of k) (as_object d) ≡ None → missing_in for_creation (attributes_of k) d ≡ None
    → form_of k d ≡ Some form → IsNew form
new_in_form k d form good all is = record { formed = λ j. form_needed d k form good all is j && form_so for_creation d k form good is j; typed = form_typed d k form is }

-- a call but for the caller
pub record IsBody (call : Call) : Type 0 where
  pub formed : is_call call ≡ true
  pub typed : IsTypedCall call

-- what a body says, as an ask
abbrev pub IsAskBody : Ask → Type 0
IsAskBody (Api call) = IsBody call
IsAskBody (Lab call) = ⊤

created : (form : Form) → IsNew form → IsAskBody (creation form)
created form new = record { formed = new.formed; typed = new.typed }

updated : (name : IdText) (form : Form) → IsChange form → IsAskBody (update name form)
updated name form change = record { formed = change.formed; typed = change.typed }

abbrev if_ask : Option Ask → Type 0
if_ask None = ⊤
if_ask (Some ask) = IsAskBody ask

abbrev if_asked : Read Ask → Type 0
if_asked (Says ask) = IsAskBody ask
if_asked (NoFrame m) = ⊤
if_asked (BadName name) = ⊤

-- the object under a member, if there is one, with what it says and what is wrong with it
abbrev says_with : (name : List ℕ) (says : Data → Option Ask) (wrong : Data → Option (List ℕ)) → Option Data → Read Ask
says_with name says wrong None = NoFrame (Some name)
says_with name says wrong (Some d) = checked (Some name) (says d) (wrong d)

-- what is said is said of an object with nothing wrong
said_with : (name : List ℕ) (says : Data → Option Ask) (wrong : Data → Option (List ℕ)) (o : Option Data) (ask : Ask) → says_with name says wrong o ≡ Says ask
    → (d : Data) × (wrong d ≡ None) × (says d ≡ Some ask)
said_with name says wrong None ask h = absurd cc
said_with name says wrong (Some d) ask h = by (wrong d) refl (says d) refl h
  where
    by : (w : Option (List ℕ)) → wrong d ≡ w → (s : Option Ask) → says d ≡ s → checked (Some name) s w ≡ Says ask → (x : Data) × (wrong x ≡ None) × (says x ≡ Some ask)
    by (Some bad) is s said g = absurd cc
    by None is None said g = absurd cc
    by None is (Some y) said g = (d, is, said ∙ cc)

mapped_in_form : {X : Type 0} (f : X → Ask) (holds : X → Type 0) → ((x : X) → holds x → IsAskBody (f x)) → (o : Option X) → ((x : X) → o ≡ Some x → holds x)
    → (ask : Ask) → option_map f o ≡ Some ask → IsAskBody ask
mapped_in_form f holds keeps None has ask h = absurd cc
mapped_in_form f holds keeps (Some x) has ask h = subst if_ask h (keeps x (has x refl))

-- a body that gives a form
form_asked : (k : Kind) (f : Form → Ask) (P : Form → Type 0) → ((form : Form) → P form → IsAskBody (f form)) → (name : List ℕ) (bad missing : Data → Option (List ℕ)) (o : Option Data) (ask : Ask)
    → ((d : Data) (form : Form) → bad d ≡ None → missing d ≡ None → form_of k d ≡ Some form → P form)
    → says_with name (λ d. option_map f (form_of k d)) (λ d. or_else (bad d) (missing d)) o ≡ Says ask → IsAskBody ask
form_asked k f P keeps name bad missing o ask holds h =
    let said = said_with name (λ d. option_map f (form_of k d)) (λ d. or_else (bad d) (missing d)) o ask h in
    let nothing = none_of_both (bad said.0) (missing said.0) said.1 in
    mapped_in_form f P keeps (form_of k said.0) (λ form is. holds said.0 form nothing.0 nothing.1 is) ask said.2

creation_asked : (k : Kind) (o : Option Data) (ask : Ask)
    → says_with (resource_of k) (λ d. option_map creation (form_of k d)) (λ d. or_else (bad_among for_creation (attributes_of k) (as_object d)) (missing_in for_creation (attributes_of k) d)) o ≡ Says ask
    → IsAskBody ask
creation_asked k o ask h = form_asked k creation IsNew created (resource_of k) (λ d. bad_among for_creation (attributes_of k) (as_object d)) (λ d. missing_in for_creation (attributes_of k) d) o ask (new_in_form k) h

update_asked : (k : Kind) (name : IdText) (o : Option Data) (ask : Ask)
    → says_with (resource_of k) (λ d. option_map (update name) (form_of k d)) (λ d. or_else (bad_among for_update (attributes_of k) (as_object d)) (missing_in for_update (attributes_of k) d)) o ≡ Says ask
    → IsAskBody ask
update_asked k name o ask h = form_asked k (update name) IsChange (updated name) (resource_of k) (λ d. bad_among for_update (attributes_of k) (as_object d)) (λ d. missing_in for_update (attributes_of k) d) o ask (λ d form good all is. change_in_form k d form good is) h

-- a body that gives what is always in form
plainly_asked : {X : Type 0} (f : X → Ask) → ((x : X) → IsAskBody (f x)) → (name : List ℕ) (says : Data → Option X) (wrong : Data → Option (List ℕ)) (o : Option Data) (ask : Ask)
    → says_with name (λ d. option_map f (says d)) wrong o ≡ Says ask → IsAskBody ask
plainly_asked f keeps name says wrong o ask h =
    let said = said_with name (λ d. option_map f (says d)) wrong o ask h in
    mapped_in_form f (λ x. ⊤) (λ x is. keeps x) (says said.0) (λ x is. tt) ask said.2

settled_by : (wrong : Data → Option (List ℕ)) (o : Option Data) (ask : Ask) → says_with (codes "settle") (λ d. Some (Lab Settle)) wrong o ≡ Says ask → IsAskBody ask
settled_by wrong o ask h = subst if_ask (said_with (codes "settle") (λ d. Some (Lab Settle)) wrong o ask h).2 tt

abbrev object_in : List ℕ → List ℕ → Option Data
object_in name body = option_and_then (framed name) (json_of body)

interface_in_form : (f : InterfaceBy → Ask) → ((by : InterfaceBy) → IsAskBody (f by)) → (read : Read InterfaceBy) (ask : Ask) → mapped f read ≡ Says ask → IsAskBody ask
interface_in_form f keeps (Says by) ask h = subst if_asked h (keeps by)
interface_in_form f keeps (NoFrame m) ask h = absurd cc
interface_in_form f keeps (BadName name) ask h = absurd cc

plain : (call : Call) → is_call call ≡ true → IsTypedCall call → IsAskBody (Api call)
plain call formed typed = record { formed = formed; typed = typed }

rows_in_form : (k : Kind) (method : Method) (query : Query) (body : List ℕ) (ask : Ask) → rows_read k method query body ≡ Says ask → IsAskBody ask
rows_in_form k Get query body ask h = subst if_asked h (plain _ refl tt)
rows_in_form k Post query body ask h = creation_asked k (object_in (resource_of k) body) ask h
rows_in_form k Put query body ask h = creation_asked k (object_in (resource_of k) body) ask h
rows_in_form k Delete query body ask h = creation_asked k (object_in (resource_of k) body) ask h

row_in_form : (k : Kind) (method : Method) (name : IdText) (query : Query) (body : List ℕ) (ask : Ask) → row_read k method name query body ≡ Says ask → IsAskBody ask
row_in_form k Get name query body ask h = subst if_asked h (plain _ refl tt)
row_in_form k Delete name query body ask h = subst if_asked h (plain _ refl tt)
row_in_form k Put name query body ask h = update_asked k name (object_in (resource_of k) body) ask h
row_in_form k Post name query body ask h = update_asked k name (object_in (resource_of k) body) ask h

-- a number in a path is a change's, or after a version a page's
number_in_form : (n : Option ℕ) (ask : Ask) → with_number (codes "number") change_asked n ≡ Says ask → IsAskBody ask
number_in_form None ask h = absurd cc
number_in_form (Some n) ask h = subst if_asked h tt

page_in_form : (version : ℕ) (n : Option ℕ) (ask : Ask) → with_number (codes "page") (page_asked version) n ≡ Says ask → IsAskBody ask
page_in_form version None ask h = absurd cc
page_in_form version (Some n) ask h = subst if_asked h tt

page_at_version : (version n : Option ℕ) (ask : Ask)
    → with_number (codes "version") (λ v. with_number (codes "page") (page_asked v) n) version ≡ Says ask → IsAskBody ask
page_at_version None n ask h = absurd cc
page_at_version (Some v) n ask h = page_in_form v n ask h

path_in_form : (p : RoutePath) (method : Method) (parameters : List (List ℕ)) (query : Query) (body : List ℕ) (ask : Ask)
    → ask_of (record { path = p; method = method; parameters = parameters }) query body ≡ Says ask → IsAskBody ask
path_in_form (path.Rows k) method parameters query body ask h = rows_in_form k method query body ask h
path_in_form (path.Row k) method parameters query body ask h = row_in_form k method (row_named (record { path = path.Row k; method = method; parameters = parameters })) query body ask h
path_in_form path.AddInterface method parameters query body ask h = interface_in_form (adding (row_named (record { path = path.AddInterface; method = method; parameters = parameters }))) (λ by. plain _ refl tt) (interface_read body) ask h
path_in_form path.RemoveInterface method parameters query body ask h = interface_in_form (removing (row_named (record { path = path.RemoveInterface; method = method; parameters = parameters }))) (λ by. plain _ refl tt) (interface_read body) ask h
path_in_form path.Frames method parameters query body ask h = plainly_asked (on_event Frames) (λ x. tt) (codes "event") event_of _ (object_in (codes "event") body) ask h
path_in_form path.Explain method parameters query body ask h = plainly_asked (on_event Explain) (λ x. tt) (codes "event") event_of _ (object_in (codes "event") body) ask h
path_in_form path.Deliver method parameters query body ask h = plainly_asked Lab (λ x. tt) (codes "deliver") deliver_of _ (object_in (codes "deliver") body) ask h
path_in_form path.Resync method parameters query body ask h = plainly_asked (on_host Resync) (λ x. tt) (codes "resync") host_of _ (object_in (codes "resync") body) ask h
path_in_form path.Restart method parameters query body ask h = plainly_asked (on_host Restart) (λ x. tt) (codes "restart") host_of _ (object_in (codes "restart") body) ask h
path_in_form path.Forget method parameters query body ask h = plainly_asked (on_host Forget) (λ x. tt) (codes "forget") host_of _ (object_in (codes "forget") body) ask h
path_in_form path.Settle method parameters query body ask h = settled_by _ (object_in (codes "settle") body) ask h
path_in_form path.Hosts method parameters query body ask h = subst if_asked h tt
path_in_form path.Tables method parameters query body ask h = subst if_asked h tt
path_in_form path.Version method parameters query body ask h = subst if_asked h tt
path_in_form path.Change method parameters query body ask h = number_in_form (path_number (first_text parameters)) ask h
path_in_form path.Page method parameters query body ask h = page_at_version (path_number (first_text parameters)) (path_number (second_text parameters)) ask h

body_in_form : (read : Read Ask) (ask : Ask) → by_body read ≡ Ok ask → read ≡ Says ask
body_in_form (Says asked) ask h = cc
body_in_form (NoFrame m) ask h = absurd cc
body_in_form (BadName name) ask h = absurd cc

query_in_form : (p : RoutePath) (method : Method) (parameters : List (List ℕ)) (body : List ℕ) (read : QueryRead) (ask : Ask)
    → by_query (record { path = p; method = method; parameters = parameters }) body read ≡ Ok ask → IsAskBody ask
query_in_form p method parameters body (Asks asked) ask h = path_in_form p method parameters _ body ask (body_in_form _ ask h)
query_in_form p method parameters body (queries.BadName name) ask h = absurd cc

route_in_form : (query body : List ℕ) (r : Routed) (ask : Ask) → by_route query body r ≡ Ok ask → IsAskBody ask
route_in_form query body Nowhere ask h = absurd cc
route_in_form query body (Without p) ask h = absurd cc
route_in_form query body (To p method parameters) ask h = query_in_form p method parameters body _ ask h

pub asked_in_form : (method text query body : List ℕ) (ask : Ask) → asked_by method text query body ≡ Ok ask → IsAskBody ask
unfolding asked_by
asked_in_form method text query body ask h = route_in_form query body (route_of method text) ask h

-- with a caller whose project has a name
pub caller_named_asks : (caller : Caller) (ask : Ask) → not (is_empty caller.project) ≡ true → IsAskBody ask → IsAskInForm caller ask
caller_named_asks caller (Api call) named body = record { formed = λ j. named j && body.formed j; typed = body.typed }
caller_named_asks caller (Lab call) named body = tt

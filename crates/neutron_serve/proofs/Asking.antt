-- What is read of a request, by its parts.
use Rattle.std.proofs.Common.{◌⊎◌, inl, inr, ◌≡◌, ℕ, List, [], ◌∷◌, Option, Some, None, refl, ap, sym, ◌∙◌, map, option_map, subst, Bool}
use Rattle.std.specs.Prelude.{Result, Ok, Err, IfErr, slice_range}
use Rattle.api_types.specs.Ident.{Ident}
use Rattle.api_types.specs.declared.call.Caller.{Caller}
use Rattle.api_types.specs.declared.call.Filter.{Filter}
use Rattle.api_types.specs.declared.call.IdText.{IdText}
use Rattle.api_types.specs.declared.call.Query.{Query}
use Rattle.api_types.specs.declared.refusal.Refusal.{Refusal}
use Rattle.api_types.specs.declared.refusal.Refusal.TheVariants as refusal
use Rattle.json_values.specs.Texts.{id_in}
use Rattle.json_values.proofs.IdLemmas.{id_read, no_id}
use Rattle.http_heads.specs.Fields.{project_of, is_admin}
use Rattle.http_heads.specs.Heads.{Asked}
use Rattle.http_heads.specs.Parts.{path_of, query_of, IsPartOfOption}
use Rattle.http_heads.specs.declared.head.Part.{Part}
use Rattle.neutron_http.specs.Queries.{QueryRead, Asks, BadName, IsIdOf, IsMarkerOf, IsQueryOf, IsReadQuery, held, query_read}
use Rattle.neutron_http.specs.Queries as queries
use Rattle.neutron_http.specs.Routes.{To, route_of}
use Rattle.neutron_http.specs.declared.route.Route.{Route}
use Rattle.neutron_json.specs.Asks.{ask_of, id_text}
use Rattle.neutron_serve.specs.Reading.{IsUnread}
use Rattle.neutron_serve.specs.Requests.{asked_by, by_body, by_caller, by_query, by_route, caller_of, filter_of, query_asked, request_of, with_caller}
use Rattle.plane_types.specs.declared.ask.Ask.{Ask}

-- a query is what is asked

filters_back : (fs : List Filter) → fs ≡ map filter_of (map held fs)
filters_back [] = refl
filters_back (f ∷ fs) = ap (λ (gs : List Filter). f ∷ gs) (filters_back fs)

id_back : (text : List ℕ) (i : Option Ident) → IsIdOf text i → i ≡ id_in text
id_back text None is = no_id text is
id_back text (Some i) is = id_read text i is

abbrev marked : List ℕ → Option Ident → IdText
marked text i = record { text = text; id = i }

marker_back : (text : Option (List ℕ)) (m : Option IdText) → IsMarkerOf text m → m ≡ option_map id_text text
marker_back None None is = refl
marker_back None (Some m) is = absurd is
marker_back (Some text) None is = absurd is
marker_back (Some text) (Some m) is = ap Some (ap (λ (t : List ℕ). marked t m.id) is.0 ∙ ap (marked text) (id_back text m.id is.1))

abbrev asking : List Filter → Option ℕ → Option IdText → List (List ℕ) → Query
asking filters limit marker fields = record { filters = filters; limit = limit; marker = marker; fields = fields }

query_back : (asked : queries.Asked) (q : Query) → IsQueryOf asked q → q ≡ query_asked asked
query_back asked q is =
    ap (λ (fs : List Filter). asking fs q.limit q.marker q.fields) (filters_back q.filters ∙ ap (map filter_of) is.filters)
    ∙ (ap (λ (l : Option ℕ). asking (map filter_of asked.filters) l q.marker q.fields) is.limit
    ∙ (ap (λ (m : Option IdText). asking (map filter_of asked.filters) asked.limit m q.fields) (marker_back asked.marker q.marker is.marker)
    ∙ ap (asking (map filter_of asked.filters) asked.limit (option_map id_text asked.marker)) is.fields))

pub query_read_back : (route : Route) (b : List ℕ) (r : QueryRead) (q : Query) → IsReadQuery r (Ok q) → by_query route b r ≡ by_body (ask_of route q b)
query_read_back route b (Asks asked) q is = ap (λ (x : Query). by_body (ask_of route x b)) (sym (query_back asked q is))
query_read_back route b (BadName name) q is = absurd is

-- who asks: a caller that isn't named refuses the request

unread_caller : (asked : Asked) (o : Option (List ℕ)) (a : Bool) (e : Refusal) → o ≡ project_of asked.head → a ≡ is_admin asked.head
    → (e ≡ refusal.OutOfMemory) ⊎ ((e ≡ refusal.NoCaller) × (caller_of o a ≡ None)) → IsUnread (request_of asked) e
unfolding request_of
unread_caller asked o a e named admin (inl memory) = record { cause = inl memory; no_store = λ h. cc }
unread_caller asked o a e named admin (inr (is, none)) =
    let nobody : caller_of (project_of asked.head) (is_admin asked.head) ≡ None =
    ap (λ (p : Option (List ℕ)). caller_of p (is_admin asked.head)) (sym named) ∙ (ap (caller_of o) (sym admin) ∙ none) in
    record {
      cause = inr (ap (λ (c : Option Caller). by_caller c (asked_by asked.head.method (path_of asked.head.target) (query_of asked.head.target) asked.body)) nobody ∙ ap Err (sym is));
      no_store = λ h. cc;
    }

pub caller_refused : (asked : Asked) (o : Option (List ℕ)) (a : Bool) (r : Result Caller Refusal) → o ≡ project_of asked.head → a ≡ is_admin asked.head
    → IfErr r (λ e. (e ≡ refusal.OutOfMemory) ⊎ ((e ≡ refusal.NoCaller) × (caller_of o a ≡ None))) → IfErr r (IsUnread (request_of asked))
caller_refused asked o a (Ok caller) named admin h = tt
caller_refused asked o a (Err e) named admin h = unread_caller asked o a e named admin h

pub part_text : (bytes : List ℕ) (part : Part) (o : Option (List ℕ)) → IsPartOfOption bytes (Some part) o → Some (slice_range bytes part.start part.end) ≡ o
part_text bytes part None is = absurd is
part_text bytes part (Some text) is = ap Some is.covers

pub no_part : (bytes : List ℕ) (o : Option (List ℕ)) → IsPartOfOption bytes None o → None ≡ o
no_part bytes None is = refl
no_part bytes (Some text) is = absurd is

-- what is asked, part by part

pub route_unread : (m p q b : List ℕ) (e : Refusal) → IsUnread (by_route q b (route_of m p)) e → IsUnread (asked_by m p q b) e
unfolding asked_by
route_unread m p q b e is = is

pub query_unread : (m p q b : List ℕ) (route : Route) (e : Refusal) → route_of m p ≡ To route.path route.method route.parameters
    → IsUnread (by_query route b (query_read route.path route.method q)) e → IsUnread (asked_by m p q b) e
unfolding asked_by
query_unread m p q b route e found is = subst (λ r. IsUnread r e) (sym (ap (by_route q b) found)) is

pub asked_is : (m p q b : List ℕ) (route : Route) (query : Query) → route_of m p ≡ To route.path route.method route.parameters
    → by_query route b (query_read route.path route.method q) ≡ by_body (ask_of route query b) → by_body (ask_of route query b) ≡ asked_by m p q b
unfolding asked_by
asked_is m p q b route query found read = sym (ap (by_route q b) found ∙ read)

-- the whole request

same_asked : (m n p o q r b d : List ℕ) → m ≡ n → p ≡ o → q ≡ r → b ≡ d → asked_by n o r d ≡ asked_by m p q b
same_asked m n p o q r b d em ep eq eb =
    ap (λ (x : List ℕ). asked_by x o r d) (sym em) ∙ (ap (λ (x : List ℕ). asked_by m x r d) (sym ep)
    ∙ (ap (λ (x : List ℕ). asked_by m p x d) (sym eq) ∙ ap (asked_by m p q) (sym eb)))

-- the texts of a request's parts, as they were read
pub record AreTexts (asked : Asked) (m p q b : List ℕ) : Type 0 where
  pub method : m ≡ asked.head.method
  pub path : p ≡ path_of asked.head.target
  pub query : q ≡ query_of asked.head.target
  pub body : b ≡ asked.body

request_as : (asked : Asked) (m p q b : List ℕ) (caller : Caller) → AreTexts asked m p q b → caller_of (project_of asked.head) (is_admin asked.head) ≡ Some caller
    → request_of asked ≡ with_caller caller (asked_by m p q b)
unfolding request_of
request_as asked m p q b caller texts named =
    ap (λ (c : Option Caller). by_caller c (asked_by asked.head.method (path_of asked.head.target) (query_of asked.head.target) asked.body)) named
    ∙ ap (with_caller caller) (same_asked m _ p _ q _ b _ texts.method texts.path texts.query texts.body)

pub request_read : (asked : Asked) (m p q b : List ℕ) (caller : Caller) (ask : Ask) → AreTexts asked m p q b
    → caller_of (project_of asked.head) (is_admin asked.head) ≡ Some caller → asked_by m p q b ≡ Ok ask → request_of asked ≡ Ok (caller, ask)
request_read asked m p q b caller ask texts named read = request_as asked m p q b caller texts named ∙ ap (with_caller caller) read

by_unread : {T U : Type 0} (f : Result T Refusal → Result U Refusal) (x : Result T Refusal) (y : Result U Refusal) (e : Refusal)
    → y ≡ f x → f (Err e) ≡ Err e → IsUnread x e → IsUnread y e
by_unread f x y e is keeps unread = record { cause = by unread.cause; no_store = unread.no_store }
  where
    by : (e ≡ refusal.OutOfMemory) ⊎ (x ≡ Err e) → (e ≡ refusal.OutOfMemory) ⊎ (y ≡ Err e)
    by (inl memory) = inl memory
    by (inr refused) = inr (is ∙ (ap f refused ∙ keeps))

pub request_unread : (asked : Asked) (m p q b : List ℕ) (caller : Caller) (e : Refusal) → AreTexts asked m p q b
    → caller_of (project_of asked.head) (is_admin asked.head) ≡ Some caller → IsUnread (asked_by m p q b) e → IsUnread (request_of asked) e
request_unread asked m p q b caller e texts named unread =
    by_unread (with_caller caller) (asked_by m p q b) (request_of asked) e (request_as asked m p q b caller texts named) refl unread

-- What a query asks of a list or of one row (OpenStack API reference, Networking API v2.0:
-- filtering, pagination, `fields`).
use Rattle.std.specs.Prelude.{◌≡◌, ℕ, Bool, true, false, ◌&&◌, ◌||◌, not, nat_le, List, [], ◌∷◌, ◌++◌, length, map, filter, if◌then◌else◌, Result, Ok, Err, Option, Some, None, is_some, codes}
use Rattle.std.specs.List.{list_any}
use Rattle.std.specs.Str.{bytes_eq}
use Rattle.std.specs.Str.Lossy.{utf8_lossy}
use Rattle.net_addr.specs.Words.{Bytes, Text}
use Rattle.form_urlencoded.specs.Form as form
use Rattle.api_types.specs.declared.kind.Kind.{Kind}
use Rattle.api_types.specs.declared.call.Filter.{Filter}
use Rattle.api_types.specs.declared.call.IdText.{IdText}
use Rattle.api_types.specs.declared.call.Query.{Query}
use Rattle.api_types.specs.Ident.{Ident, Spells}
use Rattle.http_heads.specs.Numbers.{number_in}
use Rattle.neutron_http.specs.declared.query.BodyRefusal.{BodyRefusal}
use Rattle.neutron_http.specs.declared.query.BodyRefusal.TheVariants.{BadBody, BadAttribute, OutOfMemory}
use Rattle.neutron_http.specs.declared.route.Method.{Method}
use Rattle.neutron_http.specs.declared.route.Method.TheVariants.{Delete, Get, Post, Put}
use Rattle.neutron_http.specs.declared.route.RoutePath.{RoutePath}
use Rattle.neutron_http.specs.declared.route.RoutePath.TheVariants.{Rows, Row, AddInterface, RemoveInterface, Frames, Explain, Deliver, Resync, Restart, Forget, Settle, Hosts, Tables}
use Rattle.neutron_http.specs.Filters.{is_filter}
use Rattle.neutron_http.specs.Replies.{Named}

-- a name or a value as text
abbrev pub text_of : Bytes → Text
text_of bytes = utf8_lossy (form.decode bytes)

-- a raw pair as texts
abbrev pub texts_of : Named → Named
texts_of p = (text_of p.0, text_of p.1)

-- the names and values of a query, in order (WHATWG URL, section 5.1)
abbrev pub pairs_of : Bytes → List Named
pairs_of query = map texts_of (form.raw_pairs query)

-- what a pair of the code holds
abbrev pub held : Filter → Named
held f = (f.name, f.value)

-- the name of a pair is this one
abbrev pub is_named : Text → Named → Bool
is_named name pair = bytes_eq pair.0 name

-- the values under a name
abbrev pub with_name : Text → List Named → List Text
with_name name pairs = map (λ p. p.1) (filter (is_named name) pairs)

-- a name is there
abbrev pub has_name : Text → List Named → Bool
has_name name pairs = list_any (is_named name) pairs

abbrev pub limit_by : Option ℕ → Option ℕ
limit_by None = None
limit_by (Some n) = if nat_le 1 n && nat_le n 10000 then Some n else None

-- the limit that a text of 1 to 5 digits gives: 1 to 10,000
abbrev pub limit_in : Text → Option ℕ
limit_in text = limit_by (number_in 5 text)

-- a pair of a list's query is bad after these: a limit that is none, or a second limit or marker,
-- or a name that isn't known
abbrev pub is_bad : Kind → List Named → Named → Bool
is_bad kind before pair =
    if is_named (codes "limit") pair
    then has_name (codes "limit") before || not (is_some (limit_in pair.1))
    else (
    if is_named (codes "marker") pair then has_name (codes "marker") before else (
    if is_named (codes "fields") pair then false else not (is_filter kind pair.0)))

-- the name of the first bad pair after these
abbrev pub first_bad : Kind → List Named → List Named → Option Text
first_bad kind before [] = None
first_bad kind before (pair ∷ pairs) =
    if is_bad kind before pair then Some pair.0 else first_bad kind (before ++ pair ∷ []) pairs

-- the first of some texts
abbrev pub first_of : List Text → Option Text
first_of [] = None
first_of (text ∷ texts) = Some text

abbrev pub limit_of : Option Text → Option ℕ
limit_of None = None
limit_of (Some text) = limit_in text

-- the pairs that filter rows of a kind
abbrev pub filters_in : Kind → List Named → List Named
filters_in kind pairs = filter (λ p. is_filter kind p.0) pairs

-- what is asked: filters, the most rows, the row after which the list begins, and the members
-- that are kept
pub record Asked : Type 0 where
  pub filters : List Named
  pub limit : Option ℕ
  pub marker : Option Text
  pub fields : List Text

-- what a query without a bad name asks of a list
abbrev pub list_asked : Kind → List Named → Asked
list_asked kind pairs = record {
  filters = filters_in kind pairs;
  limit = limit_of (first_of (with_name (codes "limit") pairs));
  marker = first_of (with_name (codes "marker") pairs);
  fields = with_name (codes "fields") pairs;
}

-- what a query asks of one row: the members that are kept
abbrev pub fields_asked : List Named → Asked
fields_asked pairs =
    record { filters = []; limit = None; marker = None; fields = with_name (codes "fields") pairs }

-- what a query asks that isn't looked at
abbrev pub nothing_asked : Asked
nothing_asked = record { filters = []; limit = None; marker = None; fields = [] }

-- how a query is read: what it asks, or its first bad name
pub data QueryRead : Type 0 where
  Asks : Asked → QueryRead
  BadName : Text → QueryRead

abbrev pub list_read : Kind → List Named → Option Text → QueryRead
list_read kind pairs None = Asks (list_asked kind pairs)
list_read kind pairs (Some name) = BadName name

-- lists look at the whole query, single rows at `fields`, and other paths at nothing
abbrev pub path_read : RoutePath → Bytes → QueryRead
path_read (Rows kind) text = list_read kind (pairs_of text) (first_bad kind [] (pairs_of text))
path_read (Row kind) text = Asks (fields_asked (pairs_of text))
path_read path text = Asks nothing_asked

-- and so do all methods but GET
abbrev pub query_read : RoutePath → Method → Bytes → QueryRead
query_read path Get text = path_read path text
query_read path method text = Asks nothing_asked

-- the id that a text spells, if any
abbrev pub IsIdOf : Text → Option Ident → Type 0
IsIdOf text None = (i : Ident) → Spells text i → ⊥
IsIdOf text (Some i) = Spells text i

-- a text with its id
abbrev pub IsMarkerOf : Option Text → Option IdText → Type 0
IsMarkerOf None None = Unit {0}
IsMarkerOf None (Some m) = ⊥
IsMarkerOf (Some text) None = ⊥
IsMarkerOf (Some text) (Some m) = (m.text ≡ text) × IsIdOf text m.id

-- the query is what is asked
pub record IsQueryOf (asked : Asked) (query : Query) : Type 0 where
  pub filters : map held query.filters ≡ asked.filters
  pub limit : query.limit ≡ asked.limit
  pub marker : IsMarkerOf asked.marker query.marker
  pub fields : query.fields ≡ asked.fields

-- the answer is that query, or the refusal of the bad name; out of memory says nothing
abbrev pub IsReadQuery : QueryRead → Result Query BodyRefusal → Type 0
IsReadQuery (Asks asked) (Ok query) = IsQueryOf asked query
IsReadQuery (Asks asked) (Err (BadBody member)) = ⊥
IsReadQuery (Asks asked) (Err (BadAttribute name)) = ⊥
IsReadQuery (Asks asked) (Err OutOfMemory) = Unit {0}
IsReadQuery (BadName bad) (Ok query) = ⊥
IsReadQuery (BadName bad) (Err (BadBody member)) = ⊥
IsReadQuery (BadName bad) (Err (BadAttribute name)) = name ≡ bad
IsReadQuery (BadName bad) (Err OutOfMemory) = Unit {0}

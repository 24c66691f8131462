-- What a JSON value says (RFC 8259). None is said by a value of another form.
use Rattle.std.specs.Prelude.{ℕ, ◌&&◌, Bool, true, false, nat_le, List, [], ◌∷◌, length, if◌then◌else◌, Option, Some, None, option_map, option_and_then}
use Rattle.std.specs.List.{list_all, list_any}
use Rattle.std.specs.Str.{bytes_eq}
use Rattle.net_addr.specs.Words.{Text}
use Rattle.serde_json.specs.Data.{Data, Items, no_items, item, Members, no_members, member}
use Rattle.serde_json.specs.Find.{as_number, as_str, as_u64, as_array, as_object, get}

-- a value that passes a test
abbrev pub kept : {T : Type 0} → (T → Bool) → Option T → Option T
kept test None = None
kept test (Some x) = if test x then Some x else None

-- a function applied, where it and the value are there
abbrev pub applied : {A B : Type 0} → Option (A → B) → Option A → Option B
applied None a = None
applied (Some f) None = None
applied (Some f) (Some a) = Some (f a)

-- a whole number from one to another, written without fraction and exponent
abbrev pub whole_of : ℕ → ℕ → Data → Option ℕ
whole_of low high d =
    kept (λ n. nat_le low n && nat_le n high) (option_and_then as_u64 (as_number d))

-- what a text says
abbrev pub said_by : {T : Type 0} → (Text → Option T) → Data → Option T
said_by says d = option_and_then says (as_str d)

-- one of some words
abbrev pub word_in : {T : Type 0} → List (Text × T) → Text → Option T
word_in [] text = None
word_in (word ∷ words) text = if bytes_eq text word.0 then Some word.1 else word_in words text

abbrev pub word_of : {T : Type 0} → List (Text × T) → Data → Option T
word_of words d = said_by (word_in words) d

-- the values of an array
abbrev pub values_of : Items → List Data
values_of no_items = []
values_of (item d ds) = d ∷ values_of ds

abbrev pub more : {T : Type 0} → Option T → Option (List T) → Option (List T)
more None xs = None
more (Some x) None = None
more (Some x) (Some xs) = Some (x ∷ xs)

-- what each value says, where each says something
abbrev pub all_said : {T : Type 0} → (Data → Option T) → List Data → Option (List T)
all_said says [] = Some []
all_said says (d ∷ ds) = more (says d) (all_said says ds)

-- an array of at most this many items
abbrev pub list_of : {T : Type 0} → ℕ → (Data → Option T) → Data → Option (List T)
list_of most says d =
    kept (λ xs. nat_le (length xs) most)
    (option_and_then (all_said says) (option_map values_of (as_array d)))

-- whether this holds of each two items
abbrev pub pairwise : {T : Type 0} → (T → T → Bool) → List T → Bool
pairwise holds [] = true
pairwise holds (x ∷ xs) = list_all (holds x) xs && pairwise holds xs

-- whether a name is one of some
abbrev pub is_among : List Text → Text → Bool
is_among names name = list_any (bytes_eq name) names

-- whether each member has one of these names
abbrev pub has_only : List Text → Members → Bool
has_only names no_members = true
has_only names (member name d ms) = is_among names name && has_only names ms

abbrev pub is_only : List Text → Option Members → Bool
is_only names None = false
is_only names (Some ms) = has_only names ms

-- an object without other members than those of these names
abbrev pub object_of : {T : Type 0} → List Text → (Data → Option T) → Data → Option T
object_of names says d = if is_only names (as_object d) then says d else None

-- what a member says, which must be there
abbrev pub member_of : {T : Type 0} → (Data → Option T) → Text → Data → Option T
member_of says name d = option_and_then says (get name d)

abbrev pub maybe_said : {T : Type 0} → (Data → Option T) → Option Data → Option (Option T)
maybe_said says None = Some None
maybe_said says (Some d) = option_map Some (says d)

-- what a member says, or that it isn't there
abbrev pub maybe_of : {T : Type 0} → (Data → Option T) → Text → Data → Option (Option T)
maybe_of says name d = maybe_said says (get name d)

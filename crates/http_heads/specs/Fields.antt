-- What the fields of a head say of the request (RFC 9110, sections 7.6.1 and 8.6; RFC 9112,
-- section 6).
use Rattle.std.specs.Prelude.{ℕ, Bool, false, ◌||◌, ◌==◌, nat_lt, List, [], ◌∷◌, length, map, filter, Option, Some, None, codes, if◌then◌else◌}
use Rattle.std.specs.List.{list_any}
use Rattle.std.specs.Str.{bytes_eq}
use Rattle.http_heads.specs.Texts.{Text}
use Rattle.httparse.specs.Grammar.{RequestHead}
use Rattle.httparse.specs.Spans.{name_and_value}
use Rattle.http_heads.specs.declared.values.BodyLength.{BodyLength}
use Rattle.http_heads.specs.declared.values.BodyLength.TheVariants.{Missing, Given, Bad}
use Rattle.http_heads.specs.Numbers.{number_in}
use Rattle.http_heads.specs.Words.{same_word, has_word, is_space, is_space_or_tab}

-- a field: its name, and its value without white space at its ends
abbrev pub Named : Type 0
Named = Text × Text

-- the fields of a head
abbrev pub fields_of : RequestHead → List Named
fields_of head = map name_and_value head.fields

-- the values of the fields of that name, in any case
abbrev pub values : Text → List Named → List Text
values name fields = map (λ f. f.1) (filter (λ f. same_word f.0 name) fields)

abbrev pub length_by : Option ℕ → BodyLength
length_by (Some n) = Given n
length_by None = Bad

-- what some values of `Content-Length` say of the body's length: one of 1 to 10 digits
abbrev pub length_in : List Text → BodyLength
length_in [] = Missing
length_in (text ∷ []) = length_by (number_in 10 text)
length_in (text ∷ (other ∷ texts)) = Bad

-- the same of the fields
abbrev pub told_length : List Named → BodyLength
told_length fields = length_in (values (codes "content-length") fields)

-- a field of this name is there
abbrev pub has_field : Text → List Named → Bool
has_field name fields = nat_lt 0 (length (values name fields))

-- requests of these methods have a length
abbrev pub needs_length : Text → Bool
needs_length method = bytes_eq method (codes "POST") || bytes_eq method (codes "PUT")

-- a length is missing, or a transfer coding is there
abbrev pub refusal_by_form : Bool → Bool → Option ℕ
refusal_by_form needed coded = if needed || coded then Some 4 else None

-- the refusal of a head with at most 64 fields: the body is too large, or its form is none that is
-- read
abbrev pub refusal_by_length : Bool → Bool → BodyLength → Option ℕ
refusal_by_length needed coded Bad = Some 1
refusal_by_length needed coded Missing = refusal_by_form needed coded
refusal_by_length needed coded (Given n) =
    if nat_lt 65536 n then Some 3 else refusal_by_form false coded

-- a length out of form comes before too many fields, and these before all else
abbrev pub refusal_of : Bool → Bool → Bool → BodyLength → Option ℕ
refusal_of many needed coded Bad = Some 1
refusal_of many needed coded told = if many then Some 2 else refusal_by_length needed coded told

-- the refusal of a whole head, if any: 1 malformed, 2 too many fields, 3 body too large, 4 no
-- length or a transfer coding
unfoldable pub own_refusal : RequestHead → Option ℕ
own_refusal head =
    refusal_of (nat_lt 64 (length head.fields)) (needs_length head.method)
    (has_field (codes "transfer-encoding") (fields_of head)) (told_length (fields_of head))

abbrev pub length_told : BodyLength → ℕ
length_told Missing = 0
length_told (Given n) = n
length_told Bad = 0

-- the length of the body
unfoldable pub body_length : RequestHead → ℕ
body_length head = length_told (told_length (fields_of head))

-- the connection ends after the reply: version 1.0, or the option `close`
unfoldable pub closes : RequestHead → Bool
closes head =
    head.minor == 0
    || list_any (has_word is_space_or_tab (codes "close"))
    (values (codes "connection") (fields_of head))

-- the one value, where there is exactly one
abbrev pub only : List Text → Option Text
only [] = None
only (text ∷ []) = Some text
only (text ∷ (other ∷ texts)) = None

-- the project that the request names, where one field does
unfoldable pub project_of : RequestHead → Option Text
project_of head = only (values (codes "x-project-id") (fields_of head))

-- the roles have `admin`
unfoldable pub is_admin : RequestHead → Bool
is_admin head =
    list_any (has_word is_space (codes "admin")) (values (codes "x-roles") (fields_of head))

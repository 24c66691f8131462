-- A reply as bytes (RFC 9112, sections 2 to 6).
use Rattle.std.specs.Prelude.{◌≡◌, ℕ, List, [], ◌∷◌, ◌++◌, length, codes, decimal, Bool, if◌then◌else◌, Option, Some, None, unwrap_or, ◌==◌, map, IsTrue}
use Rattle.std.specs.List.{list_any}
use Rattle.net_addr.specs.Words.{Bytes, Text}
use Rattle.http.specs.StatusCode.{reason_phrase}
use Rattle.httparse.specs.Grammar.{ResponseHead, ReadsResponse, AllPass, status_code, is_value_byte, trim_ows}
use Rattle.httparse.specs.Grammar as grammar
use Rattle.httparse.specs.Spans.{name_and_value}

-- the end of a line
abbrev pub line_end : Bytes
line_end = 13 ∷ 10 ∷ []

-- a name and a value
abbrev pub Named : Type 0
Named = Text × Text

-- the line of a field
abbrev pub field_line : Named → Bytes
field_line f = f.0 ++ codes ": " ++ f.1 ++ line_end

-- the lines of some fields
abbrev pub field_lines : List Named → Bytes
field_lines [] = []
field_lines (f ∷ fs) = field_line f ++ field_lines fs

-- a 204 has no body
abbrev pub body_of : ℕ → Bytes → Bytes
body_of code body = if code == 204 then [] else body

-- the type and the length of a body, which a 204 hasn't
abbrev pub body_fields : ℕ → ℕ → List Named
body_fields code n =
    if code == 204 then []
    else (codes "Content-Type", codes "application/json") ∷ (codes "Content-Length", decimal n)
    ∷ []

-- the methods that the path has, for a 405 alone
abbrev pub allow_fields : ℕ → Option Text → List Named
allow_fields code None = []
allow_fields code (Some methods) = if code == 405 then (codes "Allow", methods) ∷ [] else []

-- how to name a caller, for a 401 alone
abbrev pub caller_fields : ℕ → List Named
caller_fields code = if code == 401 then (codes "WWW-Authenticate", codes "Keystone") ∷ [] else []

-- that the connection ends after the reply
abbrev pub close_fields : Bool → List Named
close_fields close = if close then (codes "Connection", codes "close") ∷ [] else []

-- the fields of a reply, in their order
abbrev pub fields_of : ℕ → Bool → Option Text → Bytes → List Named
fields_of code close allow body =
    body_fields code (length body) ++ allow_fields code allow ++ caller_fields code
    ++ close_fields close

-- the phrase of a code
abbrev pub phrase_of : ℕ → Text
phrase_of code = unwrap_or (reason_phrase code) []

-- the bytes of a reply
abbrev pub reply_bytes : ℕ → Bool → Option Text → Bytes → Bytes
reply_bytes code close allow body =
    codes "HTTP/1.1 " ++ decimal code ++ codes " " ++ phrase_of code ++ line_end
    ++ field_lines (fields_of code close allow body) ++ line_end ++ body_of code body

-- the body of a reply for which no memory could be had
abbrev pub no_memory_body : Bytes
no_memory_body =
    codes
    "{\"NeutronError\":{\"detail\":\"\",\"message\":\"Memory could not be had.\",\"type\":\"OutOfMemory\"}}"

-- the codes of the API's replies: the phrases that clients read stand in RFC 9110, section 15, and
-- RFC 6585
abbrev pub reply_codes : List ℕ
reply_codes =
    200 ∷ 201 ∷ 204 ∷ 400 ∷ 401 ∷ 403 ∷ 404 ∷ 405 ∷ 409 ∷ 411 ∷ 413 ∷ 431 ∷ 503 ∷ 507 ∷ []

-- one of them
abbrev pub IsReplyCode : ℕ → Type 0
IsReplyCode code = IsTrue (list_any (λ c. c == code) reply_codes)

-- a field's value as a reader gives it back: no control byte, and no white space at its ends
pub record IsFieldValue (value : Text) : Type 0 where
  pub bytes : AllPass is_value_byte value
  pub trimmed : trim_ows value ≡ value

-- a reader of responses finds one whole head of version 1.1 with this code, phrase and fields, and
-- this body after it
pub record IsWholeReply (bytes : Bytes) (code : ℕ) (fields : List Named) (body : Bytes)
    : Type 0 where
  pub head : ResponseHead
  pub reads : ReadsResponse bytes head body
  pub minor : head.minor ≡ 1
  pub code_is : status_code head ≡ code
  pub phrase : grammar.reason_phrase head.reason ≡ phrase_of code
  pub fields_are : map name_and_value head.fields ≡ fields

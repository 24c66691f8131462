-- What the bytes of a reply are read as, on the way to what they say.
use Rattle.std.specs.Prelude.{◌≡◌, ◌≤◌, ◌==◌, ℕ, Bool, not, List, length, map, Option, None, Some, option_and_then, option_map}
use Rattle.std.specs.List.{find}
use Rattle.std.specs.Str.{bytes_eq}
use Rattle.httparse.specs.Grammar.{ReadsResponse, ResponseHead, status_code}
use Rattle.httparse.specs.Spans.{name_and_value}
use Rattle.net_addr.specs.Words.{Bytes, Text}
use Rattle.neutron_http.specs.Replies.{Named, reply_bytes}
use Rattle.wire_types.specs.Replies.{body_limit}
use Rattle.wire_types.specs.declared.reply.WireReply.{WireReply}
use Rattle.wire_replies.specs.ReplyTexts.{IsAllow, Says, method_lists}

abbrev pub is_named : Text → Named → Bool
is_named name field = bytes_eq field.0 name

-- the value of the first field with this name
abbrev pub field_named : Text → List Named → Option Bytes
field_named name fields = option_map (λ f. f.1) (find (is_named name) fields)

abbrev pub is_text : Text → Text → Bool
is_text text other = bytes_eq other text

-- the list of methods that a field's value is, if it is one
abbrev pub methods_in : Option Bytes → Option Text
methods_in value = option_and_then (λ v. find (is_text v) method_lists) value

-- a 405 alone says which methods there are
abbrev pub is_allowed : ℕ → Option Text → Bool
is_allowed code None = not (code == 405)
is_allowed code (Some methods) = code == 405

-- a head with this status and these fields, and this body after it
abbrev pub IsReadAs : Bytes → ℕ → List Named → Bytes → Type 0
IsReadAs bytes code fields body =
    (h : ResponseHead) × ReadsResponse bytes h body × (code ≡ status_code h)
    × (fields ≡ map name_and_value h.fields)

-- a server writes these bytes with this status and body
abbrev pub IsWrittenBy : Bytes → ℕ → Bytes → Type 0
IsWrittenBy bytes code body =
    (close : Bool) × (allow : Option Text) × IsAllow code allow
    × (bytes ≡ reply_bytes code close allow body)

-- a server writes these bytes with this status and body, which say this
abbrev pub IsReplyWith : Bytes → ℕ → Bytes → WireReply → Type 0
IsReplyWith bytes code body r =
    (length body ≤ body_limit) × IsWrittenBy bytes code body × Says code body r

-- A server's replies as bytes: what it writes, and nothing else (RFC 9112; RFC 8259).
use Rattle.std.specs.Prelude.{◌≡◌, ◌⊎◌, ◌<◌, ◌≤◌, ◌^◌, ℕ, Bool, List, [], ◌∷◌, codes, length, Option, Some, None, IsTrue, IsUtf8}
use Rattle.std.specs.List.{list_any}
use Rattle.std.specs.Str.{bytes_eq}
use Rattle.net_addr.specs.Words.{Bytes, Text, Version}
use Rattle.api_types.specs.Lists.{Each}
use Rattle.api_types.specs.Printed.{Tree, word}
use Rattle.api_types.specs.declared.change.Item.{Item}
use Rattle.api_types.specs.declared.page.PageRow.{PageRow}
use Rattle.json_trees.specs.Printed.{fields, only}
use Rattle.neutron_http.specs.Replies.{reply_bytes}
use Rattle.wire_types.specs.Replies.{body_limit}
use Rattle.wire_types.specs.declared.reply.WireReply.{WireReply}
use Rattle.wire_types.specs.declared.reply.WireReply.TheVariants as reply
use Rattle.wire_text.specs.Reading.{HasText}
use Rattle.wire_text.specs.Texts.{IsItem, IsPageRow}
use Rattle.wire_text.specs.Told.{numbered_change_tree, page_tree, version_tree}
use Rattle.wire_replies.specs.Faults.{fault_reply, is_fault}

abbrev pub change_body_tree : Version → List Item → Tree
change_body_tree n items = only (codes "change") (numbered_change_tree n items)

abbrev pub page_body_tree : Version → ℕ → Bool → List PageRow → Tree
page_body_tree version n last rows = only (codes "page") (page_tree version n last rows)

-- its values are such that their types hold them
abbrev pub IsWritable : WireReply → Type 0
IsWritable (reply.Version first last) = (first < 2 ^ 64) × (last < 2 ^ 64)
IsWritable (reply.Change n items) = (n < 2 ^ 64) × Each IsItem items
IsWritable (reply.Page version n last rows) =
    (version < 2 ^ 64) × (n < 2 ^ 64) × Each IsPageRow rows
IsWritable reply.NoMessage = ⊥
IsWritable reply.VersionMoved = ⊥
IsWritable reply.NoPage = ⊥
IsWritable reply.Refused = ⊥

abbrev pub fault_tree : Text → Text → Text → Tree
fault_tree detail message type =
    only (codes "NeutronError") (fields (
    (codes "detail", word detail) ∷ (codes "message", word message) ∷ (codes "type", word type)
    ∷ []))

-- the methods that a 405 may list
abbrev pub method_lists : List Text
method_lists =
    codes "DELETE" ∷ codes "GET" ∷ codes "POST" ∷ codes "PUT" ∷ codes "DELETE, GET"
    ∷ codes "DELETE, POST" ∷ codes "DELETE, PUT" ∷ codes "GET, POST" ∷ codes "GET, PUT"
    ∷ codes "POST, PUT" ∷ codes "DELETE, GET, POST" ∷ codes "DELETE, GET, PUT"
    ∷ codes "DELETE, POST, PUT" ∷ codes "GET, POST, PUT" ∷ codes "DELETE, GET, POST, PUT" ∷ []

-- a 405 says which methods there are, and no other status does
abbrev pub IsAllow : ℕ → Option Text → Type 0
IsAllow code None = code ≡ 405 → ⊥
IsAllow code (Some methods) =
    (code ≡ 405) × IsTrue (list_any (λ m. bytes_eq m methods) method_lists)

-- the body is the text of an answer
abbrev pub HasAnswer : Bytes → WireReply → Type 0
HasAnswer body (reply.Version first last) =
    HasText (only (codes "version") (version_tree first last)) body
HasAnswer body (reply.Change n items) = HasText (change_body_tree n items) body
HasAnswer body (reply.Page version n last rows) =
    HasText (page_body_tree version n last rows) body
HasAnswer body reply.NoMessage = ⊥
HasAnswer body reply.VersionMoved = ⊥
HasAnswer body reply.NoPage = ⊥
HasAnswer body reply.Refused = ⊥

-- one of the three answers, in UTF-8
pub record IsAnswerText (body : Bytes) (r : WireReply) : Type 0 where
  pub values : IsWritable r
  pub utf8 : IsUtf8 body
  pub text : HasAnswer body r

-- a refusal with any texts
pub record IsRefused (code : ℕ) (body : Bytes) (r : WireReply) : Type 0 where
  pub type : Text
  pub detail : Text
  pub message : Text
  pub listed : IsTrue (is_fault code type)
  pub words : IsUtf8 detail × IsUtf8 message × IsUtf8 type
  pub utf8 : IsUtf8 body
  pub text : HasText (fault_tree detail message type) body
  pub is : r ≡ fault_reply type

-- a reply of this status with this body says this
abbrev pub Says : ℕ → Bytes → WireReply → Type 0
Says code body r = ((code ≡ 200) × IsAnswerText body r) ⊎ IsRefused code body r

-- the bytes are one whole reply of a server, which says this
pub record IsReplyText (bytes : Bytes) (r : WireReply) : Type 0 where
  pub code : ℕ
  pub close : Bool
  pub allow : Option Text
  pub body : Bytes
  pub most : length body ≤ body_limit
  pub allowed : IsAllow code allow
  pub is : bytes ≡ reply_bytes code close allow body
  pub says : Says code body r

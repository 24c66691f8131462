-- The first whole reply of what is read of a link (RFC 9112, section 6.3).
use Rattle.std.specs.Prelude.{◌≡◌, ◌⊎◌, ℕ, ◌+◌, ◌-◌, ◌≤◌, nat_le, List, [], ◌∷◌, ◌++◌, length, map, take, Option, None, Some, if◌then◌else◌}
use Rattle.std.specs.Io.KnownBytes.{Consumes, IsAtEnd}
use Rattle.httparse.specs.Grammar.{ReadsResponse, ResponseHead}
use Rattle.httparse.specs.Spans.{name_and_value}
use Rattle.net_addr.specs.Words.{Bytes}
use Rattle.http_heads.specs.Fields.{Named, length_in, length_told, told_length}
use Rattle.wire_types.specs.Replies.{body_limit}

-- a head has at most so many bytes and fields
abbrev pub head_limit : ℕ
head_limit = 16384

abbrev pub field_limit : ℕ
field_limit = 64

-- the most bytes that are read of a link
abbrev pub read_limit : ℕ
read_limit = head_limit + body_limit

-- 0 in place of a length above what a body may have
abbrev pub within_limit : ℕ → ℕ
within_limit n = if nat_le n body_limit then n else 0

-- the length that the one field `Content-Length` gives; 0 if there is none, more than one, one that
-- can't be read, or one above what a body may have
abbrev pub body_length : List Named → ℕ
body_length fields = within_limit (length_told (told_length fields))

-- the length that one value gives, in the same way
abbrev pub value_length : Bytes → ℕ
value_length text = within_limit (length_told (length_in (text ∷ [])))

-- among the first bytes is a head of at most 64 fields, and the reply that begins with it is so long
pub record IsReplyLength (read : Bytes) (end : ℕ) : Type 0 where
  pub head : ResponseHead
  pub rest : Bytes
  pub reads : ReadsResponse (take head_limit read) head rest
  pub few : length head.fields ≤ field_limit
  pub is : end
      ≡ (length (take head_limit read) - length rest)
      + body_length (map name_and_value head.fields)

-- this is how long the first reply is, or its head hasn't come
abbrev pub IsLengthOf : Bytes → Option ℕ → Type 0
IsLengthOf read None = (n : ℕ) → IsReplyLength read n → ⊥
IsLengthOf read (Some n) = IsReplyLength read n

-- the first whole reply of what was read: a head, and as many bytes as that says
pub record IsFirstWhole (reply read : Bytes) : Type 0 where
  pub end : ℕ
  pub ends : IsReplyLength read end
  pub within : end ≤ length read
  pub is : reply ≡ take end read

-- this is the first whole reply of what was read
pub record HasWhole (reply : Bytes) (old new : Option Bytes) : Type 0 where
  pub read : Bytes
  pub taken : Consumes old new read
  pub whole : IsFirstWhole reply read

-- no whole reply was read up to the end, or among the most bytes that are read
pub record HasNoWhole (old new : Option Bytes) : Type 0 where
  pub read : Bytes
  pub taken : Consumes old new read
  pub over : IsAtEnd new ⊎ (length read ≡ read_limit)
  pub none : (reply : Bytes) → IsFirstWhole reply read → ⊥

-- so many bytes were read to the front of a buffer; none come only at the end
pub record IsRead (room count : ℕ) (buf : Bytes) (old new : Option Bytes) : Type 0 where
  pub few : count ≤ room
  pub within : count ≤ length buf
  pub taken : Consumes old new (take count buf)
  pub end : count ≡ 0 → IsAtEnd new

-- a piece of so many bytes was read after those before; no bytes come only at the end
pub record ReadsPiece (count : ℕ) (before more : Bytes) (old new : Option Bytes) : Type 0 where
  pub piece : Bytes
  pub count_is : length piece ≡ count
  pub is : more ≡ before ++ piece
  pub taken : Consumes old new piece
  pub end : count ≡ 0 → IsAtEnd new

-- Where the parts of a head stand in the bytes.
use Rattle.std.specs.Prelude.{◌≡◌, ℕ, ◌≤◌, Bool, ◌==◌, length, slice_range, Option, Some, None}
use Rattle.std.specs.List.{before_first, after_first}
use Rattle.http_heads.specs.Texts.{Bytes}
use Rattle.httparse.specs.Grammar.{RequestHead}
use Rattle.http_heads.specs.declared.head.Part.{Part}
use Rattle.http_heads.specs.declared.head.HeadParts.{HeadParts}
use Rattle.http_heads.specs.Fields.{project_of, is_admin}

abbrev pub is_question_mark : ℕ → Bool
is_question_mark b = b == 63

-- the path of a target: what is before the first question mark
abbrev pub path_of : Bytes → Bytes
path_of target = before_first is_question_mark target

-- the query of a target: what is after the first question mark
abbrev pub query_of : Bytes → Bytes
query_of target = after_first is_question_mark target

-- the part lies in the bytes, and covers this text
pub record IsPartOf (bytes : Bytes) (part : Part) (text : Bytes) : Type 0 where
  pub ordered : part.start ≤ part.end
  pub within : part.end ≤ length bytes
  pub covers : slice_range bytes part.start part.end ≡ text

-- the same of a part and a text that may be absent
abbrev pub IsPartOfOption : Bytes → Option Part → Option Bytes → Type 0
IsPartOfOption bytes None None = Unit {0}
IsPartOfOption bytes None (Some text) = ⊥
IsPartOfOption bytes (Some part) None = ⊥
IsPartOfOption bytes (Some part) (Some text) = IsPartOf bytes part text

-- the parts are those of the head
pub record ArePartsOf (bytes : Bytes) (head : RequestHead) (parts : HeadParts) : Type 0 where
  pub method : IsPartOf bytes parts.method head.method
  pub path : IsPartOf bytes parts.path (path_of head.target)
  pub query : IsPartOf bytes parts.query (query_of head.target)
  pub project : IsPartOfOption bytes parts.project (project_of head)
  pub admin : parts.admin ≡ is_admin head

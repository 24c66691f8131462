-- The request that bytes begin with.
use Rattle.std.specs.Prelude.{◌≡◌, ℕ, ◌+◌, ◌<◌, ◌≤◌, ◌⊎◌, [], ◌++◌, length, take, slice_index_or, Option, Some, None}
use Rattle.http_heads.specs.Texts.{Bytes}
use Rattle.httparse.specs.Grammar.{RequestHead, print_request, ReadsRequest}
use Rattle.http_heads.specs.Lines.{line_feeds, behind_blank}
use Rattle.http_heads.specs.Fields.{own_refusal, body_length}

-- the bytes are no whole head
abbrev pub IsNoHead : Bytes → Type 0
IsNoHead bytes = (head : RequestHead) → ReadsRequest bytes head [] → ⊥

-- no line feed has come after the empty lines that may come first
abbrev pub IsInFirstLine : Bytes → Type 0
IsInFirstLine bytes = line_feeds (behind_blank bytes) ≡ 0

-- a head with any number of fields begins with the bytes, or the first line is not whole
abbrev pub CanFollow : Bytes → Type 0
CanFollow bytes =
    ((more : Bytes) × (head : RequestHead) × ReadsRequest (bytes ++ more) head [])
    ⊎ IsInFirstLine bytes

-- the bytes have the most bytes of a head, or more than 64 whole field lines after the first line
abbrev pub IsLarge : Bytes → Type 0
IsLarge bytes = (16384 ≤ length bytes) ⊎ (65 < line_feeds (behind_blank bytes))

-- what a prefix says
pub data Judgement : Type 0 where
  Passes : RequestHead → Judgement
  Refuses : ℕ → Judgement

-- what a whole head says
abbrev pub judgement_of : RequestHead → Option ℕ → Judgement
judgement_of head None = Passes head
judgement_of head (Some n) = Refuses n

-- what a judged prefix says, and it says nothing where none of these holds
pub data Judges : Bytes → Judgement → Type 0 where
  whole : {bytes : Bytes} {head : RequestHead} → ReadsRequest bytes head []
      → Judges bytes (judgement_of head (own_refusal head))
  wrong : {bytes : Bytes} → IsNoHead bytes → (CanFollow bytes → ⊥) → Judges bytes (Refuses 1)
  large : {bytes : Bytes} → IsNoHead bytes → CanFollow bytes → IsLarge bytes
      → Judges bytes (Refuses 2)

-- it says nothing
pub record IsOpen (bytes : Bytes) : Type 0 where
  pub no_head : IsNoHead bytes
  pub follow : CanFollow bytes
  pub small : IsLarge bytes → ⊥

-- the prefix of n bytes is judged: it ends with a line feed, or has as many bytes as a head may
-- have
pub record IsJudged (input : Bytes) (n : ℕ) : Type 0 where
  pub fits : n ≤ length input
  pub short : n ≤ 16384
  pub ends : (n ≡ 16384) ⊎ ((k : ℕ) × (n ≡ k + 1) × (slice_index_or input k 0 ≡ 10))

-- the first judged prefix that says something says this
pub record Decides (input : Bytes) (judgement : Judgement) : Type 0 where
  pub at : ℕ
  pub judged : IsJudged input at
  pub says : Judges (take at input) judgement
  pub first : (k : ℕ) → k < at → IsJudged input k → IsOpen (take k input)

-- no judged prefix says anything
abbrev pub IsUndecided : Bytes → Type 0
IsUndecided input = (k : ℕ) → IsJudged input k → IsOpen (take k input)

-- one request
pub record Asked : Type 0 where
  pub head : RequestHead
  pub body : Bytes

-- the bytes begin with this request, and the rest follows it
pub record Takes (bytes : Bytes) (asked : Asked) (rest : Bytes) : Type 0 where
  pub decides : Decides bytes (Passes asked.head)
  pub body : length asked.body ≡ body_length asked.head
  pub parts : bytes ≡ print_request asked.head ++ (asked.body ++ rest)

-- neither a whole request nor a refusal has come
abbrev pub IsWaiting : Bytes → Type 0
IsWaiting bytes = IsUndecided bytes
    ⊎ ((head : RequestHead) × Decides bytes (Passes head)
    × (length bytes < length (print_request head) + body_length head))

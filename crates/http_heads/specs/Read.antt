-- What the reading of a head answers.
use Rattle.std.specs.Prelude.{◌≡◌, ℕ, ◌≤◌, ◌⊎◌, Bool, true, false, List, [], ◌∷◌, ◌++◌, length, take, Option, Some, None}
use Rattle.http_heads.specs.Texts.{Bytes}
use Rattle.httparse.specs.Grammar.{RequestHead, print_request, ReadsRequest}
use Rattle.httparse.specs.Spans.{IsRequestAt, IsRequestWithin}
use Rattle.httparse.specs.declared.spans.HeaderSpan.{HeaderSpan}
use Rattle.http_heads.specs.Fields.{body_length, closes}
use Rattle.http_heads.specs.Heads.{Judgement, Passes, Refuses, IsNoHead, CanFollow, IsLarge, IsOpen, Decides, IsJudged, IsUndecided}
use Rattle.http_heads.specs.Lines.{line_feeds, behind_blank}
use Rattle.http_heads.specs.Parts.{ArePartsOf}
use Rattle.http_heads.specs.declared.head.HeadParts.{HeadParts}
use Rattle.http_heads.specs.declared.head.HeadRead.{HeadRead}
use Rattle.http_heads.specs.declared.head.HeadRead.TheVariants.{More, Head, Refused}
use Rattle.http_heads.specs.declared.judging.Judged.{Judged}
use Rattle.http_heads.specs.declared.judging.Judged.TheVariants.{Open, Wrong, Large, Whole}

-- what is told of a head that passes
pub record IsToldOf (bytes : Bytes) (head : RequestHead) (body_size body_start : ℕ) (close : Bool)
    (parts : HeadParts) : Type 0 where
  pub size : body_size ≡ body_length head
  pub start : body_start ≡ length (print_request head)
  pub closes_is : close ≡ closes head
  pub parts_are : ArePartsOf bytes head parts

-- what is answered of the first judged prefix that says something: this head with its parts, or
-- this refusal
abbrev pub IsReadAs : Bytes → Judgement → HeadRead → Type 0
IsReadAs bytes (Passes head) More = ⊥
IsReadAs bytes (Passes head) (Head size start close parts) =
    IsToldOf bytes head size start close parts
IsReadAs bytes (Passes head) (Refused n) = ⊥
IsReadAs bytes (Refuses m) More = ⊥
IsReadAs bytes (Refuses m) (Head size start close parts) = ⊥
IsReadAs bytes (Refuses m) (Refused n) = n ≡ m

-- where nothing is decided, more is awaited, and an input that has ended is malformed
abbrev pub undecided_read : Bool → HeadRead
undecided_read true = Refused 1
undecided_read false = More

-- what the bytes decide is answered, or nothing is decided and that is
abbrev pub IsHeadRead : Bytes → Bool → HeadRead → Type 0
IsHeadRead bytes ended result =
    ((judgement : Judgement) × Decides bytes judgement × IsReadAs bytes judgement result)
    ⊎ (IsUndecided bytes × (result ≡ undecided_read ended))

-- a refusal is one of four
abbrev pub IsNumbered : HeadRead → Type 0
IsNumbered More = Unit {0}
IsNumbered (Head size start close parts) = Unit {0}
IsNumbered (Refused n) = (1 ≤ n) × (n ≤ 4)

-- what a whole head says of itself is answered
abbrev pub IsWholeRead : Bytes → RequestHead → Option ℕ → HeadRead → Type 0
IsWholeRead bytes head None result = IsReadAs bytes (Passes head) result
IsWholeRead bytes head (Some n) result = IsReadAs bytes (Refuses n) result

-- the bytes end with a line feed
abbrev pub EndsLine : Bytes → Type 0
EndsLine bytes = (front : Bytes) × (bytes ≡ front ++ 10 ∷ [])

-- what one prefix says
abbrev pub IsJudgedAs : Bytes → List HeaderSpan → Judged → Type 0
IsJudgedAs prefix fields Open = IsOpen prefix
IsJudgedAs prefix fields Wrong = IsNoHead prefix × (CanFollow prefix → ⊥)
IsJudgedAs prefix fields Large = IsNoHead prefix × CanFollow prefix × IsLarge prefix
IsJudgedAs prefix fields (Whole spans) =
    IsRequestWithin prefix fields spans
    × ((head : RequestHead) × IsRequestAt prefix fields spans head × ReadsRequest prefix head [])

-- what the prefix of n bytes says, and that it is judged, or that it says nothing
abbrev pub IsJudgedAt : Bytes → ℕ → List HeaderSpan → Judged → Type 0
IsJudgedAt buffer n fields Open =
    (IsJudged buffer n → IsOpen (take n buffer)) × (line_feeds (behind_blank (take n buffer)) ≤ 65)
IsJudgedAt buffer n fields Wrong =
    IsJudged buffer n × (IsNoHead (take n buffer) × (CanFollow (take n buffer) → ⊥))
IsJudgedAt buffer n fields Large =
    IsJudged buffer n
    × (IsNoHead (take n buffer) × CanFollow (take n buffer) × IsLarge (take n buffer))
IsJudgedAt buffer n fields (Whole spans) =
    IsJudged buffer n
    × (IsRequestWithin (take n buffer) fields spans
    × ((head : RequestHead) × IsRequestAt (take n buffer) fields spans head
    × ReadsRequest (take n buffer) head []))

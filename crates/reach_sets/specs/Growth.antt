-- Inner: spans that grow from piece to piece.
use Rattle.std.specs.Prelude.{ℕ, suc, ◌-◌, ◌<◌, ◌&&◌, ◌||◌, nat_le, nat_lt, Bool, false, List, [], ◌∷◌, ◌++◌, Option, Some, None, IfSome, if◌then◌else◌, ⊤}
use Rattle.std.specs.Option.{unwrap_or}
use Rattle.reach_laws.specs.Decides.{Decides}
use Rattle.reach_sets.specs.Spans.{AreApart, in_spans}
use Rattle.reach_sets.specs.declared.growth.Growing.{Growing}
use Rattle.reach_sets.specs.declared.spans.Span.{Span}

abbrev pub no_spans : Growing
no_spans = record { spans = []; begun = None }

-- the span that has begun ends before `at`
abbrev pub closed : List Span → ℕ → Option ℕ → List Span
closed spans at None = spans
closed spans at (Some first) = spans ++ record { first = first; last = at - 1 } ∷ []

-- with the piece that begins at `at`, which is reached or not
abbrev pub grown : Growing → ℕ → Bool → Growing
grown g at b =
    if b then record { spans = g.spans; begun = Some (unwrap_or g.begun at) }
    else record { spans = closed g.spans at g.begun; begun = None }

-- what the span that has begun holds below a number
abbrev pub in_open : ℕ → ℕ → Option ℕ → Bool
in_open at d None = false
in_open at d (Some first) = nat_le first d && nat_lt d at

-- where the next span may begin
abbrev pub start : ℕ → Option ℕ → ℕ
start at None = at
start at (Some first) = first

-- each span ends before the number, with one between
abbrev pub AreBefore : ℕ → List Span → Type 0
AreBefore n [] = ⊤
AreBefore n (s ∷ spans) = (suc s.last < n) × AreBefore n spans

-- below a number the spans hold exactly what is so
pub record AreSoFar (P : ℕ → Type 0) (at : ℕ) (g : Growing) : Type 0 where
  pub exact : (d : ℕ) → d < at → Decides (in_spans d g.spans || in_open at d g.begun) (P d)
  pub apart : AreApart g.spans
  pub before : AreBefore (start at g.begun) g.spans
  pub begun : IfSome g.begun (λ first. first < at)

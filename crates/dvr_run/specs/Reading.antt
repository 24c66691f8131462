-- Waiting for a line.
use Rattle.std.specs.Prelude.{Bool, None, Option, Some, [], drop, false, length, take, true, ℕ, ◌++◌, ◌+◌, ◌<◌, ◌^◌, ◌∷◌, ◌≡◌}
use Rattle.dvr_run.specs.Answers.{IsUnfinished, IsWaiting}
use Rattle.dvr_run.specs.Lines.{is_unbroken}
use Rattle.dvr_run.specs.declared.lines.NoLine.{NoLine}
use Rattle.dvr_run.specs.declared.lines.NoLine.TheVariants.{AtEnd, NoRead, Spent, Unfinished}
use Rattle.dvr_run.specs.declared.status.Status.{Status}
use Rattle.dvr_run.specs.declared.status.Status.TheVariants.{BadLine, Budget, Done, ReadFault}
use Rattle.http_session.specs.Serves.{HasEnded}
use Rattle.keeper_core.specs.Ends.{SourceTold}
use Rattle.net_addr.specs.Words.{Bytes}

-- the first line of these bytes has this length, and a line feed after it
pub record HasLine (bytes : Bytes) (size : ℕ) : Type 0 where
  pub within : size < length bytes
  pub parts : bytes ≡ take size bytes ++ 10 ∷ drop (size + 1) bytes
  pub unbroken : is_unbroken (take size bytes) ≡ true

abbrev pub IsLineEnd : Bytes → Option ℕ → Type 0
IsLineEnd bytes None = is_unbroken bytes ≡ true
IsLineEnd bytes (Some size) = HasLine bytes size

-- why there is no line
abbrev pub IsNoLine : Bytes → SourceTold → ℕ → NoLine → Type 0
IsNoLine rest input taken AtEnd = (rest ≡ []) × HasEnded input
IsNoLine rest input taken Unfinished = IsUnfinished rest input
IsNoLine rest input taken NoRead = IsWaiting rest
IsNoLine rest input taken Spent = IsWaiting rest × (taken ≡ 2 ^ 40)

abbrev pub is_no_read : NoLine → Bool
is_no_read NoRead = true
is_no_read other = false

abbrev pub no_line_status : NoLine → Status
no_line_status AtEnd = Done
no_line_status Unfinished = BadLine
no_line_status NoRead = ReadFault
no_line_status Spent = Budget

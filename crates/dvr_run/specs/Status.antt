-- The exit status of the command.
use Rattle.std.specs.Prelude.{Bool, false, true, ℕ, ◌≡◌, ◌⊎◌}
use Rattle.dvr_run.specs.declared.status.Status.{Status}
use Rattle.dvr_run.specs.declared.status.Status.TheVariants.{BadLine, BadSettings, Budget, Done, Failed, Inconsistent, OutOfMemory, ReadFault, WriteFault, WrongWords}
use Rattle.http_session.specs.Serves.{IsFlushed}
use Rattle.keeper_core.specs.Ends.{SinkTold}
use Rattle.openings.specs.declared.unopened.Unopened.{Unopened}
use Rattle.openings.specs.declared.unopened.Unopened.TheVariants as unopened

abbrev pub status_code : Status → ℕ
status_code Done = 0
status_code WrongWords = 1
status_code ReadFault = 2
status_code WriteFault = 3
status_code OutOfMemory = 4
status_code BadSettings = 5
status_code Inconsistent = 6
status_code Failed = 7
status_code Budget = 8
status_code BadLine = 11

abbrev pub unopened_status : Unopened → Status
unopened_status unopened.BadSettings = BadSettings
unopened_status unopened.Inconsistent = Inconsistent
unopened_status unopened.Failed = Failed
unopened_status unopened.OutOfMemory = OutOfMemory

-- whether a read failed
abbrev pub is_read_fault : Status → Bool
is_read_fault ReadFault = true
is_read_fault other = false

-- whether all lines before the end are answered, to the last
abbrev pub is_whole : Status → Bool
is_whole Done = true
is_whole BadLine = true
is_whole other = false

-- a status that isn't whole stays, and a whole one is flushed, or ends with a write fault
abbrev pub IsFinished : Status → SinkTold → Status → Type 0
IsFinished before output now =
    ((now ≡ before) × (is_whole before ≡ true → IsFlushed output))
    ⊎ ((now ≡ WriteFault) × (is_whole before ≡ true))

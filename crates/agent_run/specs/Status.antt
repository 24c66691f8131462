-- The exit status of `agent`.
use Rattle.std.specs.Prelude.{ℕ}
use Rattle.openings.specs.declared.unopened.Unopened.{Unopened}
use Rattle.openings.specs.declared.unopened.Unopened.TheVariants as unopened
use Rattle.agent_run.specs.declared.status.Status.{Status}
use Rattle.agent_run.specs.declared.status.Status.TheVariants.{BadReply, BadRows, BadSettings, Done, Failed, OutOfMemory, WriteFault, WrongWords}

abbrev pub status_code : Status → ℕ
status_code Done = 0
status_code WrongWords = 1
status_code WriteFault = 3
status_code OutOfMemory = 4
status_code BadSettings = 5
status_code Failed = 7
status_code BadReply = 9
status_code BadRows = 10

-- by why there are no settings; rows aren't opened
abbrev pub unopened_status : Unopened → Status
unopened_status unopened.BadSettings = BadSettings
unopened_status unopened.Inconsistent = Failed
unopened_status unopened.Failed = Failed
unopened_status unopened.OutOfMemory = OutOfMemory

-- The exit status of the program: by how a session ended, and by why nothing was opened.
use Rattle.std.specs.Prelude.{ℕ, Bool, false, true}
use Rattle.http_session.specs.declared.session_end.SessionEnd.{SessionEnd}
use Rattle.http_session.specs.declared.session_end.SessionEnd.TheVariants as end
use Rattle.openings.specs.declared.unopened.Unopened.{Unopened}
use Rattle.openings.specs.declared.unopened.Unopened.TheVariants as unopened
use Rattle.neutron_serve.specs.declared.status.Status.{Status}
use Rattle.neutron_serve.specs.declared.status.Status.TheVariants.{BadSettings, Budget, Done, Failed, Inconsistent, OutOfMemory, ReadFault, WriteFault, WrongWords}

abbrev pub status_code : Status → ℕ
status_code Done = 0
status_code WrongWords = 1
status_code ReadFault = 2
status_code WriteFault = 3
status_code OutOfMemory = 4
status_code BadSettings = 5
status_code Inconsistent = 6
status_code Failed = 7
status_code Budget = 8

abbrev pub ended_status : SessionEnd → Status
ended_status end.Done = Done
ended_status end.ReadFault = ReadFault
ended_status end.WriteFault = WriteFault
ended_status end.Budget = Budget
ended_status end.OutOfMemory = OutOfMemory

abbrev pub unopened_status : Unopened → Status
unopened_status unopened.BadSettings = BadSettings
unopened_status unopened.Inconsistent = Inconsistent
unopened_status unopened.Failed = Failed
unopened_status unopened.OutOfMemory = OutOfMemory

-- what connections may end with, once the desk is asked to listen
abbrev pub is_listening : Status → Bool
is_listening Done = true
is_listening OutOfMemory = true
is_listening Failed = true
is_listening other = false

-- and before that, if nothing is opened
abbrev pub is_serving : Status → Bool
is_serving BadSettings = true
is_serving Inconsistent = true
is_serving other = is_listening other

-- what a drill may end with
abbrev pub is_drilling : Status → Bool
is_drilling Done = true
is_drilling WriteFault = true
is_drilling OutOfMemory = true
is_drilling other = false

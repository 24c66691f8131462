-- The exit status of `audit`.
use Rattle.std.specs.Prelude.{ℕ}
use Rattle.keeper_core.specs.declared.refusal.OutsideRefusal.{OutsideRefusal}
use Rattle.keeper_core.specs.declared.refusal.OutsideRefusal.TheVariants as outside
use Rattle.openings.specs.declared.unopened.Unopened.{Unopened}
use Rattle.openings.specs.declared.unopened.Unopened.TheVariants as unopened
use Rattle.reach_audit.specs.declared.status.Status.{Status}
use Rattle.reach_audit.specs.declared.status.Status.TheVariants.{BadSettings, BadWanted, Broken, Done, Failed, Inconsistent, OutOfMemory, WriteFault, WrongWords}

abbrev pub status_code : Status → ℕ
status_code Done = 0
status_code WrongWords = 1
status_code WriteFault = 3
status_code OutOfMemory = 4
status_code BadSettings = 5
status_code Inconsistent = 6
status_code Failed = 7
status_code BadWanted = 12
status_code Broken = 13

-- by why nothing is opened
abbrev pub unopened_status : Unopened → Status
unopened_status unopened.BadSettings = BadSettings
unopened_status unopened.Inconsistent = Inconsistent
unopened_status unopened.Failed = Failed
unopened_status unopened.OutOfMemory = OutOfMemory

-- by why the desk doesn't give the wanted file
abbrev pub refused_status : OutsideRefusal → Status
refused_status outside.Failed = Failed
refused_status outside.OutOfMemory = OutOfMemory

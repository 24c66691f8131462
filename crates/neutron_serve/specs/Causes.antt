-- By what a request is answered: by the step, or because the store failed or memory ran out;
-- and whether hosts may have moved.
use Rattle.std.specs.Prelude.{not, Bool, false, true}
use Rattle.api_types.specs.Lists.{is_empty}
use Rattle.api_types.specs.declared.refusal.Refusal.{Refusal}
use Rattle.api_types.specs.declared.refusal.Refusal.TheVariants as refusal
use Rattle.neutron_serve.specs.declared.api.Cause.{Cause}
use Rattle.neutron_serve.specs.declared.api.Cause.TheVariants.{Step, StoreFault, NoMemory}
use Rattle.plane_types.specs.declared.ask.Ask.{Ask}
use Rattle.plane_types.specs.declared.ask.Ask.TheVariants.{Api, Lab}
use Rattle.plane_types.specs.declared.ask.LabAnswer.{LabAnswer}
use Rattle.plane_types.specs.declared.ask.LabAnswer.TheVariants.{Change, Hosts, Page, Seen, Tables, Told, Version}
use Rattle.plane_types.specs.declared.ask.LabCall.{LabCall}
use Rattle.plane_types.specs.declared.ask.LabCall.TheVariants as call
use Rattle.plane_types.specs.declared.ask.Reply.{Reply}
use Rattle.plane_types.specs.declared.ask.Reply.TheVariants.{Done, LabDone, Refused}

-- whether hosts may be others than before, by what was asked of them and what is answered:
-- messages move them, and frames that make entries
abbrev pub tells_entries : LabAnswer → Bool
tells_entries (Seen verdict) = not (is_empty verdict.fresh)
tells_entries (Told heard) = false
tells_entries (Hosts hosts) = false
tells_entries (Tables tables) = false
tells_entries (Version first last) = false
tells_entries (Change number items) = false
tells_entries (Page version number last rows) = false

abbrev pub moves_hosts : LabCall → LabAnswer → Bool
moves_hosts (call.Frames event) answer = tells_entries answer
moves_hosts (call.Explain event) answer = false
moves_hosts call.Hosts answer = false
moves_hosts (call.Tables name) answer = false
moves_hosts call.Version answer = false
moves_hosts (call.Change number) answer = false
moves_hosts (call.Page version number) answer = false
moves_hosts (call.Deliver name number) answer = true
moves_hosts (call.Resync name) answer = true
moves_hosts (call.Restart name) answer = true
moves_hosts (call.Forget name) answer = true
moves_hosts call.Settle answer = true

abbrev pub may_move : Ask → Reply → Bool
may_move (Api c) reply = false
may_move (Lab c) (Done answer) = false
may_move (Lab c) (LabDone answer) = moves_hosts c answer
may_move (Lab c) (Refused refused) = false

abbrev pub cause_by : Refusal → Cause
cause_by refusal.OutOfMemory = NoMemory
cause_by refusal.StoreFault = StoreFault
cause_by other = Step

abbrev pub cause_in : Reply → Cause
cause_in (Refused refused) = cause_by refused
cause_in (Done answer) = Step
cause_in (LabDone answer) = Step

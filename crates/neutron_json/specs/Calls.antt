-- Calls of the lab by their words.
use Rattle.std.specs.Prelude.{codes}
use Rattle.net_addr.specs.Words.{Text}
use Rattle.plane_types.specs.declared.ask.LabCall.{LabCall}
use Rattle.plane_types.specs.declared.ask.LabCall.TheVariants.{Frames, Explain, Resync, Restart, Forget}
use Rattle.plane_types.specs.declared.event.Event.{Event}
use Rattle.neutron_json.specs.declared.ask.EventCall.{EventCall}
use Rattle.neutron_json.specs.declared.ask.EventCall.TheVariants as event
use Rattle.neutron_json.specs.declared.ask.HostCall.{HostCall}
use Rattle.neutron_json.specs.declared.ask.HostCall.TheVariants as host

abbrev pub event_call : EventCall → Event → LabCall
event_call event.Frames e = Frames e
event_call event.Explain e = Explain e

abbrev pub host_call : HostCall → Text → LabCall
host_call host.Resync name = Resync name
host_call host.Restart name = Restart name
host_call host.Forget name = Forget name

abbrev pub host_word : HostCall → Text
host_word host.Resync = codes "resync"
host_word host.Restart = codes "restart"
host_word host.Forget = codes "forget"

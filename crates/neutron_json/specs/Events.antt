-- What bodies of the lab ask. This server's own.
use Rattle.std.specs.Prelude.{ℕ, List, if◌then◌else◌, Option, is_some, option_map, codes}
use Rattle.net_addr.specs.Words.{Text, Version}
use Rattle.serde_json.specs.Data.{Data}
use Rattle.serde_json.specs.Find.{get}
use Rattle.api_types.specs.Ident.{Ident}
use Rattle.plane_types.specs.declared.ask.LabCall.{LabCall}
use Rattle.plane_types.specs.declared.ask.LabCall.TheVariants.{Deliver}
use Rattle.plane_types.specs.declared.event.Event.{Event}
use Rattle.plane_types.specs.declared.event.Event.TheVariants.{FromPort, FromWire}
use Rattle.plane_types.specs.declared.frame.Frame.{Frame}
use Rattle.json_values.specs.Values.{applied, member_of}
use Rattle.json_values.specs.Items.{id_of}
use Rattle.json_values.specs.Grammars.{short_text, wire_tag, change_number}
use Rattle.json_values.specs.Frames.{frame_of}
use Rattle.neutron_json.specs.Attributes.{Attribute}
use Rattle.neutron_json.specs.Tables.{port_event_attributes, wire_event_attributes}

-- an event with a port is one from that port
abbrev pub event_attributes : Data → List Attribute
event_attributes d =
    if is_some (get (codes "port") d) then port_event_attributes else wire_event_attributes

abbrev pub sent : Ident → Frame → Event
sent port frame = FromPort port frame

abbrev pub port_event : Data → Option Event
port_event d =
    applied (option_map sent (member_of id_of (codes "port") d))
    (member_of frame_of (codes "frame") d)

-- a frame from a physical network; null, which is no tag, says that there is none
abbrev pub wire : Option ℕ → Text → Frame → Event
wire tag physical frame = FromWire physical tag frame

abbrev pub wire_event : Data → Option Event
wire_event d = applied (option_map (wire (member_of wire_tag (codes "segmentation_id") d))
    (member_of short_text (codes "physical_network") d)) (member_of frame_of (codes "frame") d)

abbrev pub event_of : Data → Option Event
event_of d = if is_some (get (codes "port") d) then port_event d else wire_event d

abbrev pub host_of : Data → Option Text
host_of d = member_of short_text (codes "host") d

abbrev pub delivery : Text → Version → LabCall
delivery host number = Deliver host number

abbrev pub deliver_of : Data → Option LabCall
deliver_of d =
    applied (option_map delivery (host_of d)) (member_of change_number (codes "number") d)

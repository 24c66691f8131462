-- The events that lines ask for: bodies as the lab's `explain` takes them, with a port or a wire of
-- the rows.
use Rattle.std.specs.Prelude.{Bool, List, None, Option, Some, if◌then◌else◌, is_some, length, map, nat_le, option_and_then, true, ◌≡◌}
use Rattle.std.specs.List.{list_all}
use Rattle.api_types.specs.RowLists.{RowLists}
use Rattle.api_types.specs.RowsWith.{port_with}
use Rattle.api_types.specs.Wires.{network_on}
use Rattle.dvr_run.specs.Lines.{is_unbroken}
use Rattle.net_addr.specs.Words.{Bytes}
use Rattle.neutron_json.specs.Asks.{event_read}
use Rattle.neutron_json.specs.Bodies.{BadName, NoFrame, Read, Says}
use Rattle.plane_types.specs.declared.ask.Ask.{Ask}
use Rattle.plane_types.specs.declared.ask.Ask.TheVariants.{Api, Lab}
use Rattle.plane_types.specs.declared.ask.LabCall.{LabCall}
use Rattle.plane_types.specs.declared.ask.LabCall.TheVariants.{Explain}
use Rattle.plane_types.specs.declared.event.Event.{Event}
use Rattle.plane_types.specs.declared.event.Event.TheVariants.{FromPort, FromWire}

abbrev pub said : Read Ask → Option Ask
said (Says ask) = Some ask
said (NoFrame member) = None
said (BadName name) = None

abbrev pub explained : LabCall → Option Event
explained (Explain event) = Some event
explained other = None

abbrev pub event_asked : Ask → Option Event
event_asked (Lab call) = explained call
event_asked (Api call) = None

-- any port of the rows, and the segment of a flat or vlan network, up or not
abbrev pub is_known : RowLists → Event → Bool
is_known rows (FromPort port frame) = is_some (port_with rows port)
is_known rows (FromWire physical tag frame) =
    is_some (network_on rows (record { physical = physical; tag = tag }))

abbrev pub known : RowLists → Event → Option Event
known rows event = if is_known rows event then Some event else None

abbrev pub known_asked : RowLists → Ask → Option Event
known_asked rows ask = option_and_then (known rows) (event_asked ask)

abbrev pub event_of : RowLists → Bytes → Option Event
event_of rows body = option_and_then (known_asked rows) (said (event_read Explain body))

-- the event of a line, without its line feed
abbrev pub event_of_line : RowLists → Bytes → Option Event
event_of_line rows line = if nat_le (length line) 65536 then event_of rows line else None

-- lines, and the event of each
pub record AskFor (rows : RowLists) (lines : List Bytes) (events : List Event) : Type 0 where
  pub unbroken : list_all is_unbroken lines ≡ true
  pub asked : map (event_of_line rows) lines ≡ map Some events

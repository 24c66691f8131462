-- Which first packets of one port come to another: by the rows alone, when nothing is tracked yet.
use Rattle.std.specs.Prelude.{◌≡◌, ℕ, ◌≤◌, Bool, true, false, [], Option, Some, None}
use Rattle.net_addr.specs.declared.address.Addr.{Addr}
use Rattle.api_types.specs.Ident.{Ident}
use Rattle.api_types.specs.RowLists.{RowLists}
use Rattle.api_types.specs.Table.{ident_eq}
use Rattle.api_types.specs.declared.port.PortRow.{PortRow}
use Rattle.plane_types.specs.Meaning.{rows_fate}
use Rattle.plane_types.specs.declared.event.Event.{Event}
use Rattle.plane_types.specs.declared.frame.KeyPart.{KeyPart}
use Rattle.plane_types.specs.declared.verdict.Outcome.{Outcome}
use Rattle.plane_types.specs.declared.verdict.Outcome.TheVariants.{Absorbed, Answered, Delivered, Dropped, Out}
use Rattle.reach_laws.specs.FirstEvent.{first_event}
use Rattle.reach_laws.specs.Numbers.{is_number, part_by}
use Rattle.reach_laws.specs.declared.kind.ReachKind.{ReachKind}

abbrev pub is_delivered : Ident → Outcome → Bool
is_delivered q (Delivered i frame) = ident_eq q i
is_delivered q (Answered x) = false
is_delivered q (Absorbed r) = false
is_delivered q (Out n toward frame) = false
is_delivered q (Dropped c) = false

-- the event is there, and the port has its packet
abbrev pub event_comes : RowLists → Ident → Option Event → Bool
event_comes rows q None = false
event_comes rows q (Some e) = is_delivered q (rows_fate rows [] e).outcome

-- the first packet with this part comes from an address of one port to an address of another
abbrev pub comes : RowLists → PortRow → Addr → PortRow → Addr → KeyPart → Bool
comes rows p a q b part = event_comes rows q.id (first_event rows p a q b part)

-- it comes to a number from each source port, or with each echo's id
abbrev pub Reaches : RowLists → PortRow → Addr → PortRow → Addr → ReachKind → ℕ → Type 0
Reaches rows p a q b kind d =
    (s : ℕ) → s ≤ 65535 → comes rows p a q b (part_by kind s d) ≡ true

-- a number of the kind that it reaches
abbrev pub IsReached : RowLists → PortRow → Addr → PortRow → Addr → ReachKind → ℕ → Type 0
IsReached rows p a q b kind d =
    (is_number kind a d ≡ true) × Reaches rows p a q b kind d

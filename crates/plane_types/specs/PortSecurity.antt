-- What a secured port lets in and out, whatever was seen before (Networking API v2.0: port
-- security, allowed address pairs, and security groups, which are stateful: a packet passes by a
-- rule, or as the answer to one that a rule lets pass the other way).
use Rattle.std.specs.Prelude.{◌≡◌, ◌&&◌, ◌||◌, not, Bool, true, false, List, Option, Some, None, ⊤}
use Rattle.std.specs.List.{zip}
use Rattle.api_types.specs.Lists.{Each}
use Rattle.api_types.specs.RowsWith.{port_with}
use Rattle.api_types.specs.RowLists.{RowLists}
use Rattle.api_types.specs.declared.group.Direction.{Direction}
use Rattle.api_types.specs.declared.group.Direction.TheVariants.{Egress, Ingress}
use Rattle.api_types.specs.declared.port.PortRow.{PortRow}
use Rattle.plane_types.specs.Crossing.{is_dropped}
use Rattle.plane_types.specs.Entries.{opposite}
use Rattle.plane_types.specs.Filter.{rules_allow}
use Rattle.plane_types.specs.Guard.{passes_guard}
use Rattle.plane_types.specs.Keys.{answer_key}
use Rattle.plane_types.specs.Packets.{Packet, key_of, packet_in}
use Rattle.plane_types.specs.declared.event.Event.{Event}
use Rattle.plane_types.specs.declared.event.Event.TheVariants.{FromPort, FromWire}
use Rattle.plane_types.specs.declared.frame.Frame.{Frame}
use Rattle.plane_types.specs.declared.verdict.Outcome.{Outcome}
use Rattle.plane_types.specs.declared.verdict.Outcome.TheVariants.{Absorbed, Answered, Delivered, Dropped, Out}
use Rattle.plane_types.specs.declared.verdict.Verdict.{Verdict as ToldVerdict}

-- a rule of the port's groups allows the packet, or, the other way, the packet that it answers
abbrev pub is_allowed : RowLists → PortRow → Direction → Packet → Bool
is_allowed rows q direction p =
    not q.secured
    || (rules_allow rows q direction (key_of p)
    || rules_allow rows q (opposite direction) (answer_key (key_of p)))

-- nothing but packets is delivered to ports
abbrev pub is_allowed_in : RowLists → PortRow → Option Packet → Bool
is_allowed_in rows q None = false
is_allowed_in rows q (Some p) = is_allowed rows q Ingress p

-- asks for an address or a lease are no matter of rules
abbrev pub is_allowed_out : RowLists → PortRow → Option Packet → Bool
is_allowed_out rows q None = true
is_allowed_out rows q (Some p) = is_allowed rows q Egress p

-- the port is there, and its groups allow the frame in
abbrev pub lets_in : RowLists → Frame → Option PortRow → Bool
lets_in rows f None = false
lets_in rows f (Some q) = is_allowed_in rows q (packet_in f)

-- the port is there, the frame passes its guard, and its groups allow it out
abbrev pub lets_out : RowLists → Frame → Option PortRow → Bool
lets_out rows f None = false
lets_out rows f (Some q) = passes_guard q f && is_allowed_out rows q (packet_in f)

-- what is delivered is let in by its port
abbrev pub EndsAllowed : RowLists → Outcome → Type 0
EndsAllowed rows (Delivered port f) =
    lets_in rows f (port_with rows port) ≡ true
EndsAllowed rows (Answered a) = ⊤
EndsAllowed rows (Absorbed r) = ⊤
EndsAllowed rows (Out n t f) = ⊤
EndsAllowed rows (Dropped c) = ⊤

abbrev pub IsLetIn : RowLists → ToldVerdict → Type 0
IsLetIn rows v = EndsAllowed rows v.outcome

-- what a port sends and isn't dropped is let out by the port
abbrev pub IsLetOut : RowLists → Event → ToldVerdict → Type 0
IsLetOut rows (FromPort port f) v =
    is_dropped v.outcome ≡ false
    → lets_out rows f (port_with rows port) ≡ true
IsLetOut rows (FromWire physical tag f) v = ⊤

-- of events with their verdicts
abbrev pub AreLetOut : RowLists → List Event → List ToldVerdict → Type 0
AreLetOut rows events verdicts =
    Each (λ (x : Event × ToldVerdict). IsLetOut rows x.0 x.1) (zip events verdicts)

-- Two ports with an address of each, and what comes from the first to the second.
use Rattle.std.specs.Prelude.{◌≡◌, ℕ, Bool, Option, Some, option_and_then, option_map}
use Rattle.api_types.specs.RowLists.{RowLists}
use Rattle.api_types.specs.RowsWith.{port_with}
use Rattle.api_types.specs.declared.port.PortRow.{PortRow}
use Rattle.plane_types.specs.Ends.{Ends, destination, source}
use Rattle.plane_types.specs.declared.event.Event.{Event}
use Rattle.plane_types.specs.declared.frame.KeyPart.{KeyPart}
use Rattle.reach_laws.specs.FirstEvent.{first_event}
use Rattle.reach_laws.specs.Reach.{IsReached, Reaches, comes}
use Rattle.reach_laws.specs.declared.kind.ReachKind.{ReachKind}
use Rattle.reach_sets.specs.declared.pair.Pair.{Pair}

pub record TwoPorts : Type 0 where
  pub from : PortRow
  pub to : PortRow
  pub ends : Ends

-- as code has them
abbrev pub two_ports : Pair → TwoPorts
two_ports x = record { from = x.from.now; to = x.to.now; ends = x.ends }

-- what was found of each of the three
abbrev pub ports_with_ends : Option PortRow → Option PortRow → Option Ends → Option TwoPorts
ports_with_ends p q ends =
    option_and_then
    (λ (from : PortRow).
    option_and_then
    (λ (to : PortRow).
    option_map (λ (e : Ends). record { from = from; to = to; ends = e }) ends)
    q)
    p

-- both ports are rows
pub record AreRows (rows : RowLists) (x : TwoPorts) : Type 0 where
  pub from : port_with rows x.from.id ≡ Some x.from
  pub to : port_with rows x.to.id ≡ Some x.to

abbrev pub event_between : RowLists → TwoPorts → KeyPart → Option Event
event_between rows x part =
    first_event rows x.from (source x.ends) x.to (destination x.ends) part

abbrev pub comes_between : RowLists → TwoPorts → KeyPart → Bool
comes_between rows x part = comes rows x.from (source x.ends) x.to (destination x.ends) part

abbrev pub ReachesBetween : RowLists → TwoPorts → ReachKind → ℕ → Type 0
ReachesBetween rows x kind d =
    Reaches rows x.from (source x.ends) x.to (destination x.ends) kind d

abbrev pub IsReachedBetween : RowLists → TwoPorts → ReachKind → ℕ → Type 0
IsReachedBetween rows x kind d =
    IsReached rows x.from (source x.ends) x.to (destination x.ends) kind d

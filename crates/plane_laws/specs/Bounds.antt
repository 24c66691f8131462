-- How far a packet comes, by its time to live of eight bits (RFC 791).
use Rattle.std.specs.Prelude.{ℕ, ◌/◌, ◌≤◌, length}
use Rattle.plane_types.specs.Meaning.{life_of}
use Rattle.plane_types.specs.declared.event.Event.{Event}
use Rattle.plane_types.specs.declared.event.Event.TheVariants.{FromPort, FromWire}
use Rattle.plane_types.specs.declared.verdict.Verdict.{Verdict as ToldVerdict}

abbrev pub life_in : Event → ℕ
life_in (FromPort port frame) = life_of frame
life_in (FromWire physical tag frame) = life_of frame

-- the time to live, and one, of the event's packet
abbrev pub HasEightBits : Event → Type 0
HasEightBits event = life_in event ≤ 256

-- a path is a network, and then a router and a network for each router that sent the packet on
pub record IsBounded (v : ToldVerdict) : Type 0 where
  pub routers : length v.path / 2 ≤ 254
  pub ids : length v.path ≤ 509
  pub fresh : length v.fresh ≤ 256

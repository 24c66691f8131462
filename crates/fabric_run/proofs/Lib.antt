mod FleetLemmas
mod TellsLemmas
mod PositionLemmas
mod WalkLemmas

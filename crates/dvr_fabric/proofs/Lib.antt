mod HostLemmas
mod MeansLaw
mod PlainLaw
mod PositionLemmas
mod RouteLists
mod TellsLemmas

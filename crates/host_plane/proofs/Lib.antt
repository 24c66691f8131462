mod LegLists
mod MapLemmas
mod PacketFrames
mod RouteLists
mod UseLists

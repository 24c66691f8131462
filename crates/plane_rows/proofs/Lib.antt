mod LookLemmas
mod WayLemmas

mod LegLemmas
mod AtPortLemmas

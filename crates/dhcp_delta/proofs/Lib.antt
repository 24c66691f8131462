mod BridgeLemmas
mod LedLemmas
mod RowLemmas
mod ServerLemmas

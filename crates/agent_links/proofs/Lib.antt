mod LengthLemmas
mod WholeLemmas

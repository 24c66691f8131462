pub mod LineLemmas
mod MatchLemmas
pub mod RunLemmas

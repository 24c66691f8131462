pub mod AskLemmas
pub mod OpeningLemmas

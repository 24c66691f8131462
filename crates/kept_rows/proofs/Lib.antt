pub mod FoundLemmas
pub mod NumberLists

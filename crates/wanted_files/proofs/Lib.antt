pub mod ItemLemmas
pub mod NameCounts
pub mod NoDocument

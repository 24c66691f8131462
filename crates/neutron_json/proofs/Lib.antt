pub mod JsonLemmas
mod NumberLemmas

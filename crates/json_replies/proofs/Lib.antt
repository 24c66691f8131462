pub mod RowLemmas
mod StraightLemmas

pub mod CutLemmas
pub mod GrowthLemmas
pub mod JudgeLemmas
pub mod NamedLemmas
pub mod PieceLemmas

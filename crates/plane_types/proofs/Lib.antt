pub mod WorkedRows
pub mod WorkedBridging
pub mod NumberLemmas
pub mod TagLemmas
pub mod RetaggedLaw
pub mod PlacedLemmas
pub mod RealisedTags
pub mod RouteLemmas
pub mod UseLemmas
pub mod PutLemmas
pub mod RunLemmas
pub mod KeyedLemmas
pub mod LeadLemmas
pub mod FewLemmas
pub mod TableLemmas
pub mod PairLemmas
pub mod MapLemmas
pub mod SplitLemmas
pub mod NumberedLemmas
pub mod UnnamedLemmas
pub mod StayLemmas
pub mod LocalLemmas
pub mod RunEdits
mod EditLemmas
mod GapLemmas
pub mod KeyedTablesLemmas

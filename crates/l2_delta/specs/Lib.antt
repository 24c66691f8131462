pub mod Covers
pub mod Filtered
pub mod Gathered
pub mod SetKeys
pub mod TouchedSets
pub mod DescendProp
pub mod TagsStay

pub mod RowStays
pub mod Retagged
pub mod CanLive
pub mod TouchedNumbers
pub mod LeadsProp
pub mod SeesAlike

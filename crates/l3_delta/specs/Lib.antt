pub mod RouterStays
pub mod WayKeys

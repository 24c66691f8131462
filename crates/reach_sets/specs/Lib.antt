pub mod Breaking
pub mod Cuts
pub mod Growth
pub mod Judged
pub mod Named
pub mod ReachSets
pub mod Spans
pub mod TwoPorts

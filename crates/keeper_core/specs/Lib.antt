pub mod Calls
pub mod Counts
pub mod Desk
pub mod Ends
pub mod Kept
pub mod Named

pub mod Replies
pub mod Paths
pub mod Routes
pub mod Filters
pub mod Queries
pub mod Faults

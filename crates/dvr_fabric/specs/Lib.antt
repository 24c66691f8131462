pub mod Beginnings
pub mod Found
pub mod Meaning
pub mod Positions
pub mod Steps

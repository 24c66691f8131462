pub mod Bounds
pub mod Held

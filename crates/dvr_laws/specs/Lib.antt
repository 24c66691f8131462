pub mod Held
pub mod NearPaths

pub mod Lab
pub mod Opening
pub mod Parts
pub mod Hosts
pub mod World

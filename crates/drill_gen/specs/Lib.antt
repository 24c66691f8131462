pub mod Draws
pub mod Stream

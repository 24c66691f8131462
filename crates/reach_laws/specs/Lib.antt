pub mod Decides
pub mod FirstEvent
pub mod Numbers
pub mod Pieces
pub mod Reach

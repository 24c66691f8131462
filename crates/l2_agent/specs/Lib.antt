pub mod Among
pub mod Free
pub mod Indices
pub mod Ruled

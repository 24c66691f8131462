pub mod WireStates
pub mod Hearing
pub mod Promises
pub mod Moments

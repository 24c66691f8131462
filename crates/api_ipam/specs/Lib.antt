pub mod Addresses
pub mod Choosing
pub mod Euis
pub mod Filling
pub mod FixedChoice
pub mod MacChoice

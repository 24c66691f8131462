pub mod Stretches
pub mod Numbers
pub mod Keys
pub mod Parts

pub mod Rewired
pub mod Still

pub mod ReadBack
pub mod Creations

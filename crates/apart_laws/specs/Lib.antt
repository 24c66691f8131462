pub mod Alike
pub mod Footing
pub mod Others

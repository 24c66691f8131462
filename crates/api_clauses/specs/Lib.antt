pub mod Numbers
pub mod Names
pub mod Forms
pub mod Held
pub mod Services
pub mod Floatings
pub mod Groups
pub mod Permits

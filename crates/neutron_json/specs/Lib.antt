pub mod Attributes
pub mod Tables
pub mod Forms
pub mod Events
pub mod Bodies
pub mod PathNumbers
pub mod Asks
pub mod Calls

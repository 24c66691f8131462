pub mod Faults
pub mod Kinds
pub mod Readings
pub mod ReplyTexts
pub mod Requests

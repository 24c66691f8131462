pub mod Accounts
pub mod Answers
pub mod BadBytes
pub mod Reading
pub mod Requests
pub mod Serves
pub mod Told
pub mod Turns

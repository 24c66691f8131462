pub mod Changes
pub mod Pages
pub mod PagesMade
pub mod Replies

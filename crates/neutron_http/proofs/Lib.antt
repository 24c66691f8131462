pub mod ReplyCodes
pub mod ReplyLines
pub mod ReplyHead
pub mod RouteLemmas
pub mod MessageLemmas

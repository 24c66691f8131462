pub mod PageLaw
mod PagesMadeLemmas
pub mod ChangeLaw
pub mod ReplyLaw

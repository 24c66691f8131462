pub mod BodyTexts
pub mod BodyLemmas
mod SearchLemmas
mod FieldLemmas
mod FaultLemmas
mod ReplyLemmas

mod AlikeLemmas
mod AmongLemmas
mod DeviceLemmas
mod RetagLemmas
mod RouterLemmas
pub mod SeesLemmas

pub mod Lists
pub mod HostNames
pub mod AgentLaw
pub mod StepLaw
pub mod MeaningLaw
pub mod SyncLaw
pub mod AlikeLaw

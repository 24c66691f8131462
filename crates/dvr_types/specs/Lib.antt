pub mod Copies
pub mod CopySteps
pub mod DvrFabric
pub mod DvrHosts
pub mod DvrVerdicts
pub mod Handlers
pub mod Near
pub mod StandFor

pub mod RouterChecks
pub mod RouterRules
pub mod Ways

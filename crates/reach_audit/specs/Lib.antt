pub mod Arguments
pub mod AuditLines
pub mod Audits
pub mod EventBodies
pub mod Runs
pub mod Status

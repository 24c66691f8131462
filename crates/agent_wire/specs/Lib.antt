pub mod HostAgents
pub mod Phases
pub mod Snapshots

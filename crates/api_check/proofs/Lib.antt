pub mod Places
pub mod FirstBrokenLaw
pub mod ConsistentLaw

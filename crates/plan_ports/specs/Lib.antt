pub mod Plans
pub mod PortCalls
pub mod PortRules

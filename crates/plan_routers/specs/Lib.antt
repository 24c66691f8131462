pub mod InterfaceCalls
pub mod Plans
pub mod RouterCalls

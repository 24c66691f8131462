pub mod DhcpUpkeep
pub mod Plans
pub mod SubnetCalls
pub mod SubnetRules

pub mod NetworkCalls
pub mod NetworkRules
pub mod Plans

pub mod RefusalLemmas
pub mod EditLemmas
pub mod CallLemmas
pub mod UpdateLemmas
pub mod NetworkCallsApart
mod NetworkDropped
pub mod NetworkGone
mod NetworksApart
pub mod NetworksKept
pub mod NetworksSpare
mod OpenNeeds
mod OpenPolicies
pub mod OwnNetworks

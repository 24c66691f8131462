pub mod CallLemmas
pub mod EditLemmas
pub mod FormLemmas
pub mod RefusalLemmas
mod DhcpAlike
pub mod OwnSubnets
pub mod RoomOfSubnets
mod ServingBegins
mod ServingCarried
mod ServingEnds
mod ServingTyped
mod SubnetBodies
pub mod SubnetCreated
pub mod SubnetDeleted
pub mod SubnetUpdated
pub mod SubnetsApart
pub mod SubnetsSpare

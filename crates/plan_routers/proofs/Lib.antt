pub mod CreationLemmas
pub mod OwnerLemmas
pub mod EditLemmas
pub mod InterfaceLemmas
pub mod RefusalLemmas
pub mod SupplyLemmas
pub mod UpdateLemmas
mod GatewaysSpare
pub mod InterfacesApart
pub mod InterfacesKept
pub mod InterfacesSpare
mod LeavingLemmas
pub mod OwnInterfaces
pub mod OwnRouters
pub mod RoomOfRouters
mod RouteLemmas
pub mod RouterCallsApart
mod RouterChanges
pub mod RouterLeaves
pub mod RoutersKept
pub mod RoutersSpare

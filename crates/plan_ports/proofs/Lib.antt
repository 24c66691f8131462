mod CallLemmas
mod RefusalLemmas
mod FixedApart
mod NoService
mod OldAddresses
pub mod OwnPorts
mod PortBodies
pub mod PortCallsApart
pub mod PortCreated
pub mod PortDeleted
pub mod PortUpdated
mod PortsApart
pub mod PortsSpare
pub mod RoomOfPorts

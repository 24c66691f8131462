pub mod CallsKept
mod HiddenHosts
mod HiddenNetwork
mod HiddenRows
mod HiddenUntold
mod ListsApart
pub mod OwnRefusals
mod PlanLemmas
mod ReadsApart
mod RoomLeft
pub mod WholeStepApart
mod WiderLaw
mod Drafted
mod GroupsShown
mod NetworksShown
mod PoliciesShown
mod PortsShown

pub mod EditLemmas
pub mod GroupLemmas
pub mod OwnerLemmas
pub mod RuleLemmas
mod GroupDropped
pub mod GroupsApart
pub mod GroupsSpare
pub mod OwnGroups
mod OwnParts
pub mod RoomOfGroups
pub mod RulesKept

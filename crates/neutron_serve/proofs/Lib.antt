mod DrillLemmas
mod OpeningLemmas
mod RunLemmas
mod ServingLemmas
mod StatusLemmas
pub mod Asking
pub mod FormsGiven
pub mod GoodMembers
pub mod InForm
pub mod Naming
pub mod Promising
pub mod Replying
pub mod SaidValues
pub mod Sparing

pub mod GroupCalls
pub mod NewGroup
pub mod Open

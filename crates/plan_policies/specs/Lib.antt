pub mod Open
pub mod PolicyCalls

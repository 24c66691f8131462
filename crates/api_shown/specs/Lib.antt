pub mod Asked
pub mod Keys
pub mod ListRefusals
pub mod OwnKind

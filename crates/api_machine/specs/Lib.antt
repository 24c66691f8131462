pub mod Machine
pub mod Plan
pub mod Reads
pub mod WholeStep
pub mod WiderFooting

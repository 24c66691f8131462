pub mod FloatingCalls
pub mod FloatingRules
pub mod Plans

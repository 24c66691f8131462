pub mod DescendProp
pub mod Serving

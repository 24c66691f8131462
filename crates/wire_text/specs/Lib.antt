pub mod VariantNames
pub mod NamedVariants
pub mod Parts
pub mod RowTrees
pub mod Typed
pub mod Texts
pub mod Told
pub mod Reading

pub mod TextBack
pub mod PlainRows
pub mod Shallow
pub mod ChangeText
pub mod LeafLemmas
pub mod ListsRead
pub mod NamedLemmas

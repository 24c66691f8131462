pub mod Numbers
pub mod Six
pub mod Texts
pub mod Values
pub mod Items
pub mod Grammars
pub mod Frames
pub mod Allowed

pub mod Carrying
pub mod Binding
pub mod Numbers
pub mod Marks
pub mod Placement
pub mod Segments
pub mod Picking
pub mod ServicePorts

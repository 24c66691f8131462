pub mod Frames
pub mod Verdicts
pub mod Tables
pub mod Bodies
pub mod Straight

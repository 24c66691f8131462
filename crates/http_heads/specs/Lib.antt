pub mod Texts
pub mod Lines
pub mod Words
pub mod Numbers
pub mod Fields
pub mod Heads
pub mod Parts
pub mod Read

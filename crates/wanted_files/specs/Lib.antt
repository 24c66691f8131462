pub mod Document
pub mod Names
pub mod Ranges
pub mod Tables
pub mod Values

pub mod Prefixes4
pub mod OldLists
pub mod Migrated
pub mod OldConsistent

pub mod DefaultRules
mod EmptyFile
mod HostRules
mod Kept
mod KeyRules
mod NoDocument
mod SettingsRules
mod TextCounts
mod TextLemmas

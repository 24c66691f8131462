mod MapLemmas
mod MigrationLemmas
mod LawNames
mod LawForms
mod LawPorts
mod LawServices

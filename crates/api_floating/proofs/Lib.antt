pub mod AimLemmas

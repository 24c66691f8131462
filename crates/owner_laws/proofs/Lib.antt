pub mod CallsSpare

pub mod Associated

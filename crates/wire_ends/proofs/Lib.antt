pub mod ReadLaw

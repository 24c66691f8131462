pub mod AddressLemmas
pub mod ChoiceLemmas
pub mod DefaultLemmas
pub mod EuiLemmas
pub mod FreeLemmas
pub mod LeastLemmas
pub mod OrderLemmas
pub mod PlaceLemmas

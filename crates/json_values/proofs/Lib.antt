pub mod SoughtLemmas
pub mod AddressLemmas
pub mod SixLemmas
pub mod SixBounds
pub mod AddrLemmas
pub mod IdLemmas
pub mod ListLemmas

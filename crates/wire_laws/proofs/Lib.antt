pub mod WireLaw
pub mod MomentLaw

pub mod Plans
pub mod Documents
pub mod Limits

pub mod Named
pub mod Search
pub mod Invariant

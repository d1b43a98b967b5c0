pub mod Known
pub mod Changes
pub mod Lanes
pub mod Listed
pub mod Invariant

pub mod Totals
pub mod Kept
pub mod Invariant
pub mod Changes
pub mod Asked
pub mod Chains

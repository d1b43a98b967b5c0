pub mod Keys
pub mod Judging
pub mod Faults
pub mod Keyed
pub mod Checks

pub mod Papers
pub mod Proving

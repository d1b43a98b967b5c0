pub mod Spots
pub mod Rows

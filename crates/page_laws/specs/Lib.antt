pub mod Whole
pub mod PackPages

pub mod Written
pub mod Ranges
pub mod Outcomes

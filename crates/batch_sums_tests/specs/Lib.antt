pub mod Halls
pub mod Rows

pub mod Names
pub mod Fits
pub mod Fields
pub mod Columns
mod WorkedColumns

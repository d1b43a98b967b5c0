pub mod Words
pub mod Taken
pub mod Options

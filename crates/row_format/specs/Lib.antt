pub mod Allowed
pub mod Filling
pub mod Reading
pub mod Rows
pub mod Spelling

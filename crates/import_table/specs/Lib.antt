pub mod Imports
pub mod Reading

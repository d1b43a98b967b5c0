pub mod Lines
pub mod Words
pub mod Script
pub mod Feed

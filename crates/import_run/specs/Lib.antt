pub mod Answered
pub mod Reading
pub mod Ends
pub mod Runs

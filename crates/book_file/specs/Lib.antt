pub mod Begin
pub mod Comparing
pub mod Live

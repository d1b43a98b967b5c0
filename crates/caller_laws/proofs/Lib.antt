pub mod Said
pub mod Readings
pub mod Samples
pub mod Verdicts
pub mod Signals
pub mod Desks
pub mod Refusals
pub mod Views
pub mod Answers
mod Pages

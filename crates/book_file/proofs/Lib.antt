mod Beginnings
mod Counts
mod Running
pub mod Forms

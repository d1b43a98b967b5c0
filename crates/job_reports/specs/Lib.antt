pub mod Logs
pub mod Texts

pub mod Exchanges
pub mod Heard
pub mod Lines
pub mod Steps
pub mod Told
pub mod WireLines

pub mod Kept
pub mod Room
pub mod Changed
pub mod DrawnBy

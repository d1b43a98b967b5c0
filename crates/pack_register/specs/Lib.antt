pub mod Register
pub mod Writing

pub mod Readers
pub mod Reading
pub mod Streams
pub mod WholeInputs

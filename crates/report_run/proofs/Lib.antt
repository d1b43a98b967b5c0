pub mod Pieces
mod Walks
mod Questions
mod EachReading

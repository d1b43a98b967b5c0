pub mod Acts
pub mod HeadSize
pub mod Headers
pub mod Routes
pub mod Spots
pub mod Frames
pub mod HeadParts
pub mod Requests

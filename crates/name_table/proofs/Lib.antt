pub mod NameOrder
pub mod Falling
pub mod Sides
pub mod Finding
pub mod NewNames

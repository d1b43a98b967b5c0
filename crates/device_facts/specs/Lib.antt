pub mod Count
pub mod CountLaws
pub mod Frame
pub mod Known
pub mod Prefix

pub mod Responses
pub mod Codes

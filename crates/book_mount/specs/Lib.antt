pub mod Causes
pub mod Listing
pub mod Mounting
pub mod Opening

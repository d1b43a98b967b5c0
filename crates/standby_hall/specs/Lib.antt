pub mod Following
pub mod Pages
pub mod Rows
pub mod Several
pub mod Shipments
pub mod Standby

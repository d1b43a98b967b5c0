pub mod Exchanges
pub mod Served
pub mod Doors
pub mod Cuts
pub mod Steps

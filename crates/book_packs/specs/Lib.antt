pub mod Densities
pub mod Stand
pub mod Told
pub mod Settling
pub mod Entering

pub mod Judge
pub mod Piles
pub mod Tares

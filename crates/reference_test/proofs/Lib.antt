pub mod SignedNumbers
pub mod Deviations
pub mod Integers
pub mod Sides

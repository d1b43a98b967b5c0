pub mod Contents
pub mod Means

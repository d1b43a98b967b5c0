pub mod Number
pub mod Grams
pub mod Days
pub mod Printing

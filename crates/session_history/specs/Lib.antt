pub mod Deeds
pub mod Gates
pub mod Histories
pub mod Replies
pub mod Rows

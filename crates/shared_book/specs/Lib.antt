pub mod Closing
pub mod Locked
pub mod PassLaws
pub mod Passes
pub mod Alone
pub mod Sessions

pub mod Rising
pub mod Population
pub mod Groups
pub mod Running
pub mod Index

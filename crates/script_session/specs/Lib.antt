pub mod Ends
pub mod LaneLogs
pub mod LaneMoves
pub mod Outside
pub mod Sessions

pub mod Acknowledged
pub mod Asking
pub mod Commands
pub mod LaneWorks
pub mod Scripts
pub mod Transcript
pub mod Unanswered

pub mod Ends
pub mod Jobs
pub mod Runs
pub mod Works
pub use Rattle.shared_book.specs.Sessions

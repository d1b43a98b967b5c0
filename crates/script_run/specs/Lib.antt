pub mod Books
pub mod Reached
pub mod Runs
pub use Rattle.script_session.specs.Outside

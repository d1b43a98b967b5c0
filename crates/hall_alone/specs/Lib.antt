pub mod Asked
pub mod Calls
pub mod Requests
pub mod Texts
pub use Rattle.script_run.specs.Outside

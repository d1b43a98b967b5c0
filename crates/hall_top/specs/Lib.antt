pub mod Serving
pub use Rattle.call_endings.specs.Endings

pub mod LastCalls
pub mod ByteSteps
pub mod ScriptEnds
pub mod RunEnds
pub mod WholeScripts

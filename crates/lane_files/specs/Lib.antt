pub mod LateFile

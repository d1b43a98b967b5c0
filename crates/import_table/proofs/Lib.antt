pub mod ImportSteps
mod FieldPlaces
mod WorkedImports

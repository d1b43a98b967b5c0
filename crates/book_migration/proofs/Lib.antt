pub mod CarriedRows
pub mod SlotSteps
pub mod MigrationEnds

pub mod Carrying
pub mod Migrated
pub mod Migration

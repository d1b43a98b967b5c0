pub mod PlanReading
pub mod Setups

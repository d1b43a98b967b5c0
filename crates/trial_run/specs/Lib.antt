pub mod Steps
pub mod TrialScripts
pub mod Trials

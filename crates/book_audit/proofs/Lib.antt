pub mod Agreeing
pub mod AuditTexts
pub mod Digests
pub mod Refusals
pub mod WalkSteps

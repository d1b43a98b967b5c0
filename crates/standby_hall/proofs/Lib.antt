pub mod FilledParts
pub mod FollowSteps
pub mod PageSteps
pub mod RowBytes
pub mod RowSteps
pub mod SeveralSteps
pub mod ShipSteps
pub mod StandbyFronts

pub mod HeadSizes
pub mod HeadGrowth
pub mod RouteLaws
pub mod FrameKinds
pub mod FrameSteps
pub mod FrameLaws
pub mod RequestLaws
mod WorkedFrames
mod WorkedRequests

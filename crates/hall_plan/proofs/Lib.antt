mod DistinctLanes
pub mod PlanLimits

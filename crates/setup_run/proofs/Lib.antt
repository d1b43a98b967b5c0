mod PlanEnds
mod SetupLines

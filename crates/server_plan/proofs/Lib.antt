pub mod PlanTurns
pub mod WaitsAlone
pub mod PlanIsRuns

pub mod PlaceLaws
pub mod PlanningLaws

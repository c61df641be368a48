pub mod RowLaws
pub mod States
pub mod Steps
pub mod Theorem
pub mod PromisedLaws
pub mod PlanLaws

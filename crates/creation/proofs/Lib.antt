pub mod PairLaws
pub mod RowLaws
pub mod Theorem
pub mod PlanLaws

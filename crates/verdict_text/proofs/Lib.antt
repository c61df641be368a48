pub mod ReadLaws
pub mod JudgedLaws
pub mod StepLaws
pub mod WriteLaws
pub mod RulesLaws
pub mod FindLaws

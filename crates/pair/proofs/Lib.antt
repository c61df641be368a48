pub mod WinnerLaws
pub mod RulesLaws

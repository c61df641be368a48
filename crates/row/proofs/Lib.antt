pub mod RecordLaws
pub mod SameLaws
pub mod RulesLaws

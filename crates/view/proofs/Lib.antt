pub mod PartLaws
pub mod OneOutcome

pub mod ReadLaws
pub mod WriteLaws
pub mod Demands
pub mod OneOutcome

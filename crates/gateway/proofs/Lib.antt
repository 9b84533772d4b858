pub mod CallLaws
pub mod NameLaws
pub mod OneOutcome
pub mod Examples
pub mod ElementLaws

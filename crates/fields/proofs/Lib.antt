pub mod Loops
pub mod CallLaws
pub mod NameLaws
pub mod OneOutcome
pub mod RoundTrip
pub mod OwnFields
pub mod Examples

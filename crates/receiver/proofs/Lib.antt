pub mod ReceiveLaws
pub mod OneOutcome
pub mod Turns
pub mod BacklogSteps

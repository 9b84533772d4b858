pub mod Verdict
pub mod Form
pub mod Table
pub mod Image
pub mod Changes
pub mod Calls
pub mod Standing
pub mod Backlog

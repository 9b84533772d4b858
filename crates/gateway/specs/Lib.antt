pub mod Slots
pub mod Calls

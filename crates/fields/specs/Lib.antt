pub mod PlainFields
pub mod Calls

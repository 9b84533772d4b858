pub mod ListEntries
pub mod Places

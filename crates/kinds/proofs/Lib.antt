pub mod Lookup
pub mod KindLaws

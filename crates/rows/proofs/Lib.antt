pub mod Tests
pub mod Rows
pub mod Words
pub mod Loops
pub mod Listed
pub mod Covering
pub mod Glance

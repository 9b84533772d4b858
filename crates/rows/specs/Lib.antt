pub mod Rows
pub mod Values
pub mod Covering
pub mod Marks

pub mod NumberLaws
pub mod Cursors
pub mod Writing

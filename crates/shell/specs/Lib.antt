pub mod Partly

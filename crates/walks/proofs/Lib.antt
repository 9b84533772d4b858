pub mod Application
pub mod Bridges
pub mod Runs
pub mod Rounds
pub mod Lists

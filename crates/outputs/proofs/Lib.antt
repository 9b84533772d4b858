pub mod Lists
pub mod Images

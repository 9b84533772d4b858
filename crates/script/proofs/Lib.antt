pub mod PrintedLaws
pub mod PlacedLaws
pub mod NumberLaws

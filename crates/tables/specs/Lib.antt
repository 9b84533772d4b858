pub mod Places
pub mod Outlines
pub mod LabelPlaces
pub mod Hashes
pub mod Plans

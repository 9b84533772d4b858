pub mod WholeLaws
pub mod Forms
pub mod Places
pub mod Chains
pub mod Parts
pub mod Fronts
pub mod WrittenLaws

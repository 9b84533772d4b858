pub mod Decimal
pub mod Grew
pub mod Hex
pub mod Wrote

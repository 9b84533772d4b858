pub mod Types
pub mod Elements
pub mod Known

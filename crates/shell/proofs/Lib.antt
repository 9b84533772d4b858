pub mod FilledFront
pub mod Grown
pub mod WholeInput

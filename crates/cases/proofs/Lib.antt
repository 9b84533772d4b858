pub mod CaseLaws
pub mod Annex
